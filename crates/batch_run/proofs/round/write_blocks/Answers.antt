use Rattle.std.proofs.Common.{◌≡◌, ◌<◌, ℕ, List, Bor, length, map, refl, sym, subst, ◌∙◌, arith}
use Rattle.std.proofs.lemmas.List.{length-map}
use Rattle.batch_blocks.specs.Replies.{IsOfLayout}
use Rattle.batch_run.proofs.Writing.{begin_writing, has_next, next_is, write_next, next_begun, all_written, all_begun, same_more, same_now, text_by, front_by}
use Rattle.batch_run.proofs.round.write_blocks.Goals as goal

-- the place of a line
line_at : (place : ℕ) (lines : List (Bor (List ℕ))) → place < length lines → place < length (map (λ (l : Bor (List ℕ)). l.now) lines)
line_at place lines low = let now : Bor (List ℕ) → List ℕ = λ l. l.now in omega (arith, low, length-map lines now)

line_end : (place : ℕ) (lines : List (Bor (List ℕ))) → place ≡ length lines → place ≡ length (map (λ (l : Bor (List ℕ)). l.now) lines)
line_end place lines all = let now : Bor (List ℕ) → List ℕ = λ l. l.now in omega (arith, all, length-map lines now)

pub loop-place-init : goal.loop-place-init
loop-place-init g c = record {
  writing = begin_writing (g.V.Viewing.seen c.args.scene.now) _ c.args.desks.now _ c.requires.replies.0 _ c.requires.replies.1 c.new-piece.ensures.bytes;
  left = same_now c.args.desks.now;
  later = omega arith;
  aside = refl;
}

pub next_reply-reply-requires-clause-some : goal.next_reply-reply-requires-clause-some
next_reply-reply-requires-clause-some g c =
    has_next _ _ c.args.desks.now _ _ c.loop-place.place c.worker_of.result _ _ c.loop-place.invariant.writing (line_at _ c.args.lines.now (omega arith)) c.requires.some c.worker_of.ensures.worker

pub append_reply-requires : goal.append_reply-requires
append_reply-requires g c =
    let next = next_is _ _ c.args.desks.now _ _ _ c.loop-place.place c.worker_of.result _ _ c.next_reply-reply.result c.loop-place.invariant.writing (line_at _ c.args.lines.now (omega arith))
    c.requires.some c.worker_of.ensures.worker c.next_reply-reply.ensures.first in
    subst (λ l. IsOfLayout l c.next_reply-reply.result) (sym c.layout.ensures) next.2

pub returns-in_err-append_reply-clause-front : goal.returns-in_err-append_reply-clause-front
returns-in_err-append_reply-clause-front g c =
    next_begun _ _ c.args.desks.now _ _ _ c.loop-place.place c.worker_of.result _ _ _ c.next_reply-reply.result c.loop-place.invariant.writing (line_at _ c.args.lines.now (omega arith))
    c.requires.some c.worker_of.ensures.worker c.next_reply-reply.ensures.first (front_by _ _ c.next_reply-reply.result _ _ _ c.layout.ensures c.append_reply.ensures.front)

pub returns-in_err-append_reply-clause-left : goal.returns-in_err-append_reply-clause-left
returns-in_err-append_reply-clause-left g c = same_more c.args.desks.now c.loop-place.desks c.next_reply-reply.new.desks c.loop-place.invariant.left c.next_reply-reply.ensures.left

pub loop-place-preserved : goal.loop-place-preserved
loop-place-preserved g c =
    let inv = c.loop-place.invariant in
    record {
      writing = write_next _ _ c.args.desks.now _ _ _ c.loop-place.place c.worker_of.result _ _ _ _ c.next_reply-reply.result inv.writing (line_at _ c.args.lines.now (omega arith))
          c.requires.some c.worker_of.ensures.worker c.next_reply-reply.ensures.first c.next_reply-reply.ensures.others
          (text_by _ _ c.next_reply-reply.result _ _ _ _ c.layout.ensures c.in_ok-append_reply.ensures.given);
      left = same_more c.args.desks.now c.loop-place.desks c.next_reply-reply.new.desks inv.left c.next_reply-reply.ensures.left;
      later = omega (arith, inv.later, c.append_reply.ensures.later);
      aside = c.append_reply.ensures.aside ∙ inv.aside;
    }

pub returns-clause-given : goal.returns-clause-given
returns-clause-given g c =
    all_written _ _ c.args.desks.now _ _ c.loop-place.place _ _ _ c.give_rest.result c.loop-place.invariant.writing (line_end _ c.args.lines.now (omega arith)) c.give_rest.ensures.given

pub returns-clause-front : goal.returns-clause-front
returns-clause-front g c =
    all_begun _ _ c.args.desks.now _ _ c.loop-place.place _ _ _ c.loop-place.invariant.writing (line_end _ c.args.lines.now (omega arith)) c.give_rest.ensures.front
