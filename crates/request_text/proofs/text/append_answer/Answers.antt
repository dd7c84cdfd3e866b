use Rattle.std.proofs.Common.{◌≡◌, ◌++◌, ◌∙◌, refl, sym, subst, append-nil, arith, take, length, take_all, List, ℕ, ap, string_bytes}
use Rattle.std.specs.List.{flat_map}
use Rattle.implicit_tiling.specs.Scene.{Layout}
use Rattle.implicit_tiling.specs.declared.Scheme.{Scheme}
use Rattle.implicit_tiling.specs.Text.{word_line, step_end_line}
use Rattle.tile_coords.specs.Ends.{end_seen}
use Rattle.scene_ports.specs.Output.{GivesAllBut}
use Rattle.scene_ports.proofs.Giving.{all_but_front, all_but_start}
use Rattle.request_text.proofs.Lines.{lines_front_behind, line_given_behind, line_front_behind, end_held_behind}
use Rattle.request_text.proofs.text.append_answer.Goals as goal

pub loop-word-init : goal.loop-word-init
loop-word-init g c = record {
  lines = subst (GivesAllBut _ _ (string_bytes c.args.piece.now)) (sym (append-nil (string_bytes c.args.piece.now))) (all_but_start _ _);
  later = omega arith;
  aside = refl;
}

pub returns-in_err-push_word_line-clause-front : goal.returns-in_err-push_word_line-clause-front
returns-in_err-push_word_line-clause-front g c =
    lines_front_behind _ (word_line c.args.layout.now) c.args.words.now c.loop-word.word-index _ _ _ (all_but_front _ _ _ _ c.loop-word.invariant.lines)

pub returns-in_err-give_when_full-clause-front : goal.returns-in_err-give_when_full-clause-front
returns-in_err-give_when_full-clause-front g c =
    line_front_behind _ _ _ _ (word_line c.args.layout.now) c.args.words.now c.loop-word.word-index c.word-item.result _ _ _ (omega arith) c.loop-word.invariant.lines
    (c.in_ok-push_word_line.ensures ∙ ap (λ w. string_bytes c.loop-word.piece ++ word_line c.args.layout.now w) c.word-item.is) c.give_when_full.ensures.front

pub loop-word-preserved : goal.loop-word-preserved
loop-word-preserved g c = record {
  lines = line_given_behind _ _ _ _ (word_line c.args.layout.now) c.args.words.now c.loop-word.word-index c.word-item.result _ _ _ (omega arith) c.loop-word.invariant.lines
      (c.in_ok-push_word_line.ensures ∙ ap (λ w. string_bytes c.loop-word.piece ++ word_line c.args.layout.now w) c.word-item.is) c.in_ok-give_when_full.ensures.given;
  later = omega (arith, c.give_when_full.ensures.later, c.loop-word.invariant.later);
  aside = c.give_when_full.ensures.aside ∙ c.loop-word.invariant.aside;
}

pub returns-in_err-push_end_line-clause-front : goal.returns-in_err-push_end_line-clause-front
returns-in_err-push_end_line-clause-front g c =
    lines_front_behind _ (word_line c.args.layout.now) c.args.words.now c.loop-word.word-index _ _ _ (all_but_front _ _ _ _ c.loop-word.invariant.lines)

-- the end line is that of the layout's scheme
end_is : (scheme same : Scheme) (one held : List ℕ) (line : Scheme → List ℕ) → scheme ≡ same → one ≡ held ++ line scheme → one ≡ held ++ line same
end_is scheme same one held line e h = rw (← e) h

pub returns-clause-given : goal.returns-clause-given
returns-clause-given g c =
    let all : take c.loop-word.word-index c.args.words.now ≡ c.args.words.now = take_all _ _ (omega arith) in
    let lines = rw all at c.loop-word.invariant.lines in
    let scheme : c.layout.inside.scheme ≡ c.args.layout.now.scheme = ap (λ (l : Layout). l.scheme) c.layout.view_is in
    let end = end_is _ _ _ _ (λ (s : Scheme). step_end_line s (length c.args.words.now) (end_seen s c.args.end)) scheme c.in_ok-push_end_line.ensures in
    end_held_behind _ _ _ _ _ _ _ lines end

pub returns-clause-front : goal.returns-clause-front
returns-clause-front g c =
    let all : take c.loop-word.word-index c.args.words.now ≡ c.args.words.now = take_all _ _ (omega arith) in
    let lines = rw all at c.loop-word.invariant.lines in
    let scheme : c.layout.inside.scheme ≡ c.args.layout.now.scheme = ap (λ (l : Layout). l.scheme) c.layout.view_is in
    let end = end_is _ _ _ _ (λ (s : Scheme). step_end_line s (length c.args.words.now) (end_seen s c.args.end)) scheme c.in_ok-push_end_line.ensures in
    all_but_front _ _ _ _ (end_held_behind _ _ _ _ _ _ _ lines end)
