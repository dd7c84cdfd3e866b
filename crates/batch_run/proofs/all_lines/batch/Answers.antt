use Rattle.std.proofs.Common.{◌≡◌, ◌<◌, ℕ, false, refl, sym, ◌∙◌, arith}
use Rattle.std.specs.Prelude.{◌==◌}
use Rattle.std.proofs.lemmas.Bool.{eqb-true, eqb-false}
use Rattle.batch_run.proofs.Rounds.{none_come, left_now, left_more, come_so_far, all_come, no_more, round_come, round_ended, lines_some, lines_few, lines_last}
use Rattle.batch_run.proofs.all_lines.batch.Goals as goal

not_none : (n m : ℕ) → (n == 0) ≡ false → n ≡ m → 0 < m
not_none n m some same = omega (arith, eqb-false n 0 some, same)

pub loop-lines-init : goal.loop-lines-init
loop-lines-init g c = record {
  come = none_come g.S.FileSource.faults g.P.Pass.walked g.P.Pass.whole (g.V.Viewing.seen c.args.scene.now) _ c.args.desks.now _;
  left = left_now g.S.FileSource.told g.S.FileSource.faults (g.V.Viewing.seen c.args.scene.now) c.args.desks.now c.requires.ready;
  later = omega arith;
  aside = refl;
}

pub returns-in_err-lines-clause-front : goal.returns-in_err-lines-clause-front
returns-in_err-lines-clause-front g c =
    come_so_far g.S.FileSource.faults g.P.Pass.walked g.P.Pass.whole (g.V.Viewing.seen c.args.scene.now) _ _ c.args.desks.now c.loop-lines.desks _ _ c.loop-lines.invariant.come

pub returns-then-is_empty-clause-given : goal.returns-then-is_empty-clause-given
returns-then-is_empty-clause-given g c =
    let none = sym c.in_ok-lines.lines.ok.0 ∙ eqb-true c.in_ok-lines.lines.len 0 (sym c.is_empty.ensures ∙ c.if-is_empty.true) in
    all_come g.S.FileSource.faults g.P.Pass.walked g.P.Pass.whole (g.V.Viewing.seen c.args.scene.now) _ _ c.args.desks.now c.loop-lines.desks _ _ c.loop-lines.invariant.come
    (no_more _ _ c.in_ok-lines.lines.items c.in_ok-lines.ensures.cut none c.in_ok-lines.ensures.last)

pub returns-then-is_empty-clause-front : goal.returns-then-is_empty-clause-front
returns-then-is_empty-clause-front g c =
    come_so_far g.S.FileSource.faults g.P.Pass.walked g.P.Pass.whole (g.V.Viewing.seen c.args.scene.now) _ _ c.args.desks.now c.loop-lines.desks _ _ c.loop-lines.invariant.come

pub run_round-requires-clause-ready : goal.run_round-requires-clause-ready
run_round-requires-clause-ready g c = λ lifetimes lives k d low. (c.loop-lines.invariant.left.1 k d (omega (arith, low, c.loop-lines.invariant.left.0))).ready

pub returns-in_err-run_round-clause-front : goal.returns-in_err-run_round-clause-front
returns-in_err-run_round-clause-front g c =
    let front = rw c.deref.ensures.value at c.run_round.ensures.front in
    let some = not_none c.in_ok-lines.lines.len _ (sym c.is_empty.ensures ∙ c.if-is_empty.false) c.in_ok-lines.lines.ok.0 in
    round_ended g.S.FileSource.faults g.P.Pass.walked g.P.Pass.whole (g.V.Viewing.seen c.args.scene.now) _ _ _ _ c.args.desks.now c.loop-lines.desks c.run_round.new.desks _ _ _
    c.loop-lines.invariant.left.0 c.loop-lines.invariant.come c.in_ok-lines.ensures.cut (lines_some c.in_ok-lines.lines.items some) (lines_few c.in_ok-lines.lines.items c.in_ok-lines.ensures.few) front

pub returns-in_err-run_round-clause-left : goal.returns-in_err-run_round-clause-left
returns-in_err-run_round-clause-left g c =
    left_more g.S.FileSource.told g.S.FileSource.faults (g.V.Viewing.seen c.args.scene.now) c.args.desks.now c.loop-lines.desks c.run_round.new.desks c.loop-lines.invariant.left
    c.run_round.ensures.left

pub loop-lines-preserved : goal.loop-lines-preserved
loop-lines-preserved g c =
    let given = rw c.deref.ensures.value at c.in_ok-run_round.ensures.given in
    let some = not_none c.in_ok-lines.lines.len _ (sym c.is_empty.ensures ∙ c.if-is_empty.false) c.in_ok-lines.lines.ok.0 in
    record {
      come = round_come g.S.FileSource.faults g.P.Pass.walked g.P.Pass.whole (g.V.Viewing.seen c.args.scene.now) _ _ _ _ c.args.desks.now c.loop-lines.desks c.run_round.new.desks _ _ _
          c.loop-lines.invariant.left.0 c.loop-lines.invariant.come c.in_ok-lines.ensures.cut (lines_some c.in_ok-lines.lines.items some) (lines_few c.in_ok-lines.lines.items c.in_ok-lines.ensures.few)
          (lines_last c.in_ok-lines.lines.items _ c.in_ok-lines.ensures.last) given;
      left = left_more g.S.FileSource.told g.S.FileSource.faults (g.V.Viewing.seen c.args.scene.now) c.args.desks.now c.loop-lines.desks c.run_round.new.desks c.loop-lines.invariant.left
          c.run_round.ensures.left;
      later = omega (arith, c.loop-lines.invariant.later, c.run_round.ensures.later);
      aside = c.run_round.ensures.aside ∙ c.loop-lines.invariant.aside;
    }
