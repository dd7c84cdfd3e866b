use Rattle.std.proofs.Common.{ℕ, List, sym, subst}
use Rattle.std.specs.List.{All}
use Rattle.implicit_tiling.specs.Code.{IsWord}
use Rattle.tileset_json.specs.Limits.{IsWithinLimits}
use Rattle.commands.proofs.Answering.{nothing_given, told_replies, told_begun}
use Rattle.subtree_outcome.proofs.Found.{are_words, ends_at_root}
use Rattle.subtree_outcome.proofs.Reading.{told_always}
use Rattle.commands.proofs.tiles.answer_plan.Goals as goal

pub write_answer-requires-clause-words : goal.write_answer-requires-clause-words
write_answer-requires-clause-words g c =
    let layout = c.args.layout.now in
    let P : List ℕ → Type 0 = All (IsWord layout.scheme) in
    subst P (sym c.deref.ensures.value) (are_words layout _ c.in-Ok.ensures.found.are_words)

pub write_answer-requires-clause-root : goal.write_answer-requires-clause-root
write_answer-requires-clause-root g c = ends_at_root c.args.layout.now c.in-Ok.end c.in-Ok.ensures.end

pub returns-in-Err-Memory-clause-replies : goal.returns-in-Err-Memory-clause-replies
returns-in-Err-Memory-clause-replies g c = told_always _ _ (λ all. nothing_given _ _)

pub returns-in-Ok-write_answer-clause-replies : goal.returns-in-Ok-write_answer-clause-replies
returns-in-Ok-write_answer-clause-replies g c =
    let given = rw c.deref.ensures.value at c.in-Ok-write_answer.ensures.given in
    told_replies _ c.args.layout.now c.args.plan.now _ c.in-Ok.end _ _ c.status_of.result c.requires (subst IsWithinLimits c.layout.view_is c.layout.invariant) c.in-Ok.ensures.answer given c.status_of.ensures.status

pub returns-in-Err-WriteFault-clause-replies : goal.returns-in-Err-WriteFault-clause-replies
returns-in-Err-WriteFault-clause-replies g c =
    let front = rw c.deref.ensures.value at c.write_answer.ensures.front in
    told_begun _ c.args.layout.now c.args.plan.now _ c.in-Ok.end _ _ c.requires (subst IsWithinLimits c.layout.view_is c.layout.invariant) c.in-Ok.ensures.answer front

pub returns-clause-replies : goal.returns-clause-replies
returns-clause-replies g c =
    let front = rw c.deref.ensures.value at c.write_answer.ensures.front in
    told_begun _ c.args.layout.now c.args.plan.now _ c.in-Ok.end _ _ c.requires (subst IsWithinLimits c.layout.view_is c.layout.invariant) c.in-Ok.ensures.answer front
