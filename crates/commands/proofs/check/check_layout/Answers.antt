use Rattle.std.proofs.Common.{◌≡◌, List, ap, sym, subst, length, ◌∙◌}
use Rattle.std.specs.List.{All}
use Rattle.std.proofs.lemmas.List.Elements.{All-weaker}
use Rattle.implicit_tiling.specs.declared.Scheme.{Scheme}
use Rattle.implicit_tiling.specs.Code.{IsWord}
use Rattle.tile_coords.specs.declared.walk_end.FoundFault.{FoundFault}
use Rattle.tile_walk.specs.Checks.{IsFault, AreFaults}
use Rattle.std.specs.Prelude.{◌==◌}
use Rattle.implicit_tiling.specs.Scene.{Layout}
use Rattle.tileset_json.specs.Limits.{IsWithinLimits}
use Rattle.commands.proofs.Answering.{nothing_given, empty_means, told_checked, told_check_begun}
use Rattle.subtree_outcome.proofs.Reading.{told_always}
use Rattle.commands.proofs.check.check_layout.Goals as goal

-- the root of each fault is a word
root_words : (layout : Layout) (found : List FoundFault) → AreFaults layout found → All (λ f. IsWord layout.scheme f.root) found
root_words layout found are = All-weaker (IsFault layout) (λ (f : FoundFault). IsWord layout.scheme f.root) (λ f is. is.root.is_word) found are

pub write_check-requires : goal.write_check-requires
write_check-requires g c =
    let layout = c.args.layout.now in
    let same : c.layout.inside.scheme ≡ layout.scheme = ap (λ (l : Layout). l.scheme) c.layout.view_is in
    let P : List FoundFault → Type 0 = All (λ f. IsWord c.layout.inside.scheme f.root) in
    let Q : Scheme → Type 0 = λ e. All (λ f. IsWord e f.root) c.check_all.new.found.items in
    subst P (sym c.deref.ensures.value) (subst Q (sym same) (root_words layout c.check_all.new.found.items c.in-Ok.ensures.faults))

pub returns-in-Err-Memory-clause-replies : goal.returns-in-Err-Memory-clause-replies
returns-in-Err-Memory-clause-replies g c = told_always _ _ (λ all. nothing_given _ _)

pub returns-in-Ok-write_check-clause-replies : goal.returns-in-Ok-write_check-clause-replies
returns-in-Ok-write_check-clause-replies g c =
    let same : c.layout.inside.scheme ≡ c.args.layout.now.scheme = ap (λ (l : Layout). l.scheme) c.layout.view_is in
    let found = rw c.deref.ensures.value at c.in-Ok-write_check.ensures.given in
    let given = rw same at found in
    let empty : c.is_empty.result ≡ (length c.check_all.new.found.items == 0) = c.is_empty.ensures ∙ ap (λ n. n == 0) c.check_all.new.found.ok.0 in
    told_checked _ c.args.layout.now _ c.in-Ok.end c.is_empty.result c.status_of.result _ _ (subst IsWithinLimits c.layout.view_is c.layout.invariant) c.in-Ok.ensures.checked given (empty_means _ c.is_empty.result empty) c.status_of.ensures.status

pub returns-in-Err-WriteFault-clause-replies : goal.returns-in-Err-WriteFault-clause-replies
returns-in-Err-WriteFault-clause-replies g c =
    let same : c.layout.inside.scheme ≡ c.args.layout.now.scheme = ap (λ (l : Layout). l.scheme) c.layout.view_is in
    let found = rw c.deref.ensures.value at c.write_check.ensures.front in
    let front = rw same at found in
    told_check_begun _ c.args.layout.now _ c.in-Ok.end _ _ (subst IsWithinLimits c.layout.view_is c.layout.invariant) c.in-Ok.ensures.checked front

pub returns-clause-replies : goal.returns-clause-replies
returns-clause-replies g c =
    let same : c.layout.inside.scheme ≡ c.args.layout.now.scheme = ap (λ (l : Layout). l.scheme) c.layout.view_is in
    let found = rw c.deref.ensures.value at c.write_check.ensures.front in
    let front = rw same at found in
    told_check_begun _ c.args.layout.now _ c.in-Ok.end _ _ (subst IsWithinLimits c.layout.view_is c.layout.invariant) c.in-Ok.ensures.checked front
