use Rattle.std.proofs.Common.{ℕ, ◌∷◌, [], ◌++◌, ◌+◌, ◌*◌, length, get_or, Some, ap, ◌∙◌, arith}
use Rattle.std.proofs.lemmas.List.{length-replicate}
use Rattle.published_prefix.proofs.Codes.{zero_at}
use Rattle.published_prefix.proofs.Keeps.{begins_told}
use Rattle.published_prefix.proofs.prefix.Prefix+C.laid.Goals as goal

pub new-requires : goal.new-requires
new-requires g c =
    let pushed = c.in_ok-push.ensures.items in
    let made = c.in_ok-words.ensures.items_if_clones_equal (λ y is. is) in
    let same = c.as_slice.ensures.value in
    let told = c.requires.told in
    let small = c.requires.small in
    let count = length-replicate {A = ℕ} (4 + 2 * c.args.capacity) 0 in
    let long = ap length (same ∙ made) in
    begins_told _ _ _ _ _ _ _ _ c.args.work
    c.of-told.ensures
    (pushed ∙ ap (λ l. l ++ Some c.args.work ∷ []) c.new-slots.ensures.items)
    (omega arith)
    (λ k n e is. let l = c.requires.room k n e is in omega arith)
    (omega arith)
    (λ i. ap (λ l. get_or l i 0) (same ∙ made) ∙ zero_at _ i)
    (g.C.Course.begins _)
    c.requires.beginning
