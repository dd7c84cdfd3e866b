-- A check of all roots, by the roots that are done.
use Rattle.std.proofs.Common.{◌≡◌, ℕ, suc, ◌+◌, ◌-◌, ◌%◌, ◌<◌, ◌≤◌, Bool, true, false, List, ◌∷◌, ◌++◌, length, take, sym, ap, ◌∙◌, arith, length-append}
use Rattle.std.specs.Prelude.{nat_lt}
use Rattle.std.specs.List.{flat_map, filter_map, range_with_len}
use Rattle.std.proofs.lemmas.Bool.{lt-ltb, le-ltb}
use Rattle.std.proofs.lemmas.List.{take_all, take_at}
use Rattle.implicit_tiling.specs.Tile.{Tile}
use Rattle.implicit_tiling.specs.Scene.{Scene}
use Rattle.implicit_tiling.specs.Answer.{fault_at}
use Rattle.implicit_tiling.specs.Checked.{most_roots, reached_roots, Checked, checked}
use Rattle.implicit_tiling.specs.Steps.{walk_roots}
use Rattle.walk_laws.specs.Frontiers.{whole_of, reached_above, reached_at}
use Rattle.walk_laws.proofs.Frontiers.{reached_more, reached_at_start, reached_are_all}
use Rattle.walk_laws.proofs.PairLevels.{midst}

pub reached_at_a_root : (s : Scene) (l : ℕ) (before : List Tile) (r : Tile) (after : List Tile) → l % s.layout.subtree_levels ≡ 0 → l < s.layout.levels
    → walk_roots s (whole_of s) l ≡ before ++ r ∷ after
    → reached_roots s ≡ (reached_above s l ++ before) ++ r ∷ (after ++ flat_map (reached_at s) (range_with_len (l + 1) (s.layout.levels - (l + 1))))
reached_at_a_root s l before r after start low roots =
    let levels = s.layout.levels in
    let n = levels - (l + 1) in
    let above = reached_above s l in
    let rest = flat_map (reached_at s) (range_with_len (l + 1) n) in
    let count : levels ≡ l + suc n = omega arith in
    sym (reached_are_all s levels (omega arith) (omega arith))
    ∙ ap (reached_above s) count
    ∙ reached_more s l (suc n)
    ∙ ap (λ w. above ++ (w ++ rest)) (reached_at_start s l start ∙ roots)
    ∙ midst above before r after rest

abbrev found_in : Scene → List Tile → Bool → Checked
found_in s looked more = record { looked = looked; faults = filter_map (fault_at s) looked; more = more }

pub checked_is_all : (s : Scene) → length (reached_roots s) ≤ most_roots
    → checked s ≡ record { looked = reached_roots s; faults = filter_map (fault_at s) (reached_roots s); more = false }
checked_is_all s few =
    ap (λ w. found_in s w (nat_lt most_roots (length (reached_roots s)))) (take_all most_roots (reached_roots s) few)
    ∙ ap (λ b. found_in s (reached_roots s) b) (le-ltb most_roots (length (reached_roots s)) few)

pub checked_is_cut : (s : Scene) (done : List Tile) (r : Tile) (rest : List Tile) → reached_roots s ≡ done ++ r ∷ rest → length done ≡ most_roots
    → checked s ≡ record { looked = done; faults = filter_map (fault_at s) done; more = true }
checked_is_cut s done r rest parts many =
    let over = lt-ltb most_roots (length (done ++ r ∷ rest)) (omega (arith, many, length-append done (r ∷ rest))) in
    ap (λ w. found_in s (take most_roots w) (nat_lt most_roots (length w))) parts
    ∙ ap (λ w. found_in s w (nat_lt most_roots (length (done ++ r ∷ rest)))) (take_at done (r ∷ rest) most_roots many)
    ∙ ap (λ b. found_in s done b) over
