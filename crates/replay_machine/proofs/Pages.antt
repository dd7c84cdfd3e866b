-- Pages are cut from the answer.
use Rattle.std.proofs.Common.{◌≡◌, ◌∙◌, ℕ, zero, suc, ◌≤◌, List, [], ◌∷◌, ◌++◌, length, take, drop, refl, sym, ap}
use Rattle.std.specs.List.{flat_map}
use Rattle.std.proofs.lemmas.List.{take_at, take-append-drop}
use Rattle.std.proofs.lemmas.Grind.{flat_map-append}
use Rattle.implicit_tiling.specs.Tile.{Tile}
use Rattle.implicit_tiling.specs.Scene.{Scene}
use Rattle.implicit_tiling.specs.Answer.{answer}
use Rattle.implicit_tiling.specs.Steps.{Step, steps}
use Rattle.walk_laws.proofs.StepLaw.{steps_have_the_tiles}
use Rattle.replay_machine.specs.Machine.{Walk}
use Rattle.replay_machine.specs.Turns.{shown_tiles, page_tiles}

-- a front is as long as it is
front : {X : Type 0} (k : ℕ) (xs : List X) → take k xs ≡ take (length (take k xs)) xs
front zero xs = refl
front (suc k) [] = refl
front (suc k) (x ∷ xs) = ap (λ ys. x ∷ ys) (front k xs)

-- a part of a front is a front of the part
part_of_front : {X : Type 0} (k place : ℕ) (xs : List X) → (j : ℕ) × (drop place (take k xs) ≡ take j (drop place xs))
part_of_front k zero xs = (k, refl)
part_of_front zero (suc place) xs = (0, refl)
part_of_front (suc k) (suc place) [] = (0, refl)
part_of_front (suc k) (suc place) (x ∷ xs) = part_of_front k place xs

front_of_front : {X : Type 0} (n k : ℕ) (xs : List X) → (j : ℕ) × (take n (take k xs) ≡ take j xs)
front_of_front zero k xs = (0, refl)
front_of_front (suc n) zero xs = (0, refl)
front_of_front (suc n) (suc k) [] = (0, refl)
front_of_front (suc n) (suc k) (x ∷ xs) = let rest = front_of_front n k xs in (suc rest.0, ap (λ ys. x ∷ ys) rest.1)

by_length : {X : Type 0} (j : ℕ) (xs ys : List X) → xs ≡ take j ys → xs ≡ take (length xs) ys
by_length j xs ys is = is ∙ front j ys ∙ ap (λ zs. take (length zs) ys) (sym is)

pub pages_are_of_the_answer : (s : Scene) (walk : Walk) (place n : ℕ) → page_tiles s walk place n
    ≡ take (length (page_tiles s walk place n)) (drop place (answer s walk.plan.region).tiles)
pages_are_of_the_answer s walk place n =
    let tiles = (answer s walk.plan.region).tiles in
    let part = part_of_front (length (shown_tiles s walk)) place tiles in
    let cut = front_of_front n part.0 (drop place tiles) in
    by_length cut.0 (page_tiles s walk place n) (drop place tiles) (ap (take n) part.1 ∙ cut.1)

pub shown_tiles_are_of_the_answer : (s : Scene) (walk : Walk) → 1 ≤ s.layout.subtree_levels
    → shown_tiles s walk ≡ take (length (shown_tiles s walk)) (answer s walk.plan.region).tiles
shown_tiles_are_of_the_answer s walk some =
    let all = steps s walk.plan.region in
    let rest : List Tile = flat_map (λ (step : Step). step.tiles) (drop walk.made all) in
    let joined : (answer s walk.plan.region).tiles ≡ shown_tiles s walk ++ rest =
    sym (steps_have_the_tiles s walk.plan.region some) ∙ ap (flat_map (λ (step : Step). step.tiles)) (sym (take-append-drop walk.made all))
    ∙ flat_map-append (λ (step : Step). step.tiles) (take walk.made all) (drop walk.made all) in
    sym (take_at (shown_tiles s walk) rest (length (shown_tiles s walk)) refl) ∙ ap (take (length (shown_tiles s walk))) (sym joined)
