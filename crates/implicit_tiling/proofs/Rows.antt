-- The definitions, computed on small answers.
use Rattle.std.proofs.Common.{◌≡◌, ℕ, Bool, [], ◌∷◌, ◌++◌, true, false, refl, codes, None}
use Rattle.std.specs.Prelude.{◌&&◌, ◌==◌, nat_lt, if◌then◌else◌}
use Rattle.std.specs.Fmt.{digits}
use Rattle.implicit_tiling.specs.declared.Scheme.TheVariants.{Quad, Oct}
use Rattle.implicit_tiling.specs.Scene.{Scene, good, bad}
use Rattle.implicit_tiling.specs.Tile.{index}
use Rattle.implicit_tiling.specs.Request.{line_of, plan_of_line}
use Rattle.std.proofs.Common.{List}
use Rattle.implicit_tiling.specs.Tile.{Tile}
use Rattle.implicit_tiling.specs.Region.{Region}
use Rattle.implicit_tiling.specs.Answer.{answer}
use Rattle.implicit_tiling.specs.Checked.{checked}
use Rattle.implicit_tiling.specs.Code.{word}
use Rattle.implicit_tiling.specs.Steps.{Step, steps}
use Rattle.implicit_tiling.specs.Text.{line, text_of, checked_text}

-- two levels in one subtree, each tile there with its content
two_levels : Scene
two_levels = record {
  layout = record { scheme = Quad; subtree_levels = 2; levels = 2; subtree = codes "s/{level}/{x}/{y}.subtree"; contents = codes "c/{level}/{x}/{y}.glb" ∷ [] };
  outcome = λ r. good (record { tiles = λ i. true; contents = (λ i. true) ∷ []; child = λ i. false });
}

whole_box : text_of two_levels (plan_of_line Quad 2 (line_of (codes "1 0,0 1,1"))) ≡
    line (codes "0" ∷ codes "0" ∷ codes "0" ∷ codes "c/0/0/0.glb" ∷ []) ++ (line (codes "1" ∷ codes "0" ∷ codes "0" ∷ codes "c/1/0/0.glb" ∷ [])
    ++ (line (codes "1" ∷ codes "1" ∷ codes "0" ∷ codes "c/1/1/0.glb" ∷ []) ++ (line (codes "1" ∷ codes "0" ∷ codes "1" ∷ codes "c/1/0/1.glb" ∷ [])
    ++ (line (codes "1" ∷ codes "1" ∷ codes "1" ∷ codes "c/1/1/1.glb" ∷ []) ++ line (codes "end" ∷ codes "complete" ∷ codes "5" ∷ [])))))
unfolding digits two_levels
whole_box = refl

right_column : text_of two_levels (plan_of_line Quad 2 (line_of (codes "1 1,0 1,1"))) ≡
    line (codes "0" ∷ codes "0" ∷ codes "0" ∷ codes "c/0/0/0.glb" ∷ [])
    ++ (line (codes "1" ∷ codes "1" ∷ codes "0" ∷ codes "c/1/1/0.glb" ∷ [])
    ++ (line (codes "1" ∷ codes "1" ∷ codes "1" ∷ codes "c/1/1/1.glb" ∷ []) ++ line (codes "end" ∷ codes "complete" ∷ codes "3" ∷ [])))
unfolding digits two_levels
right_column = refl

root_alone : text_of two_levels (plan_of_line Quad 2 (line_of (codes "0 0,0 0,0"))) ≡
    line (codes "0" ∷ codes "0" ∷ codes "0" ∷ codes "c/0/0/0.glb" ∷ []) ++ line (codes "end" ∷ codes "complete" ∷ codes "1" ∷ [])
unfolding digits two_levels
root_alone = refl

box_out_of_order : text_of two_levels (plan_of_line Quad 2 (line_of (codes "1 1,0 0,0"))) ≡ line (codes "refused" ∷ codes "4" ∷ [])
unfolding digits two_levels
box_out_of_order = refl

leading_zero : line_of (codes "01 0,0 1,1") ≡ None
leading_zero = refl

-- subtrees of two levels, of which the file of the root alone is there: its root and the node (1,0,0) are available,
-- and the child bits of these places are 1
corner : (ℕ → Bool) → Scene
corner child = record {
  layout = record { scheme = Quad; subtree_levels = 2; levels = 4; subtree = codes "s/{level}/{x}/{y}.subtree"; contents = [] };
  outcome = λ r. if r.level == 0 then good (record { tiles = λ i. nat_lt i 2; contents = []; child = child }) else bad 1;
}

-- child bits under a leaf that isn't available are ignored
ignored : text_of (corner (λ i. nat_lt 3 i && nat_lt i 8)) (plan_of_line Quad 4 (line_of (codes "3 0,0 7,7"))) ≡
    line (codes "0" ∷ codes "0" ∷ codes "0" ∷ []) ++ (line (codes "1" ∷ codes "0" ∷ codes "0" ∷ []) ++ line (codes "end" ∷ codes "complete" ∷ codes "2" ∷ []))
unfolding digits corner
ignored = refl

missing : text_of (corner (λ i. i == 0)) (plan_of_line Quad 4 (line_of (codes "3 0,0 7,7"))) ≡
    line (codes "0" ∷ codes "0" ∷ codes "0" ∷ []) ++ (line (codes "1" ∷ codes "0" ∷ codes "0" ∷ [])
    ++ line (codes "end" ∷ codes "fault" ∷ codes "2" ∷ codes "1" ∷ codes "2" ∷ codes "0" ∷ codes "0" ∷ []))
unfolding digits corner
missing = refl

-- Morton indices
index_quad : index Quad (record { level = 25; x = 33554431; y = 33554431; z = 0 }) ≡ 1125899906842623
index_quad = refl

index_oct : index Oct (record { level = 2; x = 1; y = 2; z = 3 }) ≡ 53
index_oct = refl

-- the steps of a walk, joined, are its answer
tiles_of_steps : List Step → List Tile
tiles_of_steps [] = []
tiles_of_steps (step ∷ steps) = step.tiles ++ tiles_of_steps steps

region_of_two : Region
region_of_two = record { level = 1; lo = 0 ∷ 0 ∷ 0 ∷ []; hi = 1 ∷ 1 ∷ 0 ∷ [] }

joined : tiles_of_steps (steps two_levels region_of_two) ≡ (answer two_levels region_of_two).tiles
unfolding two_levels tiles_of_steps region_of_two
joined = refl

region_of_four : Region
region_of_four = record { level = 3; lo = 0 ∷ 0 ∷ 0 ∷ []; hi = 7 ∷ 7 ∷ 0 ∷ [] }

joined_before_a_fault : tiles_of_steps (steps (corner (λ i. i == 0)) region_of_four) ≡ (answer (corner (λ i. i == 0)) region_of_four).tiles
unfolding corner tiles_of_steps region_of_four
joined_before_a_fault = refl

-- four roots are reached below the root, and none of their files is there
check_of_corner : checked_text Quad (checked (corner (λ i. nat_lt i 4))) ≡
    line (codes "fault" ∷ codes "1" ∷ codes "2" ∷ codes "0" ∷ codes "0" ∷ []) ++ (line (codes "fault" ∷ codes "1" ∷ codes "2" ∷ codes "1" ∷ codes "0" ∷ [])
    ++ (line (codes "fault" ∷ codes "1" ∷ codes "2" ∷ codes "0" ∷ codes "1" ∷ []) ++ (line (codes "fault" ∷ codes "1" ∷ codes "2" ∷ codes "1" ∷ codes "1" ∷ [])
    ++ line (codes "end" ∷ codes "checked" ∷ codes "5" ∷ codes "4" ∷ []))))
unfolding digits corner
check_of_corner = refl

-- a tile word and its parts
word_of_corner : word Quad (record { level = 1; x = 1; y = 1; z = 0 }) 1 ≡ 1208944266358702884257795
word_of_corner = refl

-- the last tile of the last level that a quadtree has
last_index_of_quad : index Quad (record { level = 31; x = 2147483647; y = 2147483647; z = 0 }) ≡ 4611686018427387903
last_index_of_quad = refl
