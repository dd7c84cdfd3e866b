-- The definitions on worked lists of words: the root, the first tile of level 1, and the words of points.
use Rattle.std.proofs.Common.{◌≡◌, ℕ, ◌<◌, ◌^◌, ◌*◌, ◌+◌, [], ◌∷◌, refl, ap, subst, arith, lit<, inl, inr}
use Rattle.std.specs.Prelude.{slice_index_or}
use Rattle.std.proofs.lemmas.List.Elements.{All-cons, All-nil}
use Rattle.implicit_tiling.specs.declared.Scheme.TheVariants.{Quad, Oct}
use Rattle.implicit_tiling.specs.Tile.{Tile, root, parent}
use Rattle.implicit_tiling.specs.Code.{word_tile}
use Rattle.tile_occupancy.specs.Occupied.{IsWordBelow, HasParent, IsOccupancy, tiles_of}
use Rattle.tile_occupancy.specs.Generated.{generated_words}
use Rattle.tile_occupancy.specs.Faults.{IsFirstFault}
use Rattle.tile_occupancy.specs.declared.occupancy.OccupancyFault.TheVariants.{BadWord, Order, ParentMissing}
use Rattle.tile_occupancy.proofs.Keys.{apart}

root_word : IsWordBelow Quad 2 0
root_word = record { is_word = record { level_fits = lit< tt; index_fits = lit< tt }; low = lit< tt }

first_word : IsWordBelow Quad 2 (2 ^ 80)
first_word = record { is_word = record { level_fits = lit< tt; index_fits = lit< tt }; low = lit< tt }

-- no other tile is in a list of one
one_alone : (k : ℕ) (t u : Tile) → k < 1 → slice_index_or (t ∷ []) k u ≡ u → t ≡ u
one_alone k t u h same = let first : k ≡ 0 = omega (arith, h) in subst (λ n. slice_index_or (t ∷ []) n u ≡ u) first same

pub a_tile_without_its_parent : IsFirstFault Quad 2 (2 ^ 80 ∷ []) ParentMissing
a_tile_without_its_parent =
    let t = word_tile Quad (2 ^ 80) in (
      All-cons (IsWordBelow Quad 2) (2 ^ 80) [] first_word (All-nil (IsWordBelow Quad 2)),
      λ i j d low within. absurd (omega (arith, low, within)),
      λ all. elim (all 0 root (lit< tt)) [
        | inl top ↦ let level : 1 ≡ 0 = ap (λ (u : Tile). u.level) top in absurd (omega (arith, level))
        | inr there ↦ let level : 1 ≡ 0 = ap (λ (u : Tile). u.level) (one_alone there.0 t (parent t) there.1 there.2) in absurd (omega (arith, level))
      ],
    )

pub the_root_twice : IsFirstFault Quad 2 (0 ∷ 0 ∷ []) Order
the_root_twice = (
  All-cons (IsWordBelow Quad 2) 0 (0 ∷ []) root_word (All-cons (IsWordBelow Quad 2) 0 [] root_word (All-nil (IsWordBelow Quad 2))),
  λ rise. apart (rise 0 1 root (lit< tt) (lit< tt)),
)

pub a_word_of_the_levels_in_all : IsFirstFault Quad 2 (2 * 2 ^ 80 ∷ []) BadWord
a_word_of_the_levels_in_all = λ all. let low : 2 < 2 = (all 0 0 (lit< tt)).low in omega (arith, low)

pub the_root_alone : IsOccupancy Quad 2 (0 ∷ [])
the_root_alone = record {
  are_words = All-cons (IsWordBelow Quad 2) 0 [] root_word (All-nil (IsWordBelow Quad 2));
  rise = λ i j d low within. absurd (omega (arith, low, within));
  have_parents = All-cons (HasParent (tiles_of Quad (0 ∷ []))) root [] (inl refl) (All-nil (HasParent (tiles_of Quad (0 ∷ []))));
}

-- two points and their ancestors, with a content on each tile: (0, 0, 0), (1, 0, 1), (2, 0, 2) and (2, 1, 3)
pub words_of_two_points : generated_words Quad 3 1 2 1 ≡ 2 ^ 64 ∷ (2 ^ 80 + 2 ^ 64 + 2) ∷ (2 * 2 ^ 80 + 2 ^ 64 + 8) ∷ (2 * 2 ^ 80 + 2 ^ 64 + 11) ∷ []
words_of_two_points = refl

-- a point with a depth, and two contents: both stand on the root, and the first on (1, 1, 1, 1)
pub words_of_a_point_with_a_depth : generated_words Oct 2 2 1 5 ≡ (3 * 2 ^ 64) ∷ (2 ^ 80 + 2 ^ 64 + 7) ∷ []
words_of_a_point_with_a_depth = refl
