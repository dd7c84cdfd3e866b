-- The ranges of what a tileset is generated from (this project's own).
use Rattle.std.specs.Prelude.{ℕ, ◌≡◌, ◌≤◌, ◌&&◌, nat_le, Bool, true}
use Rattle.std.proofs.lemmas.Bool.{and_parts, leb-true}
use Rattle.implicit_tiling.specs.declared.Scheme.{Scheme}
use Rattle.implicit_tiling.specs.Limits.{most_levels, most_subtree_levels, most_contents}

-- the most points
abbrev pub most_points : ℕ
most_points = 10000

pub record IsInRange (scheme : Scheme) (levels subtree_levels contents points : ℕ) : Type 0 where
  pub some_levels : 1 ≤ levels
  pub few_levels : levels ≤ most_levels scheme
  pub some_subtree_levels : 1 ≤ subtree_levels
  pub few_subtree_levels : subtree_levels ≤ most_subtree_levels scheme
  pub few_contents : contents ≤ most_contents
  pub some_points : 1 ≤ points
  pub few_points : points ≤ most_points

-- the same as a test
abbrev pub is_up_to : ℕ → ℕ → Bool
is_up_to most n = nat_le 1 n && nat_le n most

abbrev pub is_in_range : Scheme → ℕ → ℕ → ℕ → ℕ → Bool
is_in_range scheme levels subtree_levels contents points =
    is_up_to (most_levels scheme) levels && is_up_to (most_subtree_levels scheme) subtree_levels
    && nat_le contents most_contents && is_up_to most_points points

pub IsInRange-from_test : (scheme : Scheme) (levels subtree_levels contents points : ℕ)
    → is_in_range scheme levels subtree_levels contents points ≡ true
    → IsInRange scheme levels subtree_levels contents points
IsInRange-from_test scheme levels subtree_levels contents points inside =
    let all = and_parts _ _ inside in
    let three = and_parts _ _ all.0 in
    let two = and_parts _ _ three.0 in
    let whole = and_parts _ _ two.0 in
    let subtree = and_parts _ _ two.1 in
    let spread = and_parts _ _ all.1 in
    record {
      some_levels = leb-true _ _ whole.0;
      few_levels = leb-true _ _ whole.1;
      some_subtree_levels = leb-true _ _ subtree.0;
      few_subtree_levels = leb-true _ _ subtree.1;
      few_contents = leb-true _ _ three.1;
      some_points = leb-true _ _ spread.0;
      few_points = leb-true _ _ spread.1;
    }
