-- The limits of a layout: its levels, the levels of a subtree and its contents (this project's own).
use Rattle.std.specs.Prelude.{◌≤◌, length}
use Rattle.implicit_tiling.specs.Scene.{Layout}
use Rattle.implicit_tiling.specs.Limits.{most_levels, most_subtree_levels, most_contents}

pub record IsWithinLimits (layout : Layout) : Type 0 where
  pub some_subtree_levels : 1 ≤ layout.subtree_levels
  pub few_subtree_levels : layout.subtree_levels ≤ most_subtree_levels layout.scheme
  pub some_levels : 1 ≤ layout.levels
  pub few_levels : layout.levels ≤ most_levels layout.scheme
  pub few_contents : length layout.contents ≤ most_contents
