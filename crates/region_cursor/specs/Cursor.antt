-- The state of a paused walk (this project's own).
use Rattle.std.specs.Prelude.{ℕ, ◌≡◌, ◌+◌, ◌-◌, ◌%◌, ◌<◌, ◌≤◌, ◌==◌, Bool, List, length, Option, Some}
use Rattle.std.specs.Prelude.{slice_get, slice_index}
use Rattle.std.specs.List.{All}
use Rattle.implicit_tiling.specs.declared.Scheme.{Scheme}
use Rattle.implicit_tiling.specs.Limits.{most_levels, most_contents}
use Rattle.implicit_tiling.specs.Tile.{Tile}
use Rattle.implicit_tiling.specs.Region.{Region}
use Rattle.implicit_tiling.specs.Scene.{Layout}
use Rattle.implicit_tiling.specs.Subtree.{Subtree}
use Rattle.implicit_tiling.specs.Answer.{most_tiles}
use Rattle.implicit_tiling.specs.Code.{word, word_tile, word_level, word_mask, IsWord}
use Rattle.tile_coords.specs.declared.walk_end.WalkEnd.{WalkEnd}
use Rattle.tile_coords.specs.declared.walk_end.WalkEnd.TheVariants.{Partial, Complete, TooMany, Fault}
use Rattle.subtree_outcome.specs.declared.outcome.Outcome.{Outcome}
use Rattle.subtree_outcome.specs.declared.outcome.Outcome.TheVariants.{Good, Bad}

-- Of the layout the scheme, the levels of a subtree and in all, and the number of contents; the region; the level of
-- the next step and the place of its root among the roots of that level's subtrees; the words of these roots and of
-- the roots below them that are found, with mask 0; and how many tiles were given.
pub record Cursor : Type 0 where
  pub scheme : Scheme
  pub subtree_levels : ℕ
  pub levels : ℕ
  pub contents : ℕ
  pub region : Region
  pub level : ℕ
  pub position : ℕ
  pub roots : List ℕ
  pub next_roots : List ℕ
  pub count : ℕ

-- the local level of the next step, whether it is the last one of the subtrees, and the level of their roots
abbrev pub local_level_of : Cursor → ℕ
local_level_of c = c.level % c.subtree_levels

abbrev pub is_last_local : Cursor → Bool
is_last_local c = local_level_of c + 1 == c.subtree_levels

abbrev pub root_level_of : Cursor → ℕ
root_level_of c = c.level - local_level_of c

-- the word of a tile of a level, with mask 0
pub record IsRootAt (scheme : Scheme) (level w : ℕ) : Type 0 where
  pub is_word : IsWord scheme w
  pub no_contents : word_mask w ≡ 0
  pub at_level : word_level w ≡ level

-- the limits of each state, and what its words are
pub record IsCursor (c : Cursor) : Type 0 where
  pub some_levels : 1 ≤ c.subtree_levels
  pub few_levels : c.levels ≤ most_levels c.scheme
  pub few_contents : c.contents ≤ most_contents
  pub low : c.region.level < c.levels
  pub within : c.level ≤ c.region.level
  pub few : c.count ≤ most_tiles
  pub are_roots : All (IsRootAt c.scheme (root_level_of c)) c.roots
  pub are_next_roots : All (IsRootAt c.scheme (root_level_of c + c.subtree_levels)) c.next_roots

-- the word of the root that the next step reads, if the walk goes on, and its tile
abbrev pub cursor_key : Cursor → Option ℕ
cursor_key c = slice_get c.roots c.position

abbrev pub next_root : Cursor → Tile
next_root c = word_tile c.scheme (slice_index c.roots c.position)

-- it is the word, with mask 0, of a tile below the levels in all that a subtree may begin with
pub record IsRootKey (c : Cursor) (key : ℕ) : Type 0 where
  pub root : IsRootAt c.scheme (root_level_of c) key
  pub below : root_level_of c < c.levels
  pub at_start : root_level_of c % c.subtree_levels ≡ 0

-- the state is one of a walk of the region over the layout, which is within the limits
pub record IsWalkOf (layout : Layout) (region : Region) (c : Cursor) : Type 0 where
  pub same_scheme : c.scheme ≡ layout.scheme
  pub same_subtree_levels : c.subtree_levels ≡ layout.subtree_levels
  pub same_levels : c.levels ≡ layout.levels
  pub same_contents : c.contents ≡ length layout.contents
  pub same_region : c.region ≡ region
  pub some_levels : 1 ≤ layout.subtree_levels
  pub few_levels : layout.levels ≤ most_levels layout.scheme

-- the states are of one walk
pub record IsSameWalk (old new : Cursor) : Type 0 where
  pub same_scheme : new.scheme ≡ old.scheme
  pub same_subtree_levels : new.subtree_levels ≡ old.subtree_levels
  pub same_levels : new.levels ≡ old.levels
  pub same_contents : new.contents ≡ old.contents
  pub same_region : new.region ≡ old.region

-- the subtree is one of the layout and of the root that the next step reads
pub record FitsSubtree (c : Cursor) (st : Subtree) : Type 0 where
  pub same_scheme : st.scheme ≡ c.scheme
  pub same_levels : st.levels ≡ c.subtree_levels
  pub same_cut : st.cut ≡ c.levels
  pub contents_named : length st.contents ≤ c.contents
  pub root_at_start : st.root.level % c.subtree_levels ≡ 0
  pub key : cursor_key c ≡ Some (word st.scheme st.root 0)

abbrev pub Fits : Cursor → Outcome → Type 0
Fits c (Good subtree) = FitsSubtree c subtree
Fits c (Bad number) = Unit {0}

-- a fault has the root that the step reads, and the number of the outcome
abbrev pub EndsAtKey : Cursor → Outcome → WalkEnd → Type 0
EndsAtKey c found Partial = Unit {0}
EndsAtKey c found Complete = Unit {0}
EndsAtKey c found TooMany = Unit {0}
EndsAtKey c found (Fault root number) = IsRootKey c root × (found ≡ Bad number)
