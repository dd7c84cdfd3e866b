-- What a step does to the state of a walk, and what it gives, whatever the outcomes are (this project's own).
use Rattle.std.specs.Prelude.{ℕ, ◌+◌, ◌-◌, ◌==◌, ◌&&◌, ◌++◌, not, nat_lt, Bool, true, false, List, [], ◌∷◌, length}
use Rattle.std.specs.Prelude.{take, Option, Some, None, slice_index}
use Rattle.implicit_tiling.specs.Tile.{root}
use Rattle.implicit_tiling.specs.Region.{Region}
use Rattle.implicit_tiling.specs.Scene.{Layout}
use Rattle.implicit_tiling.specs.Subtree.{Subtree}
use Rattle.implicit_tiling.specs.Answer.{most_tiles}
use Rattle.implicit_tiling.specs.Code.{word}
use Rattle.implicit_tiling.specs.Nodes.{level_words, child_words}
use Rattle.tile_coords.specs.declared.walk_end.WalkEnd.{WalkEnd}
use Rattle.tile_coords.specs.declared.walk_end.WalkEnd.TheVariants.{Partial, Complete, TooMany, Fault}
use Rattle.subtree_outcome.specs.declared.outcome.Outcome.{Outcome}
use Rattle.subtree_outcome.specs.declared.outcome.Outcome.TheVariants.{Good, Bad}
use Rattle.region_cursor.specs.Cursor.{Cursor, local_level_of, is_last_local, cursor_key}

-- the walk begins with the root, at level 0
abbrev pub begun : Layout → Region → Cursor
begun layout region = record {
  scheme = layout.scheme;
  subtree_levels = layout.subtree_levels;
  levels = layout.levels;
  contents = length layout.contents;
  region = region;
  level = 0;
  position = 0;
  roots = word layout.scheme root 0 ∷ [];
  next_roots = [];
  count = 0;
}

-- a walk that has ended has no roots
abbrev pub over : Cursor → Cursor
over c = record c { position = 0; roots = []; next_roots = [] }

-- the next level: after the region's own there is none, and below the last local level the roots are those that were
-- found
abbrev pub level_after : Bool → Bool → Cursor → Cursor
level_after true last c = over c
level_after false true c = record c { level = c.level + 1; position = 0; roots = c.next_roots; next_roots = [] }
level_after false false c = record c { level = c.level + 1; position = 0 }

abbrev pub next_level : Cursor → Cursor
next_level c = level_after (c.level == c.region.level) (is_last_local c) c

-- the next root of the level, where there is one, else the next level
abbrev pub pair_after : Bool → Cursor → Cursor
pair_after true c = record c { position = c.position + 1 }
pair_after false c = next_level c

abbrev pub moved_on : Cursor → Cursor
moved_on c = pair_after (nat_lt (c.position + 1) (length c.roots)) c

-- what a step gives, and the state after it
pub record Made : Type 0 where
  pub words : List ℕ
  pub end : WalkEnd
  pub after : Cursor

abbrev pub end_by_key : Option ℕ → WalkEnd
end_by_key None = Complete
end_by_key (Some key) = Partial

-- a step that ends the walk only where it is the last one
abbrev pub went_on : List ℕ → Cursor → Made
went_on words c = record { words = words; end = end_by_key (cursor_key (moved_on c)); after = moved_on c }

-- the children of the subtree are found at its last local level, unless the walk is cut there
abbrev pub children_if : Bool → List ℕ → List ℕ → List ℕ
children_if true roots children = roots ++ children
children_if false roots children = roots

abbrev pub with_children : Bool → Cursor → List ℕ → Cursor
with_children more c children = record c {
  next_roots = children_if (not more
      && is_last_local c) c.next_roots children;
}

abbrev pub counted : List ℕ → Cursor → Cursor
counted words c = record c { count = c.count + length words }

-- the tiles that an answer may still have
abbrev pub room : Cursor → ℕ
room c = most_tiles - c.count

abbrev pub made_by : Bool → List ℕ → Cursor → Made
made_by true words c = record { words = words; end = TooMany; after = over c }
made_by false words c = went_on words c

-- a step of a subtree: the words of its level in the region as far as there is room, and whether there are more
abbrev pub made_of : List ℕ → Cursor → List ℕ → Made
made_of found c children =
    let more = nat_lt (room c) (length found) in
    let words = take (room c) found in
    made_by more words (counted words (with_children more c children))

abbrev pub made_good : Cursor → Subtree → Made
made_good c st = made_of (level_words st c.region (local_level_of c)) c (child_words st c.region)

-- a step of a faulty file: its fault ends the walk, at whichever local level it is met
abbrev pub made_bad : Cursor → ℕ → Made
made_bad c number = record { words = []; end = Fault (slice_index c.roots c.position) number; after = over c }

abbrev pub made : Cursor → Outcome → Made
made c (Good subtree) = made_good c subtree
made c (Bad number) = made_bad c number
