-- Which tiles are available and which subtree files are reached, in the words of the standard (OGC 22-025r4, implicit
-- tiling: availability, tile availability, child subtree availability), and what an answer reads.
use Rattle.std.specs.Prelude.{◌≡◌, ℕ, ◌≤◌, ◌<◌, ◌↔◌, ◌⊎◌, true, None}
use Rattle.implicit_tiling.specs.Tile.{Tile, IsTile, root, parent, ancestor}
use Rattle.implicit_tiling.specs.Region.{Region}
use Rattle.implicit_tiling.specs.Scene.{Layout, Outcome, Scene, fault_of}
use Rattle.implicit_tiling.specs.Availability.{subtree_root, is_subtree_root, tile_bit, child_bit, is_available}
use Rattle.implicit_tiling.specs.Availability.{is_reached}
use Rattle.implicit_tiling.specs.Answer.{is_on_walk, answer}

-- the file of the tile's subtree is reached and has no fault, the tile's bit is 1, and the tile is at level 0 or its
-- parent is available
pub record IsThere (s : Scene) (t : Tile) : Type 0 where
  pub reached : is_reached s (subtree_root s.layout t) ≡ true
  pub no_fault : fault_of (s.outcome (subtree_root s.layout t)) ≡ None
  pub bit : tile_bit s t ≡ true
  pub above : (t.level ≡ 0) ⊎ (is_available s (parent t) ≡ true)

abbrev pub AvailableAsWritten : Type 0
AvailableAsWritten = (s : Scene) (t : Tile) → (is_available s t ≡ true) ↔ IsThere s t

-- the file of the subtree that the root's parent is in is reached and has no fault, the parent is available, and the
-- child bit is 1
pub record IsNamed (s : Scene) (r : Tile) : Type 0 where
  pub reached : is_reached s (subtree_root s.layout (parent r)) ≡ true
  pub no_fault : fault_of (s.outcome (subtree_root s.layout (parent r))) ≡ None
  pub under : is_available s (parent r) ≡ true
  pub bit : child_bit s r ≡ true

-- of a subtree root below level 0
abbrev pub ReachedAsWritten : Type 0
ReachedAsWritten = (s : Scene) (r : Tile) → is_subtree_root s.layout r ≡ true → 0 < r.level → (is_reached s r ≡ true)
    ↔ IsNamed s r

-- the root tile is reached where there is a level at all
abbrev pub RootIsReached : Type 0
RootIsReached = (s : Scene) → (is_reached s root ≡ true) ↔ (1 ≤ s.layout.levels)

-- the tile's own bit is 1, and so is its child bit where it is a subtree root below level 0
pub record HasBits (s : Scene) (t : Tile) : Type 0 where
  pub own : tile_bit s t ≡ true
  pub named : is_subtree_root s.layout t ≡ true → 0 < t.level → child_bit s t ≡ true

-- a tile is available where it and all its ancestors have their bits
abbrev pub AvailableByBits : Type 0
AvailableByBits = (s : Scene) (t : Tile) → (is_available s t ≡ true)
    ↔ ((k : ℕ) → k ≤ t.level → HasBits s (ancestor k t))

abbrev pub scene : Layout → (Tile → Outcome) → Scene
scene layout outcome = record { layout = layout; outcome = outcome }

-- an answer depends on no file outside its walk: where the files of the roots on the walk are alike, so are the answers
abbrev pub AnswerReadsTheWalk : Type 0
AnswerReadsTheWalk = (layout : Layout) (one other : Tile → Outcome) (region : Region)
    → ((r : Tile) → IsTile layout.scheme r → is_on_walk (scene layout one) region r ≡ true → one r ≡ other r)
    → answer (scene layout one) region ≡ answer (scene layout other) region
