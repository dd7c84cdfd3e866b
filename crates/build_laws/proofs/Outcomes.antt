-- What the made files hold, and the bits of a scene where they stand.
use Rattle.std.proofs.Common.{◌≡◌, ℕ, ◌%◌, ◌^◌, ◌<◌, true, List, None, sym, ap, subst, ◌∙◌}
use Rattle.std.specs.Prelude.{Some, nat_lt}
use Rattle.std.specs.List.{Contains}
use Rattle.std.proofs.lemmas.Bool.{and_parts, and_from, lt-ltb}
use Rattle.std.proofs.lemmas.List.Elements.{All-contains}
use Rattle.implicit_tiling.specs.Files.{Files, file}
use Rattle.implicit_tiling.specs.Tile.{Tile, IsTile, branching, parent, index}
use Rattle.implicit_tiling.specs.Scene.{Layout, Scene, Outcome, good, fault_of, tile_bit_of, child_bit_of}
use Rattle.implicit_tiling.specs.Availability.{subtree_root, is_subtree_root, place, tile_bit, child_bit}
use Rattle.implicit_tiling.specs.Subtree.{bits_of}
use Rattle.implicit_tiling.specs.Code.{word_level, word_index, word_tile}
use Rattle.implicit_tileset.specs.FileOutcome.{outcome_of_bytes}
use Rattle.implicit_tileset.specs.Scene.{subtree_name, scene_of}
use Rattle.tiling_laws.proofs.TileAt.{tile_at_is_tile}
use Rattle.tiling_laws.proofs.Places.{tile_from_place}
use Rattle.subtree_write.specs.Canonical.{canonical}
use Rattle.subtree_write.proofs.ReadBack.{canonical_files_are_good}
use Rattle.tile_occupancy.specs.Occupied.{tiles_of}
use Rattle.build_laws.specs.Made.{made_subtree, made_roots}
use Rattle.build_laws.specs.Holds.{AreWordsOf, HaveMadeFiles}
use Rattle.build_laws.proofs.Bits.{into_map, from_map}
use Rattle.build_laws.proofs.Under.{is_tile, is_low, parent_there, subtree_is_made, made_is}
use Rattle.build_laws.proofs.Nodes.{word_of_node, node_of_word}
use Rattle.build_laws.proofs.Good.{made_well}
use Rattle.build_laws.proofs.Children.{IsChild, tile_of_child, child_of_tile}

-- a scene in which the file of each root that has one holds its made subtree
pub record IsMadeOf (s : Scene) (words : List ℕ) : Type 0 where
  pub are : AreWordsOf s.layout words
  pub good_at : (r : Tile) → Contains (made_roots s.layout words) r → s.outcome r ≡ good (bits_of (made_subtree s.layout words r))

pub files_are_good : (layout : Layout) (words : List ℕ) (files : Files) → AreWordsOf layout words → HaveMadeFiles layout words files → IsMadeOf (scene_of files layout) words
files_are_good layout words files are have = record {
  are = are;
  good_at = λ r there.
      let well = made_well layout words r are (made_is layout words r are.limits.some_levels are.whole.are_words there) in
      ap (outcome_of_bytes (λ name. file name files) layout r) (All-contains (λ r. file (subtree_name layout r) files ≡ Some (canonical (made_subtree layout words r))) (made_roots layout words) r have there)
      ∙ canonical_files_are_good (λ name. file name files) layout (made_subtree layout words r) well.subtree well.of_layout well.rules;
}

pub no_fault : (s : Scene) (words : List ℕ) (r : Tile) → IsMadeOf s words → Contains (made_roots s.layout words) r → fault_of (s.outcome r) ≡ None
no_fault s words r made there = ap fault_of (made.good_at r there)

-- the bit of a tile whose subtree has a made file
pub tile_of_bit : (s : Scene) (words : List ℕ) (t : Tile) → IsMadeOf s words → IsTile s.layout.scheme t → Contains (made_roots s.layout words) (subtree_root s.layout t)
    → tile_bit s t ≡ true → Contains (tiles_of s.layout.scheme words) t
tile_of_bit s words t made tile root one =
    let r = subtree_root s.layout t in
    let i = place s.layout t in
    let bit = (and_parts (nat_lt t.level s.layout.levels) (tile_bit_of (s.outcome r) i) one).1 in
    let found = word_of_node s.layout words r i (sym (ap (λ (o : Outcome). tile_bit_of o i) (made.good_at r root)) ∙ bit) in
    let w = found.0 in
    let same : word_tile s.layout.scheme w ≡ t =
    tile_from_place s.layout (word_tile s.layout.scheme w) t (tile_at_is_tile s.layout.scheme (word_level w) (word_index w)) tile found.1.root found.1.at in
    subst (Contains (tiles_of s.layout.scheme words)) same (into_map (word_tile s.layout.scheme) words w found.1.there)

pub bit_of_tile : (s : Scene) (words : List ℕ) (t : Tile) → IsMadeOf s words → Contains (tiles_of s.layout.scheme words) t → tile_bit s t ≡ true
bit_of_tile s words t made there =
    let r = subtree_root s.layout t in
    let i = place s.layout t in
    let some = made.are.limits.some_subtree_levels in
    let from = from_map (word_tile s.layout.scheme) words t there in
    let bit = node_of_word s.layout words r i from.element some (record { there = from.there; root = ap (subtree_root s.layout) from.gives; at = ap (place s.layout) from.gives }) in
    and_from (nat_lt t.level s.layout.levels) (tile_bit_of (s.outcome r) i)
    (lt-ltb t.level s.layout.levels (is_low s.layout.scheme s.layout.levels words t made.are.whole.are_words there))
    (ap (λ (o : Outcome). tile_bit_of o i) (made.good_at r (subtree_is_made s.layout words t some made.are.whole there)) ∙ bit)

-- the child bit of a root
abbrev place_of_child : Scene → Tile → ℕ
place_of_child s t = index s.layout.scheme t % branching s.layout.scheme ^ s.layout.subtree_levels

pub tile_of_child_bit : (s : Scene) (words : List ℕ) (t : Tile) → IsMadeOf s words → IsChild s.layout t → Contains (made_roots s.layout words) (subtree_root s.layout (parent t))
    → child_bit s t ≡ true → Contains (tiles_of s.layout.scheme words) t
tile_of_child_bit s words t made is root one =
    let r = subtree_root s.layout (parent t) in
    let bit = (and_parts (nat_lt t.level s.layout.levels) (child_bit_of (s.outcome r) (place_of_child s t)) one).1 in
    tile_of_child s.layout words t made.are.limits.some_subtree_levels is (sym (ap (λ (o : Outcome). child_bit_of o (place_of_child s t)) (made.good_at r root)) ∙ bit)

pub child_bit_of_tile : (s : Scene) (words : List ℕ) (t : Tile) → IsMadeOf s words → 0 < t.level → is_subtree_root s.layout t ≡ true → Contains (tiles_of s.layout.scheme words) t
    → child_bit s t ≡ true
child_bit_of_tile s words t made below starts there =
    let r = subtree_root s.layout (parent t) in
    let whole = made.are.whole in
    let above = parent_there s.layout.scheme s.layout.levels words t whole there below in
    let root = subtree_is_made s.layout words (parent t) made.are.limits.some_subtree_levels whole above in
    let bit = child_of_tile s.layout words t (record { tile = is_tile s.layout.scheme words t there; below = below; starts = starts }) there in
    and_from (nat_lt t.level s.layout.levels) (child_bit_of (s.outcome r) (place_of_child s t))
    (lt-ltb t.level s.layout.levels (is_low s.layout.scheme s.layout.levels words t whole.are_words there))
    (ap (λ (o : Outcome). child_bit_of o (place_of_child s t)) (made.good_at r root) ∙ bit)
