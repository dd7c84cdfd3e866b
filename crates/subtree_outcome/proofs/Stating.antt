-- The subtree that a file states with the files of its buffers has the root that it was asked for and the layout's
-- numbers, and no orphan.
use Rattle.std.proofs.Common.{◌≡◌, ℕ, false, List, Option, Some, None, Result, Ok, Err, refl, subst}
use Rattle.std.specs.Prelude.{is_none, nat_lt}
use Rattle.std.specs.List.{list_any}
use Rattle.implicit_tiling.proofs.Tables.{refuse-good}
use Rattle.implicit_tiling.specs.Checks.{need}
use Rattle.implicit_tiling.specs.Limits.{most_file_bytes}
use Rattle.implicit_tiling.specs.Tile.{Tile}
use Rattle.implicit_tiling.specs.Scene.{Layout}
use Rattle.implicit_tiling.specs.Subtree.{Subtree, has_orphan, has_content_alone}
use Rattle.implicit_tileset.specs.Record.{Availability, SubtreeRecord, record_of}
use Rattle.implicit_tileset.specs.SubtreeFile.{Used, wanted_contents, used_of, and_then, names_no_view, is_out, is_short, is_miscounted}
use Rattle.implicit_tileset.specs.FileForms.{file_parts}
use Rattle.implicit_tileset.specs.BufferFiles.{Find, used_names, bytes_together}
use Rattle.implicit_tileset.specs.FileOutcome.{held_at, is_nowhere, subtree_at, sources_of, subtree_of_record, subtree_found}

-- what the bytes of a root's file state
pub record IsStated (layout : Layout) (root : Tile) (s : Subtree) : Type 0 where
  pub scheme : s.scheme ≡ layout.scheme
  pub levels : s.levels ≡ layout.subtree_levels
  pub cut : s.cut ≡ layout.levels
  pub at_root : s.root ≡ root
  pub no_orphan : has_orphan s ≡ false

-- a part that was read
read_first : {A B : Type 0} (r : Result A ℕ) (rest : A → Result B ℕ) (b : B) → and_then r rest ≡ Ok b → (a : A) × (rest a ≡ Ok b)
read_first (Ok a) rest b is = (a, is)
read_first (Err n) rest b is = cc

stated_record : (find : Find) (layout : Layout) (root : Tile) (binary : Option (List ℕ)) (r : SubtreeRecord) (contents : List Availability) (used : List Used) (found : Subtree)
    → subtree_of_record find layout root binary r contents used ≡ Ok found → IsStated layout root found
stated_record find layout root binary r contents used found is =
    let s = sources_of find layout root binary r in
    let made = subtree_at layout root s contents in
    let names = used_names layout root r used in
    let a = refuse-good 12 (list_any (λ u. names_no_view (held_at s u.availability) u.availability) used) _ found is in
    let b = refuse-good 13 (list_any (λ u. is_nowhere s u.availability) used) _ found a.1 in
    let c = refuse-good 19 (list_any (λ name. is_none (find name)) names) _ found b.1 in
    let d = refuse-good 20 (nat_lt most_file_bytes (bytes_together find names)) _ found c.1 in
    let e = refuse-good 14 (list_any (λ u. is_out (held_at s u.availability) u.availability) used) _ found d.1 in
    let f = refuse-good 15 (list_any (λ u. is_short (held_at s u.availability) u) used) _ found e.1 in
    let g = refuse-good 16 (list_any (λ u. is_miscounted (held_at s u.availability) u) used) _ found f.1 in
    let h = refuse-good 17 (has_orphan made) _ found g.1 in
    let i = refuse-good 18 (has_content_alone made) (Ok made) found h.1 in
    let same : made ≡ found = cc in
    subst (IsStated layout root) same (record { scheme = refl; levels = refl; cut = refl; at_root = refl; no_orphan = h.0 })

stated_by : (find : Find) (layout : Layout) (root : Tile) (binary : Option (List ℕ)) (r : SubtreeRecord) (used : List Availability → List Used) (found : Subtree) (contents : Option (List Availability))
    → need 11 contents (λ cs. subtree_of_record find layout root binary r cs (used cs)) ≡ Ok found → IsStated layout root found
stated_by find layout root binary r used found None is = cc
stated_by find layout root binary r used found (Some contents) is = stated_record find layout root binary r contents (used contents) found is

pub stated : (find : Find) (layout : Layout) (root : Tile) (bytes : List ℕ) (found : Subtree) → subtree_found find layout root bytes ≡ Ok found → IsStated layout root found
stated find layout root bytes found is =
    let parts = read_first (file_parts bytes) (λ parts. and_then (record_of parts.json) (λ r. need 11 (wanted_contents layout r) (λ contents. subtree_of_record find layout root parts.binary r contents (used_of layout r contents)))) found is in
    let r = read_first (record_of parts.0.json) (λ r. need 11 (wanted_contents layout r) (λ contents. subtree_of_record find layout root parts.0.binary r contents (used_of layout r contents))) found parts.1 in
    stated_by find layout root parts.0.binary r.0 (used_of layout r.0) found (wanted_contents layout r.0) r.1
