-- What holds of a subtree that has none of the faults: it is one of the layout, and its bits break no rule.
use Rattle.std.proofs.Common.{◌≡◌, ◌%◌, List, refl, subst, arith}
use Rattle.std.specs.Prelude.{Option, Some, None, Result, Ok, Err, IfOk}
use Rattle.std.specs.List.{list_any}
use Rattle.std.proofs.lemmas.List.{length-map}
use Rattle.implicit_tiling.proofs.Tables.{refuse-good}
use Rattle.implicit_tiling.specs.Checks.{need}
use Rattle.implicit_tiling.specs.Tile.{Tile}
use Rattle.implicit_tiling.specs.Scene.{Layout}
use Rattle.implicit_tiling.specs.Subtree.{Subtree, IsOf, has_orphan, has_content_alone}
use Rattle.implicit_tileset.specs.Record.{Availability}
use Rattle.implicit_tileset.specs.SubtreeFile.{Used, is_out, is_short, wanted_contents, for_nodes}
use Rattle.implicit_tileset.specs.FileOutcome.{Sources, held_at, subtree_at, bits_checked}
use Rattle.availability.specs.Rules.{KeepsRules}
use Rattle.subtree_file.specs.declared.fault.DecodeFault.{DecodeFault}
use Rattle.subtree_file.specs.Decoding.{Decodes, subtree_placed}
use Rattle.subtree_file.proofs.Viewed.{miscounted, bits_at}
use Rattle.subtree_file.proofs.Whole.{few_wanted}

pub record IsSound (layout : Layout) (root : Tile) (s : Subtree) : Type 0 where
  pub at_root : s.root ≡ root
  pub of_layout : IsOf layout s
  pub rules : KeepsRules s

is_of : (layout : Layout) (root : Tile) (s : Sources) (contents : List Availability) → root.level % layout.subtree_levels ≡ 0 → wanted_contents layout s.parts ≡ Some contents
    → IsOf layout (subtree_at layout root s contents)
is_of layout root s contents start wanted = record {
  same_scheme = refl;
  same_levels = refl;
  same_cut = refl;
  contents_named = omega (arith, length-map contents (λ a. bits_at s (for_nodes layout a)), few_wanted layout s.parts contents wanted);
  root_at_start = start;
}

sound_bits : (layout : Layout) (root : Tile) (s : Sources) (contents : List Availability) (used : List Used) (found : Subtree) → root.level % layout.subtree_levels ≡ 0
    → wanted_contents layout s.parts ≡ Some contents → bits_checked layout root s contents used ≡ Ok found → IsSound layout root found
sound_bits layout root s contents used found start wanted is =
    let made = subtree_at layout root s contents in
    let r14 = refuse-good 14 (list_any (λ u. is_out (held_at s u.availability) u.availability) used) _ found is in
    let r15 = refuse-good 15 (list_any (λ u. is_short (held_at s u.availability) u) used) _ found r14.1 in
    let r16 = refuse-good 16 (list_any (miscounted s) used) _ found r15.1 in
    let r17 = refuse-good 17 (has_orphan made) _ found r16.1 in
    let r18 = refuse-good 18 (has_content_alone made) (Ok made) found r17.1 in
    let same : made ≡ found = cc in
    subst (IsSound layout root) same (record {
      at_root = refl;
      of_layout = is_of layout root s contents start wanted;
      rules = record { no_orphan = r17.0; no_content_alone = r18.0 };
    })

by_contents : (layout : Layout) (root : Tile) (s : Sources) (used : List Used) (found : Subtree) (contents : Option (List Availability)) → root.level % layout.subtree_levels ≡ 0
    → wanted_contents layout s.parts ≡ contents → need 11 contents (λ cs. bits_checked layout root s cs used) ≡ Ok found → IsSound layout root found
by_contents layout root s used found None start wanted is = cc
by_contents layout root s used found (Some contents) start wanted is = sound_bits layout root s contents used found start wanted is

pub sound : (layout : Layout) (root : Tile) (s : Sources) (used : List Used) (result : Result Subtree DecodeFault) → root.level % layout.subtree_levels ≡ 0
    → Decodes (subtree_placed layout root s used) result → IfOk result (IsSound layout root)
sound layout root s used (Ok found) start is = by_contents layout root s used found (wanted_contents layout s.parts) start refl is
sound layout root s used (Err fault) start is = tt

pub of_layout : (layout : Layout) (root : Tile) (result : Result Subtree DecodeFault) → IfOk result (IsSound layout root) → IfOk result (IsOf layout)
of_layout layout root (Ok s) is = is.of_layout
of_layout layout root (Err fault) is = tt

pub rules : (layout : Layout) (root : Tile) (result : Result Subtree DecodeFault) → IfOk result (IsSound layout root) → IfOk result KeepsRules
rules layout root (Ok s) is = is.rules
rules layout root (Err fault) is = tt

pub at_root : (layout : Layout) (root : Tile) (result : Result Subtree DecodeFault) → IfOk result (IsSound layout root) → IfOk result (λ s. s.root ≡ root)
at_root layout root (Ok s) is = is.at_root
at_root layout root (Err fault) is = tt
