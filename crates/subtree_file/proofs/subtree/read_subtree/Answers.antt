use Rattle.std.proofs.Common.{◌-◌, length, refl, sym, ap, ◌∙◌, rules, arith, map, drop}
use Rattle.std.specs.Prelude.{Err}
use Rattle.implicit_tileset.specs.SubtreeFile.{Used, for_nodes, for_children}
use Rattle.std.proofs.lemmas.List.Elements.{All-take}
use Rattle.implicit_tileset.specs.FileOutcome.{held_at}
use Rattle.subtree_file.specs.Decoding.{Decodes, IsPlaced, subtree_counted, all_counted}
use Rattle.subtree_file.specs.Buffers.{sources_seen}
use Rattle.subtree_file.proofs.Viewed.{counted_at}
use Rattle.subtree_file.proofs.Whole.{AreRead, counted-ok, read_is_subtree, counted-err, first_used, middle_used, last_used, length_used, placed_behind}
use Rattle.subtree_file.proofs.subtree.read_subtree.Goals as goal

pub returns-in_err-tiles : goal.returns-in_err-tiles
returns-in_err-tiles c =
    let layout = c.args.layout.now in
    let s = sources_seen c.args.sources.now in
    let used = c.args.used.now in
    let are = c.requires.used in
    let x = for_nodes layout s.parts.tiles in
    let ys = map (for_nodes layout) are.contents in
    let z = for_children layout s.parts.child in
    let e : Decodes (subtree_counted layout c.args.root s) (Err c.in_err-tiles.field-0.0) =
    counted-err layout c.args.root s used 0 c.index-used-0.result c.in_err-tiles.field-0.0 are
    (omega (arith, length_used x z ys used are.are)) c.index-used-0.is c.in_err-tiles.ensures in
    search (rules, e)

pub read_all-requires : goal.read_all-requires
read_all-requires c =
    let s = sources_seen c.args.sources.now in
    let used = c.args.used.now in
    let P : Used → Type 0 = λ u. IsPlaced (held_at s u.availability) u in
    All-take P (length used - 1 - 1) (drop 1 used) (placed_behind s used c.requires.placed)

pub returns-in_err-child : goal.returns-in_err-child
returns-in_err-child c =
    let layout = c.args.layout.now in
    let s = sources_seen c.args.sources.now in
    let used = c.args.used.now in
    let are = c.requires.used in
    let x = for_nodes layout s.parts.tiles in
    let ys = map (for_nodes layout) are.contents in
    let z = for_children layout s.parts.child in
    let e : Decodes (subtree_counted layout c.args.root s) (Err c.in_err-child.field-0.0) =
    counted-err layout c.args.root s used (length used - 1) c.index-used-last.result c.in_err-child.field-0.0 are
    (omega (arith, length_used x z ys used are.are)) c.index-used-last.is c.in_err-child.ensures in
    search (rules, e)

pub invariant_of-result : goal.invariant_of-result
invariant_of-result c =
    let layout = c.args.layout.now in
    let s = sources_seen c.args.sources.now in
    let used = c.args.used.now in
    let are = c.requires.used in
    let x = for_nodes layout s.parts.tiles in
    let ys = map (for_nodes layout) are.contents in
    let z = for_children layout s.parts.child in
    let last = length used - 1 in
    let read : AreRead layout s are.contents c.in_ok-tiles.tiles c.in_ok-contents.contents.items c.in_ok-child.child = record {
      wanted = are.wanted;
      of_tiles = ap (counted_at s) (sym (c.index-used-0.is ∙ first_used x z ys used c.index-used-0.result are.are)) ∙ c.in_ok-tiles.ensures;
      of_contents = ap (all_counted s) (sym (middle_used x z ys used last are.are refl)) ∙ c.in_ok-contents.ensures;
      of_child = ap (counted_at s) (sym (c.index-used-last.is ∙ last_used x z ys used last c.index-used-last.result are.are refl)) ∙ c.in_ok-child.ensures;
    } in
    read_is_subtree layout _ c.args.root s are.contents c.in_ok-tiles.tiles c.in_ok-contents.contents.items c.in_ok-child.child
    c.layout.view_is c.layout.invariant c.requires.below c.requires.tile read

pub returns : goal.returns
returns c =
    let layout = c.args.layout.now in
    let s = sources_seen c.args.sources.now in
    let used = c.args.used.now in
    let are = c.requires.used in
    let x = for_nodes layout s.parts.tiles in
    let ys = map (for_nodes layout) are.contents in
    let z = for_children layout s.parts.child in
    let last = length used - 1 in
    let read : AreRead layout s are.contents c.in_ok-tiles.tiles c.in_ok-contents.contents.items c.in_ok-child.child = record {
      wanted = are.wanted;
      of_tiles = ap (counted_at s) (sym (c.index-used-0.is ∙ first_used x z ys used c.index-used-0.result are.are)) ∙ c.in_ok-tiles.ensures;
      of_contents = ap (all_counted s) (sym (middle_used x z ys used last are.are refl)) ∙ c.in_ok-contents.ensures;
      of_child = ap (counted_at s) (sym (c.index-used-last.is ∙ last_used x z ys used last c.index-used-last.result are.are refl)) ∙ c.in_ok-child.ensures;
    } in
    counted-ok layout _ c.args.root s are.contents c.in_ok-tiles.tiles c.in_ok-contents.contents.items c.in_ok-child.child c.layout.view_is read
