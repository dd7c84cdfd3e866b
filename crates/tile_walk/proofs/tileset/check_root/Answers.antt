use Rattle.std.proofs.Common.{◌≡◌, ◌+◌, ◌++◌, ◌∙◌, ℕ, length, ap, arith}
use Rattle.std.proofs.lemmas.List.{length-take}
use Rattle.implicit_tiling.specs.Tile.{Tile}
use Rattle.implicit_tiling.specs.Checked.{most_roots}
use Rattle.implicit_tiling.specs.Nodes.{child_words}
use Rattle.implicit_tileset.specs.Scene.{scene_of}
use Rattle.subtree_outcome.specs.Outcomes.{outcome_seen}
use Rattle.tile_walk.specs.Checks.{IsOnWalk}
use Rattle.subtree_outcome.proofs.Reading.{both_told, of_told}
use Rattle.tile_walk.proofs.Checking.{one_fault, no_next, next_by_words, next_are_roots}
use Rattle.subtree_outcome.proofs.Fetching.{fetched_at}
use Rattle.tile_walk.proofs.tileset.check_root.Goals as goal

pub returns-in_ok-note-in-Bad-clause-found : goal.returns-in_ok-note-in-Bad-clause-found
returns-in_ok-note-in-Bad-clause-found g c =
    let layout = c.args.layout.now in
    of_told (g.S.FileSource.told c.args.files.now) (λ all. (scene_of all layout).outcome c.root_tile-tile.result ≡ outcome_seen c.in_ok-number.field-0) _
    (λ all is. one_fault (scene_of all layout) _ c.args.root c.in-Bad.number c.root_tile-tile.result c.args.found.now.items c.note.new.found.items c.requires.root
    c.root_tile-tile.ensures.tile (is ∙ ap outcome_seen c.in-Bad.is) c.in_ok-note-in-Bad.ensures) c.in_ok-number.ensures.told

pub returns-in_ok-note-in-Bad-clause-roots : goal.returns-in_ok-note-in-Bad-clause-roots
returns-in_ok-note-in-Bad-clause-roots g c =
    let layout = c.args.layout.now in
    both_told (g.S.FileSource.told c.args.files.now) (λ all. IsOnWalk (scene_of all layout) c.args.region.now c.args.root)
    (λ all. (scene_of all layout).outcome c.root_tile-tile.result ≡ outcome_seen c.in_ok-number.field-0) _
    (λ all on is. no_next (scene_of all layout) c.args.region.now c.args.root c.in-Bad.number c.root_tile-tile.result c.args.next.now.items
    c.root_tile-tile.ensures.some_levels c.root_tile-tile.ensures.root.is_tile on c.root_tile-tile.ensures.tile (is ∙ ap outcome_seen c.in-Bad.is) c.requires.kept) c.requires.on_walk c.in_ok-number.ensures.told

pub returns-in_ok-append_roots-in-Good-clause-roots : goal.returns-in_ok-append_roots-in-Good-clause-roots
returns-in_ok-append_roots-in-Good-clause-roots g c =
    let layout = c.args.layout.now in
    let found = rw c.in-Good.is at c.in_ok-number.ensures.found in
    both_told (g.S.FileSource.told c.args.files.now) (λ all. IsOnWalk (scene_of all layout) c.args.region.now c.args.root)
    (λ all. (scene_of all layout).outcome c.root_tile-tile.result ≡ outcome_seen c.in_ok-number.field-0) _
    (λ all on is. next_by_words (scene_of all layout) c.args.region.now c.args.root c.in-Good.subtree c.root_tile-tile.result c.args.next.now.items c.append_roots.new.next.items
    c.in_ok-append_roots-in-Good.ensures.within_limits found c.root_tile-tile.ensures.tile on (is ∙ ap outcome_seen c.in-Good.is) c.in_ok-append_roots-in-Good.ensures.appended)
    c.requires.on_walk c.in_ok-number.ensures.told

pub returns-in_ok-append_roots-in-Good-clause-next : goal.returns-in_ok-append_roots-in-Good-clause-next
returns-in_ok-append_roots-in-Good-clause-next g c =
    let found = rw c.in-Good.is at c.in_ok-number.ensures.found in
    next_are_roots c.args.layout.now c.in-Good.subtree c.args.region.now _ c.args.next.now.items c.append_roots.new.next.items c.in_ok-append_roots-in-Good.ensures.within_limits
    found.of_layout (omega (arith, found.of_layout.same_levels, c.in_ok-append_roots-in-Good.ensures.within_limits.some_levels))
    (ap (λ (t : Tile). t.level) found.at_root ∙ c.root_tile-tile.ensures.level) c.requires.next (most_roots + 1) c.in_ok-append_roots-in-Good.ensures.appended

pub returns-in_ok-append_roots-in-Good-clause-kept : goal.returns-in_ok-append_roots-in-Good-clause-kept
returns-in_ok-append_roots-in-Good-clause-kept g c =
    let all = c.args.next.now.items ++ child_words c.in-Good.subtree c.args.region.now in
    omega (arith, ap (length {A = ℕ}) c.in_ok-append_roots-in-Good.ensures.appended, length-take (most_roots + 1) all)

pub returns-in_ok-note-in-Bad-clause-fetched : goal.returns-in_ok-note-in-Bad-clause-fetched
returns-in_ok-note-in-Bad-clause-fetched g c =
    fetched_at c.args.layout.now (g.S.FileSource.told c.args.files.now) c.root_tile-tile.result _ _ _ c.root_tile-tile.ensures.tile c.in_ok-number.ensures.fetched

pub returns-in_ok-append_roots-in-Good-clause-fetched : goal.returns-in_ok-append_roots-in-Good-clause-fetched
returns-in_ok-append_roots-in-Good-clause-fetched g c =
    fetched_at c.args.layout.now (g.S.FileSource.told c.args.files.now) c.root_tile-tile.result _ _ _ c.root_tile-tile.ensures.tile c.in_ok-number.ensures.fetched
