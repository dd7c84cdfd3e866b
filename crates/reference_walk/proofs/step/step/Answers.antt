use Rattle.std.proofs.Common.{◌≡◌, ◌≤◌, ◌<◌, ◌%◌, ◌∙◌, ap, arith}
use Rattle.std.proofs.lemmas.Nat.{mod_below}
use Rattle.implicit_tiling.specs.Tile.{Tile}
use Rattle.implicit_tiling.specs.Scene.{Layout}
use Rattle.implicit_tileset.specs.Scene.{scene_of}
use Rattle.subtree_outcome.specs.Outcomes.{outcome_seen}
use Rattle.reference_walk.specs.Walks.{IsWalked}
use Rattle.subtree_outcome.proofs.Reading.{both_told}
use Rattle.reference_walk.proofs.Steps.{own_level, fault_is_of, found_after, roots_after, walks_fault, walks_good, next_good, level_is}
use Rattle.tile_walk.proofs.Roots.{decoded}
use Rattle.reference_walk.proofs.step.step.Goals as goal

pub root_tile-tile-requires : goal.root_tile-tile-requires
root_tile-tile-requires g c = own_level c.args.layout.now _ c.args.root c.requires.root

pub returns-in-Bad-clause-end : goal.returns-in-Bad-clause-end
returns-in-Bad-clause-end g c =
    fault_is_of c.args.layout.now _ c.args.root c.in-Bad.number c.root_tile-tile.result c.in_ok-number.field-0 c.requires.root c.in_ok-number.ensures.found c.in-Bad.is

pub returns-in-Bad-clause-walks : goal.returns-in-Bad-clause-walks
returns-in-Bad-clause-walks g c =
    let layout = c.args.layout.now in
    both_told _ (λ all. IsWalked (scene_of all layout) c.args.region.now c.args.level c.args.root)
    (λ all. (scene_of all layout).outcome c.root_tile-tile.result ≡ outcome_seen c.in_ok-number.field-0) _
    (λ all walked is. walks_fault (scene_of all layout) c.args.region.now c.args.level c.args.root c.in-Bad.number c.root_tile-tile.result c.args.found.now.words.items
    c.root_tile-tile.ensures.tile (c.root_tile-tile.ensures.level ∙ c.requires.root.at_level) walked c.requires.found.few (is ∙ ap outcome_seen c.in-Bad.is))
    c.requires.on_walk c.in_ok-number.ensures.told

pub append-requires-clause-local : goal.append-requires-clause-local
append-requires-clause-local g c =
    let layout = c.args.layout.now in
    let levels = ap (λ (l : Layout). l.subtree_levels) c.layout.view_is in
    let found = rw c.in-Good.is at c.in_ok-number.ensures.found in
    let local : c.args.level % c.layout.inside.subtree_levels ≡ c.args.level % layout.subtree_levels = ap (λ n. c.args.level % n) levels in
    let some : 1 ≤ layout.subtree_levels = omega (arith, levels, c.layout.invariant.some_subtree_levels) in
    omega (arith, local, mod_below c.args.level layout.subtree_levels some, found.of_layout.same_levels)

pub returns-in_ok-end-in-Good-clause-found : goal.returns-in_ok-end-in-Good-clause-found
returns-in_ok-end-in-Good-clause-found g c =
    let found = rw c.in-Good.is at c.in_ok-number.ensures.found in
    found_after c.args.layout.now c.in-Good.subtree c.args.region.now _ _ _ _ _ c.in_ok-end-in-Good.end c.in_ok-end-in-Good.ensures.within_limits found.of_layout
    c.in_ok-end-in-Good.ensures.appended c.requires.found

pub returns-in_ok-end-in-Good-clause-next : goal.returns-in_ok-end-in-Good-clause-next
returns-in_ok-end-in-Good-clause-next g c =
    let levels = ap (λ (l : Layout). l.subtree_levels) c.layout.view_is in
    let found = rw c.in-Good.is at c.in_ok-number.ensures.found in
    let root = ap (λ (t : Tile). t.level) found.at_root ∙ c.root_tile-tile.ensures.level ∙ c.requires.root.at_level in
    let at = level_is c.args.layout.now c.args.level c.in-Good.subtree.root.level _ root (ap (λ n. c.args.level % n) levels) in
    roots_after c.args.layout.now c.in-Good.subtree c.args.region.now c.args.level _ _ _ _ _ c.in_ok-end-in-Good.end c.in_ok-end-in-Good.ensures.within_limits found.of_layout
    (omega (arith, levels, c.layout.invariant.some_subtree_levels)) at c.in_ok-end-in-Good.ensures.appended c.requires.next

pub returns-in_ok-end-in-Good-clause-walks : goal.returns-in_ok-end-in-Good-clause-walks
returns-in_ok-end-in-Good-clause-walks g c =
    let layout = c.args.layout.now in
    let levels = ap (λ (l : Layout). l.subtree_levels) c.layout.view_is in
    let found = rw c.in-Good.is at c.in_ok-number.ensures.found in
    let root = ap (λ (t : Tile). t.level) found.at_root ∙ c.root_tile-tile.ensures.level ∙ c.requires.root.at_level in
    let local : c.args.level % c.layout.inside.subtree_levels ≡ c.args.level % layout.subtree_levels = ap (λ n. c.args.level % n) levels in
    let at = level_is layout c.args.level c.in-Good.subtree.root.level _ root local in
    let some : 1 ≤ layout.subtree_levels = omega (arith, levels, c.layout.invariant.some_subtree_levels) in
    let low : c.args.level % c.layout.inside.subtree_levels < c.in-Good.subtree.levels = omega (arith, local, mod_below c.args.level layout.subtree_levels some, found.of_layout.same_levels) in
    both_told _ (λ all. IsWalked (scene_of all layout) c.args.region.now c.args.level c.args.root)
    (λ all. (scene_of all layout).outcome c.root_tile-tile.result ≡ outcome_seen c.in_ok-number.field-0) _
    (λ all walked is. let s = scene_of all layout in
    let made = decoded s c.args.region.now c.args.root c.in-Good.subtree c.root_tile-tile.result c.in_ok-end-in-Good.ensures.within_limits found
    c.root_tile-tile.ensures.tile walked.on_walk (is ∙ ap outcome_seen c.in-Good.is) in
    walks_good s c.args.region.now c.args.level _ c.args.root c.in-Good.subtree _ _ _ _ c.in_ok-end-in-Good.end made low (found.at_root ∙ c.root_tile-tile.ensures.tile) at
    c.requires.found.few c.in_ok-end-in-Good.ensures.appended)
    c.requires.on_walk c.in_ok-number.ensures.told

pub returns-in_ok-end-in-Good-clause-roots : goal.returns-in_ok-end-in-Good-clause-roots
returns-in_ok-end-in-Good-clause-roots g c =
    let layout = c.args.layout.now in
    let levels = ap (λ (l : Layout). l.subtree_levels) c.layout.view_is in
    let found = rw c.in-Good.is at c.in_ok-number.ensures.found in
    both_told _ (λ all. IsWalked (scene_of all layout) c.args.region.now c.args.level c.args.root)
    (λ all. (scene_of all layout).outcome c.root_tile-tile.result ≡ outcome_seen c.in_ok-number.field-0) _
    (λ all walked is goes. let s = scene_of all layout in
    let made = decoded s c.args.region.now c.args.root c.in-Good.subtree c.root_tile-tile.result c.in_ok-end-in-Good.ensures.within_limits found
    c.root_tile-tile.ensures.tile walked.on_walk (is ∙ ap outcome_seen c.in-Good.is) in
    next_good s c.args.region.now c.args.level _ c.args.root c.in-Good.subtree _ _ _ _ c.in_ok-end-in-Good.end made (ap (λ n. c.args.level % n) levels)
    (found.at_root ∙ c.root_tile-tile.ensures.tile) c.in_ok-end-in-Good.ensures.appended goes)
    c.requires.on_walk c.in_ok-number.ensures.told
