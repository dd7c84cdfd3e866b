use Rattle.std.proofs.Common.{◌≡◌, ◌^◌, ◌≤◌, ◌++◌, length, ◌∙◌, ap, sym, arith}
use Rattle.std.specs.Prelude.{take, nat_lt}
use Rattle.implicit_tiling.specs.Tile.{branching}
use Rattle.implicit_tiling.specs.Nodes.{is_tile_in, node_word}
use Rattle.region_scan.proofs.Blocks.{few_nodes}
use Rattle.region_scan.proofs.Scan.{hits, over_limit, within_limit, step_found, count_found, hits_until}
use Rattle.region_scan.proofs.level.append_tiles.Goals as goal

-- the limit is met, and there is one more
pub returns-then-left-eq0-clause-appended : goal.returns-then-left-eq0-clause-appended
returns-then-left-eq0-clause-appended c =
    let test = is_tile_in c.args.subtree.now c.args.region.now c.args.local in
    let value = node_word c.args.subtree.now c.args.local in
    let count : length (hits test value c.loop-index.from) ≡ c.args.limit = omega (arith, c.loop-index.invariant.1, c.if-left-eq0.true) in
    c.loop-index.invariant.0
    ∙ ap (λ xs. c.args.out.now.items ++ xs)
    (over_limit test value c.loop-index.from (branching c.args.subtree.now.scheme ^ c.args.local) c.in-Some.index c.args.limit c.in-Some.ensures count).0

pub returns-then-left-eq0-clause-more : goal.returns-then-left-eq0-clause-more
returns-then-left-eq0-clause-more c =
    let test = is_tile_in c.args.subtree.now c.args.region.now c.args.local in
    let value = node_word c.args.subtree.now c.args.local in
    let count : length (hits test value c.loop-index.from) ≡ c.args.limit = omega (arith, c.loop-index.invariant.1, c.if-left-eq0.true) in
    (over_limit test value c.loop-index.from (branching c.args.subtree.now.scheme ^ c.args.local) c.in-Some.index c.args.limit c.in-Some.ensures count).1

pub overflow_add-from : goal.overflow_add-from
overflow_add-from c =
    let le : c.args.local ≤ c.args.subtree.now.levels = omega (arith, c.requires.local) in
    record { fits = omega (arith, c.in-Some.ensures.high, few_nodes _ _ c.args.local c.subtree.view_is c.subtree.invariant le) }

pub loop-index-preserved : goal.loop-index-preserved
loop-index-preserved c =
    let test = is_tile_in c.args.subtree.now c.args.region.now c.args.local in
    let value = node_word c.args.subtree.now c.args.local in
    let end = branching c.args.subtree.now.scheme ^ c.args.local in (
      step_found test value c.loop-index.from end c.in-Some.index c.tile_word.result c.args.out.now.items c.loop-index.out.items c.push.new.self.items c.in-Some.ensures
          c.loop-index.invariant.0 c.tile_word.ensures c.in_ok-push.ensures.items,
      omega (arith, count_found test value c.loop-index.from end c.in-Some.index c.in-Some.ensures, c.loop-index.invariant.1, c.if-left-eq0.false),
      omega (arith, c.in-Some.ensures.high),
    )

-- no more are found
pub returns-clause-appended : goal.returns-clause-appended
returns-clause-appended c =
    let test = is_tile_in c.args.subtree.now c.args.region.now c.args.local in
    let value = node_word c.args.subtree.now c.args.local in
    let all = hits_until test value c.loop-index.from (branching c.args.subtree.now.scheme ^ c.args.local) c.loop-index.invariant.2 c.in_default.ensures in
    c.loop-index.invariant.0
    ∙ ap (λ xs. c.args.out.now.items ++ xs)
    ((within_limit (hits test value c.loop-index.from) c.args.limit (omega (arith, c.loop-index.invariant.1))).0 ∙ ap (take c.args.limit) (sym all))

pub returns-clause-more : goal.returns-clause-more
returns-clause-more c =
    let test = is_tile_in c.args.subtree.now c.args.region.now c.args.local in
    let value = node_word c.args.subtree.now c.args.local in
    let all = hits_until test value c.loop-index.from (branching c.args.subtree.now.scheme ^ c.args.local) c.loop-index.invariant.2 c.in_default.ensures in
    (within_limit (hits test value c.loop-index.from) c.args.limit (omega (arith, c.loop-index.invariant.1))).1 ∙ ap (λ xs. nat_lt c.args.limit (length xs)) (sym all)
