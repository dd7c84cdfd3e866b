use Rattle.std.proofs.Common.{◌≡◌, ◌+◌, ◌<◌, ◌^◌, ◌++◌, length, ◌∙◌, ap, sym, arith, subst}
use Rattle.bitstream.specs.Bits.{IsFirstOne}
use Rattle.implicit_tiling.specs.Subtree.{Subtree}
use Rattle.implicit_tiling.specs.Tile.{branching}
use Rattle.implicit_tiling.specs.Nodes.{is_tile_in, node_word}
use Rattle.region_scan.specs.Found.{Extends}
use Rattle.region_scan.proofs.Scan.{hits, over_limit, step_found, count_found, hits_until, if_err}
use Rattle.reference_scan.proofs.Scan.{first_here, value_here, none_here}
use Rattle.reference_scan.proofs.level.append_tiles.Goals as goal
use Rattle.reference_scan.proofs.level.append_tiles.Goals.{in-Some+else-left-eq0+in_ok-push, in_default}

-- the index is one of the level, and the first one from there on
first_one : (c : goal.Then-left-eq0) → IsFirstOne (is_tile_in c.args.subtree.now c.args.region.now c.args.local)
    c.loop-index.index (branching c.args.subtree.now.scheme ^ c.args.local) c.loop-index.index
first_one c =
    let in_level : c.loop-index.index < branching c.args.subtree.now.scheme ^ c.args.local =
    subst (λ (u : Subtree). c.loop-index.index < branching u.scheme ^ c.args.local) c.subtree.view_is
    (omega (arith, c.nodes_at-index-end.ensures, c.loop-index-test.true)) in
    first_here (is_tile_in c.args.subtree.now c.args.region.now c.args.local) (node_word c.args.subtree.now c.args.local)
    c.loop-index.index (branching c.args.subtree.now.scheme ^ c.args.local) c.in-Some.word in_level c.in-Some.ensures

-- the limit is met, and there is one more
pub returns-then-left-eq0-clause-appended : goal.returns-then-left-eq0-clause-appended
returns-then-left-eq0-clause-appended c =
    let test = is_tile_in c.args.subtree.now c.args.region.now c.args.local in
    let value = node_word c.args.subtree.now c.args.local in
    let count : length (hits test value c.loop-index.index) ≡ c.args.limit = omega (arith, c.loop-index.invariant.1, c.if-left-eq0.true) in
    c.loop-index.invariant.0
    ∙ ap (λ xs. c.args.out.now.items ++ xs)
    (over_limit test value c.loop-index.index (branching c.args.subtree.now.scheme ^ c.args.local) c.loop-index.index c.args.limit (first_one c) count).0

pub returns-then-left-eq0-clause-more : goal.returns-then-left-eq0-clause-more
returns-then-left-eq0-clause-more c =
    let test = is_tile_in c.args.subtree.now c.args.region.now c.args.local in
    let value = node_word c.args.subtree.now c.args.local in
    let count : length (hits test value c.loop-index.index) ≡ c.args.limit = omega (arith, c.loop-index.invariant.1, c.if-left-eq0.true) in
    (over_limit test value c.loop-index.index (branching c.args.subtree.now.scheme ^ c.args.local) c.loop-index.index c.args.limit (first_one c) count).1

pub returns-in_err-push-clause-begun : goal.returns-in_err-push-clause-begun
returns-in_err-push-clause-begun c =
    if_err (λ e. Extends c.args.out.now.items c.push.new.self.items) c.from_residual.result
    (λ e. (
      hits (is_tile_in c.args.subtree.now c.args.region.now c.args.local) (node_word c.args.subtree.now c.args.local) c.loop-index.index,
      c.in_err-push.ensures.items ∙ c.loop-index.invariant.0,
    ))

pub loop-index-preserved : goal.loop-index-preserved
loop-index-preserved c =
    let test = is_tile_in c.args.subtree.now c.args.region.now c.args.local in
    let value = node_word c.args.subtree.now c.args.local in
    let n = c.loop-index.index in
    elim c.match-tile_in.branch [
      | in-Some+else-left-eq0+in_ok-push w ↦
          let first = first_here test value n (n + 1) w.in-Some.word (omega arith) w.in-Some.ensures in (
            step_found test value n (n + 1) n w.in-Some.word c.args.out.now.items c.loop-index.out.items c.match-tile_in.out.items
                first c.loop-index.invariant.0 (value_here test value n w.in-Some.word w.in-Some.ensures)
                (ap (λ v. v.items) w.out-is ∙ w.in_ok-push.ensures.items),
            omega (arith, count_found test value n (n + 1) n first, c.loop-index.invariant.1, w.left-is, w.if-left-eq0.false),
          )
      | in_default w ↦
          let passed_over = hits_until test value n (n + 1) (omega arith) (none_here test value n w.in_default.ensures) in (
            ap (λ v. v.items) w.out-is ∙ c.loop-index.invariant.0 ∙ ap (λ xs. c.args.out.now.items ++ xs) (sym passed_over),
            omega (arith, ap length passed_over, c.loop-index.invariant.1, w.left-is),
          )
    ]
