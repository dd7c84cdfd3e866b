use Rattle.std.proofs.Common.{◌≡◌, ◌+◌, ◌∙◌, length, sym, arith}
use Rattle.std.proofs.lemmas.List.{take_all, take-append-le}
use Rattle.implicit_tiling.specs.Checked.{most_roots}
use Rattle.implicit_tiling.specs.Nodes.{child_words}
use Rattle.tile_walk.proofs.tileset.append_roots.Goals as goal

pub returns-then-len-eq-MOST_KEPT-clause-appended : goal.returns-then-len-eq-MOST_KEPT-clause-appended
returns-then-len-eq-MOST_KEPT-clause-appended c =
    let next = c.args.next.now.items in
    let full : length next ≡ most_roots + 1 = omega (arith, c.if-len-eq-MOST_KEPT.true, c.len.ensures) in
    sym (take-append-le (most_roots + 1) next (child_words c.args.subtree.now c.args.region.now) (omega (arith, full)) ∙ take_all (most_roots + 1) next (omega (arith, full)))
