use Rattle.std.proofs.Common.{◌≡◌, ◌∙◌, [], sym, ap, arith}
use Rattle.subtree_file.specs.Buffers.{bytes_under}
use Rattle.implicit_tileset.specs.FileOutcome.{or_nothing}
use Rattle.subtree_file.proofs.Fetching.{under_step, under_end}
use Rattle.subtree_file.proofs.sources.bytes_under.Goals as goal

pub loop-index-preserved : goal.loop-index-preserved
loop-index-preserved c =
    under_step c.args.uris.now c.args.files.now c.loop-index.index (record { ref_ptr = (0, 0); now = [] }) c.args.uri.now (omega (arith, c.loop-index-test.true, c.min-index-end.ensures))
    (omega (arith, c.loop-index-test.true, c.min-index-end.ensures)) (sym c.eq.ensures ∙ c.if-eq.false)
    ∙ c.loop-index.invariant

pub returns : goal.returns
returns c =
    sym (ap or_nothing (sym c.loop-index.invariant
    ∙ under_end c.args.uris.now c.args.files.now c.loop-index.index c.args.uri.now (omega (arith, c.loop-index-test.false, c.min-index-end.ensures))))
