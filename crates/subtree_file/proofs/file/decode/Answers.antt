use Rattle.std.proofs.Common.{rules}
use Rattle.std.specs.Prelude.{Err}
use Rattle.implicit_tiling.specs.Subtree.{Subtree}
use Rattle.implicit_tileset.specs.FileOutcome.{subtree_found}
use Rattle.subtree_file.specs.Decoding.{Decodes}
use Rattle.subtree_file.proofs.Opening.{decodes_opened, decodes_unopened}
use Rattle.subtree_file.proofs.file.decode.Goals as goal

pub returns-in_err-file-clause-stated : goal.returns-in_err-file-clause-stated
returns-in_err-file-clause-stated c = λ find are.
    let e : Decodes {A = Subtree} (subtree_found find c.args.layout.now c.args.root c.args.bytes.now) (Err c.in_err-file.field-0.0) =
    decodes_unopened c.args.layout.now c.args.root c.args.bytes.now c.in_err-file.field-0.0 c.in_err-file.ensures.opened find in
    search (rules, e)

pub returns-clause-stated : goal.returns-clause-stated
returns-clause-stated c =
    decodes_opened c.args.layout.now c.args.root c.args.bytes.now c.in_ok-file.file c.args.buffers.now c.decode.result c.in_ok-file.ensures.opened c.decode.ensures.stated
