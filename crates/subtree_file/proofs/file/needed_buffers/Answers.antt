use Rattle.std.proofs.Common.{ℕ, List, ◌∙◌, rules, sym, ap, subst}
use Rattle.std.specs.Prelude.{Result, Err}
use Rattle.implicit_tileset.specs.SubtreeFile.{and_then}
use Rattle.implicit_tileset.specs.FileOutcome.{needed_names}
use Rattle.subtree_file.specs.Needed.{DecodesNames}
use Rattle.subtree_file.specs.Opened.{opened_names}
use Rattle.subtree_file.proofs.Opening.{names_opened, names_unopened}
use Rattle.subtree_file.proofs.file.needed_buffers.Goals as goal

pub returns-in_err-file-clause-stated : goal.returns-in_err-file-clause-stated
returns-in_err-file-clause-stated c =
    let e : DecodesNames (needed_names c.args.layout.now c.args.root c.args.bytes.now) (Err c.in_err-file.field-0.0) =
    names_unopened c.args.layout.now c.args.root c.args.bytes.now c.in_err-file.field-0.0 c.in_err-file.ensures.opened in
    search (rules, e)

pub returns-clause-stated : goal.returns-clause-stated
returns-clause-stated c =
    let layout = c.args.layout.now in
    let P : Result (List (List ℕ)) ℕ → Type 0 = λ r. DecodesNames r c.needed_buffers.result in
    subst P (sym (names_opened layout c.args.root c.args.bytes.now ∙ ap (λ r. and_then r (opened_names layout c.args.root)) c.in_ok-file.ensures.opened)) c.needed_buffers.ensures.stated
