use Rattle.std.proofs.Common.{◌≡◌, ◌∙◌, sym, ap, subst, arith, map}
use Rattle.std.specs.Prelude.{Ok, string_bytes}
use Rattle.std.proofs.lemmas.List.{length-map}
use Rattle.implicit_tileset.specs.BufferFiles.{used_uris}
use Rattle.subtree_file.specs.Needed.{shown}
use Rattle.subtree_file.specs.Opened.{Opened, opened_names}
use Rattle.subtree_file.proofs.Opening.{named_few, names_ok}
use Rattle.subtree_file.proofs.file.SubtreeFile.needed_buffers.Goals as goal

pub returns-clause-stated : goal.returns-clause-stated
returns-clause-stated c =
    let parts = c.self.inside.parts in
    let names = map string_bytes c.in_ok-names.names.items in
    let P : Opened → Type 0 = λ o. opened_names c.args.layout.now c.args.root o ≡ Ok names in
    subst P c.self.view_is
    (names_ok c.args.layout.now c.args.root parts c.self.inside.binary c.self.inside.used.items c.deref.result.now c.deref-2.result.now c.is_some.result c.as_str.result.now c.deref-3.result.now names
    c.deref.ensures.value c.deref-2.ensures.value c.is_some.ensures c.in_ok-check_buffers.ensures
    (c.as_str.ensures.value ∙ c.in_ok-folder.ensures)
    (ap shown c.deref-3.ensures.value ∙ c.in_ok-uris.ensures)
    c.in_ok-names.ensures)

pub returns-clause-few : goal.returns-clause-few
returns-clause-few c =
    let parts = c.self.inside.parts in
    let names = map string_bytes c.in_ok-names.names.items in
    let P : Opened → Type 0 = λ o. opened_names c.args.layout.now c.args.root o ≡ Ok names in
    let stated : opened_names c.args.layout.now c.args.root c.args.self.now ≡ Ok names = subst P c.self.view_is
    (names_ok c.args.layout.now c.args.root parts c.self.inside.binary c.self.inside.used.items c.deref.result.now c.deref-2.result.now c.is_some.result c.as_str.result.now c.deref-3.result.now names
    c.deref.ensures.value c.deref-2.ensures.value c.is_some.ensures c.in_ok-check_buffers.ensures
    (c.as_str.ensures.value ∙ c.in_ok-folder.ensures)
    (ap shown c.deref-3.ensures.value ∙ c.in_ok-uris.ensures)
    c.in_ok-names.ensures) in
    omega (arith, named_few c.args.layout.now c.args.root c.args.self.now names c.requires stated, length-map c.in_ok-names.names.items (string_bytes))
