use Rattle.std.proofs.Common.{◌≡◌, ◌∙◌, ℕ, rules, sym, ap, subst}
use Rattle.std.specs.Prelude.{option_map, Result, Ok, Err}
use Rattle.implicit_tiling.specs.Subtree.{Subtree}
use Rattle.implicit_tileset.specs.BufferFiles.{used_uris}
use Rattle.implicit_tileset.specs.FileOutcome.{Sources}
use Rattle.subtree_file.specs.Decoding.{Decodes}
use Rattle.subtree_file.specs.Needed.{shown}
use Rattle.subtree_file.specs.Buffers.{bytes_under}
use Rattle.subtree_file.specs.Opened.{opened_subtree}
use Rattle.subtree_file.proofs.Opening.{same_rows, same_placed, buffers_err, files_err, placed_of}
use Rattle.subtree_file.proofs.Sound.{sound, of_layout, rules as sound_rules, at_root}
use Rattle.subtree_file.proofs.file.SubtreeFile.decode.Goals as goal

pub returns-in_err-check_buffers-clause-stated : goal.returns-in_err-check_buffers-clause-stated
returns-in_err-check_buffers-clause-stated c = λ find are.
    let o = c.args.self.now in
    let fault = c.in_err-check_buffers.field-0.0 in
    let same = same_rows c.self.inside.parts c.self.inside.binary c.self.inside.used.items c.deref.result.now c.is_some.result o c.self.view_is c.deref.ensures.value c.is_some.ensures in
    let P : Result (Unit {0}) ℕ → Type 0 = λ r. Decodes r (Err fault) in
    let e : Decodes (opened_subtree find c.args.layout.now c.args.root o) (Err fault) =
    buffers_err find c.args.layout.now c.args.root o fault c.requires.used (subst P same c.in_err-check_buffers.ensures) in
    search (rules, e)

pub returns-in_err-check_files-clause-stated : goal.returns-in_err-check_files-clause-stated
returns-in_err-check_files-clause-stated c = λ find are.
    let o = c.args.self.now in
    let fault = c.in_err-check_files.field-0.0 in
    let same = same_rows c.self.inside.parts c.self.inside.binary c.self.inside.used.items c.deref.result.now c.is_some.result o c.self.view_is c.deref.ensures.value c.is_some.ensures in
    let e : Decodes (opened_subtree find c.args.layout.now c.args.root o) (Err fault) =
    files_err find c.args.layout.now c.args.root o c.args.buffers.now fault c.requires.used (sym same ∙ c.in_ok-check_buffers.ensures) are c.in_err-check_files.ensures in
    search (rules, e)

pub returns-clause-stated : goal.returns-clause-stated
returns-clause-stated c = λ find are.
    let o = c.args.self.now in
    let inside = c.self.inside in
    let same = same_rows inside.parts inside.binary inside.used.items c.deref.result.now c.is_some.result o c.self.view_is c.deref.ensures.value c.is_some.ensures in
    let uris = ap shown c.deref-3.ensures.value ∙ c.in_ok-uris.ensures ∙ ap (used_uris inside.parts) c.deref-2.ensures.value in
    let placed = same_placed c.args.layout.now c.args.root inside.parts inside.binary inside.used.items c.deref-4.result.now c.deref-3.result.now c.args.buffers.now o c.self.view_is c.deref-4.ensures.value uris in
    let P : Result Subtree ℕ → Type 0 = λ r. Decodes r c.decode_sources.result in
    subst P (placed ∙ sym (placed_of find c.args.layout.now c.args.root o c.args.buffers.now c.requires.used (sym same ∙ c.in_ok-check_buffers.ensures) are c.in_ok-check_files.ensures)) c.decode_sources.ensures

pub returns-clause-of_layout : goal.returns-clause-of_layout
returns-clause-of_layout c =
    let s : Sources = record { parts = c.self.inside.parts; binary = option_map (λ b. b.now) c.self.inside.binary; named = bytes_under (shown c.deref-3.result.now) c.args.buffers.now } in
    of_layout c.args.layout.now c.args.root c.decode_sources.result (sound c.args.layout.now c.args.root s c.deref-4.result.now c.decode_sources.result c.requires.start c.decode_sources.ensures)

pub returns-clause-rules : goal.returns-clause-rules
returns-clause-rules c =
    let s : Sources = record { parts = c.self.inside.parts; binary = option_map (λ b. b.now) c.self.inside.binary; named = bytes_under (shown c.deref-3.result.now) c.args.buffers.now } in
    sound_rules c.args.layout.now c.args.root c.decode_sources.result (sound c.args.layout.now c.args.root s c.deref-4.result.now c.decode_sources.result c.requires.start c.decode_sources.ensures)

pub returns-clause-at_root : goal.returns-clause-at_root
returns-clause-at_root c =
    let s : Sources = record { parts = c.self.inside.parts; binary = option_map (λ b. b.now) c.self.inside.binary; named = bytes_under (shown c.deref-3.result.now) c.args.buffers.now } in
    at_root c.args.layout.now c.args.root c.decode_sources.result (sound c.args.layout.now c.args.root s c.deref-4.result.now c.decode_sources.result c.requires.start c.decode_sources.ensures)
