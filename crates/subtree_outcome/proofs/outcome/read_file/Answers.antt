use Rattle.std.proofs.Common.{◌≡◌, ◌∙◌, ℕ, ◌≤◌, List, map, length, sym, ap, subst, arith}
use Rattle.std.specs.Prelude.{IfOk, IfSome, Ok, Err, Result, string_bytes}
use Rattle.std.proofs.lemmas.List.{length-map}
use Rattle.implicit_tiling.specs.Files.{Files, file}
use Rattle.implicit_tiling.specs.Limits.{most_file_bytes}
use Rattle.implicit_tileset.specs.SubtreeFile.{outcome_from}
use Rattle.implicit_tileset.specs.FileOutcome.{subtree_found, needed_names}
use Rattle.subtree_file.specs.declared.buffers.BufferFile.{BufferFile}
use Rattle.subtree_file.specs.Buffers.{AreFetched}
use Rattle.subtree_outcome.specs.declared.outcome.Outcome.{Outcome}
use Rattle.subtree_outcome.specs.declared.outcome.WalkStop.{WalkStop}
use Rattle.subtree_outcome.specs.Outcomes.{outcome_seen}
use Rattle.subtree_outcome.specs.Fetched.{HasFetchedBuffers}
use Rattle.scene_ports.specs.Counts.{more_by}
use Rattle.subtree_outcome.proofs.Reading.{fault_unopened, fault_unnamed, fault_decoded, fault_needs, fault_names_needs, any_needs, told_decoded, named_needs, of_told}
use Rattle.subtree_outcome.proofs.outcome.read_file.Goals as goal

pub returns-in-Err-clause-told : goal.returns-in-Err-clause-told
returns-in-Err-clause-told g c =
    let told = g.S.FileSource.told c.args.files.now in
    let P : Result Outcome WalkStop → Type 0 = λ r. IfSome told (λ all. IfOk r (λ found. outcome_from (subtree_found (λ name. file name all) c.args.layout.now c.args.root c.args.bytes.now) ≡ outcome_seen found)) in
    subst P (sym c.outcome_of_fault.ensures) (fault_unopened told c.args.layout.now c.args.root c.args.bytes.now c.in-Err.fault c.in-Err.ensures.opened)

pub returns-in-Err-clause-fetched : goal.returns-in-Err-clause-fetched
returns-in-Err-clause-fetched g c =
    let n = g.S.FileSource.fetches c.args.files.now in
    let P : Result Outcome WalkStop → Type 0 = λ r. IfOk r (λ found. HasFetchedBuffers c.args.layout.now (needed_names c.args.layout.now c.args.root c.args.bytes.now) n n) in
    subst P (sym c.outcome_of_fault.ensures) (fault_needs c.args.layout.now c.args.root c.args.bytes.now c.in-Err.fault n c.in-Err.ensures.opened)

pub returns-in-Err-needed_buffers-clause-told : goal.returns-in-Err-needed_buffers-clause-told
returns-in-Err-needed_buffers-clause-told g c =
    let told = g.S.FileSource.told c.args.files.now in
    let P : Result Outcome WalkStop → Type 0 = λ r. IfSome told (λ all. IfOk r (λ found. outcome_from (subtree_found (λ name. file name all) c.args.layout.now c.args.root c.args.bytes.now) ≡ outcome_seen found)) in
    subst P (sym c.outcome_of_fault-in-Err-needed_buffers.ensures)
    (fault_unnamed told c.args.layout.now c.args.root c.args.bytes.now c.in-Ok.file c.in-Err-needed_buffers.fault c.in-Ok.ensures.opened c.in-Ok.ensures.used c.in-Err-needed_buffers.ensures.stated)

pub returns-in-Err-needed_buffers-clause-fetched : goal.returns-in-Err-needed_buffers-clause-fetched
returns-in-Err-needed_buffers-clause-fetched g c =
    let n = g.S.FileSource.fetches c.args.files.now in
    let P : Result Outcome WalkStop → Type 0 = λ r. IfOk r (λ found. HasFetchedBuffers c.args.layout.now (needed_names c.args.layout.now c.args.root c.args.bytes.now) n n) in
    subst P (sym c.outcome_of_fault-in-Err-needed_buffers.ensures)
    (fault_names_needs c.args.layout.now c.args.root c.args.bytes.now c.in-Ok.file c.in-Err-needed_buffers.fault n c.in-Ok.ensures.opened c.in-Err-needed_buffers.ensures.stated)

pub returns-in-Ok-decode-clause-told : goal.returns-in-Ok-decode-clause-told
returns-in-Ok-decode-clause-told g c =
    let told = g.S.FileSource.told c.args.files.now in
    let names = map string_bytes c.in-Ok-needed_buffers.names.items in
    let buffers = c.in_ok-buffers.buffers.items in
    let P : List (List ℕ) → Type 0 = λ ns. IfSome told (λ all. AreFetched (λ name. file name all) most_file_bytes ns buffers) in
    let Q : List BufferFile → Type 0 = λ bs. IfSome told (λ all. AreFetched (λ name. file name all) most_file_bytes names bs) in
    let fetched : IfSome told (λ all. AreFetched (λ name. file name all) most_file_bytes names c.deref-2.result.now) =
    subst Q (sym c.deref-2.ensures.value) (subst P (ap (map string_bytes) c.deref.ensures.value) c.in_ok-buffers.ensures.told) in
    told_decoded told c.args.layout.now c.args.root c.args.bytes.now c.in-Ok.file names c.deref-2.result.now (Ok c.in-Ok-decode.subtree) c.in-Ok.ensures.opened c.in-Ok-needed_buffers.ensures.stated
    fetched c.in-Ok-decode.ensures.stated

pub returns-in-Ok-decode-clause-fetched : goal.returns-in-Ok-decode-clause-fetched
returns-in-Ok-decode-clause-fetched g c =
    let names = map string_bytes c.in-Ok-needed_buffers.names.items in
    let count : length c.deref.result.now ≡ length names = ap length c.deref.ensures.value ∙ sym (length-map c.in-Ok-needed_buffers.names.items string_bytes) in
    named_needs c.args.layout.now c.args.root c.args.bytes.now c.in-Ok.file names _ _ c.in-Ok.ensures.opened c.in-Ok-needed_buffers.ensures.stated
    (omega (arith, c.in-Ok-needed_buffers.ensures.few, length-map c.in-Ok-needed_buffers.names.items string_bytes))
    (c.in_ok-buffers.ensures.fetched ∙ ap (λ n. more_by n (g.S.FileSource.fetches c.args.files.now)) count)

pub returns-clause-told : goal.returns-clause-told
returns-clause-told g c =
    let told = g.S.FileSource.told c.args.files.now in
    let names = map string_bytes c.in-Ok-needed_buffers.names.items in
    let buffers = c.in_ok-buffers.buffers.items in
    let P : List (List ℕ) → Type 0 = λ ns. IfSome told (λ all. AreFetched (λ name. file name all) most_file_bytes ns buffers) in
    let Q : List BufferFile → Type 0 = λ bs. IfSome told (λ all. AreFetched (λ name. file name all) most_file_bytes names bs) in
    let fetched : IfSome told (λ all. AreFetched (λ name. file name all) most_file_bytes names c.deref-2.result.now) =
    subst Q (sym c.deref-2.ensures.value) (subst P (ap (map string_bytes) c.deref.ensures.value) c.in_ok-buffers.ensures.told) in
    let R : Result Outcome WalkStop → Type 0 = λ r. IfSome told (λ all. IfOk r (λ found. outcome_from (subtree_found (λ name. file name all) c.args.layout.now c.args.root c.args.bytes.now) ≡ outcome_seen found)) in
    subst R (sym c.outcome_of_fault-in-Err-decode.ensures)
    (fault_decoded told c.args.layout.now c.args.root c.args.bytes.now c.in-Ok.file names c.deref-2.result.now c.in-Err-decode.fault c.in-Ok.ensures.opened c.in-Ok-needed_buffers.ensures.stated
    fetched c.in-Err-decode.ensures.stated)

pub returns-clause-fetched : goal.returns-clause-fetched
returns-clause-fetched g c =
    let names = map string_bytes c.in-Ok-needed_buffers.names.items in
    let count : length c.deref.result.now ≡ length names = ap length c.deref.ensures.value ∙ sym (length-map c.in-Ok-needed_buffers.names.items string_bytes) in
    any_needs c.args.layout.now c.args.root c.args.bytes.now c.outcome_of_fault-in-Err-decode.result _ _
    (named_needs c.args.layout.now c.args.root c.args.bytes.now c.in-Ok.file names _ _ c.in-Ok.ensures.opened c.in-Ok-needed_buffers.ensures.stated
    (omega (arith, c.in-Ok-needed_buffers.ensures.few, length-map c.in-Ok-needed_buffers.names.items string_bytes))
    (c.in_ok-buffers.ensures.fetched ∙ ap (λ n. more_by n (g.S.FileSource.fetches c.args.files.now)) count))
