use Rattle.std.proofs.Common.{◌∙◌, sym, ap, set}
use Rattle.std.specs.Prelude.{position}
use Rattle.scene_ports.specs.Files.{files_of, HasDistinctNames}
use Rattle.scene_ports.specs.Keeper.{Puts}
use Rattle.scene_ports.specs.declared.keeper.Put.TheVariants.{Kept}
use Rattle.scene_ports.proofs.Named.{put_replaced, put_appended, is_named}
use Rattle.scene_ports.proofs.memory_keeper.keep.Goals as goal

replaced : (c : goal.After-drop-index_mut-in-Some) → HasDistinctNames (files_of (set c.args.files.now.items c.in-Some.at (c.in_ok-from_str.field-0, c.in_ok-from_slice.field-0)))
    × Puts c.args.name.now c.args.bytes.now (files_of c.args.files.now.items) (files_of (set c.args.files.now.items c.in-Some.at (c.in_ok-from_str.field-0, c.in_ok-from_slice.field-0))) Kept
replaced c =
    put_replaced c.args.name.now c.args.bytes.now c.args.files.now.items c.in-Some.at (c.in_ok-from_str.field-0, c.in_ok-from_slice.field-0)
    (ap (position (is_named c.args.name.now)) (sym c.deref.ensures.value) ∙ sym c.in-Some.ensures) c.in_ok-from_str.ensures.ok c.in_ok-from_slice.ensures.items c.requires

pub returns-in-Some-clause-distinct : goal.returns-in-Some-clause-distinct
returns-in-Some-clause-distinct c = (replaced c).0

pub returns-in-Some-clause-kept : goal.returns-in-Some-clause-kept
returns-in-Some-clause-kept c = (replaced c).1

pub returns-in_ok-push-in-None-clause-distinct : goal.returns-in_ok-push-in-None-clause-distinct
returns-in_ok-push-in-None-clause-distinct c =
    rw c.in_ok-push-in-None.ensures.items
    (put_appended c.args.name.now c.args.bytes.now c.args.files.now.items (c.in_ok-from_str.field-0, c.in_ok-from_slice.field-0)
    (ap (position (is_named c.args.name.now)) (sym c.deref.ensures.value) ∙ sym c.in-None.ensures) c.in_ok-from_str.ensures.ok c.in_ok-from_slice.ensures.items c.requires).0

pub returns-in_ok-push-in-None-clause-kept : goal.returns-in_ok-push-in-None-clause-kept
returns-in_ok-push-in-None-clause-kept c =
    rw c.in_ok-push-in-None.ensures.items
    (put_appended c.args.name.now c.args.bytes.now c.args.files.now.items (c.in_ok-from_str.field-0, c.in_ok-from_slice.field-0)
    (ap (position (is_named c.args.name.now)) (sym c.deref.ensures.value) ∙ sym c.in-None.ensures) c.in_ok-from_str.ensures.ok c.in_ok-from_slice.ensures.items c.requires).1
