use Rattle.std.proofs.Common.{rules, Some, ap, ◌∙◌, sym}
use Rattle.std.proofs.lemmas.Fn.{always_returns_same}
use Rattle.scene_ports.proofs.ByName.{compares, searchable, none_at_gap, found_at_place}
use Rattle.scene_ports.proofs.sorted_files.find_sorted.Goals as goal

pub returns-in-Ok : goal.returns-in-Ok
returns-in-Ok c =
    let at = c.in-Ok.ensures.position (compares c.args.name.now) (always_returns_same _ _ _ (λ a r f' called. (search rules, search rules))) in
    ap Some c.deref.ensures.value ∙ sym (found_at_place c.args.name.now c.args.files.now c.in-Ok.at c.index-files-at.result c.requires c.in-Ok.ensures.bound (at c.index-files-at.result))

pub returns-in-Err : goal.returns-in-Err
returns-in-Err c =
    let gap = c.in-Err.ensures.position (compares c.args.name.now) (always_returns_same _ _ _ (λ a r f' called. (search rules, search rules))) in
    sym (none_at_gap c.args.name.now c.args.files.now _ (gap (searchable c.args.files.now c.args.name.now c.requires)))
