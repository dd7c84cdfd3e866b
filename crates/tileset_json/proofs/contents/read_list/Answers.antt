use Rattle.std.proofs.Common.{◌≡◌, ◌≤◌, ◌∷◌, [], ◌++◌, length, sym, ◌∙◌, rules, arith}
use Rattle.std.specs.Prelude.{Some, None}
use Rattle.serde_json.specs.View.{view, items_view}
use Rattle.serde_json.specs.Find.{as_array}
use Rattle.implicit_tileset.specs.Tileset.{template_of}
use Rattle.implicit_tileset.proofs.EachRead.{goes_on-start, goes_on-step, goes_on-fails, goes_on-end}
use Rattle.tileset_json.proofs.contents.read_list.Goals as goal

pub loop-value-init : goal.loop-value-init
loop-value-init c = rw c.new-templates.ensures.items (goes_on-start template_of c.deref-value-items.result.now)

pub returns-in_default-2 : goal.returns-in_default-2
returns-in_default-2 c =
    let values = c.deref-value-items.result.now in
    let found : as_array (view c.args.list.now) ≡ Some (items_view values) = search rules in
    let missing : template_of (view c.value-item.result) ≡ None = search rules in
    rw found (sym (goes_on-fails template_of c.loop-value.templates.items values c.loop-value.value-index c.value-item.result (omega arith) c.value-item.is (sym missing)) ∙ c.loop-value.invariant)

pub loop-value-preserved : goal.loop-value-preserved
loop-value-preserved c =
    let values = c.deref-value-items.result.now in
    let there : template_of (view c.value-item.result) ≡ Some c.in-Some-2.template = search rules in
    let pushed : c.push.new.self.items ≡ c.loop-value.templates.items ++ c.in-Some-2.template ∷ [] = search rules in
    rw pushed (goes_on-step template_of c.loop-value.templates.items c.in-Some-2.template values c.loop-value.value-index c.value-item.result (omega arith) c.value-item.is (sym there)
    ∙ c.loop-value.invariant)

pub returns : goal.returns
returns c =
    let values = c.deref-value-items.result.now in
    let found : as_array (view c.args.list.now) ≡ Some (items_view values) = search rules in
    let past : length values ≤ c.loop-value.value-index = omega arith in
    rw found (sym (goes_on-end template_of c.loop-value.templates.items values c.loop-value.value-index past) ∙ c.loop-value.invariant)
