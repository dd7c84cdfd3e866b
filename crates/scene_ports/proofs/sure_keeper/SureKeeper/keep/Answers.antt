use Rattle.std.proofs.Common.{◌<◌, ℕ, length, ◌∙◌, sym, subst, arith}
use Rattle.std.specs.Prelude.{String, Vec}
use Rattle.std.specs.declared.alloc.Global.{Global}
use Rattle.std.proofs.lemmas.List.{length-map}
use Rattle.std.proofs.lemmas.Result.{on_ok_weaker}
use Rattle.scene_ports.specs.Files.{files_of}
use Rattle.scene_ports.specs.Keeper.{Puts}
use Rattle.scene_ports.specs.declared.keeper.Put.TheVariants.{Kept}
use Rattle.scene_ports.proofs.Named.{Pairs, put_replaced, put_appended, stands_from_place, stands_within}
use Rattle.scene_ports.proofs.Placed.{places_stay}
use Rattle.scene_ports.proofs.sure_keeper.SureKeeper.keep.Goals as goal

-- ---- a name that is there

pub index_mut-requires : goal.index_mut-requires
index_mut-requires c =
    let place = sym (c.args.self.now.placed c.args.name.now) ∙ sym c.get.ensures.value ∙ sym c.copied.ensures ∙ c.in-Some.is in
    let stands = stands_within c.args.name.now (files_of c.args.self.now.files.items) c.in-Some.at (stands_from_place c.args.name.now c.args.self.now.files.items c.in-Some.at place) in
    let within : c.in-Some.at < length c.args.self.now.files.items = simp length-map at stands in
    omega (arith, within)

pub invariant_of-self : goal.invariant_of-self
invariant_of-self c =
    let place = sym (c.args.self.now.placed c.args.name.now) ∙ sym c.get.ensures.value ∙ sym c.copied.ensures ∙ c.in-Some.is in
    let pair : String Global × Vec ℕ Global = (c.in_ok-from_str.field-0, c.in_ok-from_slice.field-0) in
    record {
      names = (put_replaced c.args.name.now c.args.bytes.now c.args.self.now.files.items c.in-Some.at pair place c.in_ok-from_str.ensures.ok c.in_ok-from_slice.ensures.items c.args.self.now.names).0;
      placed = places_stay c.args.self.now.places c.args.name.now c.args.self.now.files.items c.in-Some.at pair c.args.self.now.placed place c.in_ok-from_str.ensures.ok;
    }

pub returns-in-Some-clause-kept : goal.returns-in-Some-clause-kept
returns-in-Some-clause-kept c =
    let place = sym (c.args.self.now.placed c.args.name.now) ∙ sym c.get.ensures.value ∙ sym c.copied.ensures ∙ c.in-Some.is in
    let pair : String Global × Vec ℕ Global = (c.in_ok-from_str.field-0, c.in_ok-from_slice.field-0) in
    (put_replaced c.args.name.now c.args.bytes.now c.args.self.now.files.items c.in-Some.at pair place c.in_ok-from_str.ensures.ok c.in_ok-from_slice.ensures.items c.args.self.now.names).1

-- ---- a name that is not there

pub add-requires : goal.add-requires
add-requires c =
    let absent = sym (c.args.self.now.placed c.args.name.now) ∙ sym c.get.ensures.value ∙ sym c.copied.ensures ∙ c.in-None.is in
    rw c.in_ok-from_str.ensures.ok absent

pub returns-in-None-clause-kept : goal.returns-in-None-clause-kept
returns-in-None-clause-kept c =
    let absent = sym (c.args.self.now.placed c.args.name.now) ∙ sym c.get.ensures.value ∙ sym c.copied.ensures ∙ c.in-None.is in
    let pairs = c.args.self.now.files.items in
    let pair : String Global × Vec ℕ Global = (c.in_ok-from_str.field-0, c.in_ok-from_slice.field-0) in
    let P : Pairs → Type 0 = λ items. Puts c.args.name.now c.args.bytes.now (files_of pairs) (files_of items) Kept in
    on_ok_weaker c.add.result
    (λ added. subst P (sym added) (put_appended c.args.name.now c.args.bytes.now pairs pair absent c.in_ok-from_str.ensures.ok c.in_ok-from_slice.ensures.items c.args.self.now.names).1)
    c.add.ensures.added
