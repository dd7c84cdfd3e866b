use Rattle.std.proofs.Common.{◌≡◌, ◌++◌, [], ◌∷◌, List, ℕ, Some, ap, ◌∙◌, sym, subst, refl, arith, length}
use Rattle.std.specs.Prelude.{if◌then◌else◌}
use Rattle.std.specs.HashMap.{get_by_text}
use Rattle.std.specs.Map.{update}
use Rattle.std.specs.Str.{bytes_eq}
use Rattle.std.specs.String.{string_bytes}
use Rattle.std.proofs.lemmas.Map.Text.{hash_map_updates_text}
use Rattle.scene_ports.specs.Files.{files_of, HasDistinctNames}
use Rattle.scene_ports.proofs.Named.{Pairs, put_appended}
use Rattle.scene_ports.proofs.Placed.{places_behind}
use Rattle.scene_ports.specs.Places.{HasPlaces}
use Rattle.scene_ports.proofs.sure_keeper.SureKeeper.add.Goals as goal

-- there is room for the pair, so the push succeeds
pushed : (c : goal.After-push) → c.push.new.self.items ≡ c.args.self.now.files.items ++ c.args.pair ∷ []
pushed c =
    c.push.ensures.items ∙ ap (λ b. if b then c.reserve.new.self.items ++ c.args.pair ∷ [] else c.reserve.new.self.items) (c.push.ensures.succeeds (omega (arith, c.in_ok-reserve.ensures.ok)))
    ∙ ap (λ items. items ++ c.args.pair ∷ []) c.in_ok-reserve.ensures.items

updated : (c : goal.After-push) → (other : List ℕ) → get_by_text c.insert.new.self other ≡ update bytes_eq (get_by_text c.args.self.now.places) (string_bytes c.in_ok-key.key) (Some c.len.result) other
updated c = hash_map_updates_text (string_bytes c.in_ok-key.key) c.args.self.now.places c.insert.new.self _ c.in_ok-insert.ensures.updates

pub invariant_of-self-2 : goal.invariant_of-self-2
invariant_of-self-2 c =
    let name = string_bytes c.args.pair.0 in
    let pairs = c.args.self.now.files.items in
    let end : c.len.result ≡ length pairs = omega arith in
    let named : string_bytes c.in_ok-key.key ≡ name = c.in_ok-key.ensures.cases in
    let written : (other : List ℕ) → get_by_text c.insert.new.self other ≡ update bytes_eq (get_by_text c.args.self.now.places) name (Some (length pairs)) other = λ other.
    updated c other ∙ ap (λ n. update bytes_eq (get_by_text c.args.self.now.places) n (Some c.len.result) other) named
    ∙ ap (λ at. update bytes_eq (get_by_text c.args.self.now.places) name (Some at) other) end in
    record {
      names = (let P : Pairs → Type 0 = λ items. HasDistinctNames (files_of items) in
          subst P (sym (pushed c)) (put_appended name c.args.pair.1.items pairs c.args.pair c.requires refl refl c.args.self.now.names).0);
      placed = (let P : Pairs → Type 0 = λ items. HasPlaces c.insert.new.self items in
          subst P (sym (pushed c)) (places_behind c.args.self.now.places c.insert.new.self name pairs c.args.pair c.args.self.now.placed c.requires refl written));
    }
