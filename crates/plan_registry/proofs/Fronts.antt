-- What a look-up, a write of the same value, a promotion and a push leave of a list of entries.
use Rattle.std.proofs.Common.{◌≡◌, ◌≢◌, ◌∙◌, ◌-◌, Bool, true, false, cond, List, [], ◌∷◌, ◌++◌, take, Some, None, refl, sym, ap, subst}
use Rattle.std.specs.Bool.{Decides}
use Rattle.std.specs.List.{AllByRecursion}
use Rattle.std.specs.Option.{option_map_or}
use Rattle.std.specs.Map.{keys_of, lookup, lookup_entry, remove_entry, set_value}
use Rattle.std.proofs.lemmas.Bool.{true≢false}
use Rattle.std.proofs.lemmas.Option.{none-some, same_Some}
use Rattle.lru.specs.LruCache.{promoted, put_entries, LruCache}
use Rattle.plan_registry.specs.Registries.{HasAmong}

module _ {K X : Type 0} where
  module _ (test : K → Bool) where
    same_at : (e : K × X) (es : List (K × X)) (w : X) (b : Bool) → cond b (Some e.1) (lookup test es) ≡ Some w
        → (lookup test es ≡ Some w → set_value test es w ≡ es) → cond b ((e.0, w) ∷ es) (e ∷ set_value test es w) ≡ e ∷ es
    same_at e es w true h rest = ap (λ x. (e.0, x) ∷ es) (sym (same_Some e.1 w h))
    same_at e es w false h rest = ap (λ l. e ∷ l) (rest h)

    -- a value that is written again changes nothing
    pub set_value-same : (es : List (K × X)) (w : X) → lookup test es ≡ Some w → set_value test es w ≡ es
    set_value-same [] w h = refl
    set_value-same (e ∷ es) w h = same_at e es w (test e.0) h (set_value-same es w)

    -- the value stands under a key that passes, and the other entries are those that are left without it
    pub record Stands (es : List (K × X)) (w : X) : Type 0 where
      pub key : K
      pub passes : test key ≡ true
      pub entry : lookup_entry test es ≡ Some (key, w)
      pub among : HasAmong (key, w) (remove_entry test es) es

    stands_at : (e : K × X) (es : List (K × X)) (w : X) (b : Bool) → test e.0 ≡ b → cond b (Some e.1) (lookup test es) ≡ Some w
        → (lookup test es ≡ Some w → Stands es w)
        → (k : K) × (test k ≡ true) × (cond b (Some e) (lookup_entry test es) ≡ Some (k, w)) × HasAmong (k, w) (cond b es (e ∷ remove_entry test es)) (e ∷ es)
    stands_at e es w true t h rest = let is = same_Some e.1 w h in (e.0, t, ap (λ x. Some (e.0, x)) is, ([], es, refl, ap (λ x. (e.0, x) ∷ es) is))
    stands_at e es w false t h rest =
        let r = rest h in
        let a = r.among in
        (r.key, r.passes, r.entry, (e ∷ a.0, a.1, ap (λ l. e ∷ l) a.2, ap (λ l. e ∷ l) a.3))

    pub stands : (es : List (K × X)) (w : X) → lookup test es ≡ Some w → Stands es w
    stands [] w h = absurd (none-some w h)
    stands (e ∷ es) w h = let s = stands_at e es w (test e.0) refl h (stands es w) in record { key = s.0; passes = s.1; entry = s.2; among = s.3 }

    -- a promotion brings it to the front
    pub promoted-stands : (es : List (K × X)) (w : X) (s : Stands es w) → promoted test es ≡ (s.key, w) ∷ remove_entry test es
    promoted-stands es w s = ap (λ o. option_map_or (λ e. e ∷ remove_entry test es) o es) s.entry

    fails_at : (e : K × X) (es : List (K × X)) (b : Bool) → cond b (Some e.1) (lookup test es) ≡ None → (b ≡ false) × (lookup test es ≡ None)
    fails_at e es true h = absurd (none-some e.1 (sym h))
    fails_at e es false h = (refl, h)

    -- where nothing is found no key passes
    pub none_passes : (P : K → Type 0) → ((k : K) → test k ≡ false → P k) → (es : List (K × X)) → lookup test es ≡ None → AllByRecursion P (keys_of es)
    none_passes P f [] h = tt
    none_passes P f (e ∷ es) h = let s = fails_at e es (test e.0) h in (f e.0 s.0, none_passes P f es s.1)

    -- where no key passes nothing is found
    pub none_found : (P : K → Type 0) → ((k : K) → P k → test k ≡ false) → (es : List (K × X)) → AllByRecursion P (keys_of es) → lookup_entry test es ≡ None
    none_found P f [] h = refl
    none_found P f (e ∷ es) h = ap (λ b. cond b (Some e) (lookup_entry test es)) (f e.0 h.0) ∙ none_found P f es h.1

  -- what holds of all entries holds of them in another order
  moved : (P : K × X → Type 0) (x : K × X) (before after : List (K × X)) → AllByRecursion P (before ++ x ∷ after) → AllByRecursion P (x ∷ (before ++ after))
  moved P x [] after h = h
  moved P x (b ∷ before) after h = let r = moved P x before after h.1 in (r.0, (h.0, r.1))

  pub all_in_front : (P : K × X → Type 0) (x : K × X) (without whole : List (K × X)) → HasAmong x without whole → AllByRecursion P whole → AllByRecursion P (x ∷ without)
  all_in_front P x without whole a h = subst (λ l. AllByRecursion P (x ∷ l)) (sym a.2) (moved P x a.0 a.1 (subst (AllByRecursion P) a.3 h))

module _ {K : Type 0} {eq : K → K → Bool} (same : (a b : K) → Decides (eq a b) (a ≡ b)) where
  -- two keys that fail the test differ, and two that differ fail it
  pub differs : (a b : K) → eq a b ≡ false → b ≢ a
  differs a b e is = true≢false (sym ((same a b).1 (sym is)) ∙ e)

  by : (a b : K) (c : Bool) → eq a b ≡ c → b ≢ a → eq a b ≡ false
  by a b true t n = absurd (n (sym ((same a b).0 t)))
  by a b false t n = t

  pub fails : (a b : K) → b ≢ a → eq a b ≡ false
  fails a b n = by a b (eq a b) refl n

  -- a push of a key that isn't there
  pub pushed : {X : Type 0} (c : LruCache K X) (k : K) (v : X) → AllByRecursion (λ p. p ≢ k) (keys_of c.entries) → put_entries eq c k v ≡ (k, v) ∷ take (c.cap - 1) c.entries
  pushed c k v none = ap (λ o. option_map_or (λ e. (e.0, v) ∷ remove_entry (eq k) c.entries) o ((k, v) ∷ take (c.cap - 1) c.entries)) (none_found (eq k) (λ p. p ≢ k) (fails k) c.entries none)
