-- The numbers of the frames in the linked list: what its filling and a promotion leave.
use Rattle.std.proofs.Common.{◌≡◌, ◌∙◌, ℕ, zero, suc, ◌+◌, ◌-◌, ◌<◌, ◌≤◌, Bool, true, false, not, cond, eqb, List, [], ◌∷◌, length, filter, take, Some, None, refl, sym, ap, subst, ⊎_elim, arith}
use Rattle.std.specs.List.{range_with_len}
use Rattle.std.specs.Option.{option_map_or}
use Rattle.std.specs.Map.{keys_of, lookup_entry, remove_entry}
use Rattle.std.proofs.lemmas.List.FromFn.{length-range_with_len}
use Rattle.std.proofs.lemmas.Map.Entries.{length-keys_of}
use Rattle.std.proofs.lemmas.Bool.{cases_eq, eq-eqb, ne_eqb}
use Rattle.lru.specs.LruCache.{LruCache, promoted, put_entries}
use Rattle.frame_pool.specs.Moves.{asked_last}
use Rattle.frame_pool.proofs.Fronts.{filter-none}

module _ {X : Type 0} (f : ℕ) where
  -- how often f stands at the front of a longer list
  abbrev StandsOnce : List (ℕ × X) → Type 0
  StandsOnce es = length (filter (λ g. eqb g f) (keys_of es)) ≡ 1

  rest_once : (e : ℕ × X) (es : List (ℕ × X)) (b : Bool) → eqb e.0 f ≡ b → StandsOnce (e ∷ es) → length (cond b (e.0 ∷ filter (λ g. eqb g f) (keys_of es)) (filter (λ g. eqb g f) (keys_of es))) ≡ 1
  rest_once e es b is once = subst (λ c. length (cond c (e.0 ∷ filter (λ g. eqb g f) (keys_of es)) (filter (λ g. eqb g f) (keys_of es))) ≡ 1) is once

  -- the entry of f
  pub entry-of : (es : List (ℕ × X)) → StandsOnce es → (e : ℕ × X) × (lookup_entry (eqb f) es ≡ Some e) × (e.0 ≡ f)
  entry-of [] once = absurd (omega arith)
  entry-of (e ∷ es) once = ⊎_elim
      (λ (same : e.0 ≡ f). (e, ap (λ b. cond b (Some e) (lookup_entry (eqb f) es)) (eq-eqb f e.0 (sym same)), same))
      (λ (other : e.0 ≡ f → ⊥).
      let there = entry-of es (rest_once e es false (ne_eqb e.0 f other) once) in
      (there.0, ap (λ b. cond b (Some e) (lookup_entry (eqb f) es)) (ne_eqb f e.0 (λ k. other (sym k))) ∙ there.1, there.2))
      (cases_eq e.0 f)

  -- the other numbers
  pub keys-without : (es : List (ℕ × X)) → StandsOnce es → keys_of (remove_entry (eqb f) es) ≡ filter (λ g. not (eqb g f)) (keys_of es)
  keys-without [] once = refl
  keys-without (e ∷ es) once = ⊎_elim
      (λ (same : e.0 ≡ f).
      let one = rest_once e es true (eq-eqb e.0 f same) once in
      ap (λ b. keys_of (cond b es (e ∷ remove_entry (eqb f) es))) (eq-eqb f e.0 (sym same))
      ∙ sym (filter-none (λ g. eqb g f) (keys_of es) (omega arith))
      ∙ ap (λ b. cond (not b) (e.0 ∷ filter (λ g. not (eqb g f)) (keys_of es)) (filter (λ g. not (eqb g f)) (keys_of es))) (sym (eq-eqb e.0 f same)))
      (λ (other : e.0 ≡ f → ⊥).
      ap (λ b. keys_of (cond b es (e ∷ remove_entry (eqb f) es))) (ne_eqb f e.0 (λ k. other (sym k)))
      ∙ ap (λ gs. e.0 ∷ gs) (keys-without es (rest_once e es false (ne_eqb e.0 f other) once))
      ∙ ap (λ b. cond (not b) (e.0 ∷ filter (λ g. not (eqb g f)) (keys_of es)) (filter (λ g. not (eqb g f)) (keys_of es))) (sym (ne_eqb e.0 f other)))
      (cases_eq e.0 f)

  -- a promotion
  pub keys-promoted : (es : List (ℕ × X)) → StandsOnce es → keys_of (promoted (eqb f) es) ≡ asked_last f (keys_of es)
  keys-promoted es once =
      let there = entry-of es once in
      ap (λ o. keys_of (option_map_or (λ e. e ∷ remove_entry (eqb f) es) o es)) there.1
      ∙ ap (λ k. k ∷ keys_of (remove_entry (eqb f) es)) there.2
      ∙ ap (λ ks. f ∷ ks) (keys-without es once)

  -- a number below those of a range isn't there
  pub no-entry_below : (es : List (ℕ × X)) (a n : ℕ) → keys_of es ≡ range_with_len a n → f < a → lookup_entry (eqb f) es ≡ None
  no-entry_below [] a n is less = refl
  no-entry_below (e ∷ es) a zero is less = cc
  no-entry_below (e ∷ es) a (suc n) is less =
      let head : e.0 ≡ a = cc in
      let tail : keys_of es ≡ range_with_len (a + 1) n = cc in
      let apart : f ≡ e.0 → ⊥ = λ same. omega arith in
      ap (λ b. cond b (Some e) (lookup_entry (eqb f) es)) (ne_eqb f e.0 apart) ∙ no-entry_below es (a + 1) n tail (omega arith)

module _ {X : Type 0} (c : LruCache ℕ X) (v : X) where
  all_taken : {Y : Type 0} (n : ℕ) (ys : List Y) → length ys ≤ n → take n ys ≡ ys
  all_taken zero [] h = refl
  all_taken zero (y ∷ ys) h = absurd (omega arith)
  all_taken (suc n) [] h = refl
  all_taken (suc n) (y ∷ ys) h = ap (λ zs. y ∷ zs) (all_taken n ys (omega arith))

  -- the frame before the first one is put in front of it
  pub keys-put : (f n : ℕ) → keys_of c.entries ≡ range_with_len (f + 1) n → n < c.cap → keys_of (put_entries eqb c f v) ≡ range_with_len f (suc n)
  keys-put f n is less =
      let many : length c.entries ≡ n = sym (length-keys_of c.entries) ∙ ap length is ∙ length-range_with_len (f + 1) n in
      ap (λ o. keys_of (option_map_or (λ e. (e.0, v) ∷ remove_entry (eqb f) c.entries) o ((f, v) ∷ take (c.cap - 1) c.entries))) (no-entry_below f c.entries (f + 1) n is (omega arith))
      ∙ ap (λ es. f ∷ keys_of es) (all_taken (c.cap - 1) c.entries (omega arith))
      ∙ ap (λ ks. f ∷ ks) is
