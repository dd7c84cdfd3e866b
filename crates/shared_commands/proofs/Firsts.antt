-- The first desk, of which alone the source was used.
use Rattle.std.proofs.Common.{◌≡◌, ℕ, zero, suc, ◌<◌, ◌≤◌, List, [], ◌∷◌, length, set, refl, sym, ap, subst, ◌∙◌, arith}
use Rattle.std.specs.Prelude.{Option, slice_index_or}
use Rattle.std.specs.List.{All}
use Rattle.implicit_tiling.specs.Files.{Files}
use Rattle.scene_ports.specs.Counts.{one_more}
use Rattle.shared_commands.specs.Desks.{Place, files_of, IsFree, AreLeftFree, OnlyFirst}

module _ {S : Type 0} where
  pub first_used : (IsUsed : S → S → Type 0) (desks new : List (Place S)) (d was : Place S) (left : S) → 1 ≤ length desks → was ≡ slice_index_or desks 0 d → new ≡ set desks 0 (record was { source = left })
      → IsUsed was.source left → OnlyFirst IsUsed desks new
  first_used IsUsed [] new d was left some read set_is used = absurd (omega (arith, some))
  first_used IsUsed (desk ∷ desks) new d was left some read set_is used =
      subst (OnlyFirst IsUsed (desk ∷ desks)) (sym (set_is ∙ ap (λ (x : Place S). record x { source = left } ∷ desks) read))
      (subst (λ (x : Place S). IsUsed x.source left) read used, refl, refl)

  pub used_less : (IsUsed IsLess : S → S → Type 0) (desks new : List (Place S)) → ((a b : S) → IsUsed a b → IsLess a b) → OnlyFirst IsUsed desks new → OnlyFirst IsLess desks new
  used_less IsUsed IsLess [] new less only = absurd only
  used_less IsUsed IsLess (desk ∷ desks) [] less only = absurd only
  used_less IsUsed IsLess (desk ∷ desks) (next ∷ nexts) less only = (less desk.source next.source only.0, only.1, only.2)

  -- of the fetch of `tileset.json`, what was told stays told, and no count of faults falls
  pub asked_less : (told : S → Option Files) (faults fetches : S → ℕ) (desks new : List (Place S))
      → OnlyFirst (λ before now. (fetches now ≡ one_more (fetches before)) × (told now ≡ told before) × (faults before ≤ faults now)) desks new
      → OnlyFirst (λ before now. (told now ≡ told before) × (faults before ≤ faults now)) desks new
  asked_less told faults fetches desks new only = used_less _ _ desks new (λ a b h. (h.1, h.2)) only

  pub first_files : (told : S → Option Files) (desks : List (Place S)) (d : Place S) → 1 ≤ length desks → files_of told desks ≡ told (slice_index_or desks 0 d).source
  first_files told [] d some = absurd (omega (arith, some))
  first_files told (desk ∷ desks) d some = refl

  -- what is the same of each desk, and what of its source rose
  pub record IsAsBefore (told : S → Option Files) (faults : S → ℕ) (old new : Place S) : Type 0 where
    pub pass : new.pass ≡ old.pass
    pub same_files : told new.source ≡ told old.source
    pub later : faults old.source ≤ faults new.source

  each_after : (told : S → Option Files) (faults : S → ℕ) (desk next : Place S) (desks nexts : List (Place S)) → IsAsBefore told faults desk next → nexts ≡ desks
      → (w : ℕ) (d : Place S) → w < length (desk ∷ desks) → IsAsBefore told faults (slice_index_or (desk ∷ desks) w d) (slice_index_or (next ∷ nexts) w d)
  each_after told faults desk next desks nexts first same zero d low = first
  each_after told faults desk next desks nexts first same (suc w) d low =
      subst (λ l. IsAsBefore told faults (slice_index_or desks w d) (slice_index_or l w d)) (sym same)
      (record { pass = refl; same_files = refl; later = omega arith })

  pub as_before : (told : S → Option Files) (faults : S → ℕ) (old new : List (Place S)) → OnlyFirst (λ before now. (told now ≡ told before) × (faults before ≤ faults now)) old new
      → (length new ≡ length old) × ((w : ℕ) (d : Place S) → w < length old → IsAsBefore told faults (slice_index_or old w d) (slice_index_or new w d))
  as_before told faults [] new only = absurd only
  as_before told faults (desk ∷ desks) [] only = absurd only
  as_before told faults (desk ∷ desks) (next ∷ nexts) only = (
    ap (λ l. suc (length l)) only.2,
    each_after told faults desk next desks nexts (record { pass = ap (λ (x : Place S). x.pass) only.1; same_files = only.0.0; later = only.0.1 }) only.2,
  )

  -- free desks, of which only the source of the first was used, are free
  pub free_still : (told : S → Option Files) (faults : S → ℕ) (files : Option Files) (old new : List (Place S)) → All (IsFree told files) old
      → OnlyFirst (λ before now. (told now ≡ told before) × (faults before ≤ faults now)) old new → All (IsFree told files) new
  free_still told faults files old new free only = λ w d low.
      let same = as_before told faults old new only in
      let inside : w < length old = omega (arith, low, same.0) in
      record {
        no_pass = (same.1 w d inside).pass ∙ (free w d inside).no_pass;
        same_files = (same.1 w d inside).same_files ∙ (free w d inside).same_files;
      }

  pub left_free : (told : S → Option Files) (faults : S → ℕ) (files : Option Files) (old new : List (Place S)) → All (IsFree told files) old
      → OnlyFirst (λ before now. (told now ≡ told before) × (faults before ≤ faults now)) old new → AreLeftFree told faults old new
  left_free told faults files old new free only =
      let same = as_before told faults old new only in (
        same.0,
        λ w d low. record {
          no_pass = (same.1 w d low).pass ∙ (free w d low).no_pass;
          same_files = (same.1 w d low).same_files;
          later = (same.1 w d low).later;
        },
      )

  -- and are left so at last
  pub left_then : (told : S → Option Files) (faults : S → ℕ) (old mid new : List (Place S)) → OnlyFirst (λ before now. (told now ≡ told before) × (faults before ≤ faults now)) old mid
      → AreLeftFree told faults mid new → AreLeftFree told faults old new
  left_then told faults old mid new only left =
      let same = as_before told faults old mid only in (
        left.0 ∙ same.0,
        λ w d low.
            let inside : w < length mid = omega (arith, low, same.0) in
            record {
              no_pass = (left.1 w d inside).no_pass;
              same_files = (left.1 w d inside).same_files ∙ (same.1 w d low).same_files;
              later = omega (arith, (same.1 w d low).later, (left.1 w d inside).later);
            },
      )
