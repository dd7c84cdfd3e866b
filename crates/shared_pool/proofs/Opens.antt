-- A pool of empty frames fits the first note of its host.
use Rattle.std.proofs.Common.{◌≡◌, ◌≢◌, ◌⊎◌, inl, inr, ℕ, zero, suc, ◌+◌, ◌<◌, ◌≤◌, Bool, true, cond, eqb, eq-eqb, ne_eqb, List, [], ◌∷◌, length, replicate, Option, Some, None, Global, refl, sym, ap, ◌∙◌, subst, arith}
use Rattle.std.specs.List.{slice_get, count_by, sum_by}
use Rattle.std.specs.Cmp.{IsEquivalence}
use Rattle.std.specs.Arc.{arc_value}
use Rattle.std.specs.declared.sync.Arc.{Arc}
use Rattle.std.proofs.lemmas.Bool.{false≢true}
use Rattle.std.proofs.lemmas.List.{length-replicate}
use Rattle.std.proofs.lemmas.List.Sums.{sum_by-cons}
use Rattle.std.proofs.lemmas.Option.{none-some, same_Some}
use mathlib.Core.Logic.{dite}
use mathlib.Core.Option.{some, some-ne-none, some-injective}
use native.Mathlib.Decide.{ℕ_discrete}
use lib.ListN.{get_elem?}
use Rattle.frame_pool.specs.declared.frame.FrameState.{FrameState}
use Rattle.frame_pool.specs.declared.frame.FrameState.TheVariants.{Empty, Ready}
use Rattle.frame_pool.specs.States.{has_key, pins_of}
use Rattle.frame_pool.specs.Frames.{Frames, empty_frames}
use Rattle.shared_pool.specs.declared.entry.Entry.{Entry}
use Rattle.shared_pool.specs.declared.note.Note.{Note}
use Rattle.shared_pool.specs.declared.note.Grants.{Grants}
use Rattle.shared_pool.specs.declared.shared.Shared.{Shared}
use Rattle.shared_pool.specs.declared.shared.PoolTag.{PoolTag}
use Rattle.shared_pool.specs.Books.{occurs, Lists}
use Rattle.shared_pool.specs.Logs.{LogFits}
use Rattle.shared_pool.specs.Fits.{PoolFits, FramesFit, NotesFit, loads_of}
use Rattle.shared_pool.specs.Seen.{fresh, first_note}
use Rattle.shared_pool.specs.Sums.{sum-none, one-yes, one-no}

module _ {K : Type 0} where
  all-empty : (n f : ℕ) (state : FrameState K) → slice_get (replicate n Empty) f ≡ Some state → Empty ≡ state
  all-empty zero f state e = absurd (none-some state e)
  all-empty (suc n) zero state e = same_Some Empty state e
  all-empty (suc n) (suc f) state e = all-empty n f state e

  occurs-cons : (q a : ℕ) (gs : List (Grants K)) → occurs q (record { pass = a; entries = [] } ∷ gs) ≡ cond {A = ℕ} (eqb a q) 1 0 + occurs q gs
  occurs-cons q a gs = sum_by-cons (λ (g : Grants K). cond {A = ℕ} (eqb g.pass q) 1 0) (record { pass = a; entries = [] }) gs

  fresh-lists : (a n : ℕ) → Lists [] (fresh {K = K} a n)
  fresh-lists a zero j g e = absurd (none-some g e)
  fresh-lists a (suc n) zero g e = subst (λ (z : Grants K). z.entries ≡ []) (same_Some _ g e) refl
  fresh-lists a (suc n) (suc j) g e = fresh-lists (a + 1) n j g e

fresh-none : (K : Type 0) (q a n : ℕ) → q < a → occurs q (fresh {K = K} a n) ≡ 0
fresh-none K q a zero l = refl
fresh-none K q a (suc n) l = let c = occurs-cons {K = K} q a (fresh (a + 1) n) in let o = one-no (eqb a q) (ne_eqb a q (λ e. omega arith)) in let r = fresh-none K q (a + 1) n (omega arith) in omega arith

fresh-past : (K : Type 0) (q a n : ℕ) → a + n ≤ q → occurs q (fresh {K = K} a n) ≡ 0
fresh-past K q a zero l = refl
fresh-past K q a (suc n) l = let c = occurs-cons {K = K} q a (fresh (a + 1) n) in let o = one-no (eqb a q) (ne_eqb a q (λ e. omega arith)) in let r = fresh-past K q (a + 1) n (omega arith) in omega arith

fresh-once : (K : Type 0) (q a n : ℕ) → a ≤ q → q < a + n → occurs q (fresh {K = K} a n) ≡ 1
fresh-once K q a zero l u = absurd (omega arith)
fresh-once K q a (suc n) l u = by (λ h. fresh-once K q (a + 1) n h (omega arith)) (ℕ_discrete a q)
  where
    by : (a + 1 ≤ q → occurs q (fresh {K = K} (a + 1) n) ≡ 1) → Dec (a ≡ q) → occurs q (fresh {K = K} a (suc n)) ≡ 1
    by h (yes e) = let c = occurs-cons {K = K} q a (fresh (a + 1) n) in let o = one-yes (eqb a q) (eq-eqb a q e) in let r = fresh-none K q (a + 1) n (omega arith) in omega arith
    by h (no ne) = let c = occurs-cons {K = K} q a (fresh (a + 1) n) in let o = one-no (eqb a q) (ne_eqb a q ne) in let r = h (omega arith) in omega arith

zero-more : {a b : ℕ} → a ≡ b → 0 + a ≡ b
zero-more e = omega arith

module _ {G K T : Type 0} (eq : K → K → Bool) (fits : G → K → T → Type 0) (laws : IsEquivalence eq) (tag : PoolTag G) (frames : ℕ) (many : tag.frames ≡ frames) where
  alone : (P : Note K T → Type 0) → P (first_note tag.passes) → (i : ℕ) (n : Note K T) → get_elem? (first_note tag.passes ∷ []) i ≡ some n → P n
  alone P h zero n e = subst P (some-injective (first_note tag.passes) n e) h
  alone P h (suc i) n e = absurd (some-ne-none n (sym e))

  opened : PoolFits eq fits tag (first_note tag.passes ∷ []) (record { pool = empty_frames frames; log = [] })
  opened = record {
    framed = record {
      frames = length-replicate frames Empty ∙ sym many;
      values = length-replicate frames None ∙ sym many;
      pins = λ f state e. ap pins_of (sym (all-empty frames f state e));
      loads = λ f state e. ap loads_of (sym (all-empty frames f state e));
      pinned = λ i n p e is. absurd (alone (λ z. z.pin ≡ Some p → ⊥) (λ h. none-some p h) i n e is);
      loading = λ i n l e is. absurd (alone (λ z. z.loading ≡ Some l → ⊥) (λ h. none-some l h) i n e is);
      fitting = λ f key pins a e v. let same = all-empty frames f (Ready key pins) e in absurd (cc);
    };
    logged = record {
      alike = laws;
      once = λ key f g one other a b has too. absurd (false≢true (subst (λ s. has_key eq key s ≡ true) (sym (all-empty frames f one a)) has));
      balance = λ key. sym (zero-more (sum-none (λ (s : FrameState K). cond {A = ℕ} (has_key eq key s) 1 0) (replicate frames Empty) (λ i s e. ap (λ z. cond {A = ℕ} (has_key eq key z) 1 0) (sym (all-empty frames i s e)))));
      losses = inl refl;
    };
    listed = record {
      lists = alone (λ z. Lists [] z.granted) (fresh-lists 0 tag.passes);
      below = λ j e a. absurd (none-some e a);
      once = λ q l. zero-more (fresh-once K q 0 tag.passes (omega arith) (omega arith));
      never = λ q l. zero-more (fresh-past K q 0 tag.passes (omega arith));
      numbered = alone (λ z. ((z.pin ≡ None) × (z.loading ≡ None)) ⊎ (0 < length z.granted)) (inl (refl, refl));
      single = alone (λ z. (z.pin ≡ None) ⊎ (z.loading ≡ None)) (inl refl);
    };
  }

  pub opens : (x : Shared K T) → x.pool ≡ empty_frames frames → x.log ≡ [] → PoolFits eq fits tag (first_note tag.passes ∷ []) x
  opens x p l = coe 1 0 (k. PoolFits eq fits tag (first_note tag.passes ∷ []) (record { pool = p k; log = l k })) opened
