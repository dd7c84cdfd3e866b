-- What one who has taken the pool knows of it.
use Rattle.std.proofs.Common.{◌≡◌, ◌≢◌, ◌⊎◌, inl, inr, ℕ, zero, suc, ◌+◌, ◌<◌, ◌≤◌, Bool, true, false, cond, eqb, eq-eqb, List, [], ◌∷◌, length, Option, Some, None, Global, refl, sym, ap, ◌∙◌, subst, ⊎_elim, arith}
use Rattle.std.specs.List.{slice_get, count_by, sum_by}
use Rattle.std.specs.declared.sync.Arc.{Arc}
use Rattle.std.proofs.lemmas.Bool.{cases_lt, false≢true}
use Rattle.std.proofs.lemmas.List.Sums.{sum_by-cons}
use mathlib.Core.Logic.{dite}
use mathlib.Core.Option.{some}
use native.Mathlib.Decide.{ℕ_discrete}
use lib.ListN.{get_elem?}
use Rattle.frame_pool.specs.declared.frame.FrameState.{FrameState}
use Rattle.frame_pool.specs.declared.frame.FrameState.TheVariants.{Loading}
use Rattle.frame_pool.specs.States.{pins_of}
use Rattle.frame_pool.specs.Frames.{EachFrame, IsLoadingAt, IsPinnedAt}
use Rattle.shared_pool.specs.declared.entry.Entry.{Entry}
use Rattle.shared_pool.specs.declared.note.Note.{Note}
use Rattle.shared_pool.specs.declared.note.Grants.{Grants}
use Rattle.shared_pool.specs.declared.note.Pin.{Pin}
use Rattle.shared_pool.specs.declared.note.Load.{Load}
use Rattle.shared_pool.specs.declared.shared.Shared.{Shared}
use Rattle.shared_pool.specs.declared.shared.PoolTag.{PoolTag}
use Rattle.shared_pool.specs.Books.{occurs}
use Rattle.shared_pool.specs.Fits.{PoolFits, NotesFit, FramesFit, HasPin, HasLoad, HasNumber, IsIdle, is_pin_of, pins_frame}
use Rattle.shared_pool.specs.FramesKept.{pin-counts}
use Rattle.shared_pool.specs.Sums.{from_elem, to_elem, sum-one, sum-none, sum-less, sum-same, sum-plus, one-yes, one-most}

module _ {K : Type 0} where
  -- how many of the numbers below p it has
  abbrev pub weight : ℕ → Grants K → ℕ
  weight zero g = 0
  weight (suc p) g = weight p g + cond (eqb g.pass p) 1 0

  weighs : (p : ℕ) (g : Grants K) → g.pass < p → 1 ≤ weight p g
  weighs zero g l = absurd (omega arith)
  weighs (suc p) g l = by (weighs p g) (ℕ_discrete g.pass p)
    where
      by : (g.pass < p → 1 ≤ weight p g) → Dec (g.pass ≡ p) → 1 ≤ weight p g + cond (eqb g.pass p) 1 0
      by h (yes e) = let o = one-yes (eqb g.pass p) (eq-eqb g.pass p e) in omega arith
      by h (no ne) = let r = h (omega arith) in omega arith

  length-weight : (p : ℕ) (b : List (Grants K)) → ((j : ℕ) (g : Grants K) → slice_get b j ≡ Some g → g.pass < p) → length b ≤ sum_by (weight p) b
  length-weight p [] h = omega arith
  length-weight p (g ∷ gs) h = let c = sum_by-cons (weight p) g gs in let w = weighs p g (h 0 g refl) in let r = length-weight p gs (λ j x e. h (suc j) x e) in omega arith

module _ {K T : Type 0} where
  module _ (passes : ℕ) (notes : List (Note K T)) (log : List (Entry K)) (fit : NotesFit passes notes log) where
    all-weight : (p : ℕ) → p ≤ passes → sum_by (λ n. sum_by (weight p) n.granted) notes ≡ p
    all-weight zero l = sum-none (λ n. sum_by (weight zero) n.granted) notes (λ i n e. sum-none (weight zero) n.granted (λ j g k. refl))
    all-weight (suc p) l =
        let each = sum-same (λ (n : Note K T). sum_by (weight (suc p)) n.granted) (λ n. sum_by (weight p) n.granted + occurs p n.granted) notes (λ i n e. sum-plus (weight p) (λ (g : Grants K). cond {A = ℕ} (eqb g.pass p) 1 0) n.granted) in
        let both = sum-plus (λ (n : Note K T). sum_by (weight p) n.granted) (λ n. occurs p n.granted) notes in
        let h = all-weight p (omega arith) in
        let o = fit.once p (omega arith) in omega arith

    -- each number of a note is one of a pass
    pub pass-below : (i : ℕ) (n : Note K T) → slice_get notes i ≡ Some n → (j : ℕ) (g : Grants K) → slice_get n.granted j ≡ Some g → g.pass < passes
    pass-below i n e j g k = ⊎_elim (λ l. l)
        (λ past.
        let z = fit.never g.pass past in
        let a = sum-one (λ (u : Note K T). occurs g.pass u.granted) notes i n e in
        let b = sum-one (λ (h : Grants K). cond {A = ℕ} (eqb h.pass g.pass) 1 0) n.granted j g k in
        let o = one-yes (eqb g.pass g.pass) (eq-eqb g.pass g.pass refl) in absurd (omega arith))
        (cases_lt g.pass passes)

    -- all notes together have no more numbers than there are passes
    pub few-numbers : sum_by (λ n. length n.granted) notes ≤ passes
    few-numbers =
        let a = sum-less (λ (n : Note K T). length n.granted) (λ n. sum_by (weight passes) n.granted) notes (λ i n e. length-weight passes n.granted (pass-below i n e)) in
        let b = all-weight passes (omega arith) in omega arith

    pin-number : (f : ℕ) (n : Note K T) → IsIdle n ⊎ HasNumber n → cond {A = ℕ} (pins_frame f n) 1 0 ≤ length n.granted
    pin-number f n h = ⊎_elim (λ idle. let z = ap (λ o. cond {A = ℕ} (is_pin_of f o) 1 0) idle.0 in omega arith) (λ has. let m = one-most (pins_frame f n) in omega arith) h

    pub few-pins : (f : ℕ) → count_by (pins_frame f) notes ≤ passes
    few-pins f =
        let a = sum-less (λ (n : Note K T). cond {A = ℕ} (pins_frame f n) 1 0) (λ n. length n.granted) notes (λ i n e. pin-number f n (fit.numbered i n (to_elem notes i n e))) in
        let b = few-numbers in omega arith

  module _ {G : Type 0} (eq : K → K → Bool) (fits : G → K → T → Type 0) (tag : PoolTag G) (notes : List (Note K T)) (x : Shared K T) (fit : PoolFits eq fits tag notes x) where
    -- there is room for one more pin
    pub more-pins : tag.passes ≤ 64 → EachFrame (λ state. pins_of state < 4294967295) x.pool.census
    more-pins most f state e = let a = fit.framed.pins f state e in let b = few-pins tag.passes notes x.log fit.listed f in omega arith

    module _ (i : ℕ) (n : Note K T) (at : get_elem? notes i ≡ some n) where
      -- its frame is loading the key
      pub finds-load : (l : Load K) → n.loading ≡ Some l → HasLoad x.pool l
      finds-load l e = fit.framed.loading i n l at e

      -- its frame is ready, with the key and value
      pub finds-pin : (p : Pin K T) → n.pin ≡ Some p → HasPin x.pool p
      finds-pin p e = fit.framed.pinned i n p at e

      pub finds-pinned : (p : Pin K T) → n.pin ≡ Some p → IsPinnedAt x.pool.census p.frame
      finds-pinned p e = let h = finds-pin p e in
          let c = pin-counts (fits tag.own) tag.frames notes x.pool i n at fit.framed p p.frame _ e refl h.2 in (p.key, h.0, h.2, omega arith)
