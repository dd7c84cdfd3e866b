-- Where every frame is pinned there are fewer frames than passes.
use Rattle.std.proofs.Common.{◌≡◌, ◌≢◌, ◌⊎◌, inl, inr, ℕ, zero, suc, ◌+◌, ◌<◌, ◌≤◌, Bool, true, false, cond, eqb, eq-eqb, ne_eqb, List, [], ◌∷◌, length, get_or, Option, Some, None, Global, refl, sym, ap, ◌∙◌, subst, ⊎_elim, arith}
use Rattle.std.specs.List.{slice_get, count_by, sum_by}
use Rattle.std.specs.declared.sync.Arc.{Arc}
use Rattle.std.proofs.lemmas.Bool.{false≢true}
use Rattle.std.proofs.lemmas.Option.{slice_get-get_or}
use mathlib.Core.Option.{some}
use native.Mathlib.Decide.{ℕ_discrete}
use lib.ListN.{get_elem?}
use Rattle.frame_pool.specs.declared.frame.FrameState.{FrameState}
use Rattle.frame_pool.specs.declared.frame.FrameState.TheVariants.{Empty, Loading, Ready}
use Rattle.frame_pool.specs.States.{pins_of, is_pinned}
use Rattle.frame_pool.specs.Frames.{Frames, EachFrame}
use Rattle.shared_pool.specs.declared.entry.Entry.{Entry}
use Rattle.shared_pool.specs.declared.note.Note.{Note}
use Rattle.shared_pool.specs.declared.note.Pin.{Pin}
use Rattle.shared_pool.specs.declared.note.Load.{Load}
use Rattle.shared_pool.specs.declared.shared.Shared.{Shared}
use Rattle.shared_pool.specs.declared.shared.PoolTag.{PoolTag}
use Rattle.shared_pool.specs.Fits.{PoolFits, FramesFit, NotesFit, IsIdle, HasNumber, is_pin_of, is_load_of, loads_of, pins_frame, loads_frame}
use Rattle.shared_pool.specs.Sums.{from_elem, to_elem, sum-none, sum-same, sum-plus, sum-less_by_one, one-yes, one-no, one-most}
use Rattle.shared_pool.proofs.Finds.{few-numbers}

-- how many of the numbers below k are a: 1 or 0
abbrev at-below : ℕ → ℕ → ℕ
at-below zero a = 0
at-below (suc k) a = at-below k a + cond (eqb a k) 1 0

at-past : (k a : ℕ) → k ≤ a → at-below k a ≡ 0
at-past zero a l = refl
at-past (suc k) a l = let o = one-no (eqb a k) (ne_eqb a k (λ e. omega arith)) in let r = at-past k a (omega arith) in omega arith

at-most : (k a : ℕ) → at-below k a ≤ 1
at-most zero a = omega arith
at-most (suc k) a = by (at-most k a) (ℕ_discrete a k)
  where
    by : at-below k a ≤ 1 → Dec (a ≡ k) → at-below k a + cond {A = ℕ} (eqb a k) 1 0 ≤ 1
    by h (yes e) = let p = at-past k a (omega arith) in let m = one-most (eqb a k) in omega arith
    by h (no ne) = let o = one-no (eqb a k) (ne_eqb a k ne) in omega arith

module _ {K : Type 0} where
  -- how many of the first k frames are loaded
  abbrev loads-below : ℕ → Option (Load K) → ℕ
  loads-below zero o = 0
  loads-below (suc k) o = loads-below k o + cond (is_load_of k o) 1 0

  loads-zero : (k : ℕ) (o : Option (Load K)) → o ≡ None → loads-below k o ≡ 0
  loads-zero zero o e = refl
  loads-zero (suc k) o e = let r = loads-zero k o e in let f = one-no (is_load_of k o) (ap (is_load_of k) e) in omega arith

  loads-one : (k : ℕ) (l : Load K) → loads-below k (Some l) ≡ at-below k l.frame
  loads-one zero l = refl
  loads-one (suc k) l = let r = loads-one k l in omega arith

  loads-most : (k : ℕ) (o : Option (Load K)) → loads-below k o ≤ 1
  loads-most k None = let r = loads-zero k None refl in omega arith
  loads-most k (Some l) = let r = loads-one k l in let m = at-most k l.frame in omega arith

  held-one : (state : FrameState K) → is_pinned state ≡ true → 1 ≤ pins_of state + loads_of state
  held-one Empty h = absurd (false≢true h)
  held-one (Loading key) h = omega arith
  held-one (Ready key zero) h = absurd (false≢true h)
  held-one (Ready key (suc pins)) h = omega arith

module _ {K T : Type 0} where
  -- how many of the first k frames are pinned
  abbrev pins-below : ℕ → Option (Pin K T) → ℕ
  pins-below zero o = 0
  pins-below (suc k) o = pins-below k o + cond (is_pin_of k o) 1 0

  pins-zero : (k : ℕ) (o : Option (Pin K T)) → o ≡ None → pins-below k o ≡ 0
  pins-zero zero o e = refl
  pins-zero (suc k) o e = let r = pins-zero k o e in let f = one-no (is_pin_of k o) (ap (is_pin_of k) e) in omega arith

  pins-one : (k : ℕ) (p : Pin K T) → pins-below k (Some p) ≡ at-below k p.frame
  pins-one zero p = refl
  pins-one (suc k) p = let r = pins-one k p in omega arith

  pins-most : (k : ℕ) (o : Option (Pin K T)) → pins-below k o ≤ 1
  pins-most k None = let r = pins-zero k None refl in omega arith
  pins-most k (Some p) = let r = pins-one k p in let m = at-most k p.frame in omega arith

  abbrev holds-below : ℕ → Note K T → ℕ
  holds-below k u = pins-below k u.pin + loads-below k u.loading

  holds-idle : (k : ℕ) (u : Note K T) → IsIdle u → holds-below k u ≡ 0
  holds-idle k u idle = let a = pins-zero k u.pin idle.0 in let b = loads-zero k u.loading idle.1 in omega arith

  holds-most : (k : ℕ) (u : Note K T) → (u.pin ≡ None) ⊎ (u.loading ≡ None) → holds-below k u ≤ 1
  holds-most k u h = ⊎_elim
      (λ e. let a = pins-zero k u.pin e in let m = loads-most k u.loading in omega arith)
      (λ e. let a = loads-zero k u.loading e in let m = pins-most k u.pin in omega arith) h

  module _ (fits : K → T → Type 0) (many passes : ℕ) (notes : List (Note K T)) (pool : Frames K (Arc T Global)) (log : List (Entry K)) (framed : FramesFit fits many notes pool) (listed : NotesFit passes notes log) (full : EachFrame (λ state. is_pinned state ≡ true) pool.census) where
    all-held : (k : ℕ) → k ≤ length pool.census → k ≤ sum_by (holds-below k) notes
    all-held zero l = omega arith
    all-held (suc k) l =
        let state = get_or pool.census k Empty in
        let at : slice_get pool.census k ≡ Some (get_or pool.census k Empty) = slice_get-get_or pool.census k Empty (omega arith) in
        let held = held-one (get_or pool.census k Empty) (full k (get_or pool.census k Empty) at) in
        let pins = framed.pins k (get_or pool.census k Empty) at in
        let loads = framed.loads k (get_or pool.census k Empty) at in
        let each = sum-same (holds-below (suc k)) (λ u. holds-below k u + (cond {A = ℕ} (pins_frame k u) 1 0 + cond {A = ℕ} (loads_frame k u) 1 0)) notes (λ i u e. omega arith) in
        let one = sum-plus (holds-below k) (λ u. cond {A = ℕ} (pins_frame k u) 1 0 + cond {A = ℕ} (loads_frame k u) 1 0) notes in
        let two = sum-plus (λ (u : Note K T). cond {A = ℕ} (pins_frame k u) 1 0) (λ u. cond {A = ℕ} (loads_frame k u) 1 0) notes in
        let h = all-held k (omega arith) in omega arith

    holds-number : (k : ℕ) (u : Note K T) → IsIdle u ⊎ HasNumber u → (u.pin ≡ None) ⊎ (u.loading ≡ None) → holds-below k u ≤ length u.granted
    holds-number k u number single = ⊎_elim (λ idle. let z = holds-idle k u idle in omega arith) (λ has. let m = holds-most k u single in omega arith) number

    pub fewer-frames : (i : ℕ) (n : Note K T) → get_elem? notes i ≡ some n → IsIdle n → HasNumber n → many < passes
    fewer-frames i n at idle has =
        let most = all-held (length pool.census) (omega arith) in
        let frames = framed.frames in
        let few = few-numbers passes notes log listed in
        let none = holds-idle (length pool.census) n idle in
        let less = sum-less_by_one (holds-below (length pool.census)) (λ u. length u.granted) notes i n (from_elem notes i n at) (omega arith)
        (λ j u e. holds-number (length pool.census) u (listed.numbered j u (to_elem notes j u e)) (listed.single j u (to_elem notes j u e))) in
        omega arith
