-- For proofs and inner functions: each change of a frame and of its holder's note keeps the frames fitting the notes.
use Rattle.std.proofs.Common.{◌≡◌, ◌≢◌, ◌⊎◌, inl, inr, ℕ, zero, suc, ◌+◌, ◌-◌, ◌<◌, ◌≤◌, Bool, true, false, cond, eqb}
use Rattle.std.proofs.Common.{eq-eqb, ne_eqb, List, [], ◌∷◌, ◌++◌, length, set, Option, Some, None, Global, refl, sym}
use Rattle.std.proofs.Common.{ap, ◌∙◌, subst, ⊎_elim, arith}
use Rattle.std.specs.List.{slice_get, count_by}
use Rattle.std.specs.Arc.{arc_value}
use Rattle.std.specs.declared.sync.Arc.{Arc}
use Rattle.std.proofs.lemmas.Bool.{false≢true}
use Rattle.std.proofs.lemmas.Option.{none-some, same_Some, slice_get_within}
use Rattle.std.proofs.lemmas.List.{length-set}
use Rattle.std.proofs.lemmas.List.Sums.{sum_by_push}
use mathlib.Core.Logic.{dite}
use mathlib.Core.Option.{some}
use native.Mathlib.Decide.{ℕ_discrete}
use lib.ListN.{get_elem?}
use Rattle.atomic_table.proofs.Lists.{at_set, at_snoc}
use Rattle.frame_pool.specs.declared.frame.FrameState.{FrameState}
use Rattle.frame_pool.specs.declared.frame.FrameState.TheVariants.{Empty, Loading, Ready}
use Rattle.frame_pool.specs.States.{is_pinned, pins_of}
use Rattle.frame_pool.specs.Frames.{Frames}
use Rattle.frame_pool.proofs.Places.{at-set, get-set_same, get-set_other}
use Rattle.shared_pool.specs.declared.entry.Entry.{Entry}
use Rattle.shared_pool.specs.declared.note.Note.{Note}
use Rattle.shared_pool.specs.declared.note.Pin.{Pin}
use Rattle.shared_pool.specs.declared.note.Load.{Load}
use Rattle.shared_pool.specs.Fits.{loads_of, is_load_of, is_pin_of, pins_frame, loads_frame, HasPin, HasLoad, IsIdle}
use Rattle.shared_pool.specs.Fits.{FramesFit, with_pin, with_load, added, nothing}
use Rattle.shared_pool.specs.Sums.{from_elem, sum-set, sum-one, sum-two, one-yes}

abbrev one : Bool → ℕ
one b = cond b 1 0

abbrev count : {A : Type 0} → (A → Bool) → A → ℕ
count p x = cond (p x) 1 0

module _ {K : Type 0} where
  load-here : (f : ℕ) (o : Option (Load K)) (l : Load K) → o ≡ Some l → l.frame ≡ f → is_load_of f o ≡ true
  load-here f o l e h = ap (is_load_of f) e ∙ eq-eqb l.frame f h

  abbrev key_of_ready : K → FrameState K → K
  key_of_ready key Empty = key
  key_of_ready key (Loading own) = own
  key_of_ready key (Ready own pins) = own

  same-ready : (a b : K) (p q : ℕ) → Ready a p ≡ Ready b q → a ≡ b
  same-ready a b p q e = ap (key_of_ready a) e

module _ {K T : Type 0} where
  pin-here : (f : ℕ) (o : Option (Pin K T)) (p : Pin K T) → o ≡ Some p → p.frame ≡ f → is_pin_of f o ≡ true
  pin-here f o p e h = ap (is_pin_of f) e ∙ eq-eqb p.frame f h

  module _ (fits : K → T → Type 0) (many : ℕ) (notes : List (Note K T)) (pool : Frames K (Arc T Global)) (i : ℕ)
      (n : Note K T) (at : get_elem? notes i ≡ some n) (fit : FramesFit fits many notes pool) where
    there : slice_get notes i ≡ Some n
    there = from_elem notes i n at

    -- one pin or loading is counted
    pub pin-counts : (p : Pin K T) (f : ℕ) (state : FrameState K) → n.pin ≡ Some p → p.frame ≡ f
        → slice_get pool.census f ≡ Some state → 1 ≤ pins_of state
    pin-counts p f state e h here =
        let o = sum-one (count (pins_frame f)) notes i n (from_elem notes i n at) in
        let mine = one-yes (pins_frame f n) (pin-here f n.pin p e h) in
        let all = fit.pins f state here in omega arith

    module _ (f : ℕ) (old new : FrameState K) (m : Note K T) (later : Frames K (Arc T Global))
        (here : slice_get pool.census f ≡ Some old)
        (census : later.census ≡ set pool.census f new)
        (places : length later.values ≡ length pool.values)
        (values : (g : ℕ) → g ≢ f → slice_get later.values g ≡ slice_get pool.values g)
        (other_pins : (g : ℕ) → g ≢ f → pins_frame g m ≡ pins_frame g n)
        (other_loads : (g : ℕ) → g ≢ f → loads_frame g m ≡ loads_frame g n)
        (pins : pins_of new + one (pins_frame f n) ≡ pins_of old + one (pins_frame f m))
        (loads : loads_of new + one (loads_frame f n) ≡ loads_of old + one (loads_frame f m))
        (stays : (p : Pin K T) → p.frame ≡ f → HasPin pool p → one (pins_frame f n) + 1 ≤ pins_of old → HasPin later p)
        (alone : loads_of old ≤ one (loads_frame f n))
        (my_pin : (p : Pin K T) → m.pin ≡ Some p → HasPin later p)
        (my_load : (l : Load K) → m.loading ≡ Some l → HasLoad later l)
        (my_value : (key : K) (more : ℕ) (a : Arc T Global) → new ≡ Ready key more
        → slice_get later.values f ≡ Some (Some a) → fits key (arc_value a)) where
      moved : (g : ℕ) (state : FrameState K) → slice_get later.census g ≡ Some state → ((g ≡ f) × (new ≡ state))
          ⊎ ((g ≢ f) × (slice_get pool.census g ≡ Some state))
      moved g state e = at-set pool.census f g new state (ap (λ c. slice_get c g) (sym census) ∙ e)

      elsewhere : (g : ℕ) (state : FrameState K) → g ≢ f → slice_get pool.census g ≡ Some state
          → slice_get later.census g ≡ Some state
      elsewhere g state ne e = ap (λ c. slice_get c g) census ∙ (get-set_other pool.census f g new ne ∙ e)

      pins-now : (g : ℕ) (state : FrameState K) → slice_get later.census g ≡ Some state
          → pins_of state ≡ count_by (pins_frame g) (set notes i m)
      pins-now g state e = ⊎_elim
          (λ (t : (g ≡ f) × (new ≡ state)).
          let s = sum-set (count (pins_frame f)) notes i n m (from_elem notes i n at) in
          let all = fit.pins f old here in
          let so : pins_of new ≡ count_by (pins_frame f) (set notes i m) = omega arith in
          ap pins_of (sym t.1) ∙ (so ∙ ap (λ h. count_by (pins_frame h) (set notes i m)) (sym t.0)))
          (λ (t : (g ≢ f) × (slice_get pool.census g ≡ Some state)).
          let s = sum-set (count (pins_frame g)) notes i n m (from_elem notes i n at) in
          let all = fit.pins g state t.1 in
          let same = ap one (other_pins g t.0) in omega arith)
          (moved g state e)

      loads-now : (g : ℕ) (state : FrameState K) → slice_get later.census g ≡ Some state
          → loads_of state ≡ count_by (loads_frame g) (set notes i m)
      loads-now g state e = ⊎_elim
          (λ (t : (g ≡ f) × (new ≡ state)).
          let s = sum-set (count (loads_frame f)) notes i n m (from_elem notes i n at) in
          let all = fit.loads f old here in
          let so : loads_of new ≡ count_by (loads_frame f) (set notes i m) = omega arith in
          ap loads_of (sym t.1) ∙ (so ∙ ap (λ h. count_by (loads_frame h) (set notes i m)) (sym t.0)))
          (λ (t : (g ≢ f) × (slice_get pool.census g ≡ Some state)).
          let s = sum-set (count (loads_frame g)) notes i n m (from_elem notes i n at) in
          let all = fit.loads g state t.1 in
          let same = ap one (other_loads g t.0) in omega arith)
          (moved g state e)

      pinned-now : (j : ℕ) (u : Note K T) (p : Pin K T) → get_elem? (set notes i m) j ≡ some u → u.pin ≡ Some p
          → HasPin later p
      pinned-now j u p e is = ⊎_elim
          (λ (t : (j ≡ i) × (m ≡ u)). my_pin p (ap (λ (z : Note K T). z.pin) t.1 ∙ is))
          (λ (t : (j ≢ i) × (get_elem? notes j ≡ some u)). let h = fit.pinned j u p t.1 is in dite
          (ℕ_discrete p.frame f)
          (λ q.
          let two = sum-two (count (pins_frame f)) notes i j n u
          (λ z. t.0 (sym z)) (from_elem notes i n at) (from_elem notes j u t.1) in
          let other = one-yes (pins_frame f u) (pin-here f u.pin p is q) in
          let all = fit.pins f old here in stays p q h (omega arith))
          (λ ne. (h.0, h.1, elsewhere p.frame _ ne h.2, values p.frame ne ∙ h.3, h.4)))
          (at_set notes i j m u e)

      loading-now : (j : ℕ) (u : Note K T) (l : Load K) → get_elem? (set notes i m) j ≡ some u → u.loading ≡ Some l
          → HasLoad later l
      loading-now j u l e is = ⊎_elim
          (λ (t : (j ≡ i) × (m ≡ u)). my_load l (ap (λ (z : Note K T). z.loading) t.1 ∙ is))
          (λ (t : (j ≢ i) × (get_elem? notes j ≡ some u)). let h = fit.loading j u l t.1 is in dite
          (ℕ_discrete l.frame f)
          (λ q.
          let two = sum-two (count (loads_frame f)) notes i j n u
          (λ z. t.0 (sym z)) (from_elem notes i n at) (from_elem notes j u t.1) in
          let other = one-yes (loads_frame f u) (load-here f u.loading l is q) in
          let all = fit.loads f old here in absurd (omega arith))
          (λ ne. elsewhere l.frame _ ne h))
          (at_set notes i j m u e)

      pub frames-step : FramesFit fits many (set notes i m) later
      frames-step = record {
        frames = ap length census ∙ (length-set pool.census f new ∙ fit.frames);
        values = places ∙ fit.values;
        pins = pins-now;
        loads = loads-now;
        pinned = pinned-now;
        loading = loading-now;
        fitting = λ g key more a e v. ⊎_elim
            (λ (t : (g ≡ f) × (new ≡ Ready key more)). my_value key more a t.1 (ap (slice_get later.values)
            (sym t.0) ∙ v))
            (λ (t : (g ≢ f) × (slice_get pool.census g ≡ Some (Ready key more))). fit.fitting g key more a t.1
            (sym (values g t.0) ∙ v))
            (moved g (Ready key more) e);
      }

    module _ (f : ℕ) (later : Frames K (Arc T Global)) where
      none-pin : (g : ℕ) (o : Option (Pin K T)) → o ≡ None → is_pin_of g o ≡ false
      none-pin g o e = ap (is_pin_of g) e

      none-load : (g : ℕ) (o : Option (Load K)) → o ≡ None → is_load_of g o ≡ false
      none-load g o e = ap (is_load_of g) e

      not-here : (g h : ℕ) → g ≢ h → eqb h g ≡ false
      not-here g h ne = ne_eqb h g (λ e. ne (sym e))

      nothing-some : {A B : Type 0} (o : Option A) (x : A) → o ≡ None → o ≡ Some x → B
      nothing-some o x a b = absurd (cc)

      now-is : (old new : FrameState K) → slice_get pool.census f ≡ Some old → later.census ≡ set pool.census f new
          → slice_get later.census f ≡ Some new
      now-is old new here census = ap (λ c. slice_get c f) census ∙ get-set_same pool.census f new
          (slice_get_within pool.census f old here)

      -- a pin of a ready frame stays where the frame keeps its key and value
      stays : (key : K) (pins more : ℕ) → slice_get pool.census f ≡ Some (Ready key pins)
          → slice_get later.census f ≡ Some (Ready key more) → slice_get later.values f ≡ slice_get pool.values f
          → (p : Pin K T) → p.frame ≡ f → HasPin pool p → HasPin later p
      stays key pins more here now value p e h =
          let same = same-ready key p.key pins h.0 (same_Some (Ready key pins) (Ready p.key h.0)
          (sym here ∙ (ap (slice_get pool.census) (sym e) ∙ h.2))) in (
            more,
            h.1,
            ap (slice_get later.census) e ∙ (now ∙ ap (λ k. Some (Ready k more)) same),
            ap
                (slice_get later.values) e ∙ (value ∙ (ap (slice_get pool.values) (sym e) ∙ h.3)),
            h.4,
          )

      -- a ready frame gets one pin more
      pub frames-hit : (key : K) (pins : ℕ) (a : Arc T Global) → slice_get pool.census f ≡ Some (Ready key pins)
          → slice_get pool.values f ≡ Some (Some a) → IsIdle n
          → later.census ≡ set pool.census f (Ready key (pins + 1)) → later.values ≡ pool.values
          → FramesFit fits many
          (set notes i (with_pin n (Some (record { frame = f; key = key; value = arc_value a })))) later
      frames-hit key pins a here value idle census values =
          let now = now-is (Ready key pins) (Ready key (pins + 1)) here census in
          let same = ap (λ v. slice_get v f) values in
          frames-step f (Ready key pins) (Ready key (pins + 1))
          (with_pin n (Some (record { frame = f; key = key; value = arc_value a }))) later here census
          (ap length values)
          (λ g ne. ap (λ v. slice_get v g) values)
          (λ g ne. not-here g f ne ∙ sym (none-pin g n.pin idle.0))
          (λ g ne. sym (none-load g n.loading idle.1))
          (let a = ap one (none-pin f n.pin idle.0) in let b = one-yes (eqb f f) (eq-eqb f f refl) in omega arith)
          (let a = ap one (none-load f n.loading idle.1) in omega arith)
          (λ p e h less. stays key pins (pins + 1) here now same p e h)
          (omega arith)
          (λ p e. subst (HasPin later) (same_Some _ p e) (pins + 1, a, now, same ∙ value, refl))
          (λ l e. absurd (none-some l e))
          (λ k more b e v. subst (λ z. fits z (arc_value b)) (same-ready key k (pins + 1) more e)
          (fit.fitting f key pins b here (sym same ∙ v)))

      -- a frame without pins is granted
      pub frames-granted : (key : K) (old : FrameState K) (e : Entry K) → slice_get pool.census f ≡ Some old
          → pins_of old ≡ 0 → loads_of old ≡ 0 → IsIdle n
          → later.census ≡ set pool.census f (Loading key) → later.values ≡ set pool.values f None
          → FramesFit fits many (set notes i (with_load n (Some (record { frame = f; key = key })) e)) later
      frames-granted key old e here free idle_frame idle census values =
          frames-step f old (Loading key) (with_load n (Some (record { frame = f; key = key })) e) later here census
          (ap length values ∙ length-set pool.values f None)
          (λ g ne. ap (λ v. slice_get v g) values ∙ get-set_other pool.values f g None ne)
          (λ g ne. sym (none-pin g n.pin idle.0))
          (λ g ne. not-here g f ne ∙ sym (none-load g n.loading idle.1))
          (let a = ap one (none-pin f n.pin idle.0) in omega arith)
          (let a = ap one (none-load f n.loading idle.1) in let b = one-yes (eqb f f) (eq-eqb f f refl) in omega arith)
          (λ p e h less. absurd (omega arith))
          (omega arith)
          (λ p e. absurd (none-some p e))
          (λ l e. subst (HasLoad later) (same_Some _ l e) (now-is old (Loading key) here census))
          (λ k more b e v. absurd (cc))

      -- a loading brings its value
      pub frames-filled : (key : K) (a : Arc T Global) → slice_get pool.census f ≡ Some (Loading key) → n.pin ≡ None
          → n.loading ≡ Some (record { frame = f; key = key }) → fits key (arc_value a)
          → later.census ≡ set pool.census f (Ready key 1) → later.values ≡ set pool.values f (Some a)
          → FramesFit fits many
          (set notes i (with_pin n (Some (record { frame = f; key = key; value = arc_value a })))) later
      frames-filled key a here pin loading fitting census values =
          let inside : f < length pool.values = let c = slice_get_within pool.census f
          (Loading key) here in let p = fit.frames in let q = fit.values in omega arith in
          let value = ap (λ v. slice_get v f) values ∙ get-set_same pool.values f (Some a) inside in
          frames-step f (Loading key) (Ready key 1)
          (with_pin n (Some (record { frame = f; key = key; value = arc_value a }))) later here census
          (ap length values ∙ length-set pool.values f (Some a))
          (λ g ne. ap (λ v. slice_get v g) values ∙ get-set_other pool.values f g (Some a) ne)
          (λ g ne. not-here g f ne ∙ sym (none-pin g n.pin pin))
          (λ g ne. sym (ap (is_load_of g) loading ∙ not-here g f ne))
          (let a = ap one (none-pin f n.pin pin) in let b = one-yes (eqb f f) (eq-eqb f f refl) in omega arith)
          (let a = one-yes (loads_frame f n) (load-here f n.loading _ loading refl) in omega arith)
          (λ p e h less. absurd (omega arith))
          (let a = one-yes (loads_frame f n) (load-here f n.loading _ loading refl) in omega arith)
          (λ p e. subst (HasPin later) (same_Some _ p e)
          (1, a, now-is (Loading key) (Ready key 1) here census, value, refl))
          (λ l e. absurd (none-some l e))
          (λ k more b e v. subst (λ z. fits z (arc_value b)) (same-ready key k 1 more e) (subst
          (λ z. fits key (arc_value z)) (same_Some a b (same_Some (Some a) (Some b) (sym value ∙ v))) fitting))

      -- a loading ends without a value
      pub frames-failed : (key : K) (e : Entry K) → slice_get pool.census f ≡ Some (Loading key) → n.pin ≡ None
          → n.loading ≡ Some (record { frame = f; key = key })
          → later.census ≡ set pool.census f Empty → later.values ≡ set pool.values f None
          → FramesFit fits many (set notes i (with_load n None e)) later
      frames-failed key e here pin loading census values =
          frames-step f (Loading key) Empty (with_load n None e) later here census
          (ap length values ∙ length-set pool.values f None)
          (λ g ne. ap (λ v. slice_get v g) values ∙ get-set_other pool.values f g None ne)
          (λ g ne. sym (none-pin g n.pin pin))
          (λ g ne. sym (ap (is_load_of g) loading ∙ not-here g f ne))
          (let a = ap one (none-pin f n.pin pin) in omega arith)
          (let a = one-yes (loads_frame f n) (load-here f n.loading _ loading refl) in omega arith)
          (λ p e h less. absurd (omega arith))
          (let a = one-yes (loads_frame f n) (load-here f n.loading _ loading refl) in omega arith)
          (λ p e. absurd (none-some p e))
          (λ l e. absurd (none-some l e))
          (λ k more b e v. absurd (cc))

      -- a pin ends
      pub frames-freed : (p : Pin K T) (pins : ℕ) → n.pin ≡ Some p → p.frame ≡ f → n.loading ≡ None
          → slice_get pool.census f ≡ Some (Ready p.key pins)
          → later.census ≡ set pool.census f (Ready p.key (pins - 1)) → later.values ≡ pool.values
          → FramesFit fits many (set notes i (with_pin n None)) later
      frames-freed p pins pin frame loading here census values =
          let now = now-is (Ready p.key pins) (Ready p.key (pins - 1)) here census in
          let same = ap (λ v. slice_get v f) values in
          let some = pin-counts p f (Ready p.key pins) pin frame here in
          frames-step f (Ready p.key pins) (Ready p.key (pins - 1)) (with_pin n None) later here census
          (ap length values)
          (λ g ne. ap (λ v. slice_get v g) values)
          (λ g ne. sym (ap (is_pin_of g) pin ∙ ne_eqb p.frame g (λ e. ne (sym e ∙ frame))))
          (λ g ne. sym (none-load g n.loading loading))
          (let a = one-yes (pins_frame f n) (pin-here f n.pin p pin frame) in omega arith)
          (let a = ap one (none-load f n.loading loading) in omega arith)
          (λ q e h less. stays p.key pins (pins - 1) here now same q e h)
          (omega arith)
          (λ q e. absurd (none-some q e))
          (λ l e. absurd (none-some l e))
          (λ k more b e v. subst (λ z. fits z (arc_value b)) (same-ready p.key k (pins - 1) more e)
          (fit.fitting f p.key pins b here (sym same ∙ v)))

    -- the holder pins and loads what it did
    pub frames-same : (m : Note K T) → m.pin ≡ n.pin → m.loading ≡ n.loading → FramesFit fits many (set notes i m) pool
    frames-same m pin loading = record {
      frames = fit.frames;
      values = fit.values;
      pins = λ f state e. let s = sum-set (count (pins_frame f)) notes i n m (from_elem notes i n at) in let x = ap
          (λ o. one (is_pin_of f o)) pin in let w = fit.pins f state e in omega arith;
      loads = λ f state e. let s = sum-set (count (loads_frame f)) notes i n m (from_elem notes i n at) in let x = ap
          (λ o. one (is_load_of f o)) loading in let w = fit.loads f state e in omega arith;
      pinned = λ j u p e is. ⊎_elim
          (λ (t : (j ≡ i) × (m ≡ u)). fit.pinned i n p at (sym pin ∙ (ap (λ (z : Note K T). z.pin) t.1 ∙ is)))
          (λ (t : (j ≢ i) × (get_elem? notes j ≡ some u)). fit.pinned j u p t.1 is) (at_set notes i j m u e);
      loading = λ j u l e is. ⊎_elim
          (λ (t : (j ≡ i) × (m ≡ u)). fit.loading i n l at (sym loading ∙ (ap
          (λ (z : Note K T). z.loading) t.1 ∙ is)))
          (λ (t : (j ≢ i) × (get_elem? notes j ≡ some u)). fit.loading j u l t.1 is) (at_set notes i j m u e);
      fitting = fit.fitting;
    }

    -- an idle note counts nowhere
    idle-pins : (u : Note K T) (f : ℕ) → IsIdle u → one (pins_frame f u) ≡ 0
    idle-pins u f idle = ap (λ o. one (is_pin_of f o)) idle.0

    idle-loads : (u : Note K T) (f : ℕ) → IsIdle u → one (loads_frame f u) ≡ 0
    idle-loads u f idle = ap (λ o. one (is_load_of f o)) idle.1

    -- an idle note is divided
    pub frames-divided : (left right : Note K T) → IsIdle n → IsIdle left → IsIdle right
        → FramesFit fits many (set notes i left ++ right ∷ []) pool
    frames-divided left right idle a b = record {
      frames = fit.frames;
      values = fit.values;
      pins = λ f state e. let s = sum-set (count (pins_frame f)) notes i n left
          (from_elem notes i n at) in let p = sum_by_push (count (pins_frame f)) (set notes i left) right in
          let x = idle-pins n f idle in let y = idle-pins left f a in let z = idle-pins right f b in let w = fit.pins
          f state e in omega arith;
      loads = λ f state e. let s = sum-set (count (loads_frame f)) notes i n left
          (from_elem notes i n at) in let p = sum_by_push (count (loads_frame f)) (set notes i left) right in
          let x = idle-loads n f idle in let y = idle-loads left f a in let z = idle-loads right f b in let w =
          fit.loads f state e in omega arith;
      pinned = λ j u p e. each-divided (λ z. z.pin ≡ Some p → HasPin pool p) (λ h. absurd (some-none p (sym h ∙ a.0)))
          (λ h. absurd (some-none p (sym h ∙ b.0))) (λ k z r. fit.pinned k z p r) j u e;
      loading = λ j u l e. each-divided (λ z. z.loading ≡ Some l → HasLoad pool l)
          (λ h. absurd (some-none l (sym h ∙ a.1))) (λ h. absurd (some-none l (sym h ∙ b.1)))
          (λ k z r. fit.loading k z l r) j u e;
      fitting = fit.fitting;
    }
      where
        some-none : {A : Type 0} (x : A) → Some x ≡ None → ⊥
        some-none x e = none-some x (sym e)

        each-divided : (P : Note K T → Type 0) → P left → P right
            → ((k : ℕ) (u : Note K T) → get_elem? notes k ≡ some u → P u) → (k : ℕ) (u : Note K T)
            → get_elem? (set notes i left ++ right ∷ []) k ≡ some u → P u
        each-divided P l r h k u e = ⊎_elim (λ was. ⊎_elim (λ (t : (k ≡ i) × (left ≡ u)). subst P t.1 l)
            (λ (t : (k ≢ i) × (get_elem? notes k ≡ some u)). h k u t.1) (at_set notes i k left u was))
            (λ (t : right ≡ u). subst P t r) (at_snoc (set notes i left) right u k e)

    -- an idle note is added to another
    pub frames-joined : (j : ℕ) (m : Note K T) → get_elem? notes j ≡ some m → j ≢ i → IsIdle m
        → FramesFit fits many (set (set notes i (added n m)) j nothing) pool
    frames-joined j m there apart idle = record {
      frames = fit.frames;
      values = fit.values;
      pins = λ f state e.
          let s = sum-set (count (pins_frame f)) notes i n (added n m) (from_elem notes i n at) in
          let t = sum-set (count (pins_frame f)) (set notes i (added n m)) j m nothing
          (get-set_other notes i j (added n m) apart ∙ from_elem notes j m there) in
          let x = idle-pins m f idle in let w = fit.pins f state e in omega arith;
      loads = λ f state e.
          let s = sum-set (count (loads_frame f)) notes i n (added n m) (from_elem notes i n at) in
          let t = sum-set (count (loads_frame f)) (set notes i (added n m)) j m nothing
          (get-set_other notes i j (added n m) apart ∙ from_elem notes j m there) in
          let x = idle-loads m f idle in let w = fit.loads f state e in omega arith;
      pinned = λ k u p e. each-joined (λ z. z.pin ≡ Some p → HasPin pool p) (λ h. absurd (none-some p h))
          (λ h. fit.pinned i n p at h) (λ l z r. fit.pinned l z p r) k u e;
      loading = λ k u l e. each-joined (λ z. z.loading ≡ Some l → HasLoad pool l) (λ h. absurd (none-some l h))
          (λ h. fit.loading i n l at h) (λ o z r. fit.loading o z l r) k u e;
      fitting = fit.fitting;
    }
      where
        each-joined : (P : Note K T → Type 0) → P nothing → P (added n m)
            → ((k : ℕ) (u : Note K T) → get_elem? notes k ≡ some u → P u) → (k : ℕ) (u : Note K T)
            → get_elem? (set (set notes i (added n m)) j nothing) k ≡ some u → P u
        each-joined P a b h k u e = ⊎_elim (λ (t : (k ≡ j) × (nothing ≡ u)). subst P t.1 a)
            (λ (t : (k ≢ j) × (get_elem? (set notes i (added n m)) k ≡ some u)). ⊎_elim
            (λ (r : (k ≡ i) × (added n m ≡ u)). subst P r.1 b)
            (λ (r : (k ≢ i) × (get_elem? notes k ≡ some u)). h k u r.1) (at_set notes i k (added n m) u t.1))
            (at_set (set notes i (added n m)) j k nothing u e)
