-- The changes that a pass makes are permitted, and are what the calls promise.
use Rattle.std.proofs.Common.{◌≡◌, ℕ, ◌+◌, ◌-◌, ◌<◌, ◌≤◌, Bool, true, List, [], ◌∷◌, ◌++◌, length, set, Option, Some, None, Global, refl, sym, ap, ◌∙◌, subst, arith}
use Rattle.std.specs.List.{slice_get}
use Rattle.std.specs.Arc.{arc_value}
use Rattle.std.specs.declared.sync.Arc.{Arc}
use Rattle.std.proofs.lemmas.Option.{slice_get_within, same_Some}
use Rattle.frame_pool.specs.declared.frame.FrameState.{FrameState}
use Rattle.frame_pool.specs.declared.frame.FrameState.TheVariants.{Empty, Loading, Ready}
use Rattle.frame_pool.specs.declared.frame.Asked.{Asked}
use Rattle.frame_pool.specs.declared.frame.Asked.TheVariants.{Hit as hit, Granted as grant}
use Rattle.frame_pool.specs.Frames.{Frames}
use Rattle.frame_pool.specs.Moves.{IsAskAnswer, pinned, settled, after_ask, after_settle, after_unpin}
use Rattle.frame_pool.proofs.Pools.{changed-at}
use Rattle.frame_pool.proofs.Places.{get-set_same}
use Rattle.shared_pool.specs.declared.entry.Entry.{Entry}
use Rattle.shared_pool.specs.declared.entry.Entry.TheVariants.{Granted, Ended}
use Rattle.shared_pool.specs.declared.note.Note.{Note}
use Rattle.shared_pool.specs.declared.note.Pin.{Pin}
use Rattle.shared_pool.specs.declared.note.Load.{Load}
use Rattle.shared_pool.specs.declared.shared.Shared.{Shared}
use Rattle.shared_pool.specs.declared.shared.PoolTag.{PoolTag}
use Rattle.shared_pool.specs.Books.{occurs}
use Rattle.shared_pool.specs.Fits.{PoolFits, Permits, HasPin, HasLoad, HasNumber, IsIdle, key_at, with_pin, with_load}
use Rattle.shared_pool.specs.Fits.Change.{Hits, Gives as Grants, Fills, Fails, Frees}
use Rattle.shared_pool.specs.Seen.{Gives, Takes, HasHit, HasGrant, HasSettled, HasFreed, pin_in, pin_at, entry_of_grant, note_of_grant}

module _ {K T : Type 0} where
  -- the frame that was written
  pub now-at : (pool : Frames K (Arc T Global)) (f : ℕ) (old : FrameState K) (change : FrameState K → FrameState K) → slice_get pool.census f ≡ Some old → slice_get (set pool.census f (change old)) f ≡ Some (change old)
  now-at pool f old change at = get-set_same pool.census f (change old) (slice_get_within pool.census f old at)

  with-record : (y : Shared K T) (gave : Option (Shared K T)) (pool : Frames K (Arc T Global)) (log : List (Entry K)) → gave ≡ Some y → y.pool ≡ pool → y.log ≡ log → Gives gave pool log
  with-record y gave pool log e p l = e ∙ (ap (λ (q : Frames K (Arc T Global)). Some (let z : Shared K T = record { pool = q; log = y.log } in z)) p ∙ ap (λ (m : List (Entry K)). Some (let z : Shared K T = record { pool = pool; log = m } in z)) l)

  module _ {G : Type 0} (eq : K → K → Bool) (fits : G → K → T → Type 0) (tag : PoolTag G) (n : Note K T) (x y : Shared K T) where
    -- the pin of a frame that was hit
    hit-pin : (key : K) (f : ℕ) (own : K) (pins : ℕ) (a : Arc T Global) → slice_get x.pool.census f ≡ Some (Ready own pins) → slice_get x.pool.values f ≡ Some (Some a) → y.pool ≡ after_ask key x.pool (hit f)
        → pin_at y.pool f ≡ Some (record { frame = f; key = own; value = arc_value a })
    hit-pin key f own pins a at value e =
        let census : slice_get y.pool.census f ≡ Some (Ready own (pins + 1)) = ap (λ (p : Frames K (Arc T Global)). slice_get p.census f) e ∙ (ap (λ c. slice_get c f) (changed-at x.pool.census f (Ready own pins) pinned at) ∙ now-at x.pool f (Ready own pins) pinned at) in
        let values : slice_get y.pool.values f ≡ Some (Some a) = ap (λ (p : Frames K (Arc T Global)). slice_get p.values f) e ∙ value in
        ap (λ s. pin_in f s (slice_get y.pool.values f)) census ∙ ap (pin_in f (Some (Ready own (pins + 1)))) values

    pub hit-permitted : (key : K) (f : ℕ) (a : Arc T Global) → IsIdle n → HasNumber n → IsAskAnswer eq key x.pool (hit f) → slice_get x.pool.values f ≡ Some (Some a) → y.pool ≡ after_ask key x.pool (hit f) → y.log ≡ x.log
        → Permits eq fits tag n x (with_pin n (pin_at y.pool f)) y
    hit-permitted key f a idle number answer value e l = (Hits f answer.0 answer.1 a, (idle, number, answer.2, value, e, l, ap (with_pin n) (hit-pin key f answer.0 answer.1 a answer.2 value e)))

    pub hit-made : (key : K) (f : ℕ) (a copy : Arc T Global) (last gave : Option (Shared K T)) (m : Note K T) (notes : List (Note K T)) → PoolFits eq fits tag notes x → last ≡ Some x → IsAskAnswer eq key x.pool (hit f) → slice_get x.pool.values f ≡ Some (Some a) → arc_value copy ≡ arc_value a
        → y.pool ≡ after_ask key x.pool (hit f) → y.log ≡ x.log → gave ≡ Some y → m ≡ with_pin n (pin_at y.pool f) → HasHit eq fits key tag n last gave m f copy
    hit-made key f a copy last gave m notes fit is answer value same e l g o = (
      x,
      is,
      fit.framed.frames,
      (
        answer,
        with-record y gave (after_ask key x.pool (hit f)) x.log g e l,
        (
          answer.0,
          answer.3,
          subst (fits tag.own answer.0) (sym same) (fit.framed.fitting f answer.0 answer.1 a answer.2 value),
          (answer.1, a, answer.2, value, sym same),
          o ∙ (ap (with_pin n) (hit-pin key f answer.0 answer.1 a answer.2 value e) ∙ ap (λ (v : T). with_pin n (Some (let p : Pin K T = record { frame = f; key = answer.0; value = v } in p))) (sym same)),
        ),
      ),
    )

    pub grant-permitted : (number : ℕ) (key : K) (f : ℕ) → IsIdle n → 0 < occurs number n.granted → IsAskAnswer eq key x.pool (grant f) → y.pool ≡ after_ask key x.pool (grant f) → y.log ≡ x.log ++ entry_of_grant number key f x ∷ []
        → Permits eq fits tag n x (with_load n (Some (record { frame = f; key = key })) (entry_of_grant number key f x)) y
    grant-permitted number key f idle has answer e l = (Grants f number key, (idle, has, answer.0, answer.1, e, l, refl))

    -- the note that the grant states
    pub note-given : (number : ℕ) (key : K) (f : ℕ) (out : Option (Shared K T)) → out ≡ Some x → Permits eq fits tag n x (with_load n (Some (record { frame = f; key = key })) (entry_of_grant number key f x)) y → Permits eq fits tag n x (note_of_grant n number key f out) y
    note-given number key f out is p = subst (λ o. Permits eq fits tag n x (note_of_grant n number key f o) y) (sym is) p

    pub grant-made : (number : ℕ) (key : K) (f : ℕ) (last gave : Option (Shared K T)) (m : Note K T) (notes : List (Note K T)) → PoolFits eq fits tag notes x → last ≡ Some x → IsAskAnswer eq key x.pool (grant f)
        → y.pool ≡ after_ask key x.pool (grant f) → y.log ≡ x.log ++ entry_of_grant number key f x ∷ [] → gave ≡ Some y → m ≡ with_load n (Some (record { frame = f; key = key })) (entry_of_grant number key f x)
        → HasGrant eq number key tag n last gave m f
    grant-made number key f last gave m notes fit is answer e l g o = (x, is, fit.framed.frames, (answer, with-record y gave (after_ask key x.pool (grant f)) (x.log ++ entry_of_grant number key f x ∷ []) g e l, o))

    -- the pin of a frame that was filled
    fill-pin : (key : K) (f : ℕ) (a : Arc T Global) → slice_get x.pool.census f ≡ Some (Loading key) → f < length x.pool.values → y.pool ≡ after_settle f (Some a) x.pool
        → pin_at y.pool f ≡ Some (record { frame = f; key = key; value = arc_value a })
    fill-pin key f a at inside e =
        let census : slice_get y.pool.census f ≡ Some (Ready key 1) = ap (λ (p : Frames K (Arc T Global)). slice_get p.census f) e ∙ (ap (λ c. slice_get c f) (changed-at x.pool.census f (Loading key) (settled (Some a)) at) ∙ now-at x.pool f (Loading key) (settled (Some a)) at) in
        let values : slice_get y.pool.values f ≡ Some (Some a) = ap (λ (p : Frames K (Arc T Global)). slice_get p.values f) e ∙ get-set_same x.pool.values f (Some a) inside in
        ap (λ s. pin_in f s (slice_get y.pool.values f)) census ∙ ap (pin_in f (Some (Ready key 1))) values

    filled-inside : (key : K) (f : ℕ) (notes : List (Note K T)) → PoolFits eq fits tag notes x → slice_get x.pool.census f ≡ Some (Loading key) → f < length x.pool.values
    filled-inside key f notes fit at = let a = slice_get_within x.pool.census f (Loading key) at in let b = fit.framed.frames in let c = fit.framed.values in omega arith

    pub fill-permitted : (key : K) (f : ℕ) (a : Arc T Global) (notes : List (Note K T)) → PoolFits eq fits tag notes x → n.loading ≡ Some (record { frame = f; key = key }) → slice_get x.pool.census f ≡ Some (Loading key) → fits tag.own key (arc_value a)
        → y.pool ≡ after_settle f (Some a) x.pool → y.log ≡ x.log → Permits eq fits tag n x (with_pin n (pin_at y.pool f)) y
    fill-permitted key f a notes fit loads at fitting e l = (Fills f key a, (loads, fitting, e, l, ap (with_pin n) (fill-pin key f a at (filled-inside key f notes fit at) e)))

    settled-at : (value : Option (Arc T Global)) (key : K) (f : ℕ) → slice_get x.pool.census f ≡ Some (Loading key) → slice_get (after_settle f value x.pool).census f ≡ Some (settled value (Loading key))
    settled-at value key f at = ap (λ c. slice_get c f) (changed-at x.pool.census f (Loading key) (settled value) at) ∙ now-at x.pool f (Loading key) (settled value) at

    pub fill-made : (number : ℕ) (key : K) (f : ℕ) (a : Arc T Global) (last gave : Option (Shared K T)) (m : Note K T) (notes : List (Note K T)) → PoolFits eq fits tag notes x → last ≡ Some x → n.loading ≡ Some (record { frame = f; key = key }) → slice_get x.pool.census f ≡ Some (Loading key)
        → y.pool ≡ after_settle f (Some a) x.pool → y.log ≡ x.log → gave ≡ Some y → m ≡ with_pin n (pin_at y.pool f) → HasSettled number tag n last gave m (Some a)
    fill-made number key f a last gave m notes fit is loads at e l g o =
        (record { frame = f; key = key }, loads, (x, is, fit.framed.frames, (at, with-record y gave (after_settle f (Some a) x.pool) x.log g e l, settled-at (Some a) key f at, o ∙ ap (with_pin n) (fill-pin key f a at (filled-inside key f notes fit at) e))))

    pub fail-permitted : (number : ℕ) (key : K) (f : ℕ) → n.loading ≡ Some (record { frame = f; key = key }) → 0 < occurs number n.granted → y.pool ≡ after_settle f None x.pool → y.log ≡ x.log ++ Ended number key ∷ [] → Permits eq fits tag n x (with_load n None (Ended number key)) y
    fail-permitted number key f loads has e l = (Fails f number key, (loads, has, e, l, refl))

    pub fail-made : (number : ℕ) (key : K) (f : ℕ) (last gave : Option (Shared K T)) (m : Note K T) (notes : List (Note K T)) → PoolFits eq fits tag notes x → last ≡ Some x → n.loading ≡ Some (record { frame = f; key = key }) → slice_get x.pool.census f ≡ Some (Loading key)
        → y.pool ≡ after_settle f None x.pool → y.log ≡ x.log ++ Ended number key ∷ [] → gave ≡ Some y → m ≡ with_load n None (Ended number key) → HasSettled number tag n last gave m None
    fail-made number key f last gave m notes fit is loads at e l g o =
        (record { frame = f; key = key }, loads, (x, is, fit.framed.frames, (at, with-record y gave (after_settle f None x.pool) (x.log ++ Ended number key ∷ []) g e l, settled-at None key f at, o)))

    pub free-permitted : (p : Pin K T) → n.pin ≡ Some p → y.pool ≡ after_unpin p.frame x.pool → y.log ≡ x.log → Permits eq fits tag n x (with_pin n None) y
    free-permitted p is e l = (Frees, (p, is, e, l, refl))

    pub free-made : (p : Pin K T) (last gave : Option (Shared K T)) (m : Note K T) (notes : List (Note K T)) → PoolFits eq fits tag notes x → last ≡ Some x → n.pin ≡ Some p → HasPin x.pool p → y.pool ≡ after_unpin p.frame x.pool → y.log ≡ x.log → gave ≡ Some y → m ≡ with_pin n None → HasFreed tag n last gave m
    free-made p last gave m notes fit is pin found e l g o = (p, pin, (x, is, fit.framed.frames, (found, with-record y gave (after_unpin p.frame x.pool) x.log g e l, o)))
