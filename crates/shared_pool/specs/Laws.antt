-- For proofs and inner functions: a pool that fits still fits after a note is divided, after a permitted change, and
-- after two notes are added.
use Rattle.std.proofs.Common.{◌≡◌, ◌≢◌, ◌⊎◌, inl, inr, ℕ, zero, suc, ◌+◌, ◌-◌, ◌<◌, Bool, true, false, List, [], ◌∷◌}
use Rattle.std.proofs.Common.{◌++◌, set, Option, Some, None, Global, refl, sym, ap, ◌∙◌, subst, ⊎_elim, arith}
use Rattle.std.specs.List.{slice_get}
use Rattle.std.specs.Arc.{arc_value}
use Rattle.std.specs.declared.sync.Arc.{Arc}
use Rattle.std.proofs.lemmas.Bool.{false≢true, true≢false}
use Rattle.std.proofs.lemmas.Option.{none-some}
use mathlib.Core.Option.{some}
use lib.ListN.{get_elem?}
use Rattle.atomic_table.proofs.Lists.{set_again}
use Rattle.frame_pool.specs.declared.frame.FrameState.{FrameState}
use Rattle.frame_pool.specs.declared.frame.FrameState.TheVariants.{Empty, Loading, Ready}
use Rattle.frame_pool.specs.declared.frame.Asked.TheVariants.{Hit as hit, Granted as grant}
use Rattle.frame_pool.specs.States.{is_pinned, pins_of, state_key, is_zero}
use Rattle.frame_pool.specs.Frames.{Frames, victim}
use Rattle.frame_pool.specs.Moves.{NoneHas, pinned, unpinned, settled, after_ask, after_settle, after_unpin}
use Rattle.frame_pool.proofs.Pools.{changed-at}
use Rattle.frame_pool.proofs.Victims.{victim-unpinned}
use Rattle.shared_pool.specs.declared.entry.Entry.{Entry}
use Rattle.shared_pool.specs.declared.entry.Entry.TheVariants.{Granted, Ended}
use Rattle.shared_pool.specs.declared.note.Note.{Note}
use Rattle.shared_pool.specs.declared.note.Pin.{Pin}
use Rattle.shared_pool.specs.declared.note.Load.{Load}
use Rattle.shared_pool.specs.declared.shared.Shared.{Shared}
use Rattle.shared_pool.specs.declared.shared.PoolTag.{PoolTag}
use Rattle.shared_pool.specs.Books.{occurs}
use Rattle.shared_pool.specs.Logs.{LogFits}
use Rattle.shared_pool.specs.Fits.{loads_of, key_at, key_in, HasPin, HasNumber, FramesFit, NotesFit, PoolFits}
use Rattle.shared_pool.specs.Fits.{Permits, Divides, IsIdle, Makes, with_pin, with_load, more_busy, added, nothing}
use Rattle.shared_pool.specs.Fits.{Change}
use Rattle.shared_pool.specs.Fits.Change.{Keeps, Misses, Hits, Gives, Fills, Fails, Frees}
use Rattle.shared_pool.specs.FramesKept.{frames-hit, frames-granted, frames-filled, frames-failed, frames-freed}
use Rattle.shared_pool.specs.FramesKept.{frames-divided, frames-joined, frames-same}
use Rattle.shared_pool.specs.LogsKept.{log-kept, log-ended, log-granted}
use Rattle.shared_pool.specs.NotesKept.{notes-kept, notes-entered, notes-divided, notes-joined}

module _ {K : Type 0} where
  unpinned-free : (state : FrameState K) → is_pinned state ≡ false → (pins_of state ≡ 0) × (loads_of state ≡ 0)
  unpinned-free Empty h = (refl, refl)
  unpinned-free (Loading key) h = absurd (true≢false h)
  unpinned-free (Ready key zero) h = (refl, refl)
  unpinned-free (Ready key (suc pins)) h = absurd (true≢false h)

module _ {G K T : Type 0} (eq : K → K → Bool) where
  pub divided : (fits : G → K → T → Type 0) (tag : PoolTag G) (notes : List (Note K T)) (x : Shared K T) (i : ℕ)
      (n left right : Note K T) → PoolFits eq fits tag notes x → get_elem? notes i ≡ some n → Divides n left right
      → PoolFits eq fits tag (set notes i left ++ right ∷ []) x
  divided fits tag notes x i n left right f at d = record {
    framed = frames-divided (fits tag.own) tag.frames notes x.pool i n at f.framed left right d.0 d.1 d.2;
    logged = f.logged;
    listed = notes-divided tag.passes notes x.log i n at f.listed left right d;
  }

  pub joined : (fits : G → K → T → Type 0) (tag : PoolTag G) (notes : List (Note K T)) (x : Shared K T) (i j : ℕ)
      (n m : Note K T) → PoolFits eq fits tag notes x → get_elem? notes i ≡ some n → get_elem? notes j ≡ some m
      → j ≢ i → IsIdle m → PoolFits eq fits tag (set (set notes i (added n m)) j nothing) x
  joined fits tag notes x i j n m f at there apart empty = record {
    framed = frames-joined (fits tag.own) tag.frames notes x.pool i n at f.framed j m there apart empty;
    logged = f.logged;
    listed = notes-joined tag.passes notes x.log i n at f.listed j m there apart empty;
  }

  module _ (fits : G → K → T → Type 0) (tag : PoolTag G) (notes : List (Note K T)) (x : Shared K T) (i : ℕ)
      (n m : Note K T) (y : Shared K T) (f : PoolFits eq fits tag notes x) (at : get_elem? notes i ≡ some n) where
    -- with the note, pool and log that the change has made
    fits-by : (log : List (Entry K)) (note : Note K T) → m ≡ note → y.log ≡ log
        → FramesFit (fits tag.own) tag.frames (set notes i note) y.pool → LogFits eq y.pool.census log
        → NotesFit tag.passes (set notes i note) log → PoolFits eq fits tag (set notes i m) y
    fits-by log note is logs a b c = record {
      framed = subst (λ z. FramesFit (fits tag.own) tag.frames (set notes i z) y.pool) (sym is) a;
      logged = subst (LogFits eq y.pool.census) (sym logs) b;
      listed = subst (λ l. NotesFit tag.passes (set notes i m) l) (sym logs) (subst
          (λ z. NotesFit tag.passes (set notes i z) log) (sym is) c);
    }

    log-by : (log : List (Entry K)) (frame : ℕ) (new : FrameState K) → y.pool.census ≡ set x.pool.census frame new
        → LogFits eq (set x.pool.census frame new) log → LogFits eq y.pool.census log
    log-by log frame new e h = subst (λ c. LogFits eq c log) (sym e) h

    nothing-some : {A B : Type 0} (o : Option A) (z : A) → o ≡ None → o ≡ Some z → B
    nothing-some o z a b = absurd (cc)

    loader-pins : (l : Load K) → n.loading ≡ Some l → n.pin ≡ None
    loader-pins l e = ⊎_elim (λ h. h) (λ h. nothing-some n.loading l h e) (f.listed.single i n at)

    loader-number : (l : Load K) → n.loading ≡ Some l → HasNumber n
    loader-number l e = ⊎_elim (λ h. nothing-some n.loading l h.1 e) (λ h. h) (f.listed.numbered i n at)

    holder-loads : (p : Pin K T) → n.pin ≡ Some p → n.loading ≡ None
    holder-loads p e = ⊎_elim (λ h. nothing-some n.pin p h e) (λ h. h) (f.listed.single i n at)

    kept : m ≡ n → y ≡ x → PoolFits eq fits tag (set notes i m) y
    kept a b = subst (λ z. PoolFits eq fits tag (set notes i m) z) (sym b) (subst
        (λ l. PoolFits eq fits tag l x) (sym (ap (set notes i) a ∙ set_again notes i n at)) f)

    missed : m ≡ more_busy n → y ≡ x → PoolFits eq fits tag (set notes i m) y
    missed a b = subst (λ z. PoolFits eq fits tag (set notes i m) z) (sym b) (subst
        (λ z. PoolFits eq fits tag (set notes i z) x) (sym a) (record {
          framed = frames-same (fits tag.own) tag.frames notes x.pool i n at f.framed (more_busy n) refl refl;
          logged = f.logged;
          listed = notes-kept tag.passes notes x.log i n at f.listed (more_busy n) refl (f.listed.numbered i n at)
              (f.listed.single i n at);
        }))

    changed-by : (change : Change K (Arc T Global)) → Makes eq fits tag change n x m y
        → PoolFits eq fits tag (set notes i m) y
    changed-by Keeps k = kept k.0 k.1
    changed-by Misses k = missed k.0 k.1
    changed-by (Hits g key pins a) k =
        let census = ap (λ (p : Frames K (Arc T Global)). p.census) k.4 ∙ changed-at x.pool.census g
        (Ready key pins) pinned k.2 in
        let values = ap (λ (p : Frames K (Arc T Global)). p.values) k.4 in
        fits-by x.log (with_pin n (Some (record { frame = g; key = key; value = arc_value a }))) k.6 k.5
        (frames-hit (fits tag.own) tag.frames notes x.pool i n at f.framed g y.pool key pins a k.2 k.3 k.0 census
        values)
        (log-by x.log g (Ready key (pins + 1)) census (log-kept eq x.pool.census x.log g (Ready key pins)
        (Ready key (pins + 1)) f.logged k.2 (λ z. refl)))
        (notes-kept tag.passes notes x.log i n at f.listed _ refl (inr k.1) (inr refl))
    changed-by (Gives g pass key) k =
        let v = victim-unpinned x.pool.census x.pool.order g k.3 in
        let free = unpinned-free v.0 v.2 in
        let lost : key_at x.pool.census g ≡ state_key v.0 = ap key_in v.1 in
        let census = ap (λ (p : Frames K (Arc T Global)). p.census) k.4 ∙ changed-at x.pool.census g v.0
        (λ _. Loading key) v.1 in
        let values = ap (λ (p : Frames K (Arc T Global)). p.values) k.4 in
        let e : Entry K = Granted pass key (key_at x.pool.census g) in
        fits-by (x.log ++ e ∷ []) (with_load n (Some (record { frame = g; key = key })) e) k.6 k.5
        (frames-granted (fits tag.own) tag.frames notes x.pool i n at f.framed g y.pool key v.0 e v.1 free.0 free.1
        k.0 census values)
        (log-by (x.log ++ e ∷ []) g (Loading key) census (subst
        (λ l. LogFits eq (set x.pool.census g (Loading key)) (x.log ++ Granted pass key l ∷ [])) (sym lost)
        (log-granted eq x.pool.census x.pool.order x.log g pass key v.0 f.logged v.1 k.2 k.3)))
        (notes-entered tag.passes notes x.log i n at f.listed e
        (with_load n (Some (record { frame = g; key = key })) e) k.1 refl (inl refl))
    changed-by (Fills g key a) k =
        let l : Load K = record { frame = g; key = key } in
        let here = f.framed.loading i n l at k.0 in
        let census = ap (λ (p : Frames K (Arc T Global)). p.census) k.2 ∙ changed-at x.pool.census g (Loading key)
        (settled (Some a)) here in
        let values = ap (λ (p : Frames K (Arc T Global)). p.values) k.2 in
        fits-by x.log (with_pin n (Some (record { frame = g; key = key; value = arc_value a }))) k.4 k.3
        (frames-filled (fits tag.own) tag.frames notes x.pool i n at f.framed g y.pool key a here
        (loader-pins l k.0) k.0 k.1 census values)
        (log-by x.log g (Ready key 1) census (log-kept eq x.pool.census x.log g (Loading key)
        (Ready key 1) f.logged here (λ z. refl)))
        (notes-kept tag.passes notes x.log i n at f.listed _ refl (inr (loader-number l k.0)) (inr refl))
    changed-by (Fails g pass key) k =
        let l : Load K = record { frame = g; key = key } in
        let here = f.framed.loading i n l at k.0 in
        let nothing_there : Option (Arc T Global) = None in
        let census = ap (λ (p : Frames K (Arc T Global)). p.census) k.2 ∙ changed-at x.pool.census g (Loading key)
        (settled nothing_there) here in
        let values = ap (λ (p : Frames K (Arc T Global)). p.values) k.2 in
        let e : Entry K = Ended pass key in
        fits-by (x.log ++ e ∷ []) (with_load n None e) k.4 k.3
        (frames-failed (fits tag.own) tag.frames notes x.pool i n at f.framed g y.pool key e here
        (loader-pins l k.0) k.0 census values)
        (log-by (x.log ++ e ∷ []) g Empty census (log-ended eq x.pool.census x.log g pass key f.logged here))
        (notes-entered tag.passes notes x.log i n at f.listed e (with_load n None e) k.1 refl (inl refl))
    changed-by Frees k =
        let p = k.0 in
        let h = f.framed.pinned i n p at k.1 in
        let census = ap (λ (q : Frames K (Arc T Global)). q.census) k.2 ∙ changed-at x.pool.census p.frame
        (Ready p.key h.0) unpinned h.2 in
        let values = ap (λ (q : Frames K (Arc T Global)). q.values) k.2 in
        fits-by x.log (with_pin n None) k.4 k.3
        (frames-freed (fits tag.own) tag.frames notes x.pool i n at f.framed p.frame y.pool p h.0 k.1 refl
        (holder-loads p k.1) h.2 census values)
        (log-by x.log p.frame (Ready p.key (h.0 - 1)) census (log-kept eq x.pool.census x.log p.frame
        (Ready p.key h.0) (Ready p.key (h.0 - 1)) f.logged h.2 (λ z. refl)))
        (notes-kept tag.passes notes x.log i n at f.listed (with_pin n None) refl (inl (refl, refl)) (inl refl))

  pub changed : (fits : G → K → T → Type 0) (tag : PoolTag G) (notes : List (Note K T)) (x : Shared K T) (i : ℕ)
      (n m : Note K T) (y : Shared K T) → PoolFits eq fits tag notes x → get_elem? notes i ≡ some n
      → Permits eq fits tag n x m y → PoolFits eq fits tag (set notes i m) y
  changed fits tag notes x i n m y f at p = changed-by fits tag notes x i n m y f at p.0 p.1
