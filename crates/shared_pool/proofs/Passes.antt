-- What holds of every pass and host holds after each call.
use Rattle.std.proofs.Common.{◌≡◌, ℕ, zero, suc, ◌+◌, ◌<◌, ◌≤◌, Bool, cond, eqb, eq-eqb, List, [], ◌∷◌, ◌++◌, length, take, drop, Option, Some, None, Global, refl, sym, ap, ◌∙◌, subst, arith}
use Rattle.std.specs.List.{slice_get, sum_by}
use Rattle.std.specs.declared.sync.Arc.{Arc}
use Rattle.std.proofs.lemmas.Option.{same_Some}
use Rattle.std.proofs.lemmas.List.Sums.{count_by-le-length}
use Rattle.atomic_table.specs.Seated.{TableId}
use Rattle.turn_lock.specs.Seats.{Seat, fresh as fresh_seat}
use Rattle.shared_pool.specs.declared.answer.Held.{Held}
use Rattle.shared_pool.specs.declared.answer.Held.TheVariants.{Nothing, Loading, Pinned}
use Rattle.shared_pool.specs.declared.entry.Entry.{Entry}
use Rattle.shared_pool.specs.declared.entry.Entry.TheVariants.{Ended}
use Rattle.shared_pool.specs.declared.note.Note.{Note}
use Rattle.shared_pool.specs.declared.note.Pin.{Pin}
use Rattle.shared_pool.specs.declared.note.Load.{Load}
use Rattle.shared_pool.specs.declared.note.Grants.{Grants}
use Rattle.shared_pool.specs.declared.shared.Shared.{Shared}
use Rattle.shared_pool.specs.declared.shared.PoolTag.{PoolTag}
use Rattle.shared_pool.specs.Books.{of_pass, occurs, entered}
use Rattle.shared_pool.specs.Fits.{IsIdle}
use Rattle.shared_pool.specs.Seen.{HasHit, HasGrant, HasSettled, IsHeld, IsPass, IsHost, entry_of_grant, fresh, one_number, other_numbers}
use Rattle.shared_pool.specs.Sums.{one-yes}

pub at-end : {A : Type 0} (xs : List A) (y : A) → slice_get (xs ++ y ∷ []) (length xs) ≡ Some y
at-end [] y = refl
at-end (x ∷ xs) y = at-end xs y

module _ {K : Type 0} where
  -- the number of a pass stands in its note
  pub number-there : (number : ℕ) (granted : List (Grants K)) (entries : List (Entry K)) → granted ≡ record { pass = number; entries = entries } ∷ [] → 0 < occurs number granted
  number-there number granted entries e = let o = one-yes (eqb number number) (eq-eqb number number refl) in let s = ap (occurs number) e in omega arith

  pub has-number : (number : ℕ) (granted : List (Grants K)) → 0 < occurs number granted → 0 < length granted
  has-number number granted h = let m = count_by-le-length (λ (g : Grants K). eqb g.pass number) granted in omega arith

module _ {G K T : Type 0} (old new : Seat (PoolTag G) (Note K T) (Shared K T)) (lock : TableId) (number : ℕ) (has : Held K) (was : IsPass old lock number has)
    (table : new.table ≡ old.table) (tag : new.tag ≡ old.tag) (out : new.out ≡ None) where
  with-note : (now : Held K) (entries : List (Entry K)) → new.note.granted ≡ record { pass = number; entries = entries } ∷ [] → IsHeld now new.note → IsPass new lock number now
  with-note now entries alone held = record {
    own = table ∙ was.own;
    idle = out;
    passes = subst (λ (t : PoolTag G). t.passes ≤ 64) (sym tag) was.passes;
    alone = (entries, alone);
    held = held;
  }

  pub pass-hit : (eq : K → K → Bool) (fits : G → K → T → Type 0) (key : K) (f : ℕ) (copy : Arc T Global) → HasHit eq fits key old.tag old.note new.last new.gave new.note f copy → IsPass new lock number (Pinned f)
  pass-hit eq fits key f copy h = let m = h.3.2.4 in
      with-note (Pinned f) was.alone.0 (ap (λ (n : Note K T). n.granted) m ∙ was.alone.1) (_, ap (λ (n : Note K T). n.pin) m, refl, ap (λ (n : Note K T). n.loading) m)

  pub pass-granted : (eq : K → K → Bool) (key : K) (f : ℕ) → HasGrant eq number key old.tag old.note new.last new.gave new.note f → IsPass new lock number (Loading f key)
  pass-granted eq key f h = let m = h.3.2 in
      with-note (Loading f key) _ (ap (λ (n : Note K T). n.granted) m ∙ ap (entered (entry_of_grant number key f h.0)) was.alone.1) (ap (λ (n : Note K T). n.pin) m, ap (λ (n : Note K T). n.loading) m)

  pub pass-filled : (f : ℕ) (key : K) (a : Arc T Global) → IsHeld (Loading f key) old.note → HasSettled number old.tag old.note new.last new.gave new.note (Some a) → IsPass new lock number (Pinned f)
  pass-filled f key a held h = let m = h.2.3.3 in
      let same = same_Some h.0 (record { frame = f; key = key }) (sym h.1 ∙ held.1) in
      with-note (Pinned f) was.alone.0 (ap (λ (n : Note K T). n.granted) m ∙ was.alone.1) (_, ap (λ (n : Note K T). n.pin) m, ap (λ (l : Load K). l.frame) same, ap (λ (n : Note K T). n.loading) m)

  pub pass-failed : HasSettled number old.tag old.note new.last new.gave new.note None → IsPass new lock number Nothing
  pass-failed h = let m = h.2.3.3 in
      with-note Nothing _ (ap (λ (n : Note K T). n.granted) m ∙ ap (entered (Ended number h.0.key)) was.alone.1) (ap (λ (n : Note K T). n.pin) m, ap (λ (n : Note K T). n.loading) m)

module _ {G K T : Type 0} (seat : Seat (PoolTag G) (Note K T) (Shared K T)) (lock : TableId) (next n more : ℕ) (was : IsHost seat lock next n) (fewer : more + 1 ≡ n) where
  numbers-now : seat.note.granted ≡ record { pass = next; entries = [] } ∷ (fresh (next + 1) more ++ was.numbers.0)
  numbers-now = let e : n ≡ suc more = omega arith in was.numbers.1 ∙ ap (λ k. fresh next k ++ was.numbers.0) e

  pub host-left : (new : Seat (PoolTag G) (Note K T) (Shared K T)) → new ≡ record seat { note = other_numbers seat.note } → IsHost new lock (next + 1) more
  host-left new left = record {
    own = ap (λ s. s.table) left ∙ was.own;
    idle = ap (λ s. s.out) left ∙ was.idle;
    passes = subst (λ (t : PoolTag G). t.passes ≤ 64) (sym (ap (λ s. s.tag) left)) was.passes;
    holds = (ap (λ s. s.note.pin) left ∙ was.holds.0, ap (λ s. s.note.loading) left ∙ was.holds.1);
    left = let p = was.left in let q = ap (λ s. s.tag.passes) left in omega arith;
    numbers = (was.numbers.0, ap (λ s. s.note.granted) left ∙ ap (drop 1) numbers-now);
  }

  pub pass-new : (new : Seat (PoolTag G) (Note K T) (Shared K T)) (other : TableId) → new ≡ fresh_seat seat.table seat.tag (one_number seat.note) → other ≡ lock → IsPass new other next Nothing
  pass-new new other right same = record {
    own = ap (λ s. s.table) right ∙ (was.own ∙ sym same);
    idle = ap (λ s. s.out) right;
    passes = subst (λ (t : PoolTag G). t.passes ≤ 64) (sym (ap (λ s. s.tag) right)) was.passes;
    alone = ([], ap (λ s. s.note.granted) right ∙ ap (take 1) numbers-now);
    held = (ap (λ s. s.note.pin) right, ap (λ s. s.note.loading) right);
  }
