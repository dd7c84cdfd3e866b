-- Steps that a lock may not make: each is shown false, so that no proof could allow it.
use Rattle.std.proofs.Common.{◌≡◌, ℕ, zero, suc, ◌<◌, eqb, List, [], ◌∷◌, length, get_or, sym, refl, ap, subst, ⊎_elim, inl, inr, arith, Option, Some, None, ◌⊎◌}
use mathlib.Core.Option.{some, some-ne-none, some-injective}
use mathlib.Core.Option as maybe
use lib.ListN.{get_elem?}
use prog.Atomic.{either}
use Rattle.atomic_table.specs.Table.{State, Act, keeps, takes, gives, chain, homes_after, carried_after, Valid, opening, Allows}
use Rattle.turn_lock.specs.declared.view.View.{View}
use Rattle.turn_lock.specs.Turns.{view, Free, Taken, Turning, took, ended}
use Rattle.turn_lock.proofs.Keeps.{begins}

first_alone : {A : Type 0} (a b : A) (i : ℕ) → get_elem? (a ∷ []) i ≡ some b → (i ≡ 0) × (a ≡ b)
first_alone a b zero e = (refl, some-injective a b e)
first_alone a b (suc i) e = absurd (some-ne-none b (sym e))

module _ {G N T : Type 0} (tag : G) (note : N) (x : T) where
  -- a rule that every value meets
  abbrev any : G → List N → T → Type 0
  any g notes y = Unit {0}

  abbrev V : Type 0
  V = View G N T

  abbrev S : Type 0
  S = State (Option T) V

  abbrev Rule : S → Type 0
  Rule = Turning any tag

  abbrev idle : V
  idle = view tag note [] None

  abbrev holder : V
  holder = view tag note [] (Some x)

  some_or_none : (y : T) (o : Option T) → o ≡ Some y → o ≡ None → ⊥
  some_or_none y o a b = absurd (cc)

  -- the only seat has the value out
  abbrev away : S
  away = record { words = 1 ∷ []; homes = maybe.none ∷ []; views = holder ∷ [] }

  away_holds : Rule away
  away_holds = record {
    one_word = refl;
    one_tag = λ i v e _. ap (λ (u : V). u.tag) (sym (first_alone holder v i e).1);
    value = x;
    fitting = tt;
    turn = inr (0, refl, refl, omega arith, λ i v e. let only = first_alone holder v i e in ((λ _. ap (λ (u : V). u.out) (sym only.1)), (λ other. absurd (other only.0))));
  }

  out_without_turn : (s : S) (w : V) (y : T) → Rule s → get_elem? s.views 0 ≡ some w → w.out ≡ Some y → get_or s.words 0 0 ≡ 0 → ⊥
  out_without_turn s w y r at has none = ⊎_elim
      (λ (f : Free r.value (get_or s.words 0 0) s.homes s.views). some_or_none y w.out has (f.2 0 w at))
      (λ (k : Taken r.value (get_or s.words 0 0) s.homes s.views). let one = k.1 in absurd (omega arith)) r.turn

  turn_without_out : (s : S) (w : V) → Rule s → s.views ≡ w ∷ [] → w.out ≡ None → get_or s.words 0 0 ≡ 1 → ⊥
  turn_without_out s w r all none one = ⊎_elim
      (λ (f : Free r.value (get_or s.words 0 0) s.homes s.views). let free = f.0 in absurd (omega arith))
      (λ (k : Taken r.value (get_or s.words 0 0) s.homes s.views). let first : k.0 < 1 = subst (λ (l : List V). k.0 < length l) all k.3 in
      some_or_none r.value w.out ((k.4 0 w (ap (λ (l : List V). get_elem? l 0) all)).0 (omega arith)) none) r.turn

  -- a try that leaves the turn free takes no value
  pub takes_without_a_turn : Allows Rule 1 0 (idle, []) 0 (λ n. either (eqb n 0) 0 n) (took any (idle, [])) → ⊥
  takes_without_a_turn step = let r = step (opening (0 ∷ []) (Some x ∷ []) idle) (begins any tag x note tt) refl refl (omega arith) in ⊎_elim
      (λ told. out_without_turn _ r.0 told.1.0 r.3 refl (ap (λ (m : V × List (ℕ × Option T)). m.0.out) told.1.1) refl)
      (λ told. let none = told.0 in absurd (omega arith)) r.4

  -- a value that is at home ends the turn
  pub keeps_the_turn : Allows Rule 1 0 (holder, (0, Some x) ∷ []) 0 (λ _. 1) (λ _. ended (holder, (0, Some x) ∷ [])) → ⊥
  keeps_the_turn step = let r = step away away_holds refl refl (omega arith) in turn_without_out _ r.0 r.3 refl (ap (λ (m : V × List (ℕ × Option T)). m.0.out) r.4) refl

  -- the slot is empty, at home or with the seat
  abbrev Empty : List (maybe.Option (Option T)) × List (ℕ × Option T) → Type 0
  Empty p = (p ≡ (maybe.none ∷ [], (0, None) ∷ [])) ⊎ (p ≡ (maybe.some None ∷ [], []))

  stays_empty : (a : Act (Option T)) (p : List (maybe.Option (Option T)) × List (ℕ × Option T)) → Empty p → Valid p.0 p.1 a → Empty (homes_after p.0 p.1 a, carried_after p.1 a)
  stays_empty keeps p e v = e
  stays_empty gives p e v = ⊎_elim (λ with_seat. inr (ap (λ (q : List (maybe.Option (Option T)) × List (ℕ × Option T)). (homes_after q.0 q.1 gives, carried_after q.1 gives)) with_seat)) (λ at_home. inr (ap (λ (q : List (maybe.Option (Option T)) × List (ℕ × Option T)). (homes_after q.0 q.1 gives, carried_after q.1 gives)) at_home)) e
  stays_empty (takes k y) p e v = ⊎_elim
      (λ with_seat. let there = first_alone maybe.none (some y) k (subst (λ (q : List (maybe.Option (Option T)) × List (ℕ × Option T)). get_elem? q.0 k ≡ some (some y)) with_seat v) in absurd (some-ne-none y (sym there.1)))
      (λ at_home. let there = first_alone (some None) (some y) k (subst (λ (q : List (maybe.Option (Option T)) × List (ℕ × Option T)). get_elem? q.0 k ≡ some (some y)) at_home v) in
      let same = some-injective None y there.1 in
      inl (λ i. (homes_after (at_home i).0 (at_home i).1 (takes (there.0 i) (sym same i)), carried_after (at_home i).1 (takes (there.0 i) (sym same i)))))
      e
  stays_empty (chain a b) p e v = stays_empty b (homes_after p.0 p.1 a, carried_after p.1 a) (stays_empty a p e v.0) v.1

  not_empty : (y : T) (l : List (ℕ × Option T)) → Empty (some (Some y) ∷ [], l) → ⊥
  not_empty y l e = ⊎_elim (λ with_seat. let p = ap (λ (q : List (maybe.Option (Option T)) × List (ℕ × Option T)). get_elem? q.0 0) with_seat in some-ne-none (Some y) (some-injective (some (Some y)) maybe.none p))
      (λ at_home. let p = ap (λ (q : List (maybe.Option (Option T)) × List (ℕ × Option T)). get_elem? q.0 0) at_home in some_or_none y (Some y) refl (some-injective (Some y) None (some-injective (some (Some y)) (some None) p))) e

  -- a turn doesn't end while the slot is empty
  pub leaves_the_slot_empty : Allows Rule 1 0 (holder, (0, None) ∷ []) 0 (λ _. 0) (λ _. ended (holder, (0, None) ∷ [])) → ⊥
  leaves_the_slot_empty step = let r = step away away_holds refl refl (omega arith) in ⊎_elim
      (λ free. not_empty r.3.value (carried_after ((0, None) ∷ []) r.1) (subst (λ (hs : List (maybe.Option (Option T))). Empty (hs, carried_after ((0, None) ∷ []) r.1)) free.1 (stays_empty r.1 (maybe.none ∷ [], (0, None) ∷ []) (inl refl) r.2)))
      (λ taken. let one = taken.1 in absurd (omega arith)) r.3.turn
