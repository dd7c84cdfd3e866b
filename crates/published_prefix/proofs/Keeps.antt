-- Each step keeps the rule of the published words.
use Rattle.std.proofs.Common.{◌≡◌, ◌≢◌, ◌⊎◌, ℕ, zero, suc, ◌+◌, ◌*◌, ◌-◌, ◌/◌, ◌%◌, ◌^◌, ◌<◌, ◌≤◌, eqb, List, [], ◌∷◌, ◌++◌, length, get_or, set, sym, refl, ap, ◌∙◌, subst, ⊎_elim, inl, inr, arith, length-set, length-append, get_or-set_same, get_or-set_other, eq-eqb, ne_eqb, Option, Some, None}
use mathlib.Core.Logic.{dite}
use mathlib.Core.Option.{some, some-ne-none}
use mathlib.Core.Option as maybe
use native.Mathlib.Decide.{ℕ_discrete, dec_le}
use lib.ListN.{get_elem?}
use lib.Seq.{set-get_or}
use Rattle.std.proofs.Math.Seq.{get_or-append_seam}
use Rattle.std.proofs.lemmas.List.{get_or_append_left}
use prog.Atomic.{either}
use Rattle.atomic_table.specs.Table.{State, Me, Act, step, keeps, takes, gives, put_back, Valid, carried_after, stepped, opening, Allows, Splits}
use Rattle.tile_coords.specs.declared.walk_end.WalkEnd.{WalkEnd}
use Rattle.tile_coords.specs.declared.walk_end.WalkEnd.TheVariants.{Partial, Complete, TooMany, Fault}
use Rattle.published_prefix.specs.declared.view.Half.{Half}
use Rattle.published_prefix.specs.declared.view.Turn.{Turn}
use Rattle.published_prefix.specs.declared.view.Turn.TheVariants.{Idle, Claimed, At}
use Rattle.published_prefix.specs.declared.view.View.{View}
use Rattle.published_prefix.specs.Heads.{head, head_number, fault_high, fault_low, NoFurther}
use Rattle.published_prefix.specs.Prefixes.{joined, halves_of, Stands, HalfStands, first_view, informed_view, tried, seeing, storing, with_turn, with_half, Holds, Free, Taken, Known, Publishing, turn_at, Gains, sees, reads_high, reads_low, reads_fault, claims, row_with, fault_high_with, fault_low_with, puts, publishes, leaves}
use Rattle.atomic_table.proofs.Lists.{at_set, set_again, at_snoc}

module _ {A : Type 0} where
  at_front : (l m : List A) (i : ℕ) → i < length l → get_elem? (l ++ m) i ≡ get_elem? l i
  at_front [] m i h = absurd (omega arith)
  at_front (x ∷ xs) m zero h = refl
  at_front (x ∷ xs) m (suc i) h = at_front xs m i (omega arith)

  at_less : (l : List A) (i : ℕ) (a : A) → get_elem? l i ≡ some a → i < length l
  at_less [] i a e = absurd (some-ne-none a (sym e))
  at_less (x ∷ xs) zero a e = omega arith
  at_less (x ∷ xs) (suc i) a e = let h = at_less xs i a e in omega arith

none_is_idle : (t : Turn) → t ≡ Idle → t ≡ Claimed → ⊥
none_is_idle t a b = absurd (cc)

at_is_no_idle : (t : Turn) (k n : ℕ) (e : WalkEnd) (row : List ℕ) (high low : Option ℕ) → t ≡ Idle → t ≡ At k n e row high low → ⊥
at_is_no_idle t k n e row high low a b = absurd (cc)

-- a later head is no nearer
further : (k n : ℕ) (e : WalkEnd) (k' n' : ℕ) (e' : WalkEnd) (k'' n'' : ℕ) (e'' : WalkEnd) → NoFurther k n e k' n' e' → NoFurther k' n' e' k'' n'' e'' → NoFurther k n e k'' n'' e''
further k n e k' n' e' k'' n'' e'' a b = ⊎_elim
    (λ (x : (e ≡ Partial) × (k < k') × (n ≤ n')). let x1 = x.1 in let x2 = x.2 in ⊎_elim (λ (y : (e' ≡ Partial) × (k' < k'') × (n' ≤ n'')). let y1 = y.1 in let y2 = y.2 in inl (x.0, omega arith, omega arith))
    (λ (y : (k' ≡ k'') × (n' ≡ n'') × (e' ≡ e'')). let y0 = y.0 in let y1 = y.1 in inl (x.0, omega arith, omega arith)) b)
    (λ (x : (k ≡ k') × (n ≡ n') × (e ≡ e')). ⊎_elim (λ (y : (e' ≡ Partial) × (k' < k'') × (n' ≤ n'')). let x0 = x.0 in let x1 = x.1 in let y1 = y.1 in let y2 = y.2 in inl (x.2 ∙ y.0, omega arith, omega arith))
    (λ (y : (k' ≡ k'') × (n' ≡ n'') × (e' ≡ e'')). inr (x.0 ∙ y.0, x.1 ∙ y.1, x.2 ∙ y.2)) b) a

no_nearer : (k n : ℕ) (e : WalkEnd) (k' n' : ℕ) (e' : WalkEnd) → NoFurther k n e k' n' e' → n ≤ n'
no_nearer k n e k' n' e' a = ⊎_elim (λ (x : (e ≡ Partial) × (k < k') × (n ≤ n')). x.2) (λ (x : (k ≡ k') × (n ≡ n') × (e ≡ e')). let same = x.1 in omega arith) a

same_head : (k n : ℕ) (e : WalkEnd) → NoFurther k n e k n e
same_head k n e = inr (refl, refl, refl)

-- another number changes, and a word that is being loaded stands as before
half_else : (ws : List ℕ) (i x n : ℕ) (h : Option Half) → ((j : ℕ) → j < n → 2 * j + 5 ≢ i) → HalfStands ws n h → HalfStands (set ws i x) n h
half_else ws i x n None apart stands = tt
half_else ws i x n (Some h) apart stands = (stands.0, get_or-set_other ws i (2 * h.place + 5) x 0 (apart h.place stands.0) ∙ stands.1)

half_longer : (ws : List ℕ) (n n' : ℕ) (h : Option Half) → n ≤ n' → HalfStands ws n h → HalfStands ws n' h
half_longer ws n n' None more stands = tt
half_longer ws n n' (Some h) more stands = let inside = stands.0 in (omega arith, stands.1)

abbrev low_of : Option Half → ℕ
low_of None = 0
low_of (Some h) = h.low

stands_else : (ws : List ℕ) (i j x : ℕ) (o : Option ℕ) → j ≢ i → Stands (get_or ws j 0) o → Stands (get_or (set ws i x) j 0) o
stands_else ws i j x o other was = subst (λ (z : ℕ). Stands z o) (sym (get_or-set_other ws i j x 0 other)) was

-- the row past n words, when its next number is written, and when another one is
row_more : (ws row : List ℕ) (n x : ℕ) → 2 * n + length row + 4 < length ws → ((i : ℕ) → i < length row → get_or ws (2 * n + i + 4) 0 ≡ get_or row i 0)
    → (i : ℕ) → i < length (row ++ x ∷ []) → get_or (set ws (2 * n + length row + 4) x) (2 * n + i + 4) 0 ≡ get_or (row ++ x ∷ []) i 0
row_more ws row n x room were i l = let len = length-append row (x ∷ []) in dite (ℕ_discrete i (length row))
    (λ e. ap (λ (z : ℕ). get_or (set ws (2 * n + length row + 4) x) (2 * n + z + 4) 0) e ∙ (get_or-set_same ws (2 * n + length row + 4) x 0 room ∙ (sym (get_or-append_seam row x [] 0) ∙ ap (λ (z : ℕ). get_or (row ++ x ∷ []) z 0) (sym e))))
    (λ other. get_or-set_other ws (2 * n + length row + 4) (2 * n + i + 4) x 0 (λ e. other (omega arith)) ∙ (were i (omega arith) ∙ sym (get_or_append_left row (x ∷ []) 0 i (omega arith))))

row_else : (ws row : List ℕ) (n i x : ℕ) → i < 4 → ((j : ℕ) → j < length row → get_or ws (2 * n + j + 4) 0 ≡ get_or row j 0) → (j : ℕ) → j < length row → get_or (set ws i x) (2 * n + j + 4) 0 ≡ get_or row j 0
row_else ws row n i x before were j l = get_or-set_other ws i (2 * n + j + 4) x 0 (λ e. omega arith) ∙ were j l

abbrev number_in : Option ℕ → ℕ
number_in None = 0
number_in (Some x) = x

some_same : {x y : ℕ} → Some x ≡ Some y → x ≡ y
some_same e = ap number_in e

no_fault : (e : WalkEnd) (A : Type 0) (root number : ℕ) → Partial ≡ e → e ≡ Fault root number → A
no_fault e A root number a b = absurd (cc)

-- the turn after a store by the seat that has it
pub put_turn : {G T : Type 0} {m m' : Me (Option T) (View G)} {x : ℕ} {t : Turn} (put : Turn → ℕ → Turn) → puts put m x m' → m.0.turn ≡ t → m'.0.turn ≡ put t x
put_turn {x = x} put after is = ap (λ m. m.0.turn) after ∙ ap (λ u. put u x) is

pub longer : (row : List ℕ) (x : ℕ) → length (row ++ x ∷ []) ≡ suc (length row)
longer row x = let l = length-append row (x ∷ []) in omega arith

module _ {G T : Type 0} (capacity : ℕ) (word_at : G → ℕ → ℕ → Type 0) (is_head : G → ℕ → ℕ → WalkEnd → Type 0) (fits : G → ℕ → ℕ → WalkEnd → T → Type 0) (tag : G) where
  abbrev V : Type 0
  V = View G

  abbrev S : Type 0
  S = State (Option T) V

  abbrev M : Type 0
  M = Me (Option T) V

  abbrev Rule : S → Type 0
  Rule = Publishing capacity word_at is_head fits tag

  abbrev Hs : List ℕ → List (maybe.Option (Option T)) → ℕ → ℕ → WalkEnd → Turn → Type 0
  Hs = Holds capacity word_at is_head fits tag

  abbrev F : List ℕ → List (maybe.Option (Option T)) → List V → ℕ → ℕ → WalkEnd → Type 0
  F = Free capacity word_at is_head fits tag

  abbrev K : List ℕ → List (maybe.Option (Option T)) → List V → ℕ → ℕ → WalkEnd → Type 0
  K = Taken capacity word_at is_head fits tag

  abbrev Kn : List ℕ → ℕ → ℕ → WalkEnd → V → Type 0
  Kn = Known capacity word_at is_head fits tag

  -- what holds of each view, after one has changed
  each_set : (P : ℕ → V → Type 0) (vs : List V) (id : ℕ) (w : V) → P id w → ((j : ℕ) (v : V) → j ≢ id → get_elem? vs j ≡ some v → P j v)
      → (j : ℕ) (v : V) → get_elem? (set vs id w) j ≡ some v → P j v
  each_set P vs id w mine others j v e = ⊎_elim (λ (t : (j ≡ id) × (w ≡ v)). subst (λ (x : ℕ × V). P x.0 x.1) (λ i. (sym t.0 i, t.1 i)) mine)
      (λ (t : (j ≢ id) × (get_elem? vs j ≡ some v)). others j v t.0 t.1) (at_set vs id j w v e)

  known_else : (ws : List ℕ) (i x k n : ℕ) (e : WalkEnd) (v : V) → ((j : ℕ) → j < n → 2 * j + 5 ≢ i) → Kn ws k n e v → Kn (set ws i x) k n e v
  known_else ws i x k n e v apart known = record { of_tag = known.of_tag; of_size = known.of_size; near = known.near; half = half_else ws i x n v.half apart known.half }

  word_else : (ws : List ℕ) (i x j : ℕ) → 2 * j + 4 ≢ i → 2 * j + 5 ≢ i → word_at tag j (joined (get_or ws (2 * j + 4) 0) (get_or ws (2 * j + 5) 0))
      → word_at tag j (joined (get_or (set ws i x) (2 * j + 4) 0) (get_or (set ws i x) (2 * j + 5) 0))
  word_else ws i x j other another was = subst (λ (p : ℕ × ℕ). word_at tag j (joined p.0 p.1)) (λ z. (sym (get_or-set_other ws i (2 * j + 4) x 0 other) z, sym (get_or-set_other ws i (2 * j + 5) x 0 another) z)) was

  pub begins : (ws : List ℕ) (work : T) → capacity ≤ 65536 → ((k n : ℕ) (e : WalkEnd) → is_head tag k n e → n ≤ capacity) → length ws ≡ 2 * capacity + 4 → ((i : ℕ) → get_or ws i 0 ≡ 0) → is_head tag 0 0 Partial → fits tag 0 0 Partial work
      → Rule (opening ws (Some work ∷ []) (first_view tag capacity))
  begins ws work small room wide zeros first fit = record {
    wide = wide;
    small = small;
    room = room;
    steps = 0;
    count = 0;
    end = Partial;
    has_head = first;
    head_is = zeros 0;
    words_are = λ i l. absurd (omega arith);
    fault_is = λ root number e. absurd (cc);
    known = λ j v e. subst (Kn ws 0 0 Partial) (only j v e) record { of_tag = refl; of_size = refl; near = same_head 0 0 Partial; half = tt };
    turn = inl (zeros 1, (work, refl, fit), λ j v e. ap (λ (u : V). u.turn) (sym (only j v e)));
  }
    where
      only : (i : ℕ) (v : V) → get_elem? (first_view tag capacity ∷ []) i ≡ some v → first_view tag capacity ≡ v
      only i v e = ⊎_elim (λ (t : get_elem? [] i ≡ some v). absurd (some-ne-none v (sym t))) (λ (t : first_view tag capacity ≡ v). t) (at_snoc [] (first_view tag capacity) v i e)

  pub begins_with : (ws : List ℕ) (slots : List (Option T)) (work : T) → slots ≡ Some work ∷ [] → capacity ≤ 65536 → ((k n : ℕ) (e : WalkEnd) → is_head tag k n e → n ≤ capacity) → length ws ≡ 2 * capacity + 4 → ((i : ℕ) → get_or ws i 0 ≡ 0)
      → is_head tag 0 0 Partial → fits tag 0 0 Partial work → Rule (opening ws slots (first_view tag capacity))
  begins_with ws slots work is small room wide zeros first fit = subst (λ (l : List (Option T)). Rule (opening ws l (first_view tag capacity))) (sym is) (begins ws work small room wide zeros first fit)

  -- the turn, where a view changes that has the same turn
  turn_stays : (ws : List ℕ) (hs : List (maybe.Option (Option T))) (vs : List V) (k n : ℕ) (e : WalkEnd) (id : ℕ) (v w : V) → get_elem? vs id ≡ some v → w.turn ≡ v.turn → F ws hs vs k n e ⊎ K ws hs vs k n e → F ws hs (set vs id w) k n e ⊎ K ws hs (set vs id w) k n e
  turn_stays ws hs vs k n e id v w at same t = ⊎_elim
      (λ (f : F ws hs vs k n e). inl (f.0, f.1, each_set (λ _ u. u.turn ≡ Idle) vs id w (same ∙ f.2 id v at) (λ j u _ p. f.2 j u p)))
      (λ (t : K ws hs vs k n e). let l = t.2 in inr (
        t.0,
        t.1,
        omega (arith, length-set vs id w),
        each_set (λ i u. (i ≡ t.0 → Hs ws hs k n e u.turn) × (i ≢ t.0 → u.turn ≡ Idle)) vs id w
            ((λ is. subst (Hs ws hs k n e) (sym same) ((t.3 id v at).0 is)), (λ not. same ∙ (t.3 id v at).1 not)) (λ j u _ p. t.3 j u p),
      )) t

  -- a step that changes no word and no slot, and leaves the seat's turn
  unmoved : (s : S) (r : Rule s) (i id : ℕ) (v w : V) (cs : List (ℕ × Option T)) → get_elem? s.views id ≡ some v → Kn s.words r.steps r.count r.end w → w.turn ≡ v.turn → Rule (stepped s i (get_or s.words i 0) id cs w keeps)
  unmoved s r i id v w cs at known same_turn = subst (λ (ws : List ℕ). Rule record { words = ws; homes = s.homes; views = set s.views id w }) (sym (set-get_or s.words i 0)) record {
    wide = r.wide;
    small = r.small;
    room = r.room;
    steps = r.steps;
    count = r.count;
    end = r.end;
    has_head = r.has_head;
    head_is = r.head_is;
    words_are = r.words_are;
    fault_is = r.fault_is;
    known = each_set (λ _ u. Kn s.words r.steps r.count r.end u) s.views id w known (λ j u _ p. r.known j u p);
    turn = turn_stays s.words s.homes s.views r.steps r.count r.end id v w at same_turn r.turn;
  }

  -- the seat that has the turn
  holding : (s : S) (r : Rule s) (id : ℕ) (v : V) → get_elem? s.views id ≡ some v → (v.turn ≡ Idle → ⊥)
      → (get_or s.words 1 0 ≡ 1) × Hs s.words s.homes r.steps r.count r.end v.turn × ((j : ℕ) (u : V) → j ≢ id → get_elem? s.views j ≡ some u → u.turn ≡ Idle)
  holding s r id v at busy = ⊎_elim
      (λ (f : F s.words s.homes s.views r.steps r.count r.end). absurd (busy (f.2 id v at)))
      (λ (t : K s.words s.homes s.views r.steps r.count r.end). dite (ℕ_discrete id t.0)
      (λ is. (t.1, (t.3 id v at).0 is, (λ j u other e. (t.3 j u e).1 (λ at_holder. other (at_holder ∙ sym is)))))
      (λ not. absurd (busy ((t.3 id v at).1 not)))) r.turn

  -- this seat has the turn afterwards
  held : (ws : List ℕ) (hs : List (maybe.Option (Option T))) (vs : List V) (k n : ℕ) (e : WalkEnd) (id : ℕ) (v w : V) → get_elem? vs id ≡ some v → get_or ws 1 0 ≡ 1 → Hs ws hs k n e w.turn
      → ((j : ℕ) (u : V) → j ≢ id → get_elem? vs j ≡ some u → u.turn ≡ Idle) → F ws hs (set vs id w) k n e ⊎ K ws hs (set vs id w) k n e
  held ws hs vs k n e id v w at one mine others = inr (
    id,
    one,
    omega (arith, length-set vs id w, at_less vs id v at),
    each_set (λ i u. (i ≡ id → Hs ws hs k n e u.turn) × (i ≢ id → u.turn ≡ Idle)) vs id w ((λ _. mine), (λ not. absurd (not refl))) (λ j u other p. ((λ is. absurd (other is)), (λ _. others j u other p))),
  )

  -- a step that leaves the head, the published words and the fault
  moved : (s : S) (r : Rule s) (i x id : ℕ) (hs : List (maybe.Option (Option T))) (v w : V) → get_elem? s.views id ≡ some v → Kn s.words r.steps r.count r.end w
      → i ≢ 0 → ((j : ℕ) → j < r.count → (2 * j + 4 ≢ i) × (2 * j + 5 ≢ i)) → ((root number : ℕ) → r.end ≡ Fault root number → (2 ≢ i) × (3 ≢ i))
      → F (set s.words i x) hs (set s.views id w) r.steps r.count r.end ⊎ K (set s.words i x) hs (set s.views id w) r.steps r.count r.end
      → Rule record { words = set s.words i x; homes = hs; views = set s.views id w }
  moved s r i x id hs v w at known later apart no_fault_there turn = let wide = r.wide in record {
    wide = length-set s.words i x ∙ wide;
    small = r.small;
    room = r.room;
    steps = r.steps;
    count = r.count;
    end = r.end;
    has_head = r.has_head;
    head_is = get_or-set_other s.words i 0 x 0 (λ e. later (sym e)) ∙ r.head_is;
    words_are = λ j l. word_else s.words i x j (apart j l).0 (apart j l).1 (r.words_are j l);
    fault_is = λ root number e. let a = no_fault_there root number e in let f = r.fault_is root number e in
        (get_or-set_other s.words i 2 x 0 a.0 ∙ f.0, get_or-set_other s.words i 3 x 0 a.1 ∙ f.1);
    known = each_set (λ _ u. Kn (set s.words i x) r.steps r.count r.end u) s.views id w (known_else s.words i x r.steps r.count r.end w (λ j l. (apart j l).1) known)
        (λ j u _ p. known_else s.words i x r.steps r.count r.end u (λ j l. (apart j l).1) (r.known j u p));
    turn = turn;
  }

  -- a view that has seen the head
  sees_head : (s : S) (r : Rule s) (id : ℕ) (v : V) (t : Turn) → get_elem? s.views id ≡ some v → Kn s.words r.steps r.count r.end (seeing v r.steps r.count r.end t)
  sees_head s r id v t at = let known = r.known id v at in record { of_tag = known.of_tag; of_size = known.of_size; near = same_head r.steps r.count r.end; half = known.half }

  see_by : (s : S) (r : Rule s) (id : ℕ) (me : M) → get_elem? s.views id ≡ some me.0 → (t : Turn) → me.0.turn ≡ t
      → (a : Act (Option T)) × Valid s.homes me.1 a
      × Rule (stepped s 0 (get_or s.words 0 0) id me.1 (seeing me.0 r.steps r.count r.end (turn_at t r.steps r.count r.end)) a)
      × Gains (fits tag) r.steps r.count r.end t me.1 (carried_after me.1 a)
  see_by s r id me at Idle is = (keeps, tt, unmoved s r 0 id me.0 (seeing me.0 r.steps r.count r.end Idle) me.1 at (sees_head s r id me.0 Idle at) (sym is), refl)
  see_by s r id me at (At k n e row high low) is =
      let mine = subst (Hs s.words s.homes r.steps r.count r.end) is (holding s r id me.0 at (λ idle. at_is_no_idle me.0.turn k n e row high low idle is)).1 in
      (keeps, tt, unmoved s r 0 id me.0 (seeing me.0 r.steps r.count r.end (At k n e row high low)) me.1 at (sees_head s r id me.0 (At k n e row high low) at) (sym is), (refl, mine.1, mine.2, mine.3))
  see_by s r id me at Claimed is =
      let h = holding s r id me.0 at (λ idle. none_is_idle me.0.turn idle is) in
      let mine = subst (Hs s.words s.homes r.steps r.count r.end) is h.1 in
      let t : Turn = At r.steps r.count r.end [] None None in
      let w : V = seeing me.0 r.steps r.count r.end t in
      let hs : List (maybe.Option (Option T)) = set s.homes 0 maybe.none in
      let empty : hs ≡ maybe.none ∷ [] = ap (λ (l : List (maybe.Option (Option T))). set l 0 maybe.none) mine.1 in (
        takes 0 (Some mine.0),
        ap (λ (l : List (maybe.Option (Option T))). get_elem? l 0) mine.1,
        subst (λ (ws : List ℕ). Rule record { words = ws; homes = hs; views = set s.views id w }) (sym (set-get_or s.words 0 0)) record {
          wide = r.wide;
          small = r.small;
          room = r.room;
          steps = r.steps;
          count = r.count;
          end = r.end;
          has_head = r.has_head;
          head_is = r.head_is;
          words_are = r.words_are;
          fault_is = r.fault_is;
          known = each_set (λ _ u. Kn s.words r.steps r.count r.end u) s.views id w (sees_head s r id me.0 t at) (λ j u _ p. r.known j u p);
          turn = held s.words hs s.views r.steps r.count r.end id me.0 w at h.0 (empty, refl, refl, refl, (λ i l. absurd (omega arith)), tt, tt) h.2;
        },
        (mine.0, refl, mine.2),
      )

  pub see_allowed : (slots id : ℕ) (me : M) → Allows Rule slots id me 0 (λ x. x) (sees is_head fits me)
  see_allowed slots id me s r _ at _ = let b = see_by s r id me at me.0.turn refl in let known = r.known id me.0 at in (
    seeing me.0 r.steps r.count r.end (turn_at me.0.turn r.steps r.count r.end),
    b.0,
    b.1,
    b.2,
    record {
      steps = r.steps;
      count = r.count;
      end = r.end;
      number = r.head_is;
      has_head = subst (λ (g : G). is_head g r.steps r.count r.end) (sym known.of_tag) r.has_head;
      near = known.near;
      small = subst (λ (c : ℕ). c ≤ 65536) (sym known.of_size) r.small;
      room = subst (λ (y : G × ℕ). (k n : ℕ) (e : WalkEnd) → is_head y.0 k n e → n ≤ y.1) (λ i. (sym known.of_tag i, sym known.of_size i)) r.room;
      view_is = refl;
      gains = subst (λ (g : G). Gains (fits g) r.steps r.count r.end me.0.turn me.1 (carried_after me.1 b.0)) (sym known.of_tag) b.3;
    },
  )

  less_seen : (s : S) (r : Rule s) (id : ℕ) (v : V) → get_elem? s.views id ≡ some v → v.length ≤ r.count
  less_seen s r id v at = no_nearer v.steps v.length v.end r.steps r.count r.end (r.known id v at).near

  pub high_allowed : (slots id : ℕ) (me : M) (i at_word : ℕ) → at_word ≡ 2 * i + 4 → i < me.0.length → Allows Rule slots id me at_word (λ x. x) (reads_high word_at (step slots at_word 0 0 maybe.none) me)
  high_allowed slots id me i at_word here inside s r _ at _ =
      let l = less_seen s r id me.0 at in
      let known = r.known id me.0 at in
      let low : ℕ = get_or s.words (2 * i + 5) 0 in
      let w : V = with_half me.0 (Some record { place = i; low = low }) in (
        w,
        keeps,
        tt,
        unmoved s r at_word id me.0 w me.1 at record { of_tag = known.of_tag; of_size = known.of_size; near = known.near; half = (omega arith, refl) } refl,
        (
          i,
          low,
          here,
          subst (λ (y : G × ℕ). word_at y.0 i (joined (get_or s.words y.1 0) low)) (λ j. (sym known.of_tag j, sym here j)) (r.words_are i (omega arith)),
          refl,
        ),
      )

  pub low_allowed : (slots id : ℕ) (me : M) (i low at_word : ℕ) → at_word ≡ 2 * i + 5 → me.0.half ≡ Some record { place = i; low = low } → Allows Rule slots id me at_word (λ x. x) (reads_low me)
  low_allowed slots id me i low at_word here is s r _ at _ =
      let known = r.known id me.0 at in
      let stands = subst (HalfStands s.words r.count) is known.half in
      let w : V = with_half me.0 None in (
        w,
        keeps,
        tt,
        unmoved s r at_word id me.0 w me.1 at record { of_tag = known.of_tag; of_size = known.of_size; near = known.near; half = tt } refl,
        ((λ h e. ap (λ (z : ℕ). get_or s.words z 0) here ∙ (stands.1 ∙ ap low_of (sym is ∙ e))), refl),
      )

  fault_seen : (s : S) (r : Rule s) (id : ℕ) (v : V) → get_elem? s.views id ≡ some v → (root number : ℕ) → v.end ≡ Fault root number → (get_or s.words 2 0 ≡ root / 2 ^ 64 + number) × (get_or s.words 3 0 ≡ root % 2 ^ 64)
  fault_seen s r id v at root number e = ⊎_elim (λ (x : (v.end ≡ Partial) × (v.steps < r.steps) × (v.length ≤ r.count)). let p = x.0 in absurd (cc))
      (λ (x : (v.steps ≡ r.steps) × (v.length ≡ r.count) × (v.end ≡ r.end)). r.fault_is root number (sym x.2 ∙ e)) (r.known id v at).near

  pub fault_allowed : (slots id : ℕ) (me : M) (part : WalkEnd → Option ℕ) (word : ℕ) → ((s : S) (r : Rule s) → get_elem? s.views id ≡ some me.0 → (x : ℕ) → part me.0.end ≡ Some x → get_or s.words word 0 ≡ x) → Allows Rule slots id me word (λ x. x) (reads_fault part me)
  fault_allowed slots id me part word stands s r _ at _ = (me.0, keeps, tt, unmoved s r word id me.0 me.0 me.1 at (r.known id me.0 at) refl, (refl, stands s r at))

  fault_part : (e : WalkEnd) (high low : ℕ) → ((root number : ℕ) → e ≡ Fault root number → (high ≡ root / 2 ^ 64 + number) × (low ≡ root % 2 ^ 64)) → ((x : ℕ) → fault_high e ≡ Some x → high ≡ x) × ((x : ℕ) → fault_low e ≡ Some x → low ≡ x)
  fault_part (Fault root number) high low stands = let f = stands root number refl in ((λ x is. f.0 ∙ some_same is), (λ x is. f.1 ∙ some_same is))
  fault_part Partial high low stands = ((λ x is. absurd (cc)), (λ x is. absurd (cc)))
  fault_part Complete high low stands = ((λ x is. absurd (cc)), (λ x is. absurd (cc)))
  fault_part TooMany high low stands = ((λ x is. absurd (cc)), (λ x is. absurd (cc)))

  pub fault_high_allowed : (slots id : ℕ) (me : M) → Allows Rule slots id me 2 (λ x. x) (reads_fault fault_high me)
  fault_high_allowed slots id me = fault_allowed slots id me fault_high 2 (λ s r at. (fault_part me.0.end _ _ (fault_seen s r id me.0 at)).0)

  pub fault_low_allowed : (slots id : ℕ) (me : M) → Allows Rule slots id me 3 (λ x. x) (reads_fault fault_low me)
  fault_low_allowed slots id me = fault_allowed slots id me fault_low 3 (λ s r at. (fault_part me.0.end _ _ (fault_seen s r id me.0 at)).1)

  -- the turn is taken
  claim_free : (s : S) (r : Rule s) (id : ℕ) (me : M) (x : ℕ) → get_elem? s.views id ≡ some me.0 → F s.words s.homes s.views r.steps r.count r.end
      → Rule (stepped s 1 1 id me.1 (tried me.0 x Claimed) keeps)
  claim_free s r id me x at f =
      let w : V = tried me.0 x Claimed in
      let wide = r.wide in
      let known = r.known id me.0 at in
      moved s r 1 1 id s.homes me.0 w at record { of_tag = known.of_tag; of_size = known.of_size; near = known.near; half = known.half } (λ z. omega arith) (λ j l. ((λ z. omega arith), (λ z. omega arith)))
      (λ root number e. ((λ z. omega arith), (λ z. omega arith)))
      (held (set s.words 1 1) s.homes s.views r.steps r.count r.end id me.0 w at (get_or-set_same s.words 1 1 0 (omega arith)) f.1 (λ j u _ p. f.2 j u p))

  pub claim_allowed : (slots id : ℕ) (me : M) → me.0.turn ≡ Idle → Allows Rule slots id me 1 (λ n. either (eqb n 0) 1 n) (claims me)
  claim_allowed slots id me idle s r _ at _ = let x : ℕ = get_or s.words 1 0 in let known = r.known id me.0 at in ⊎_elim
      (λ (f : F s.words s.homes s.views r.steps r.count r.end). (
        tried me.0 x Claimed,
        keeps,
        tt,
        subst (λ b. Rule (stepped s 1 (either b 1 x) id me.1 (tried me.0 x Claimed) keeps)) (sym (eq-eqb x 0 f.0)) (claim_free s r id me x at f),
        inl (f.0, refl),
      ))
      (λ (t : K s.words s.homes s.views r.steps r.count r.end). let one = t.1 in (
        tried me.0 x me.0.turn,
        keeps,
        tt,
        subst (λ b. Rule (stepped s 1 (either b 1 x) id me.1 (tried me.0 x me.0.turn) keeps)) (sym (ne_eqb x 0 (λ z. omega arith)))
            (unmoved s r 1 id me.0 (tried me.0 x me.0.turn) me.1 at record { of_tag = known.of_tag; of_size = known.of_size; near = known.near; half = known.half } refl),
        inr (one, refl),
      )) r.turn

  -- another word, by the seat that has the turn
  write : (s : S) (r : Rule s) (id : ℕ) (me : M) (i x : ℕ) (t : Turn) → get_elem? s.views id ≡ some me.0 → (me.0.turn ≡ Idle → ⊥) → 1 < i → ((j : ℕ) → j < r.count → (2 * j + 4 ≢ i) × (2 * j + 5 ≢ i))
      → ((root number : ℕ) → r.end ≡ Fault root number → (2 ≢ i) × (3 ≢ i)) → Hs (set s.words i x) s.homes r.steps r.count r.end t → Rule (stepped s i x id me.1 (with_turn me.0 t) keeps)
  write s r id me i x t at busy later apart no_fault_there mine =
      let h = holding s r id me.0 at busy in
      let known = r.known id me.0 at in
      moved s r i x id s.homes me.0 (with_turn me.0 t) at record { of_tag = known.of_tag; of_size = known.of_size; near = known.near; half = known.half } (λ e. omega arith) apart no_fault_there
      (held (set s.words i x) s.homes s.views r.steps r.count r.end id me.0 (with_turn me.0 t) at (get_or-set_other s.words i 1 x 0 (λ e. omega arith) ∙ h.0) mine h.2)

  pub number_allowed : (slots id : ℕ) (me : M) (k n : ℕ) (e : WalkEnd) (row : List ℕ) (high low : Option ℕ) (i x : ℕ) → me.0.turn ≡ At k n e row high low → i < 2 * me.0.capacity + 4 → i ≡ 2 * n + length row + 4
      → Allows Rule slots id me i (λ _. x) (λ _. puts row_with me x)
  number_allowed slots id me k n e row high low i x is room here s r _ at _ =
      let busy = λ (idle : me.0.turn ≡ Idle). at_is_no_idle me.0.turn k n e row high low idle is in
      let mine = subst (Hs s.words s.homes r.steps r.count r.end) is (holding s r id me.0 at busy).1 in
      let size = (r.known id me.0 at).of_size in
      let same = mine.2 in let wide = r.wide in (
        with_turn me.0 (row_with me.0.turn x),
        keeps,
        tt,
        write s r id me i x (row_with me.0.turn x) at busy (omega arith) (λ j l. ((λ z. omega arith), (λ z. omega arith))) (λ _ _ _. ((λ z. omega arith), (λ z. omega arith)))
            (subst (λ (t : Turn). Hs (set s.words i x) s.homes r.steps r.count r.end (row_with t x)) (sym is) (
              mine.0,
              mine.1,
              mine.2,
              mine.3,
              subst (λ (z : ℕ). (j : ℕ) → j < length (row ++ x ∷ []) → get_or (set s.words z x) (2 * r.count + j + 4) 0 ≡ get_or (row ++ x ∷ []) j 0) (ap (λ (z : ℕ). 2 * z + length row + 4) (sym same) ∙ sym here)
                  (row_more s.words row r.count x (omega arith) mine.4),
              stands_else s.words i 2 x high (λ z. omega arith) mine.5,
              stands_else s.words i 3 x low (λ z. omega arith) mine.6,
            )),
        refl,
      )

  pub high_put_allowed : (slots id : ℕ) (me : M) (k n : ℕ) (row : List ℕ) (high low : Option ℕ) (x : ℕ) → me.0.turn ≡ At k n Partial row high low → Allows Rule slots id me 2 (λ _. x) (λ _. puts fault_high_with me x)
  high_put_allowed slots id me k n row high low x is s r _ at _ =
      let busy = λ (idle : me.0.turn ≡ Idle). at_is_no_idle me.0.turn k n Partial row high low idle is in
      let mine = subst (Hs s.words s.homes r.steps r.count r.end) is (holding s r id me.0 at busy).1 in
      let wide = r.wide in (
        with_turn me.0 (fault_high_with me.0.turn x),
        keeps,
        tt,
        write s r id me 2 x (fault_high_with me.0.turn x) at busy (omega arith) (λ j l. ((λ z. omega arith), (λ z. omega arith))) (λ a b f. no_fault r.end _ a b mine.3 f)
            (subst (λ (t : Turn). Hs (set s.words 2 x) s.homes r.steps r.count r.end (fault_high_with t x)) (sym is) (
              mine.0,
              mine.1,
              mine.2,
              mine.3,
              row_else s.words row r.count 2 x (omega arith) mine.4,
              get_or-set_same s.words 2 x 0 (omega arith),
              stands_else s.words 2 3 x low (λ z. omega arith) mine.6,
            )),
        refl,
      )

  pub low_put_allowed : (slots id : ℕ) (me : M) (k n : ℕ) (row : List ℕ) (high low : Option ℕ) (x : ℕ) → me.0.turn ≡ At k n Partial row high low → Allows Rule slots id me 3 (λ _. x) (λ _. puts fault_low_with me x)
  low_put_allowed slots id me k n row high low x is s r _ at _ =
      let busy = λ (idle : me.0.turn ≡ Idle). at_is_no_idle me.0.turn k n Partial row high low idle is in
      let mine = subst (Hs s.words s.homes r.steps r.count r.end) is (holding s r id me.0 at busy).1 in
      let wide = r.wide in (
        with_turn me.0 (fault_low_with me.0.turn x),
        keeps,
        tt,
        write s r id me 3 x (fault_low_with me.0.turn x) at busy (omega arith) (λ j l. ((λ z. omega arith), (λ z. omega arith))) (λ a b f. no_fault r.end _ a b mine.3 f)
            (subst (λ (t : Turn). Hs (set s.words 3 x) s.homes r.steps r.count r.end (fault_low_with t x)) (sym is) (
              mine.0,
              mine.1,
              mine.2,
              mine.3,
              row_else s.words row r.count 3 x (omega arith) mine.4,
              stands_else s.words 3 2 x high (λ z. omega arith) mine.5,
              get_or-set_same s.words 3 x 0 (omega arith),
            )),
        refl,
      )

  -- the words of the old head and those in the row are the words of the new one
  words_more : (ws row : List ℕ) (n n' : ℕ) → 2 * n' ≡ 2 * n + length row → ((i : ℕ) → i < n → word_at tag i (joined (get_or ws (2 * i + 4) 0) (get_or ws (2 * i + 5) 0))) → ((i : ℕ) → i < length row → get_or ws (2 * n + i + 4) 0 ≡ get_or row i 0)
      → ((i : ℕ) → n + i < n' → word_at tag (n + i) (joined (get_or row (2 * i) 0) (get_or row (2 * i + 1) 0))) → (j : ℕ) → j < n' → word_at tag j (joined (get_or ws (2 * j + 4) 0) (get_or ws (2 * j + 5) 0))
  words_more ws row n n' sum old were new j l = dite (dec_le (suc j) n)
      (λ below. old j (omega arith))
      (λ above. let i : ℕ = j - n in
      let is : n + i ≡ j = omega arith in
      let high : get_or row (2 * i) 0 ≡ get_or ws (2 * j + 4) 0 = sym (were (2 * i) (omega arith)) ∙ ap (λ (z : ℕ). get_or ws z 0) (place i j n is) in
      let low : get_or row (2 * i + 1) 0 ≡ get_or ws (2 * j + 5) 0 = sym (were (2 * i + 1) (omega arith)) ∙ ap (λ (z : ℕ). get_or ws z 0) (next_place i j n is) in
      subst (λ (p : ℕ × (ℕ × ℕ)). word_at tag p.0 (joined p.1.0 p.1.1)) (λ z. (is z, (high z, low z))) (new i (omega arith)))
    where
      place : (i j n : ℕ) → n + i ≡ j → 2 * n + 2 * i + 4 ≡ 2 * j + 4
      place i j n is = omega arith

      next_place : (i j n : ℕ) → n + i ≡ j → 2 * n + (2 * i + 1) + 4 ≡ 2 * j + 5
      next_place i j n is = omega arith

  -- a new head, with what was written past the old one
  pub publish_allowed : (slots id : ℕ) (me : M) (k n : ℕ) (row : List ℕ) (high low : Option ℕ) (k' n' : ℕ) (e' : WalkEnd) (x : ℕ) → me.0.turn ≡ At k n Partial row high low → 2 * n' ≡ 2 * n + length row → k < k' → x ≡ head_number (head k' n' e')
      → is_head me.0.tag k' n' e' → ((i : ℕ) → n + i < n' → word_at me.0.tag (n + i) (joined (get_or row (2 * i) 0) (get_or row (2 * i + 1) 0))) → ((root number : ℕ) → e' ≡ Fault root number → (high ≡ Some (root / 2 ^ 64 + number)) × (low ≡ Some (root % 2 ^ 64)))
      → Allows Rule slots id me 0 (λ _. x) (λ _. publishes k' n' e' me)
  publish_allowed slots id me k n row high low k' n' e' x is sum more coded has words fault s r _ at _ =
      let busy = λ (idle : me.0.turn ≡ Idle). at_is_no_idle me.0.turn k n Partial row high low idle is in
      let had = holding s r id me.0 at busy in
      let mine = subst (Hs s.words s.homes r.steps r.count r.end) is had.1 in
      let known = r.known id me.0 at in
      let same_n = mine.2 in let same_k = mine.1 in let wide = r.wide in
      let w : V = storing me.0 k' n' e' in let ws : List ℕ = set s.words 0 x in
      let else_where = λ (i : ℕ) (other : i ≢ 0). get_or-set_other s.words 0 i x 0 other in
      let longer : r.count ≤ n' = omega arith in
      let all_words = words_more s.words row r.count n' (omega arith) r.words_are mine.4 (subst (λ (z : G × ℕ). (i : ℕ) → z.1 + i < n' → word_at z.0 (z.1 + i) (joined (get_or row (2 * i) 0) (get_or row (2 * i + 1) 0))) (λ j. (known.of_tag j, same_n j)) words) in (
        w,
        keeps,
        tt,
        record {
          wide = length-set s.words 0 x ∙ wide;
          small = r.small;
          room = r.room;
          steps = k';
          count = n';
          end = e';
          has_head = subst (λ (g : G). is_head g k' n' e') known.of_tag has;
          head_is = get_or-set_same s.words 0 x 0 (omega arith) ∙ coded;
          words_are = λ j l. word_else s.words 0 x j (λ e. omega arith) (λ e. omega arith) (all_words j l);
          fault_is = λ root number e. let f = fault root number e in
              (else_where 2 (λ z. omega arith) ∙ subst (Stands (get_or s.words 2 0)) f.0 mine.5, else_where 3 (λ z. omega arith) ∙ subst (Stands (get_or s.words 3 0)) f.1 mine.6);
          known = each_set (λ _ u. Kn ws k' n' e' u) s.views id w
              record { of_tag = known.of_tag; of_size = known.of_size; near = same_head k' n' e'; half = half_else s.words 0 x n' me.0.half (λ j _ e. omega arith) (half_longer s.words r.count n' me.0.half longer known.half) }
              (λ j u _ p. let theirs = r.known j u p in record {
                of_tag = theirs.of_tag;
                of_size = theirs.of_size;
                near = further u.steps u.length u.end r.steps r.count r.end k' n' e' theirs.near (inl (sym mine.3, omega arith, longer));
                half = half_else s.words 0 x n' u.half (λ j _ e. omega arith) (half_longer s.words r.count n' u.half longer theirs.half);
              });
          turn = held ws s.homes s.views k' n' e' id me.0 w at (else_where 1 (λ z. omega arith) ∙ had.0) (mine.0, refl, refl, refl, (λ i l. absurd (omega arith)), tt, tt) had.2;
        },
        refl,
      )

  pub leave_allowed : (slots id : ℕ) (me : M) (k n : ℕ) (e : WalkEnd) (row : List ℕ) (high low : Option ℕ) (work : T) → me.0.turn ≡ At k n e row high low → me.1 ≡ (0, Some work) ∷ [] → fits me.0.tag k n e work
      → Allows Rule slots id me 1 (λ _. 0) (λ _. leaves me)
  leave_allowed slots id me k n e row high low work is has fit s r _ at _ =
      let busy = λ (idle : me.0.turn ≡ Idle). at_is_no_idle me.0.turn k n e row high low idle is in
      let had = holding s r id me.0 at busy in
      let mine = subst (Hs s.words s.homes r.steps r.count r.end) is had.1 in
      let wide = r.wide in
      let known = r.known id me.0 at in
      let w : V = with_turn me.0 Idle in let hs : List (maybe.Option (Option T)) = put_back s.homes me.1 in (
        w,
        gives,
        tt,
        moved s r 1 0 id hs me.0 w at record { of_tag = known.of_tag; of_size = known.of_size; near = known.near; half = known.half } (λ z. omega arith) (λ j l. ((λ z. omega arith), (λ z. omega arith)))
            (λ a b f. ((λ z. omega arith), (λ z. omega arith))) (inl (
              get_or-set_same s.words 1 0 0 (omega arith),
              (work, (λ i. put_back (mine.0 i) (has i)), fit_now known.of_tag mine.1 mine.2 mine.3),
              each_set (λ _ u. u.turn ≡ Idle) s.views id w refl (λ j u other p. had.2 j u other p),
            )),
        refl,
      )
    where
      fit_now : {g' : G} {k' n' : ℕ} {e' : WalkEnd} → me.0.tag ≡ g' → k ≡ k' → n ≡ n' → e ≡ e' → fits g' k' n' e' work
      fit_now a b c d = coe 0 1 (i. fits (a i) (b i) (c i) (d i) work) fit

  pub split_allowed : (id : ℕ) (v : V) → Splits Rule id v v (informed_view v)
  split_allowed id v s r at = let w : V = informed_view v in subst (λ (vs : List V). Rule record { words = s.words; homes = s.homes; views = vs ++ w ∷ [] }) (sym (set_again s.views id v at)) record {
    wide = r.wide;
    small = r.small;
    room = r.room;
    steps = r.steps;
    count = r.count;
    end = r.end;
    has_head = r.has_head;
    head_is = r.head_is;
    words_are = r.words_are;
    fault_is = r.fault_is;
    known = λ j u e. ⊎_elim (λ was. r.known j u was)
        (λ (t : w ≡ u). let known = r.known id v at in subst (Kn s.words r.steps r.count r.end) t record { of_tag = known.of_tag; of_size = known.of_size; near = known.near; half = tt }) (at_snoc s.views w u j e);
    turn = ⊎_elim
        (λ (f : F s.words s.homes s.views r.steps r.count r.end). inl (f.0, f.1, λ j u e. ⊎_elim (λ was. f.2 j u was) (λ (t : w ≡ u). subst (λ (y : V). y.turn ≡ Idle) t refl) (at_snoc s.views w u j e)))
        (λ (k : K s.words s.homes s.views r.steps r.count r.end). let l = k.2 in inr (
          k.0,
          k.1,
          omega (arith, length-append s.views (w ∷ [])),
          λ j u e. dite (ℕ_discrete j k.0)
              (λ is. k.3 j u (sym (at_front s.views (w ∷ []) j (subst (λ (y : ℕ). y < length s.views) (sym is) l)) ∙ e))
              (λ not. ((λ is. absurd (not is)), (λ _. ⊎_elim (λ was. (k.3 j u was).1 not) (λ (t : w ≡ u). subst (λ (y : V). y.turn ≡ Idle) t refl) (at_snoc s.views w u j e)))),
        )) r.turn;
  }

-- the table at the start, by what it was told
pub begins_told : {G T : Type 0} (word_at : G → ℕ → ℕ → Type 0) (is_head : G → ℕ → ℕ → WalkEnd → Type 0) (fits : G → ℕ → ℕ → WalkEnd → T → Type 0) (told : G × ℕ) (tag : G) (capacity : ℕ) (ws : List ℕ) (slots : List (Option T)) (work : T) → told ≡ (tag, capacity)
    → slots ≡ Some work ∷ [] → capacity ≤ 65536 → ((k n : ℕ) (e : WalkEnd) → is_head tag k n e → n ≤ capacity) → length ws ≡ 2 * capacity + 4 → ((i : ℕ) → get_or ws i 0 ≡ 0) → is_head tag 0 0 Partial → fits tag 0 0 Partial work
    → Publishing told.1 word_at is_head fits told.0 (opening ws slots (first_view told.0 told.1))
begins_told word_at is_head fits told tag capacity ws slots work is filled small room wide zeros first fit =
    subst (λ (o : _ × ℕ). Publishing o.1 word_at is_head fits o.0 (opening ws slots (first_view o.0 o.1))) (sym is) (begins_with capacity word_at is_head fits tag ws slots work filled small room wide zeros first fit)
