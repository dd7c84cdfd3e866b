-- For proofs and inner functions: each change of the log and of its holder's note keeps the notes fitting the log.
use Rattle.std.proofs.Common.{◌≡◌, ◌≢◌, ◌⊎◌, inl, inr, ℕ, zero, suc, ◌+◌, ◌<◌, ◌≤◌, Bool, true, false, cond, eqb}
use Rattle.std.proofs.Common.{eq-eqb, ne_eqb, List, [], ◌∷◌, ◌++◌, length, set, Option, Some, None, refl, sym, ap}
use Rattle.std.proofs.Common.{◌∙◌, subst, ⊎_elim, arith, length-append}
use Rattle.std.specs.List.{slice_get, count_by, sum_by, filter}
use Rattle.std.proofs.lemmas.Bool.{cases_lt}
use Rattle.std.proofs.lemmas.Option.{none-some, same_Some}
use Rattle.std.proofs.lemmas.List.Elements.{filter-append}
use Rattle.std.proofs.lemmas.List.Sums.{sum_by-cons, sum_by-append, sum_by_push}
use mathlib.Core.Option.{some}
use mathlib.Core.List.{append-nil}
use lib.ListN.{get_elem?}
use Rattle.atomic_table.proofs.Lists.{at_set, at_snoc, set_else}
use Rattle.frame_pool.proofs.Places.{get-set_other}
use Rattle.shared_pool.specs.declared.entry.Entry.{Entry}
use Rattle.shared_pool.specs.declared.note.Note.{Note}
use Rattle.shared_pool.specs.declared.note.Grants.{Grants}
use Rattle.shared_pool.specs.Books.{pass_of, of_pass, occurs, Lists, entered}
use Rattle.shared_pool.specs.Fits.{IsIdle, HasNumber, NotesFit, Divides, added, nothing}
use Rattle.shared_pool.specs.Sums.{from_elem, sum-set, sum-one, sum-two, one-yes}

module _ {A : Type 0} where
  pub at-push : (xs : List A) (x y : A) (j : ℕ) → slice_get (xs ++ x ∷ []) j ≡ Some y → (slice_get xs j ≡ Some y)
      ⊎ (x ≡ y)
  at-push [] x y zero e = inr (same_Some x y e)
  at-push [] x y (suc j) e = absurd (none-some y e)
  at-push (z ∷ zs) x y zero e = inl e
  at-push (z ∷ zs) x y (suc j) e = at-push zs x y j e

  pub at-front : (xs ys : List A) (j : ℕ) (y : A) → slice_get xs j ≡ Some y → slice_get (xs ++ ys) j ≡ Some y
  at-front [] ys j y e = absurd (none-some y e)
  at-front (x ∷ xs) ys zero y e = e
  at-front (x ∷ xs) ys (suc j) y e = at-front xs ys j y e

module _ {K : Type 0} where
  is_of : ℕ → Grants K → ℕ
  is_of q g = cond (eqb g.pass q) 1 0

  later-entries : (q : ℕ) (log : List (Entry K)) (e : Entry K)
      → of_pass q (log ++ e ∷ []) ≡ of_pass q log ++ of_pass q (e ∷ [])
  later-entries q log e = filter-append (λ d. eqb (pass_of d) q) log (e ∷ [])

  lists-entered : (log : List (Entry K)) (e : Entry K) (b : List (Grants K)) → Lists log b
      → Lists (log ++ e ∷ []) (entered e b)
  lists-entered log e [] h j g at = absurd (none-some g at)
  lists-entered log e (x ∷ xs) h zero g at = subst (λ (z : Grants K). z.entries ≡ of_pass z.pass (log ++ e ∷ []))
      (same_Some _ g at) (ap (λ l. l ++ of_pass x.pass (e ∷ [])) (h 0 x refl) ∙ sym (later-entries x.pass log e))
  lists-entered log e (x ∷ xs) h (suc j) g at = lists-entered log e xs (λ k z a. h (suc k) z a) j g at

  -- a book without the entry's number keeps its lists
  lists-others : (log : List (Entry K)) (e : Entry K) (b : List (Grants K)) → occurs (pass_of e) b ≡ 0 → Lists log b
      → Lists (log ++ e ∷ []) b
  lists-others log e b none h j g at =
      let o = sum-one (λ (z : Grants K). cond {A = ℕ} (eqb z.pass (pass_of e)) 1 0) b j g at in
      let other : pass_of e ≢ g.pass = λ same. (let y = one-yes (eqb g.pass (pass_of e))
      (eq-eqb g.pass (pass_of e) (sym same)) in omega arith) in
      h j g at ∙ (sym (append-nil (of_pass g.pass log)) ∙ (ap
      (λ b. of_pass g.pass log ++ cond b (e ∷ []) []) (sym (ne_eqb (pass_of e) g.pass other)) ∙ sym
      (later-entries g.pass log e)))

  occurs-entered : (q : ℕ) (e : Entry K) (b : List (Grants K)) → occurs q (entered e b) ≡ occurs q b
  occurs-entered q e [] = refl
  occurs-entered q e (x ∷ xs) =
      let a = sum_by-cons (λ (z : Grants K). cond {A = ℕ} (eqb z.pass q) 1 0) x xs in
      let b = sum_by-cons (λ (z : Grants K). cond {A = ℕ} (eqb z.pass q) 1 0)
      (record { pass = x.pass; entries = x.entries ++ of_pass x.pass (e ∷ []) }) (entered e xs) in
      let h = occurs-entered q e xs in omega arith

  length-entered : (e : Entry K) (b : List (Grants K)) → length (entered e b) ≡ length b
  length-entered e [] = refl
  length-entered e (x ∷ xs) = ap suc (length-entered e xs)

  lists-front : (log : List (Entry K)) (xs ys : List (Grants K)) → Lists log (xs ++ ys) → Lists log xs
  lists-front log xs ys h j g at = h j g (at-front xs ys j g at)

  lists-back : (log : List (Entry K)) (xs ys : List (Grants K)) → Lists log (xs ++ ys) → Lists log ys
  lists-back log [] ys h = h
  lists-back log (x ∷ xs) ys h = lists-back log xs ys (λ j g at. h (suc j) g at)

  lists-both : (log : List (Entry K)) (xs ys : List (Grants K)) → Lists log xs → Lists log ys → Lists log (xs ++ ys)
  lists-both log [] ys a b j g at = b j g at
  lists-both log (x ∷ xs) ys a b zero g at = a 0 g at
  lists-both log (x ∷ xs) ys a b (suc j) g at = lists-both log xs ys (λ k z t. a (suc k) z t) b j g at

module _ {K T : Type 0} where
  abbrev having : ℕ → Note K T → ℕ
  having q n = occurs q n.granted

  module _ (passes : ℕ) (notes : List (Note K T)) (log : List (Entry K)) (i : ℕ) (n : Note K T)
      (at : get_elem? notes i ≡ some n) (fit : NotesFit passes notes log) where
    -- what holds of each note, after one was written
    each : (P : Note K T → Type 0) (m : Note K T) → P m → ((j : ℕ) (u : Note K T) → j ≢ i → get_elem? notes j ≡ some u
        → P u) → (j : ℕ) (u : Note K T) → get_elem? (set notes i m) j ≡ some u → P u
    each P m mine others j u e = ⊎_elim (λ (t : (j ≡ i) × (m ≡ u)). subst P t.1 mine)
        (λ (t : (j ≢ i) × (get_elem? notes j ≡ some u)). others j u t.0 t.1) (at_set notes i j m u e)

    -- the numbers stay where they are
    pub notes-kept : (m : Note K T) → m.granted ≡ n.granted → IsIdle m ⊎ HasNumber m → (m.pin ≡ None)
        ⊎ (m.loading ≡ None) → NotesFit passes (set notes i m) log
    notes-kept m same number single = record {
      lists = each (λ u. Lists log u.granted) m (subst (Lists log) (sym same) (fit.lists i n at))
          (λ j u ne a. fit.lists j u a);
      below = fit.below;
      once = λ q l. let s = sum-set (having q) notes i n m (from_elem notes i n at) in let e = ap
          (occurs q) same in let o = fit.once q l in omega arith;
      never = λ q l. let s = sum-set (having q) notes i n m (from_elem notes i n at) in let e = ap
          (occurs q) same in let o = fit.never q l in omega arith;
      numbered = each (λ u. IsIdle u ⊎ HasNumber u) m number (λ j u ne a. fit.numbered j u a);
      single = each (λ u. (u.pin ≡ None) ⊎ (u.loading ≡ None)) m single (λ j u ne a. fit.single j u a);
    }

    -- a number that stands in a note is below the number of passes
    pub number-below : (q : ℕ) → 0 < occurs q n.granted → q < passes
    number-below q has = ⊎_elim (λ l. l)
        (λ past. let o = sum-one (having q) notes i n (from_elem notes i n at) in let z = fit.never q past in absurd
        (omega arith)) (cases_lt q passes)

    -- an entry of a number of the note
    pub notes-entered : (e : Entry K) (m : Note K T) → 0 < occurs (pass_of e) n.granted
        → m.granted ≡ entered e n.granted → (m.pin ≡ None) ⊎ (m.loading ≡ None)
        → NotesFit passes (set notes i m) (log ++ e ∷ [])
    notes-entered e m has more single =
        let inside = number-below (pass_of e) has in record {
          lists = each (λ u. Lists (log ++ e ∷ []) u.granted) m (subst (Lists (log ++ e ∷ [])) (sym more)
              (lists-entered log e n.granted (fit.lists i n at)))
              (λ j u ne a.
              let two = sum-two (having (pass_of e)) notes i j n u
              (λ z. ne (sym z)) (from_elem notes i n at) (from_elem notes j u a) in
              let o = fit.once (pass_of e) inside in
              lists-others log e u.granted (omega arith) (fit.lists j u a));
          below = λ j d a. ⊎_elim (λ old. fit.below j d old)
              (λ same. subst (λ z. pass_of z < passes) same inside) (at-push log e d j a);
          once = λ q l. let s = sum-set (having q) notes i n m (from_elem notes i n at) in let r = ap
              (occurs q) more in let k = occurs-entered q e n.granted in let o = fit.once q l in omega arith;
          never = λ q l. let s = sum-set (having q) notes i n m (from_elem notes i n at) in let r = ap
              (occurs q) more in let k = occurs-entered q e n.granted in let o = fit.never q l in omega arith;
          numbered = each (λ u. IsIdle u ⊎ HasNumber u) m (inr (numbered-by n.granted has more))
              (λ j u ne a. fit.numbered j u a);
          single = each (λ u. (u.pin ≡ None) ⊎ (u.loading ≡ None)) m single (λ j u ne a. fit.single j u a);
        }
      where
        numbered-by : (b : List (Grants K)) → 0 < occurs (pass_of e) b → m.granted ≡ entered e b → 0 < length m.granted
        numbered-by [] h r = absurd (omega arith)
        numbered-by (x ∷ xs) h r = let l = ap length r in omega arith

    -- an idle note is divided
    pub notes-divided : (left right : Note K T) → Divides n left right
        → NotesFit passes (set notes i left ++ right ∷ []) log
    notes-divided left right d =
        let mine = fit.lists i n at in
        let both = subst (Lists log) d.3 mine in
        let cut : (q : ℕ) → occurs q n.granted ≡ occurs q right.granted + occurs q left.granted = λ q. ap
        (occurs q) d.3 ∙ sum_by-append
        (λ (z : Grants K). cond {A = ℕ} (eqb z.pass q) 1 0) right.granted left.granted in record {
          lists = λ j u e. ⊎_elim
              (λ was. each (λ z. Lists log z.granted) left (lists-back log right.granted left.granted both)
              (λ k z ne a. fit.lists k z a) j u was)
              (λ same. subst (λ (z : Note K T). Lists log z.granted) same
              (lists-front log right.granted left.granted both)) (at_snoc (set notes i left) right u j e);
          below = fit.below;
          once = λ q l. let s = sum-set (having q) notes i n left (from_elem notes i n at) in let p = sum_by_push
              (having q) (set notes i left) right in let c = cut q in let o = fit.once q l in omega arith;
          never = λ q l. let s = sum-set (having q) notes i n left (from_elem notes i n at) in let p = sum_by_push
              (having q) (set notes i left) right in let c = cut q in let o = fit.never q l in omega arith;
          numbered = λ j u e. ⊎_elim (λ was. each (λ z. IsIdle z ⊎ HasNumber z) left (inl d.1)
              (λ k z ne a. fit.numbered k z a) j u was)
              (λ same. subst (λ (z : Note K T). IsIdle z ⊎ HasNumber z) same (inl d.2))
              (at_snoc (set notes i left) right u j e);
          single = λ j u e. ⊎_elim (λ was. each (λ z. (z.pin ≡ None) ⊎ (z.loading ≡ None)) left (inl d.1.0)
              (λ k z ne a. fit.single k z a) j u was)
              (λ same. subst (λ (z : Note K T). (z.pin ≡ None) ⊎ (z.loading ≡ None)) same (inl d.2.0))
              (at_snoc (set notes i left) right u j e);
        }

    -- an idle note is added to another
    pub notes-joined : (j : ℕ) (m : Note K T) → get_elem? notes j ≡ some m → j ≢ i → IsIdle m
        → NotesFit passes (set (set notes i (added n m)) j nothing) log
    notes-joined j m there apart idle =
        let joint : (q : ℕ) → sum_by (having q) (set (set notes i (added n m)) j nothing)
        ≡ sum_by (having q) notes = λ q.
        let s = sum-set (having q) notes i n (added n m) (from_elem notes i n at) in
        let t = sum-set (having q) (set notes i (added n m)) j m nothing
        (get-set_other notes i j (added n m) apart ∙ from_elem notes j m there) in
        let c = sum_by-append (λ (z : Grants K). cond {A = ℕ} (eqb z.pass q) 1 0) n.granted m.granted in omega arith in
        record {
          lists = all (λ z. Lists log z.granted)
              (λ k g a. absurd (none-some g a)) (lists-both log n.granted m.granted (fit.lists i n at)
              (fit.lists j m there)) fit.lists;
          below = fit.below;
          once = λ q l. joint q ∙ fit.once q l;
          never = λ q l. joint q ∙ fit.never q l;
          numbered = all (λ z. IsIdle z ⊎ HasNumber z) (inl (refl, refl)) (⊎_elim (λ k. inl k)
              (λ k. inr (omega (arith, length-append n.granted m.granted))) (fit.numbered i n at)) fit.numbered;
          single = all (λ z. (z.pin ≡ None) ⊎ (z.loading ≡ None)) (inl refl) (fit.single i n at) fit.single;
        }
      where
        all : (P : Note K T → Type 0) → P nothing → P (added n m)
            → ((k : ℕ) (u : Note K T) → get_elem? notes k ≡ some u → P u) → (k : ℕ) (u : Note K T)
            → get_elem? (set (set notes i (added n m)) j nothing) k ≡ some u → P u
        all P a b h k u e = ⊎_elim (λ (t : (k ≡ j) × (nothing ≡ u)). subst P t.1 a)
            (λ (t : (k ≢ j) × (get_elem? (set notes i (added n m)) k ≡ some u)). each P (added n m) b
            (λ l z ne r. h l z r) k u t.1) (at_set (set notes i (added n m)) j k nothing u e)
