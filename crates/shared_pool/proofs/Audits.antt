-- The note that has all numbers has all entries of the log, and what follows for the keys that were granted.
use Rattle.std.proofs.Common.{◌≡◌, ◌≢◌, ◌⊎◌, inl, inr, ℕ, zero, suc, ◌+◌, ◌<◌, ◌≤◌, Bool, true, false, cond, eqb, eq-eqb, ne_eqb, List, [], ◌∷◌, ◌++◌, length, Option, Some, None, refl, sym, ap, ◌∙◌, subst, ⊎_elim, arith}
use Rattle.std.specs.List.{slice_get, count_by, sum_by, filter}
use Rattle.std.proofs.lemmas.Bool.{cases_lt, false≢true, true≢false}
use Rattle.std.proofs.lemmas.Option.{same_Some}
use Rattle.std.proofs.lemmas.List.Sums.{sum_by-cons, sum_by-append, count_by-le-length}
use mathlib.Core.Logic.{dite}
use mathlib.Core.Option.{some}
use native.Mathlib.Decide.{ℕ_discrete}
use lib.ListN.{get_elem?}
use Rattle.frame_pool.specs.declared.frame.FrameState.{FrameState}
use Rattle.frame_pool.specs.States.{has_key}
use Rattle.frame_pool.specs.Frames.{HasKeysOnce}
use Rattle.shared_pool.specs.declared.entry.Entry.{Entry}
use Rattle.shared_pool.specs.declared.entry.Entry.TheVariants.{Granted, Ended}
use Rattle.shared_pool.specs.declared.note.Note.{Note}
use Rattle.shared_pool.specs.declared.note.Grants.{Grants}
use Rattle.shared_pool.specs.declared.shared.Shared.{Shared}
use Rattle.shared_pool.specs.declared.shared.PoolTag.{PoolTag}
use Rattle.shared_pool.specs.Books.{pass_of, of_pass, occurs, Lists, grants, ends, takes, takes_any, is_same, is_there, all_entries, AreGranted, HasFewKeys, HasMoreKeys, IsFetchedOnce}
use Rattle.shared_pool.specs.Fits.{PoolFits, NotesFit}
use Rattle.shared_pool.specs.Sums.{from_elem, sum-one, sum-two, sum-none, sum-some, sum-less, sum-same, sum-plus, one-yes, one-no, one-most}
use Rattle.shared_pool.proofs.Finds.{few-numbers}

abbrev count : {A : Type 0} → (A → Bool) → A → ℕ
count p x = cond (p x) 1 0

eqb-turned : (a b : ℕ) → eqb a b ≡ eqb b a
eqb-turned a b = dite (ℕ_discrete a b) (λ e. eq-eqb a b e ∙ sym (eq-eqb b a (sym e))) (λ ne. ne_eqb a b ne ∙ sym (ne_eqb b a (λ e. ne (sym e))))

-- at most one passes, where all that pass stand at one place
count-most : {A : Type 0} (p : A → Bool) (xs : List A) → ((i j : ℕ) (a b : A) → slice_get xs i ≡ Some a → slice_get xs j ≡ Some b → p a ≡ true → p b ≡ true → i ≡ j) → count_by p xs ≤ 1
count-most p [] h = omega arith
count-most {A} p (z ∷ zs) h = by (p z) refl (count-most p zs (λ i j a b x y s t. let e = h (suc i) (suc j) a b x y s t in omega arith))
  where
    fails : p z ≡ true → (i : ℕ) (a : A) → slice_get zs i ≡ Some a → (b : Bool) → p a ≡ b → cond {A = ℕ} b 1 0 ≡ 0
    fails e i a x true f = let same = h 0 (suc i) z a refl x e f in absurd (omega arith)
    fails e i a x false f = refl

    by : (b : Bool) → p z ≡ b → count_by p zs ≤ 1 → count_by p (z ∷ zs) ≤ 1
    by true e r = let c = sum_by-cons (count p) z zs in let o = one-yes (p z) e in let n = sum-none (count p) zs (λ i a x. fails e i a x (p a) refl) in omega arith
    by false e r = let c = sum_by-cons (count p) z zs in let o = one-no (p z) e in omega arith

module _ {K : Type 0} (p : Entry K → Bool) where
  weigh-choice : (b : Bool) (e : Entry K) (l : List (Entry K)) → count_by p (cond b (e ∷ l) l) ≡ cond {A = ℕ} b (count p e) 0 + count_by p l
  weigh-choice true e l = sum_by-cons (count p) e l
  weigh-choice false e l = omega arith

  -- a weight of 0 or 1 that counts for one number
  once-weight : (a : ℕ) (b : Bool) (book : List (Grants K)) → occurs a book ≡ 1 → sum_by (λ g. cond {A = ℕ} (eqb a g.pass) (cond {A = ℕ} b 1 0) 0) book ≡ cond {A = ℕ} b 1 0
  once-weight a true book h = sum-same (λ (g : Grants K). cond {A = ℕ} (eqb a g.pass) 1 0) (λ g. cond {A = ℕ} (eqb g.pass a) 1 0) book (λ i g e. ap (λ c. cond {A = ℕ} c 1 0) (eqb-turned a g.pass)) ∙ h
  once-weight a false book h = sum-none (λ (g : Grants K). cond {A = ℕ} (eqb a g.pass) 0 0) book (λ i g e. nothing (eqb a g.pass))
    where
      nothing : (c : Bool) → cond {A = ℕ} c 0 0 ≡ 0
      nothing true = refl
      nothing false = refl

  -- each entry counts in the book for the one number that it has
  weigh-all : (log : List (Entry K)) (book : List (Grants K)) → ((j : ℕ) (e : Entry K) → slice_get log j ≡ Some e → occurs (pass_of e) book ≡ 1) → sum_by (λ g. count_by p (of_pass g.pass log)) book ≡ count_by p log
  weigh-all [] book h = sum-none (λ (g : Grants K). count_by p (of_pass g.pass [])) book (λ i g e. refl)
  weigh-all (e ∷ es) book h =
      let each = sum-same (λ (g : Grants K). count_by p (of_pass g.pass (e ∷ es))) (λ g. cond {A = ℕ} (eqb (pass_of e) g.pass) (count p e) 0 + count_by p (of_pass g.pass es)) book (λ i g k. weigh-choice (eqb (pass_of e) g.pass) e (of_pass g.pass es)) in
      let both = sum-plus (λ (g : Grants K). cond {A = ℕ} (eqb (pass_of e) g.pass) (count p e) 0) (λ g. count_by p (of_pass g.pass es)) book in
      let here = once-weight (pass_of e) (p e) book (h 0 e refl) in
      let rest = weigh-all es book (λ j d k. h (suc j) d k) in
      let c = sum_by-cons (count p) e es in omega arith

  count-entries : (book : List (Grants K)) → count_by p (all_entries book) ≡ sum_by (λ g. count_by p g.entries) book
  count-entries [] = refl
  count-entries (g ∷ gs) = let a = sum_by-append (count p) g.entries (all_entries gs) in let c = sum_by-cons (λ (h : Grants K). count_by p h.entries) g gs in let r = count-entries gs in omega arith

module _ {G K T : Type 0} (eq : K → K → Bool) (fits : G → K → T → Type 0) (tag : PoolTag G) (notes : List (Note K T)) (x : Shared K T) (fit : PoolFits eq fits tag notes x) (i : ℕ) (n : Note K T) (at : get_elem? notes i ≡ some n) (full : length n.granted ≡ tag.passes) where
  -- where a note has as many numbers as there are passes, it has each of them
  stands : (q : ℕ) → q < tag.passes → occurs q n.granted ≡ 1
  stands q less =
      let all = fit.listed.once q less in
      let mine = sum-one (λ (u : Note K T). occurs q u.granted) notes i n (from_elem notes i n at) in
      ⊎_elim (λ (has : 0 < occurs q n.granted). omega arith)
      (λ (lacks : occurs q n.granted ≤ 0).
      let other = sum-some (λ (u : Note K T). occurs q u.granted) notes (omega arith) in
      dite (ℕ_discrete other.0 i)
      (λ same. let u = same_Some other.1 n (sym other.2 ∙ (ap (slice_get notes) same ∙ from_elem notes i n at)) in let k = ap (λ (z : Note K T). occurs q z.granted) u in let pos = other.3 in absurd (omega arith))
      (λ apart.
      let two = sum-two (λ (u : Note K T). length u.granted) notes i other.0 n other.1 (λ e. apart (sym e)) (from_elem notes i n at) other.2 in
      let few = few-numbers tag.passes notes x.log fit.listed in
      let most = count_by-le-length (λ (g : Grants K). eqb g.pass q) other.1.granted in
      let pos = other.3 in absurd (omega arith)))
      (cases_lt 0 (occurs q n.granted))

  same-counts : (p : Entry K → Bool) → count_by p (all_entries n.granted) ≡ count_by p x.log
  same-counts p =
      let lists = fit.listed.lists i n at in
      count-entries p n.granted
      ∙ (sum-same (λ (g : Grants K). count_by p g.entries) (λ g. count_by p (of_pass g.pass x.log)) n.granted (λ j g e. ap (count_by p) (lists j g e))
      ∙ weigh-all p x.log n.granted (λ j e k. stands (pass_of e) (fit.listed.below j e k)))

  takes-some : (key : K) (e : Entry K) → count (takes eq key) e ≤ count takes_any e
  takes-some key (Granted pass own None) = omega arith
  takes-some key (Granted pass own (Some lost)) = one-most (eq lost key)
  takes-some key (Ended pass own) = omega arith

  pub audited : HasFewKeys eq tag.frames (all_entries n.granted) → IsFetchedOnce eq (all_entries n.granted)
  audited few key =
      let g = same-counts (grants eq key) in
      let e = same-counts (ends eq key) in
      let balance = fit.logged.balance key in
      let held = count-most (has_key eq key) x.pool.census (λ a b s t u v k l. fit.logged.once key a b s t u v k l) in
      ⊎_elim
      (λ (none : count_by takes_any x.log ≡ 0). let t = sum-less (count (takes eq key)) (count takes_any) x.log (λ j d k. takes-some key d) in omega arith)
      (λ (more : HasMoreKeys eq (length x.pool.census) x.log).
      let most = few more.0 more.1 (λ j k a. let s = same-counts (grants eq k) in let h = more.2 j k a in omega arith) in
      let many = more.3 in let frames = fit.framed.frames in absurd (omega arith))
      fit.logged.losses
