-- How many passes use a frame, after one pass has changed.
use Rattle.std.proofs.Common.{◌≡◌, ◌≢◌, ◌∙◌, ℕ, zero, suc, ◌+◌, ◌⊎◌, inl, inr, Bool, cond, List, [], ◌∷◌, ◌++◌, length, set, Some, refl, sym, ap, subst, ⊎_elim, arith}
use Rattle.std.specs.List.{slice_get, count_by}
use Rattle.std.proofs.lemmas.Bool.{ne_eqb, eq-eqb}
use Rattle.std.proofs.lemmas.List.Sums.{sum_by-set}
use Rattle.std.proofs.lemmas.Option.{none-some, same_Some, slice_get_within, get_or_from_slice_get}
use Rattle.frame_pool.specs.declared.frame.FrameState.{FrameState}
use Rattle.frame_pool.proofs.Places.{at-set, get-set_other}
use Rattle.replay_machine.specs.Machine.{Walk, Held, no_frame, loads, pins, Pass, Machine}
use Rattle.replay_machine.specs.Used.{is_pin_of, is_load_of, pinning, loading, FitsUse, StatesFit, IsInside, IsHolder, IsUsed}

-- 1 where the pass has pinned the frame, and where it loads it
pub pin_bit : ℕ → Held → ℕ
pin_bit f held = cond (is_pin_of f held) 1 0

pub load_bit : ℕ → Held → ℕ
load_bit f held = cond (is_load_of f held) 1 0

counted : (test : Held → Bool) (passes : List Pass) (p : ℕ) (pass after : Pass) → slice_get passes p ≡ Some pass
    → count_by (λ (q : Pass). test q.frame) (set passes p after) + cond (test pass.frame) 1 0 ≡ count_by (λ (q : Pass). test q.frame) passes + cond (test after.frame) 1 0
counted test passes p pass after at =
    let bit : Pass → ℕ = λ (q : Pass). cond (test q.frame) 1 0 in
    ap (λ (q : Pass). count_by (λ (r : Pass). test r.frame) (set passes p after) + bit q) (sym (get_or_from_slice_get passes p pass pass at))
    ∙ sum_by-set bit passes p after pass (slice_get_within passes p pass at)

pub pinning_after : (passes : List Pass) (f p : ℕ) (pass after : Pass) → slice_get passes p ≡ Some pass
    → pinning f (set passes p after) + pin_bit f pass.frame ≡ pinning f passes + pin_bit f after.frame
unfolding pin_bit
pinning_after passes f p pass after at = counted (is_pin_of f) passes p pass after at

pub loading_after : (passes : List Pass) (f p : ℕ) (pass after : Pass) → slice_get passes p ≡ Some pass
    → loading f (set passes p after) + load_bit f pass.frame ≡ loading f passes + load_bit f after.frame
unfolding load_bit
loading_after passes f p pass after at = counted (is_load_of f) passes p pass after at

-- the frame of a pass is this one, if it has one
abbrev pub Touches : ℕ → Held → Type 0
Touches f no_frame = Unit {0}
Touches f (loads g) = g ≡ f
Touches f (pins g) = g ≡ f

untouched_pin : (f g : ℕ) (held : Held) → Touches f held → g ≢ f → pin_bit g held ≡ 0
unfolding pin_bit
untouched_pin f g no_frame touch other = refl
untouched_pin f g (loads h) touch other = refl
untouched_pin f g (pins h) touch other = ap (λ b. cond b 1 0) (ne_eqb h g (λ same. other (sym same ∙ touch)))

untouched_load : (f g : ℕ) (held : Held) → Touches f held → g ≢ f → load_bit g held ≡ 0
unfolding load_bit
untouched_load f g no_frame touch other = refl
untouched_load f g (loads h) touch other = ap (λ b. cond b 1 0) (ne_eqb h g (λ same. other (sym same ∙ touch)))
untouched_load f g (pins h) touch other = refl

pub own_pin : (f : ℕ) → pin_bit f (pins f) ≡ 1
unfolding pin_bit
own_pin f = ap (λ b. cond b 1 0) (eq-eqb f f refl)

pub own_load : (f : ℕ) → load_bit f (loads f) ≡ 1
unfolding load_bit
own_load f = ap (λ b. cond b 1 0) (eq-eqb f f refl)

pub no_pin : (f : ℕ) → pin_bit f no_frame ≡ 0
unfolding pin_bit
no_pin f = refl

pub no_load : (f : ℕ) → load_bit f no_frame ≡ 0
unfolding load_bit
no_load f = refl

pub load_no_pin : (f : ℕ) → pin_bit f (loads f) ≡ 0
unfolding pin_bit
load_no_pin f = refl

pub pin_no_load : (f : ℕ) → load_bit f (pins f) ≡ 0
unfolding load_bit
pin_no_load f = refl

-- from one use of a frame to another
abbrev pub Becomes : ℕ → Held → Held → FrameState ℕ → FrameState ℕ → Type 0
Becomes f held after state new = (n k more most : ℕ) → more + pin_bit f held ≡ n + pin_bit f after → most + load_bit f held ≡ k + load_bit f after → FitsUse state n k → FitsUse new more most

pub states_after : (census : List (FrameState ℕ)) (passes : List Pass) (p f : ℕ) (pass after : Pass) (state new : FrameState ℕ) → StatesFit census passes → slice_get passes p ≡ Some pass
    → slice_get census f ≡ Some state → Touches f pass.frame → Touches f after.frame → Becomes f pass.frame after.frame state new → StatesFit (set census f new) (set passes p after)
states_after census passes p f pass after state new fit at here touch touched becomes g found there =
    let others = set passes p after in
    ⊎_elim
    (λ (t : (g ≡ f) × (new ≡ found)).
    let fits = becomes (pinning f passes) (loading f passes) (pinning f others) (loading f others) (pinning_after passes f p pass after at) (loading_after passes f p pass after at) (fit f state here) in
    subst (λ h. FitsUse found (pinning h others) (loading h others)) (sym t.0) (subst (λ (x : FrameState ℕ). FitsUse x (pinning f others) (loading f others)) t.1 fits))
    (λ (t : (g ≢ f) × (slice_get census g ≡ Some found)).
    let pin : pinning g passes ≡ pinning g others = omega (arith, pinning_after passes g p pass after at, untouched_pin f g pass.frame touch t.0, untouched_pin f g after.frame touched t.0) in
    let load : loading g passes ≡ loading g others = omega (arith, loading_after passes g p pass after at, untouched_load f g pass.frame touch t.0, untouched_load f g after.frame touched t.0) in
    subst (λ n. FitsUse found (pinning g others) n) load (subst (λ n. FitsUse found n (loading g passes)) pin (fit g found t.1)))
    (at-set census f g new found there)

-- a pass that keeps its frame changes no use
pub states_stay : (census : List (FrameState ℕ)) (passes : List Pass) (p : ℕ) (pass after : Pass) → StatesFit census passes → slice_get passes p ≡ Some pass → pass.frame ≡ after.frame
    → StatesFit census (set passes p after)
states_stay census passes p pass after fit at same g found there =
    let others = set passes p after in
    let pin : pinning g passes ≡ pinning g others = omega (arith, pinning_after passes g p pass after at, ap (pin_bit g) same) in
    let load : loading g passes ≡ loading g others = omega (arith, loading_after passes g p pass after at, ap (load_bit g) same) in
    subst (λ n. FitsUse found (pinning g others) n) load (subst (λ n. FitsUse found n (loading g passes)) pin (fit g found there))

-- what stays of all other passes, and holds of the one that has changed
pub used_after : (m : Machine) (census : List (FrameState ℕ)) (order : List ℕ) (cursors : List Walk) (p : ℕ) (after : Pass) → IsUsed m → length census ≡ length m.census
    → StatesFit census (set m.passes p after) → IsInside (length m.census) after.frame → ((after.frame ≡ no_frame) ⊎ IsHolder cursors p after)
    → ((q : ℕ) (other : Pass) → q ≢ p → IsHolder m.cursors q other → IsHolder cursors q other)
    → IsUsed (record { census = census; order = order; cursors = cursors; passes = set m.passes p after })
used_after m census order cursors p after used long fit within works others = record {
  states = fit;
  inside = λ q pass at. subst (λ n. IsInside n pass.frame) (sym long) (⊎_elim
      (λ (t : (q ≡ p) × (after ≡ pass)). subst (λ (x : Pass). IsInside (length m.census) x.frame) t.1 within)
      (λ (t : (q ≢ p) × (slice_get m.passes q ≡ Some pass)). used.inside q pass t.1)
      (at-set m.passes p q after pass at));
  working = λ q pass at. ⊎_elim
      (λ (t : (q ≡ p) × (after ≡ pass)). subst (λ (x : Pass). (x.frame ≡ no_frame) ⊎ IsHolder cursors q x) t.1 (subst (λ r. (after.frame ≡ no_frame) ⊎ IsHolder cursors r after) (sym t.0) works))
      (λ (t : (q ≢ p) × (slice_get m.passes q ≡ Some pass)). ⊎_elim
      (λ (none : pass.frame ≡ no_frame). let left : (pass.frame ≡ no_frame) ⊎ IsHolder cursors q pass = inl none in left)
      (λ (h : IsHolder m.cursors q pass). let right : (pass.frame ≡ no_frame) ⊎ IsHolder cursors q pass = inr (others q pass t.0 h) in right)
      (used.working q pass t.1))
      (at-set m.passes p q after pass at);
}

-- a walk that another pass doesn't hold may change
pub others_hold : (cursors : List Walk) (c : ℕ) (walk now : Walk) (q : ℕ) (pass : Pass) → slice_get cursors c ≡ Some walk → (walk.holder ≡ Some q → ⊥) → IsHolder cursors q pass → IsHolder (set cursors c now) q pass
others_hold cursors c walk now q pass at free h = record {
  number = h.number;
  walk = h.walk;
  cursor = h.cursor;
  at = get-set_other cursors c h.number now (λ same. free (ap (λ (w : Walk). w.holder) (same_Some walk h.walk (sym at ∙ ap (slice_get cursors) (sym same) ∙ h.at)) ∙ h.held)) ∙ h.at;
  held = h.held;
}

-- one cursor more
at_front : {X : Type 0} (xs ys : List X) (k : ℕ) (x : X) → slice_get xs k ≡ Some x → slice_get (xs ++ ys) k ≡ Some x
at_front [] ys k x at = absurd (none-some x at)
at_front (y ∷ xs) ys zero x at = at
at_front (y ∷ xs) ys (suc k) x at = at_front xs ys k x at

pub holders_stay : (cursors more : List Walk) (q : ℕ) (pass : Pass) → IsHolder cursors q pass → IsHolder (cursors ++ more) q pass
holders_stay cursors more q pass h = record { number = h.number; walk = h.walk; cursor = h.cursor; at = at_front cursors more h.number h.walk h.at; held = h.held }
