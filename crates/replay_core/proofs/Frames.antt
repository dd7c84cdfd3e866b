-- What stands in the frames, and the keys of the frames that passes use, from event to event.
use Rattle.std.proofs.Common.{◌≡◌, ◌≢◌, ◌∙◌, ℕ, zero, suc, ◌+◌, ◌-◌, ◌<◌, ◌≤◌, ◌⊎◌, inl, inr, Bool, true, false, cond, List, [], ◌∷◌, length, get_or, set, Option, Some, None, refl, sym, ap, subst, ⊎_elim, arith}
use Rattle.std.specs.Prelude.{slice_get, eqb, IfSome, count_by}
use Rattle.std.proofs.lemmas.List.Sums.{sum_by-cons}
use Rattle.std.proofs.lemmas.Option.{none-some, same_Some, slice_get-get_or}
use Rattle.frame_pool.specs.declared.frame.FrameState.{FrameState}
use Rattle.frame_pool.specs.declared.frame.FrameState.TheVariants.{Empty, Loading, Ready}
use Rattle.frame_pool.specs.declared.frame.Asked.{Asked}
use Rattle.frame_pool.specs.declared.frame.Asked.TheVariants.{Hit, Granted, Loading as Waiting, Busy}
use Rattle.frame_pool.specs.States.{is_pinned, state_key, pins_of}
use Rattle.frame_pool.specs.Frames.{Frames, EachFrame, KeepsPinned}
use Rattle.frame_pool.specs.Moves.{IsAskAnswer, after_ask, after_settle, after_unpin, pinned, unpinned, settled, changed}
use Rattle.frame_pool.proofs.Places.{at-set, get-set_other}
use Rattle.frame_pool.proofs.Pools.{changed-at}
use Rattle.subtree_outcome.specs.declared.outcome.Outcome.{Outcome}
use Rattle.replay_machine.specs.Machine.{Machine}
use Rattle.replay_machine.specs.declared.pass.Pass.{Pass}
use Rattle.replay_machine.specs.declared.pass.Held.{Held}
use Rattle.replay_machine.specs.declared.pass.Held.TheVariants.{Nothing as no_frame, Loads as loads, Pins as pins}
use Rattle.replay_machine.specs.Used.{is_pin_of, pinning, loading, FitsUse, IsInside, IsUsed}
use Rattle.replay_machine.proofs.Counts.{pin_bit, load_bit, own_pin, own_load, no_pin, no_load, pinning_after, loading_after}
use Rattle.replay_core.specs.Core.{HoldsValues, HasKeyAt, FrameHasKey}

-- ---- states

ready_key : (a b m n : ℕ) → Ready a m ≡ Ready b n → a ≡ b
ready_key a b m n e = cc

loading_ready : (a b n : ℕ) → Loading a ≡ Ready b n → ⊥
loading_ready a b n e = cc

empty_ready : (b n : ℕ) → Empty ≡ Ready b n → ⊥
empty_ready b n e = cc

-- ---- values

pub values_asked : (P : ℕ → Outcome → Type 0) (key : ℕ) (frames : Frames ℕ Outcome) (answer : Asked) → IsAskAnswer eqb key frames answer → HoldsValues P frames → HoldsValues P (after_ask key frames answer)
values_asked P key frames (Hit f) a holds = λ g k n found e v. ⊎_elim
    (λ (t : (g ≡ f) × (Ready a.0 (a.1 + 1) ≡ Ready k n)). holds f k a.1 found (a.2 ∙ ap (λ o. Some (Ready o a.1)) (ready_key a.0 k (a.1 + 1) n t.1)) (ap (slice_get frames.values) (sym t.0) ∙ v))
    (λ (t : (g ≢ f) × (slice_get frames.census g ≡ Some (Ready k n))). holds g k n found t.1 v)
    (at-set frames.census f g (Ready a.0 (a.1 + 1)) (Ready k n) (ap (λ xs. slice_get xs g) (sym (changed-at frames.census f (Ready a.0 a.1) pinned a.2)) ∙ e))
values_asked P key frames (Granted f) a holds = λ g k n found e v. ⊎_elim
    (λ (t : (g ≡ f) × (Loading key ≡ Ready k n)). absurd (loading_ready key k n t.1))
    (λ (t : (g ≢ f) × (slice_get frames.census g ≡ Some (Ready k n))). holds g k n found t.1 (sym (get-set_other frames.values f g None t.0) ∙ v))
    (at-set frames.census f g (Loading key) (Ready k n) e)
values_asked P key frames Waiting a holds = holds
values_asked P key frames Busy a holds = holds

pub values_settled : (P : ℕ → Outcome → Type 0) (f key : ℕ) (frames : Frames ℕ Outcome) (value : Option Outcome) → slice_get frames.census f ≡ Some (Loading key) → IfSome value (P key) → HoldsValues P frames
    → HoldsValues P (after_settle f value frames)
values_settled P f key frames (Some new) at is holds = λ g k n found e v. ⊎_elim
    (λ (t : (g ≡ f) × (Ready key 1 ≡ Ready k n)). ⊎_elim
    (λ (u : (g ≡ f) × (Some new ≡ Some found)). subst (λ o. P k o) (same_Some new found u.1) (subst (λ o. P o new) (ready_key key k 1 n t.1) is))
    (λ (u : (g ≢ f) × (slice_get frames.values g ≡ Some (Some found))). absurd (u.0 t.0))
    (at-set frames.values f g (Some new) (Some found) v))
    (λ (t : (g ≢ f) × (slice_get frames.census g ≡ Some (Ready k n))). holds g k n found t.1 (sym (get-set_other frames.values f g (Some new) t.0) ∙ v))
    (at-set frames.census f g (Ready key 1) (Ready k n) (ap (λ xs. slice_get xs g) (sym (changed-at frames.census f (Loading key) (settled (Some new)) at)) ∙ e))
values_settled P f key frames None at is holds = λ g k n found e v.
    let nothing : Option Outcome = None in
    let empty : FrameState ℕ = Empty in
    ⊎_elim
    (λ (t : (g ≡ f) × (empty ≡ Ready k n)). absurd (empty_ready k n t.1))
    (λ (t : (g ≢ f) × (slice_get frames.census g ≡ Some (Ready k n))). holds g k n found t.1 (sym (get-set_other frames.values f g nothing t.0) ∙ v))
    (at-set frames.census f g empty (Ready k n) (ap (λ xs. slice_get xs g) (sym (changed-at frames.census f (Loading key) (settled nothing) at)) ∙ e))

pub values_unpinned : (P : ℕ → Outcome → Type 0) (f key n : ℕ) (frames : Frames ℕ Outcome) → slice_get frames.census f ≡ Some (Ready key n) → HoldsValues P frames → HoldsValues P (after_unpin f frames)
values_unpinned P f key n frames at holds = λ g k m found e v. ⊎_elim
    (λ (t : (g ≡ f) × (Ready key (n - 1) ≡ Ready k m)). holds f k n found (at ∙ ap (λ o. Some (Ready o n)) (ready_key key k (n - 1) m t.1)) (ap (slice_get frames.values) (sym t.0) ∙ v))
    (λ (t : (g ≢ f) × (slice_get frames.census g ≡ Some (Ready k m))). holds g k m found t.1 v)
    (at-set frames.census f g (Ready key (n - 1)) (Ready k m) (ap (λ xs. slice_get xs g) (sym (changed-at frames.census f (Ready key n) unpinned at)) ∙ e))

-- ---- the state of the frame of a pass

must_load : (state : FrameState ℕ) (a b : ℕ) → FitsUse state a b → 1 ≤ b → (key : ℕ) × (state ≡ Loading key)
must_load Empty a b fit some = absurd (omega (arith, fit.1, some))
must_load (Loading key) a b fit some = (key, refl)
must_load (Ready key n) a b fit some = absurd (omega (arith, fit.1, some))

must_pin : (state : FrameState ℕ) (a b : ℕ) → FitsUse state a b → 1 ≤ a → (key : ℕ) × (n : ℕ) × (state ≡ Ready key n) × (0 < n)
must_pin Empty a b fit some = absurd (omega (arith, fit.0, some))
must_pin (Loading key) a b fit some = absurd (omega (arith, fit.0, some))
must_pin (Ready key n) a b fit some = (key, n, refl, omega (arith, fit.0, some))

some_load : (passes : List Pass) (p f : ℕ) (pass : Pass) → slice_get passes p ≡ Some pass → pass.frame ≡ loads f → 1 ≤ loading f passes
some_load passes p f pass at is =
    let rest : Pass = record pass { frame = no_frame } in
    omega (arith, loading_after passes f p pass rest at, ap (load_bit f) is, own_load f, no_load f)

some_pin : (passes : List Pass) (p f : ℕ) (pass : Pass) → slice_get passes p ≡ Some pass → pass.frame ≡ pins f → 1 ≤ pinning f passes
some_pin passes p f pass at is =
    let rest : Pass = record pass { frame = no_frame } in
    omega (arith, pinning_after passes f p pass rest at, ap (pin_bit f) is, own_pin f, no_pin f)

pub loads_at : (m : Machine) (p f : ℕ) (pass : Pass) → IsUsed m → slice_get m.passes p ≡ Some pass → pass.frame ≡ loads f → (key : ℕ) × (slice_get m.census f ≡ Some (Loading key))
loads_at m p f pass used at is =
    let inside : f < length m.census = subst (IsInside (length m.census)) is (used.inside p pass at) in
    let state = get_or m.census f Empty in
    let here = slice_get-get_or m.census f Empty inside in
    let load = must_load state (pinning f m.passes) (loading f m.passes) (used.states f state here) (some_load m.passes p f pass at is) in
    (load.0, here ∙ ap (λ x. Some x) load.1)

pub pins_at : (m : Machine) (p f : ℕ) (pass : Pass) → IsUsed m → slice_get m.passes p ≡ Some pass → pass.frame ≡ pins f → (key : ℕ) × (n : ℕ) × (slice_get m.census f ≡ Some (Ready key n)) × (0 < n)
pins_at m p f pass used at is =
    let inside : f < length m.census = subst (IsInside (length m.census)) is (used.inside p pass at) in
    let state = get_or m.census f Empty in
    let here = slice_get-get_or m.census f Empty inside in
    let pin = must_pin state (pinning f m.passes) (loading f m.passes) (used.states f state here) (some_pin m.passes p f pass at is) in
    (pin.0, pin.1, here ∙ ap (λ x. Some x) pin.2, pin.3)

-- ---- keys

pinned_ready : (key n : ℕ) → 0 < n → is_pinned (Ready key n) ≡ true
pinned_ready key zero some = absurd (omega (arith, some))
pinned_ready key (suc n) some = refl

-- a frame that a pass uses is pinned
used_pinned : (m : Machine) (p : ℕ) (pass : Pass) (f : ℕ) (state : FrameState ℕ) → IsUsed m → slice_get m.passes p ≡ Some pass → (pass.frame ≡ loads f) ⊎ (pass.frame ≡ pins f)
    → slice_get m.census f ≡ Some state → is_pinned state ≡ true
used_pinned m p pass f state used at uses here = ⊎_elim
    (λ (l : pass.frame ≡ loads f). let is = loads_at m p f pass used at l in subst (λ x. is_pinned x ≡ true) (same_Some (Loading is.0) state (sym is.1 ∙ here)) refl)
    (λ (n : pass.frame ≡ pins f). let is = pins_at m p f pass used at n in subst (λ x. is_pinned x ≡ true) (same_Some (Ready is.0 is.1) state (sym is.2 ∙ here)) (pinned_ready is.0 is.1 is.3))
    uses

-- the frame that another pass uses keeps its key where one is asked for
kept_asked : (m : Machine) (q : ℕ) (pass : Pass) (f : ℕ) (key : Option ℕ) (frames after : Frames ℕ Outcome) → m.census ≡ frames.census → IsUsed m → slice_get m.passes q ≡ Some pass
    → (pass.frame ≡ loads f) ⊎ (pass.frame ≡ pins f) → KeepsPinned frames after → HasKeyAt frames.census f key → HasKeyAt after.census f key
kept_asked m q pass f key frames after same used at uses keeps has =
    let later = keeps f has.0 has.2 (used_pinned m q pass f has.0 used at uses (ap (λ xs. slice_get xs f) same ∙ has.2)) in
    (later.0, has.1, later.1, later.3 ∙ has.3, has.4)

pub frame_asked : (m : Machine) (q : ℕ) (pass : Pass) (held : Held) (key : Option ℕ) (frames after : Frames ℕ Outcome) → pass.frame ≡ held → m.census ≡ frames.census → IsUsed m
    → slice_get m.passes q ≡ Some pass → KeepsPinned frames after → FrameHasKey frames.census held key → FrameHasKey after.census held key
frame_asked m q pass no_frame key frames after is same used at keeps has = tt
frame_asked m q pass (loads f) key frames after is same used at keeps has = kept_asked m q pass f key frames after same used at (inl is) keeps has
frame_asked m q pass (pins f) key frames after is same used at keeps has = kept_asked m q pass f key frames after same used at (inr is) keeps has

-- a write at one place leaves what stands at another, or is seen there
set_keeps : {X : Type 0} (xs : List X) (f g : ℕ) (x y z : X) → slice_get xs f ≡ Some x → slice_get xs g ≡ Some z
    → (slice_get (set xs f y) g ≡ Some z) ⊎ ((x ≡ z) × (slice_get (set xs f y) g ≡ Some y))
set_keeps [] f g x y z here there = absurd (none-some x here)
set_keeps (w ∷ ws) zero zero x y z here there = inr (same_Some x z (sym here ∙ there), refl)
set_keeps (w ∷ ws) zero (suc g) x y z here there = inl there
set_keeps (w ∷ ws) (suc f) zero x y z here there = inl there
set_keeps (w ∷ ws) (suc f) (suc g) x y z here there = set_keeps ws f g x y z here there

-- a change that keeps keys
key_changed : (change : FrameState ℕ → FrameState ℕ) → ((x : FrameState ℕ) → state_key (change x) ≡ state_key x) → (census : List (FrameState ℕ)) (f g : ℕ) (state : FrameState ℕ) (key : Option ℕ)
    → slice_get census f ≡ Some state → HasKeyAt census g key → HasKeyAt (changed f change census) g key
key_changed change keeps census f g state key at has =
    subst (λ xs. HasKeyAt xs g key) (sym (changed-at census f state change at)) (⊎_elim
    (λ (other : slice_get (set census f (change state)) g ≡ Some has.0). let kept : HasKeyAt (set census f (change state)) g key = (has.0, has.1, other, has.3, has.4) in kept)
    (λ (t : (state ≡ has.0) × (slice_get (set census f (change state)) g ≡ Some (change state))).
    let kept : HasKeyAt (set census f (change state)) g key = (change state, has.1, t.1, keeps state ∙ ap state_key t.0 ∙ has.3, has.4) in kept)
    (set_keeps census f g state (change state) has.0 at has.2))

pub frame_changed : (change : FrameState ℕ → FrameState ℕ) → ((x : FrameState ℕ) → state_key (change x) ≡ state_key x) → (census : List (FrameState ℕ)) (f : ℕ) (state : FrameState ℕ) (held : Held) (key : Option ℕ)
    → slice_get census f ≡ Some state → FrameHasKey census held key → FrameHasKey (changed f change census) held key
frame_changed change keeps census f state no_frame key at has = tt
frame_changed change keeps census f state (loads g) key at has = key_changed change keeps census f g state key at has
frame_changed change keeps census f state (pins g) key at has = key_changed change keeps census f g state key at has

pub unpinned_key : (x : FrameState ℕ) → state_key (unpinned x) ≡ state_key x
unpinned_key Empty = refl
unpinned_key (Loading key) = refl
unpinned_key (Ready key n) = refl

pub settled_key : (found : Outcome) (x : FrameState ℕ) → state_key (settled (Some found) x) ≡ state_key x
settled_key found Empty = refl
settled_key found (Loading key) = refl
settled_key found (Ready key n) = refl

-- a frame that is emptied is used by no pass afterwards
no_key : FrameState ℕ
no_key = Empty

not_pinned : is_pinned no_key ≡ true → ⊥
unfolding no_key
not_pinned e = cc

not_emptied : (census : List (FrameState ℕ)) (f g : ℕ) (later : FrameState ℕ) → slice_get (set census f Empty) g ≡ Some later → is_pinned later ≡ true → slice_get census g ≡ Some later
unfolding no_key
not_emptied census f g later at is = ⊎_elim
    (λ (t : (g ≡ f) × (no_key ≡ later)). absurd (not_pinned (subst (λ x. is_pinned x ≡ true) (sym t.1) is)))
    (λ (t : (g ≢ f) × (slice_get census g ≡ Some later)). t.1)
    (at-set census f g no_key later at)

kept_emptied : (census new : List (FrameState ℕ)) (f g : ℕ) (key : Option ℕ) (later : FrameState ℕ) → new ≡ set census f Empty → slice_get new g ≡ Some later → is_pinned later ≡ true → HasKeyAt census g key → HasKeyAt new g key
kept_emptied census new f g key later is at pin has =
    let was = not_emptied census f g later (ap (λ xs. slice_get xs g) (sym is) ∙ at) pin in
    (later, has.1, at, ap state_key (same_Some later has.0 (sym was ∙ has.2)) ∙ has.3, has.4)

pub frame_emptied : (m : Machine) (q : ℕ) (pass : Pass) (held : Held) (key : Option ℕ) (census : List (FrameState ℕ)) (f : ℕ) → pass.frame ≡ held → m.census ≡ set census f Empty → IsUsed m
    → slice_get m.passes q ≡ Some pass → FrameHasKey census held key → FrameHasKey m.census held key
frame_emptied m q pass no_frame key census f is same used at has = tt
frame_emptied m q pass (loads g) key census f is same used at has =
    let now = loads_at m q g pass used at is in
    kept_emptied census m.census f g key (Loading now.0) same now.1 (used_pinned m q pass g (Loading now.0) used at (inl is) now.1) has
frame_emptied m q pass (pins g) key census f is same used at has =
    let now = pins_at m q g pass used at is in
    kept_emptied census m.census f g key (Ready now.0 now.1) same now.2 (used_pinned m q pass g (Ready now.0 now.1) used at (inr is) now.2) has

-- ---- how many pins there are

one_more_bit : (b : Bool) (m n : ℕ) → m ≤ n → cond b 1 0 + m ≤ suc n
one_more_bit true m n few = omega (arith, few)
one_more_bit false m n few = omega (arith, few)

few_counted : {X : Type 0} (test : X → Bool) (xs : List X) → count_by test xs ≤ length xs
few_counted test [] = omega arith
few_counted {X} test (x ∷ xs) =
    let bit : X → ℕ = λ (y : X). cond (test y) 1 0 in
    subst (λ n. n ≤ suc (length xs)) (sym (sum_by-cons bit x xs)) (one_more_bit (test x) (count_by test xs) (length xs) (few_counted test xs))

few_in : (state : FrameState ℕ) (a b n : ℕ) → FitsUse state a b → a ≤ n → pins_of state ≤ n
few_in Empty a b n fit few = omega arith
few_in (Loading key) a b n fit few = omega arith
few_in (Ready key m) a b n fit few = omega (arith, fit.0, few)

-- a frame has fewer pins than there are passes, or as many
pub few_pins : (m : Machine) (n : ℕ) → IsUsed m → length m.passes < n → EachFrame (λ state. pins_of state < n) m.census
few_pins m n used few f state at =
    let most = few_in state (pinning f m.passes) (loading f m.passes) (length m.passes) (used.states f state at) (few_counted (λ (pass : Pass). is_pin_of f pass.frame) m.passes) in
    omega (arith, most, few)
