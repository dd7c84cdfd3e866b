-- A turn keeps the use of frames.
use Rattle.std.proofs.Common.{◌≡◌, ◌≢◌, ◌∙◌, ℕ, zero, suc, ◌+◌, ◌<◌, ◌⊎◌, inl, inr, false, List, [], ◌∷◌, ◌++◌, length, position, replicate, get_or, set, Option, Some, None, Result, Ok, Err, refl, sym, ap, subst, ⊎_elim, arith}
use Rattle.std.specs.Prelude.{nat_eq, slice_get}
use Rattle.std.proofs.lemmas.Bool.{true≢false}
use Rattle.std.proofs.lemmas.List.{length-set}
use Rattle.std.proofs.lemmas.Option.{none-some, same_Some, slice_get-get_or, slice_get_within}
use Rattle.implicit_tiling.specs.Region.{Plan}
use Rattle.implicit_tiling.specs.Scene.{Scene}
use Rattle.implicit_tiling.specs.Code.{word}
use Rattle.implicit_tiling.specs.Steps.{Pair, StepEnd, partial, ended}
use Rattle.frame_pool.specs.declared.frame.FrameState.{FrameState}
use Rattle.frame_pool.specs.declared.frame.FrameState.TheVariants.{Empty, Loading, Ready}
use Rattle.frame_pool.specs.declared.frame.Asked.{Asked}
use Rattle.frame_pool.specs.declared.frame.Asked.TheVariants.{Hit, Granted, Loading as Waiting, Busy}
use Rattle.frame_pool.specs.States.{has_key, is_pinned}
use Rattle.frame_pool.specs.Frames.{victim}
use Rattle.frame_pool.specs.Moves.{changed, asked_last, pinned, unpinned, settled}
use Rattle.frame_pool.proofs.Pools.{changed-at}
use Rattle.frame_pool.proofs.Victims.{victim-unpinned}
use Rattle.replay_script.specs.declared.event.Event.{Event}
use Rattle.replay_script.specs.declared.event.Event.TheVariants.{Attach, Claim, Pin, Load, Fail, Commit, Drop, Page, Bad}
use Rattle.replay_machine.specs.Machine.{Walk, Held, no_frame, loads, pins, Pass, Machine, opening, is_same_plan, Standing, absent, idle, reads, works, standing}
use Rattle.replay_machine.specs.Asking.{asked_of, granted_of, asked_by, asked}
use Rattle.replay_machine.specs.Turns.{turn, with_pass, attached, attach_at, attach_plan, attach, claim_walk, claim, pin_asked, pin_pair, pin_walk, pin, load_frame, unread, load, commit_frame, commit, given_up, drop_work, paged, page_on, page_tiles, next_pair, shown_end}
use Rattle.replay_machine.specs.Used.{pinning, loading, FitsUse, StatesFit, IsInside, IsHolder, IsUsed}
use Rattle.replay_machine.proofs.Stands.{AtWork, Stands, stands}
use Rattle.replay_machine.proofs.Counts.{own_pin, own_load, no_pin, no_load, load_no_pin, pin_no_load, Touches, Becomes, states_after, states_stay, used_after, others_hold, holders_stay}

-- ---- what becomes of a frame

hit_becomes : (f own n : ℕ) → Becomes f no_frame (pins f) (Ready own n) (Ready own (n + 1))
hit_becomes f own n = λ a k more most pin load fits. (omega (arith, pin, fits.0, own_pin f, no_pin f), omega (arith, load, fits.1, no_load f, pin_no_load f))

granted_becomes : (f key : ℕ) (state : FrameState ℕ) → is_pinned state ≡ false → Becomes f no_frame (loads f) state (Loading key)
granted_becomes f key Empty free = λ a k more most pin load fits. (omega (arith, pin, fits.0, no_pin f, load_no_pin f), omega (arith, load, fits.1, no_load f, own_load f))
granted_becomes f key (Loading own) free = absurd (true≢false free)
granted_becomes f key (Ready own zero) free = λ a k more most pin load fits. (omega (arith, pin, fits.0, no_pin f, load_no_pin f), omega (arith, load, fits.1, no_load f, own_load f))
granted_becomes f key (Ready own (suc n)) free = absurd (true≢false free)

loaded_becomes : {X : Type 0} (f : ℕ) (found : X) (state : FrameState ℕ) → Becomes f (loads f) (pins f) state (settled (Some found) state)
loaded_becomes f found Empty = λ a k more most pin load fits. absurd (omega (arith, load, fits.1, own_load f, pin_no_load f))
loaded_becomes f found (Loading key) = λ a k more most pin load fits. (omega (arith, pin, fits.0, load_no_pin f, own_pin f), omega (arith, load, fits.1, own_load f, pin_no_load f))
loaded_becomes f found (Ready key n) = λ a k more most pin load fits. absurd (omega (arith, load, fits.1, own_load f, pin_no_load f))

failed_becomes : (f : ℕ) (state : FrameState ℕ) → Becomes f (loads f) no_frame state Empty
failed_becomes f Empty = λ a k more most pin load fits. absurd (omega (arith, load, fits.1, own_load f, no_load f))
failed_becomes f (Loading key) = λ a k more most pin load fits. (omega (arith, pin, fits.0, load_no_pin f, no_pin f), omega (arith, load, fits.1, own_load f, no_load f))
failed_becomes f (Ready key n) = λ a k more most pin load fits. absurd (omega (arith, load, fits.1, own_load f, no_load f))

freed_becomes : (f : ℕ) (state : FrameState ℕ) → Becomes f (pins f) no_frame state (unpinned state)
freed_becomes f Empty = λ a k more most pin load fits. absurd (omega (arith, pin, fits.0, own_pin f, no_pin f))
freed_becomes f (Loading key) = λ a k more most pin load fits. absurd (omega (arith, pin, fits.0, own_pin f, no_pin f))
freed_becomes f (Ready key n) = λ a k more most pin load fits. (omega (arith, pin, fits.0, own_pin f, no_pin f), omega (arith, load, fits.1, pin_no_load f, no_load f))

-- the states after frame f has changed for a pass
changed_fit : (m : Machine) (p f : ℕ) (pass after : Pass) (state : FrameState ℕ) (change : FrameState ℕ → FrameState ℕ) → IsUsed m → slice_get m.passes p ≡ Some pass → slice_get m.census f ≡ Some state
    → Touches f pass.frame → Touches f after.frame → Becomes f pass.frame after.frame state (change state) → StatesFit (changed f change m.census) (set m.passes p after)
changed_fit m p f pass after state change used there here touch touched becomes =
    subst (λ xs. StatesFit xs (set m.passes p after)) (sym (changed-at m.census f state change here))
    (states_after m.census m.passes p f pass after state (change state) used.states there here touch touched becomes)

long : (f : ℕ) (change : FrameState ℕ → FrameState ℕ) (census : List (FrameState ℕ)) → length (changed f change census) ≡ length census
long f change census = length-set census f _

-- a pass that loads or pins holds its work, and still does with another frame
no_clash_loads : (f : ℕ) → no_frame ≡ loads f → ⊥
no_clash_loads f e = cc

same_holder : (cursors : List Walk) (p : ℕ) (pass : Pass) (frame : Held) → IsHolder cursors p pass → IsHolder cursors p (record pass { frame = frame })
same_holder cursors p pass frame h = record { number = h.number; walk = h.walk; cursor = h.cursor; at = h.at; held = h.held }

holder_of : (m : Machine) (p : ℕ) (pass : Pass) (f : ℕ) → pass.frame ≡ loads f → (pass.frame ≡ no_frame) ⊎ IsHolder m.cursors p pass → IsHolder m.cursors p pass
holder_of m p pass f is (inl none) = absurd (no_clash_loads f (sym none ∙ is))
holder_of m p pass f is (inr h) = h

at_work : (m : Machine) (p : ℕ) (pass : Pass) (c : ℕ) (walk : Walk) (frame : Held) → AtWork m p pass c walk → IsHolder m.cursors p (record pass { frame = frame })
at_work m p pass c walk frame st = record { number = c; walk = walk; cursor = st.cursor; at = st.at; held = st.held }

pub frameless : (m : Machine) (p : ℕ) (pass : Pass) → IsUsed m → slice_get m.passes p ≡ Some pass → (IsHolder m.cursors p pass → ⊥) → pass.frame ≡ no_frame
frameless m p pass used there free = ⊎_elim (λ (none : pass.frame ≡ no_frame). none) (λ (h : IsHolder m.cursors p pass). absurd (free h)) (used.working p pass there)

others_keep : (m : Machine) (p : ℕ) (pass : Pass) (c : ℕ) (walk now : Walk) → AtWork m p pass c walk → (q : ℕ) (other : Pass) → q ≢ p → IsHolder m.cursors q other → IsHolder (set m.cursors c now) q other
others_keep m p pass c walk now st q other apart h = others_hold m.cursors c walk now q other st.at (λ e. apart (same_Some q p (sym e ∙ st.held))) h

-- ---- attach

pub attached_used : (m : Machine) (cursors : List Walk) (p c : ℕ) (pass : Pass) → IsUsed m → slice_get m.passes p ≡ Some pass → pass.frame ≡ no_frame
    → ((q : ℕ) (other : Pass) → q ≢ p → IsHolder m.cursors q other → IsHolder cursors q other) → IsUsed (attached p c (record m { cursors = cursors })).after
attached_used m cursors p c pass used there none others =
    let after : Pass = record { cursor = Some c; place = 0; frame = no_frame } in
    used_after m m.census m.order cursors p after used refl (states_stay m.census m.passes p pass after used.states there none) tt (inl refl) others

attach_at_used : (p : ℕ) (plan : Plan) (m : Machine) (found : Option ℕ) (pass : Pass) → IsUsed m → slice_get m.passes p ≡ Some pass → pass.frame ≡ no_frame → IsUsed (attach_at p plan m found).after
attach_at_used p plan m (Some c) pass used there none = attached_used m m.cursors p c pass used there none (λ q other apart h. h)
attach_at_used p plan m None pass used there none =
    let fresh : Walk = record { plan = plan; made = 0; holder = None } in
    attached_used m (m.cursors ++ fresh ∷ []) p (length m.cursors) pass used there none (λ q other apart h. holders_stay m.cursors (fresh ∷ []) q other h)

attach_plan_used : (p : ℕ) (m : Machine) (wish : Result Plan ℕ) (pass : Pass) → IsUsed m → slice_get m.passes p ≡ Some pass → pass.frame ≡ no_frame → IsUsed (attach_plan p m wish).after
attach_plan_used p m (Err k) pass used there none = used
attach_plan_used p m (Ok plan) pass used there none = attach_at_used p plan m (position (λ walk. is_same_plan plan walk.plan) m.cursors) pass used there none

attach_used : (p : ℕ) (wish : Result Plan ℕ) (m : Machine) (st : Standing) → Stands m p st → IsUsed m → IsUsed (attach p wish m st).after
attach_used p wish m absent is used = used
attach_used p wish m (idle pass) is used = attach_plan_used p m wish pass used is.0 (frameless m p pass used is.0 is.1)
attach_used p wish m (reads pass c walk) is used = attach_plan_used p m wish pass used is.there (frameless m p pass used is.there is.free)
attach_used p wish m (works pass c walk) is used = used

-- ---- claim

pub claim_walk_used : (p : ℕ) (m : Machine) (c : ℕ) (walk : Walk) (end : StepEnd) (holder : Option ℕ) → walk.holder ≡ holder → slice_get m.cursors c ≡ Some walk → IsUsed m
    → IsUsed (claim_walk p m c walk end holder).after
claim_walk_used p m c walk (ended end) holder is at used = used
claim_walk_used p m c walk partial (Some q) is at used = used
claim_walk_used p m c walk partial None is at used = record {
  states = used.states;
  inside = used.inside;
  working = λ q pass there. ⊎_elim
      (λ (none : pass.frame ≡ no_frame). let left : (pass.frame ≡ no_frame) ⊎ IsHolder (set m.cursors c (record walk { holder = Some p })) q pass = inl none in left)
      (λ (h : IsHolder m.cursors q pass). let right : (pass.frame ≡ no_frame) ⊎ IsHolder (set m.cursors c (record walk { holder = Some p })) q pass =
      inr (others_hold m.cursors c walk (record walk { holder = Some p }) q pass at (λ e. none-some q (sym is ∙ e)) h) in right)
      (used.working q pass there);
}

claim_used : (s : Scene) (p : ℕ) (m : Machine) (st : Standing) → Stands m p st → IsUsed m → IsUsed (claim s p m st).after
claim_used s p m absent is used = used
claim_used s p m (idle pass) is used = used
claim_used s p m (reads pass c walk) is used = claim_walk_used p m c walk (shown_end s walk) walk.holder refl is.at used
claim_used s p m (works pass c walk) is used = used

-- ---- pin

abbrev pub AskFits : List (FrameState ℕ) → Asked → Type 0
AskFits census (Hit f) = (own : ℕ) × (n : ℕ) × (slice_get census f ≡ Some (Ready own n))
AskFits census (Granted f) = (state : FrameState ℕ) × (slice_get census f ≡ Some state) × (is_pinned state ≡ false)
AskFits census Waiting = Unit {0}
AskFits census Busy = Unit {0}

asked_of_fits : (census : List (FrameState ℕ)) (f : ℕ) (found : Option (FrameState ℕ)) → slice_get census f ≡ found → AskFits census (asked_of f found)
asked_of_fits census f None is = tt
asked_of_fits census f (Some Empty) is = tt
asked_of_fits census f (Some (Loading own)) is = tt
asked_of_fits census f (Some (Ready own n)) is = (own, n, is)

granted_of_fits : (census : List (FrameState ℕ)) (order : List ℕ) (found : Option ℕ) → victim census order ≡ found → AskFits census (granted_of found)
granted_of_fits census order None is = tt
granted_of_fits census order (Some f) is = victim-unpinned census order f is

asked_by_fits : (census : List (FrameState ℕ)) (order : List ℕ) (found : Option ℕ) → AskFits census (asked_by census order found)
asked_by_fits census order (Some f) = asked_of_fits census f (slice_get census f) refl
asked_by_fits census order None = granted_of_fits census order (victim census order) refl

pub pin_asked_used : (p key : ℕ) (pass : Pass) (c : ℕ) (walk : Walk) (m : Machine) (answer : Asked) → AtWork m p pass c walk → pass.frame ≡ no_frame → AskFits m.census answer → IsUsed m
    → IsUsed (pin_asked p key pass m answer).after
pin_asked_used p key pass c walk m (Hit f) st none fits used =
    let after : Pass = record pass { frame = pins f } in
    let inside : f < length m.census = slice_get_within m.census f (Ready fits.0 fits.1) fits.2 in
    used_after m (changed f pinned m.census) (asked_last f m.order) m.cursors p after used (long f pinned m.census)
    (changed_fit m p f pass after (Ready fits.0 fits.1) pinned used st.there fits.2 (subst (Touches f) (sym none) tt) refl (subst (λ h. Becomes f h (pins f) (Ready fits.0 fits.1) (Ready fits.0 (fits.1 + 1))) (sym none) (hit_becomes f fits.0 fits.1)))
    inside (inr (at_work m p pass c walk (pins f) st)) (λ q other apart h. h)
pin_asked_used p key pass c walk m (Granted f) st none fits used =
    let after : Pass = record pass { frame = loads f } in
    let inside : f < length m.census = slice_get_within m.census f fits.0 fits.1 in
    used_after m (changed f (λ _. Loading key) m.census) (asked_last f m.order) m.cursors p after used (long f (λ _. Loading key) m.census)
    (changed_fit m p f pass after fits.0 (λ _. Loading key) used st.there fits.1 (subst (Touches f) (sym none) tt) refl (subst (λ h. Becomes f h (loads f) fits.0 (Loading key)) (sym none) (granted_becomes f key fits.0 fits.2)))
    inside (inr (at_work m p pass c walk (loads f) st)) (λ q other apart h. h)
pin_asked_used p key pass c walk m Waiting st none fits used = used
pin_asked_used p key pass c walk m Busy st none fits used = used

pin_pair_used : (s : Scene) (p : ℕ) (pass : Pass) (c : ℕ) (walk : Walk) (m : Machine) (next : Option Pair) → AtWork m p pass c walk → pass.frame ≡ no_frame → IsUsed m → IsUsed (pin_pair s p pass m next).after
pin_pair_used s p pass c walk m None st none used = used
pin_pair_used s p pass c walk m (Some pair) st none used =
    let key = word s.layout.scheme pair.root 0 in
    pin_asked_used p key pass c walk m (asked nat_eq key m.census m.order) st none (asked_by_fits m.census m.order (position (has_key nat_eq key) m.census)) used

pin_walk_used : (s : Scene) (p : ℕ) (pass : Pass) (c : ℕ) (walk : Walk) (m : Machine) (frame : Held) → AtWork m p pass c walk → pass.frame ≡ frame → IsUsed m → IsUsed (pin_walk s p pass walk m frame).after
pin_walk_used s p pass c walk m no_frame st is used = pin_pair_used s p pass c walk m (next_pair s walk) st is used
pin_walk_used s p pass c walk m (loads f) st is used = used
pin_walk_used s p pass c walk m (pins f) st is used = used

pin_used : (s : Scene) (p : ℕ) (m : Machine) (st : Standing) → Stands m p st → IsUsed m → IsUsed (pin s p m st).after
pin_used s p m absent is used = used
pin_used s p m (idle pass) is used = used
pin_used s p m (reads pass c walk) is used = used
pin_used s p m (works pass c walk) is used = pin_walk_used s p pass c walk m pass.frame is refl used

-- ---- load and fail

pub load_frame_used : {X : Type 0} (p : ℕ) (read : Option X) (pass : Pass) (m : Machine) (frame : Held) → pass.frame ≡ frame → slice_get m.passes p ≡ Some pass → IsUsed m → IsUsed (load_frame p read pass m frame).after
load_frame_used p read pass m no_frame is there used = used
load_frame_used p read pass m (pins f) is there used = used
load_frame_used p (Some found) pass m (loads f) is there used =
    let after : Pass = record pass { frame = pins f } in
    let inside : f < length m.census = subst (IsInside (length m.census)) is (used.inside p pass there) in
    let state = get_or m.census f Empty in
    used_after m (changed f (settled (Some found)) m.census) m.order m.cursors p after used (long f (settled (Some found)) m.census)
    (changed_fit m p f pass after state (settled (Some found)) used there (slice_get-get_or m.census f Empty inside) (subst (Touches f) (sym is) refl) refl (subst (λ h. Becomes f h (pins f) state (settled (Some found) state)) (sym is) (loaded_becomes f found state)))
    inside (inr (same_holder m.cursors p pass (pins f) (holder_of m p pass f is (used.working p pass there)))) (λ q other apart h. h)
load_frame_used {X} p None pass m (loads f) is there used =
    let after : Pass = record pass { frame = no_frame } in
    let inside : f < length m.census = subst (IsInside (length m.census)) is (used.inside p pass there) in
    let state = get_or m.census f Empty in
    used_after m (changed f (settled (unread X)) m.census) m.order m.cursors p after used (long f (settled (unread X)) m.census)
    (changed_fit m p f pass after state (settled (unread X)) used there (slice_get-get_or m.census f Empty inside) (subst (Touches f) (sym is) refl) tt (subst (λ h. Becomes f h no_frame state (settled (unread X) state)) (sym is) (failed_becomes f state)))
    tt (inl refl) (λ q other apart h. h)

load_used : {X : Type 0} (p : ℕ) (read : Option X) (m : Machine) (found : Option Pass) → slice_get m.passes p ≡ found → IsUsed m → IsUsed (load p read m found).after
load_used p read m None is used = used
load_used p read m (Some pass) is used = load_frame_used p read pass m pass.frame refl is used

-- ---- commit and drop

pub given_back_used : (m : Machine) (p f : ℕ) (pass : Pass) (c : ℕ) (walk now : Walk) → AtWork m p pass c walk → pass.frame ≡ pins f → IsUsed m
    → IsUsed (record { census = changed f unpinned m.census; order = m.order; cursors = set m.cursors c now; passes = set m.passes p (record pass { frame = no_frame }) })
given_back_used m p f pass c walk now st is used =
    let after : Pass = record pass { frame = no_frame } in
    let inside : f < length m.census = subst (IsInside (length m.census)) is (used.inside p pass st.there) in
    let state = get_or m.census f Empty in
    used_after m (changed f unpinned m.census) m.order (set m.cursors c now) p after used (long f unpinned m.census)
    (changed_fit m p f pass after state unpinned used st.there (slice_get-get_or m.census f Empty inside) (subst (Touches f) (sym is) refl) tt (subst (λ h. Becomes f h no_frame state (unpinned state)) (sym is) (freed_becomes f state)))
    tt (inl refl) (others_keep m p pass c walk now st)

commit_frame_used : (s : Scene) (p : ℕ) (pass : Pass) (c : ℕ) (walk : Walk) (m : Machine) (frame : Held) → AtWork m p pass c walk → pass.frame ≡ frame → IsUsed m → IsUsed (commit_frame s p pass c walk m frame).after
commit_frame_used s p pass c walk m no_frame st is used = used
commit_frame_used s p pass c walk m (loads f) st is used = used
commit_frame_used s p pass c walk m (pins f) st is used = given_back_used m p f pass c walk (record walk { made = walk.made + 1; holder = None }) st is used

commit_used : (s : Scene) (p : ℕ) (m : Machine) (st : Standing) → Stands m p st → IsUsed m → IsUsed (commit s p m st).after
commit_used s p m absent is used = used
commit_used s p m (idle pass) is used = used
commit_used s p m (reads pass c walk) is used = used
commit_used s p m (works pass c walk) is used = commit_frame_used s p pass c walk m pass.frame is refl used

pub given_up_used : (m : Machine) (p : ℕ) (pass : Pass) (c : ℕ) (walk now : Walk) (frame : Held) → AtWork m p pass c walk → pass.frame ≡ frame → IsUsed m
    → IsUsed (record { census = given_up frame m.census; order = m.order; cursors = set m.cursors c now; passes = set m.passes p (record pass { frame = no_frame }) })
given_up_used m p pass c walk now no_frame st is used =
    let after : Pass = record pass { frame = no_frame } in
    used_after m m.census m.order (set m.cursors c now) p after used refl (states_stay m.census m.passes p pass after used.states st.there is) tt (inl refl) (others_keep m p pass c walk now st)
given_up_used m p pass c walk now (loads f) st is used =
    let after : Pass = record pass { frame = no_frame } in
    let inside : f < length m.census = subst (IsInside (length m.census)) is (used.inside p pass st.there) in
    let state = get_or m.census f Empty in
    used_after m (changed f (settled (unread ℕ)) m.census) m.order (set m.cursors c now) p after used (long f (settled (unread ℕ)) m.census)
    (changed_fit m p f pass after state (settled (unread ℕ)) used st.there (slice_get-get_or m.census f Empty inside) (subst (Touches f) (sym is) refl) tt (subst (λ h. Becomes f h no_frame state (settled (unread ℕ) state)) (sym is) (failed_becomes f state)))
    tt (inl refl) (others_keep m p pass c walk now st)
given_up_used m p pass c walk now (pins f) st is used = given_back_used m p f pass c walk now st is used

drop_used : (p : ℕ) (m : Machine) (st : Standing) → Stands m p st → IsUsed m → IsUsed (drop_work p m st).after
drop_used p m absent is used = used
drop_used p m (idle pass) is used = used
drop_used p m (reads pass c walk) is used = used
drop_used p m (works pass c walk) is used = given_up_used m p pass c walk (record walk { holder = None }) pass.frame is refl used

-- ---- page

still_works : (m : Machine) (p : ℕ) (pass : Pass) (place : ℕ) → (pass.frame ≡ no_frame) ⊎ IsHolder m.cursors p pass → (pass.frame ≡ no_frame) ⊎ IsHolder m.cursors p (record pass { place = place })
still_works m p pass place (inl none) = inl none
still_works m p pass place (inr h) = inr (record { number = h.number; walk = h.walk; cursor = h.cursor; at = h.at; held = h.held })

pub placed_used : (p : ℕ) (pass : Pass) (place : ℕ) (m : Machine) → slice_get m.passes p ≡ Some pass → IsUsed m → IsUsed (with_pass p (record pass { place = place }) m)
placed_used p pass place m there used =
    let after : Pass = record pass { place = place } in
    used_after m m.census m.order m.cursors p after used refl (states_stay m.census m.passes p pass after used.states there refl) (used.inside p pass there)
    (still_works m p pass place (used.working p pass there)) (λ q other apart h. h)

paged_used : (s : Scene) (p n : ℕ) (pass : Pass) (walk : Walk) (m : Machine) → slice_get m.passes p ≡ Some pass → IsUsed m → IsUsed (paged s p n pass walk m).after
paged_used s p n pass walk m there used = placed_used p pass (pass.place + length (page_tiles s walk pass.place n)) m there used

page_used : (s : Scene) (p n : ℕ) (m : Machine) (st : Standing) → Stands m p st → IsUsed m → IsUsed (page_on s p n m st).after
page_used s p n m absent is used = used
page_used s p n m (idle pass) is used = used
page_used s p n m (reads pass c walk) is used = paged_used s p n pass walk m is.there used
page_used s p n m (works pass c walk) is used = paged_used s p n pass walk m is.there used

-- ---- all of them

pub turns_keep_use : {X : Type 0} (s : Scene) (m : Machine) (event : Event (Option X)) → IsUsed m → IsUsed (turn s m event).after
turns_keep_use s m (Attach p wish) used = attach_used p wish m (standing m p) (stands m p) used
turns_keep_use s m (Claim p) used = claim_used s p m (standing m p) (stands m p) used
turns_keep_use s m (Pin p) used = pin_used s p m (standing m p) (stands m p) used
turns_keep_use s m (Load p read) used = load_used p read m (slice_get m.passes p) refl used
turns_keep_use {X} s m (Fail p) used = load_used p (unread X) m (slice_get m.passes p) refl used
turns_keep_use s m (Commit p) used = commit_used s p m (standing m p) (stands m p) used
turns_keep_use s m (Drop p) used = drop_used p m (standing m p) (stands m p) used
turns_keep_use s m (Page p n) used = page_used s p n m (standing m p) (stands m p) used
turns_keep_use s m Bad used = used

-- ---- the state that a replay begins with

all_alike : {X : Type 0} (n f : ℕ) (x y : X) → slice_get (replicate n x) f ≡ Some y → x ≡ y
all_alike zero f x y at = absurd (none-some y at)
all_alike (suc n) zero x y at = same_Some x y at
all_alike (suc n) (suc f) x y at = all_alike n f x y at

fresh_pass : Pass
fresh_pass = record { cursor = None; place = 0; frame = no_frame }

none_pins : (f n : ℕ) → pinning f (replicate n fresh_pass) ≡ 0
unfolding fresh_pass
none_pins f zero = refl
none_pins f (suc n) = none_pins f n

none_loads : (f n : ℕ) → loading f (replicate n fresh_pass) ≡ 0
unfolding fresh_pass
none_loads f zero = refl
none_loads f (suc n) = none_loads f n

pub opening_is_used : (frames passes : ℕ) → IsUsed (opening frames passes)
unfolding fresh_pass
opening_is_used frames passes = record {
  states = λ f state at. subst (λ (x : FrameState ℕ). FitsUse x (pinning f (replicate passes fresh_pass)) (loading f (replicate passes fresh_pass))) (all_alike frames f Empty state at)
      (none_pins f passes, none_loads f passes);
  inside = λ p pass at. subst (λ (x : Pass). IsInside (length (replicate {A = FrameState ℕ} frames Empty)) x.frame) (all_alike passes p fresh_pass pass at) tt;
  working = λ p pass at. inl (ap (λ (x : Pass). x.frame) (sym (all_alike passes p fresh_pass pass at)));
}
