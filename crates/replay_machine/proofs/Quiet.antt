-- A reply that tells of no change leaves all as it was.
use Rattle.std.proofs.Common.{◌≡◌, ℕ, true, Option, Some, None, Result, Ok, Err, refl}
use Rattle.std.proofs.lemmas.Bool.{false≢true}
use Rattle.std.specs.Prelude.{position, nat_eq, slice_get}
use Rattle.implicit_tiling.specs.Region.{Plan}
use Rattle.implicit_tiling.specs.Scene.{Scene}
use Rattle.implicit_tiling.specs.Code.{word}
use Rattle.implicit_tiling.specs.Steps.{Pair, StepEnd, partial, ended}
use Rattle.frame_pool.specs.declared.frame.Asked.{Asked}
use Rattle.frame_pool.specs.declared.frame.Asked.TheVariants.{Hit, Granted, Loading, Busy}
use Rattle.replay_script.specs.declared.event.Event.{Event}
use Rattle.replay_script.specs.declared.event.Event.TheVariants.{Attach, Claim, Pin, Load, Fail, Commit, Drop, Page, Bad}
use Rattle.replay_machine.specs.Machine.{Walk, Held, no_frame, loads, pins, Pass, Machine, is_same_plan, Standing, absent, idle, reads, works, standing}
use Rattle.replay_machine.specs.Asking.{asked}
use Rattle.replay_machine.specs.Said.{is_quiet}
use Rattle.replay_machine.specs.Turns.{turn, attach_at, attach_plan, attach, claim_walk, claim, pin_asked, pin_pair, pin_walk, pin, load_frame, unread, load, commit_frame, commit, drop_work, page_on, next_pair, shown_end}

attach_at_keeps : (p : ℕ) (plan : Plan) (m : Machine) (found : Option ℕ) → is_quiet (attach_at p plan m found).said ≡ true → (attach_at p plan m found).after ≡ m
attach_at_keeps p plan m (Some c) quiet = absurd (false≢true quiet)
attach_at_keeps p plan m None quiet = absurd (false≢true quiet)

attach_plan_keeps : (p : ℕ) (m : Machine) (asked : Result Plan ℕ) → is_quiet (attach_plan p m asked).said ≡ true → (attach_plan p m asked).after ≡ m
attach_plan_keeps p m (Err k) quiet = refl
attach_plan_keeps p m (Ok plan) quiet = attach_at_keeps p plan m (position (λ walk. is_same_plan plan walk.plan) m.cursors) quiet

attach_keeps : (p : ℕ) (asked : Result Plan ℕ) (m : Machine) (st : Standing) → is_quiet (attach p asked m st).said ≡ true → (attach p asked m st).after ≡ m
attach_keeps p asked m absent quiet = refl
attach_keeps p asked m (idle pass) quiet = attach_plan_keeps p m asked quiet
attach_keeps p asked m (reads pass c walk) quiet = attach_plan_keeps p m asked quiet
attach_keeps p asked m (works pass c walk) quiet = refl

claim_walk_keeps : (p : ℕ) (m : Machine) (c : ℕ) (walk : Walk) (end : StepEnd) (holder : Option ℕ) → is_quiet (claim_walk p m c walk end holder).said ≡ true
    → (claim_walk p m c walk end holder).after ≡ m
claim_walk_keeps p m c walk (ended end) holder quiet = refl
claim_walk_keeps p m c walk partial (Some q) quiet = refl
claim_walk_keeps p m c walk partial None quiet = absurd (false≢true quiet)

claim_keeps : (s : Scene) (p : ℕ) (m : Machine) (st : Standing) → is_quiet (claim s p m st).said ≡ true → (claim s p m st).after ≡ m
claim_keeps s p m absent quiet = refl
claim_keeps s p m (idle pass) quiet = refl
claim_keeps s p m (reads pass c walk) quiet = claim_walk_keeps p m c walk (shown_end s walk) walk.holder quiet
claim_keeps s p m (works pass c walk) quiet = refl

pin_asked_keeps : (p key : ℕ) (pass : Pass) (m : Machine) (answer : Asked) → is_quiet (pin_asked p key pass m answer).said ≡ true → (pin_asked p key pass m answer).after ≡ m
pin_asked_keeps p key pass m (Hit f) quiet = absurd (false≢true quiet)
pin_asked_keeps p key pass m (Granted f) quiet = absurd (false≢true quiet)
pin_asked_keeps p key pass m Loading quiet = refl
pin_asked_keeps p key pass m Busy quiet = refl

pin_pair_keeps : (s : Scene) (p : ℕ) (pass : Pass) (m : Machine) (next : Option Pair) → is_quiet (pin_pair s p pass m next).said ≡ true → (pin_pair s p pass m next).after ≡ m
pin_pair_keeps s p pass m None quiet = refl
pin_pair_keeps s p pass m (Some pair) quiet =
    pin_asked_keeps p (word s.layout.scheme pair.root 0) pass m (asked nat_eq (word s.layout.scheme pair.root 0) m.census m.order) quiet

pin_walk_keeps : (s : Scene) (p : ℕ) (pass : Pass) (walk : Walk) (m : Machine) (frame : Held) → is_quiet (pin_walk s p pass walk m frame).said ≡ true
    → (pin_walk s p pass walk m frame).after ≡ m
pin_walk_keeps s p pass walk m no_frame quiet = pin_pair_keeps s p pass m (next_pair s walk) quiet
pin_walk_keeps s p pass walk m (loads f) quiet = refl
pin_walk_keeps s p pass walk m (pins f) quiet = refl

pin_keeps : (s : Scene) (p : ℕ) (m : Machine) (st : Standing) → is_quiet (pin s p m st).said ≡ true → (pin s p m st).after ≡ m
pin_keeps s p m absent quiet = refl
pin_keeps s p m (idle pass) quiet = refl
pin_keeps s p m (reads pass c walk) quiet = refl
pin_keeps s p m (works pass c walk) quiet = pin_walk_keeps s p pass walk m pass.frame quiet

load_frame_keeps : {X : Type 0} (p : ℕ) (read : Option X) (pass : Pass) (m : Machine) (frame : Held) → is_quiet (load_frame p read pass m frame).said ≡ true
    → (load_frame p read pass m frame).after ≡ m
load_frame_keeps p read pass m no_frame quiet = refl
load_frame_keeps p read pass m (pins f) quiet = refl
load_frame_keeps p (Some found) pass m (loads f) quiet = absurd (false≢true quiet)
load_frame_keeps p None pass m (loads f) quiet = absurd (false≢true quiet)

load_keeps : {X : Type 0} (p : ℕ) (read : Option X) (m : Machine) (found : Option Pass) → is_quiet (load p read m found).said ≡ true → (load p read m found).after ≡ m
load_keeps p read m None quiet = refl
load_keeps p read m (Some pass) quiet = load_frame_keeps p read pass m pass.frame quiet

commit_frame_keeps : (s : Scene) (p : ℕ) (pass : Pass) (c : ℕ) (walk : Walk) (m : Machine) (frame : Held) → is_quiet (commit_frame s p pass c walk m frame).said ≡ true
    → (commit_frame s p pass c walk m frame).after ≡ m
commit_frame_keeps s p pass c walk m no_frame quiet = refl
commit_frame_keeps s p pass c walk m (loads f) quiet = refl
commit_frame_keeps s p pass c walk m (pins f) quiet = absurd (false≢true quiet)

commit_keeps : (s : Scene) (p : ℕ) (m : Machine) (st : Standing) → is_quiet (commit s p m st).said ≡ true → (commit s p m st).after ≡ m
commit_keeps s p m absent quiet = refl
commit_keeps s p m (idle pass) quiet = refl
commit_keeps s p m (reads pass c walk) quiet = refl
commit_keeps s p m (works pass c walk) quiet = commit_frame_keeps s p pass c walk m pass.frame quiet

drop_keeps : (p : ℕ) (m : Machine) (st : Standing) → is_quiet (drop_work p m st).said ≡ true → (drop_work p m st).after ≡ m
drop_keeps p m absent quiet = refl
drop_keeps p m (idle pass) quiet = refl
drop_keeps p m (reads pass c walk) quiet = refl
drop_keeps p m (works pass c walk) quiet = absurd (false≢true quiet)

page_keeps : (s : Scene) (p n : ℕ) (m : Machine) (st : Standing) → is_quiet (page_on s p n m st).said ≡ true → (page_on s p n m st).after ≡ m
page_keeps s p n m absent quiet = refl
page_keeps s p n m (idle pass) quiet = refl
page_keeps s p n m (reads pass c walk) quiet = absurd (false≢true quiet)
page_keeps s p n m (works pass c walk) quiet = absurd (false≢true quiet)

pub no_change : {X : Type 0} (s : Scene) (m : Machine) (event : Event (Option X)) → is_quiet (turn s m event).said ≡ true → (turn s m event).after ≡ m
no_change s m (Attach p asked) quiet = attach_keeps p asked m (standing m p) quiet
no_change s m (Claim p) quiet = claim_keeps s p m (standing m p) quiet
no_change s m (Pin p) quiet = pin_keeps s p m (standing m p) quiet
no_change s m (Load p read) quiet = load_keeps p read m (slice_get m.passes p) quiet
no_change {X} s m (Fail p) quiet = load_keeps p (unread X) m (slice_get m.passes p) quiet
no_change s m (Commit p) quiet = commit_keeps s p m (standing m p) quiet
no_change s m (Drop p) quiet = drop_keeps p m (standing m p) quiet
no_change s m (Page p n) quiet = page_keeps s p n m (standing m p) quiet
no_change s m Bad quiet = refl
