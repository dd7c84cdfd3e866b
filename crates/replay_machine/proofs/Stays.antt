-- Frames and passes stay as many as they were.
use Rattle.std.proofs.Common.{◌≡◌, ℕ, ◌+◌, List, length, position, Option, Some, None, Result, Ok, Err, refl}
use Rattle.std.specs.Prelude.{nat_eq, slice_get, slice_index_or}
use Rattle.std.proofs.lemmas.List.{length-set}
use Rattle.implicit_tiling.specs.Region.{Plan}
use Rattle.implicit_tiling.specs.Scene.{Scene}
use Rattle.implicit_tiling.specs.Code.{word}
use Rattle.implicit_tiling.specs.Steps.{Pair, StepEnd, partial, ended}
use Rattle.frame_pool.specs.declared.frame.FrameState.{FrameState}
use Rattle.frame_pool.specs.declared.frame.FrameState.TheVariants.{Empty, Loading as is_loading}
use Rattle.frame_pool.specs.declared.frame.Asked.{Asked}
use Rattle.frame_pool.specs.declared.frame.Asked.TheVariants.{Hit, Granted, Loading, Busy}
use Rattle.frame_pool.specs.Moves.{changed, pinned, unpinned, settled}
use Rattle.replay_script.specs.declared.event.Event.{Event}
use Rattle.replay_script.specs.declared.event.Event.TheVariants.{Attach, Claim, Pin, Load, Fail, Commit, Drop, Page, Bad}
use Rattle.replay_machine.specs.Machine.{Walk, Held, no_frame, loads, pins, Pass, Machine, is_same_plan, Standing, absent, idle, reads, works, standing}
use Rattle.replay_machine.specs.Asking.{asked}
use Rattle.replay_machine.specs.Laws.{KeepsCounts}
use Rattle.replay_machine.specs.Turns.{turn, with_pass, with_census, paged, page_tiles, attach_at, attach_plan, attach, claim_walk, claim, pin_asked, pin_pair, pin_walk, pin, load_frame, unread, load, commit_frame, commit, given_up, drop_work, page_on, next_pair, shown_end}

as_long : (f : ℕ) (change : FrameState ℕ → FrameState ℕ) (census : List (FrameState ℕ)) → length (changed f change census) ≡ length census
as_long f change census = length-set census f (change (slice_index_or census f Empty))

all_stay : (m : Machine) → KeepsCounts m m
all_stay m = (refl, refl)

framed_stay : (p : ℕ) (pass : Pass) (m : Machine) (f : ℕ) (change : FrameState ℕ → FrameState ℕ) → KeepsCounts m (with_pass p pass (with_census (changed f change m.census) m))
framed_stay p pass m f change = (as_long f change m.census, length-set m.passes p pass)

attach_at_stay : (p : ℕ) (plan : Plan) (m : Machine) (found : Option ℕ) → KeepsCounts m (attach_at p plan m found).after
attach_at_stay p plan m (Some c) = (refl, length-set m.passes p (record { cursor = Some c; place = 0; frame = no_frame }))
attach_at_stay p plan m None = (refl, length-set m.passes p (record { cursor = Some (length m.cursors); place = 0; frame = no_frame }))

attach_plan_stay : (p : ℕ) (m : Machine) (asked : Result Plan ℕ) → KeepsCounts m (attach_plan p m asked).after
attach_plan_stay p m (Err k) = all_stay m
attach_plan_stay p m (Ok plan) = attach_at_stay p plan m (position (λ walk. is_same_plan plan walk.plan) m.cursors)

attach_stay : (p : ℕ) (asked : Result Plan ℕ) (m : Machine) (st : Standing) → KeepsCounts m (attach p asked m st).after
attach_stay p asked m absent = all_stay m
attach_stay p asked m (idle pass) = attach_plan_stay p m asked
attach_stay p asked m (reads pass c walk) = attach_plan_stay p m asked
attach_stay p asked m (works pass c walk) = all_stay m

claim_walk_stay : (p : ℕ) (m : Machine) (c : ℕ) (walk : Walk) (end : StepEnd) (holder : Option ℕ) → KeepsCounts m (claim_walk p m c walk end holder).after
claim_walk_stay p m c walk (ended end) holder = all_stay m
claim_walk_stay p m c walk partial (Some q) = all_stay m
claim_walk_stay p m c walk partial None = (refl, refl)

claim_stay : (s : Scene) (p : ℕ) (m : Machine) (st : Standing) → KeepsCounts m (claim s p m st).after
claim_stay s p m absent = all_stay m
claim_stay s p m (idle pass) = all_stay m
claim_stay s p m (reads pass c walk) = claim_walk_stay p m c walk (shown_end s walk) walk.holder
claim_stay s p m (works pass c walk) = all_stay m

pin_asked_stay : (p key : ℕ) (pass : Pass) (m : Machine) (answer : Asked) → KeepsCounts m (pin_asked p key pass m answer).after
pin_asked_stay p key pass m (Hit f) = framed_stay p (record pass { frame = pins f }) m f pinned
pin_asked_stay p key pass m (Granted f) = framed_stay p (record pass { frame = loads f }) m f (λ _. is_loading key)
pin_asked_stay p key pass m Loading = all_stay m
pin_asked_stay p key pass m Busy = all_stay m

pin_pair_stay : (s : Scene) (p : ℕ) (pass : Pass) (m : Machine) (next : Option Pair) → KeepsCounts m (pin_pair s p pass m next).after
pin_pair_stay s p pass m None = all_stay m
pin_pair_stay s p pass m (Some pair) = pin_asked_stay p (word s.layout.scheme pair.root 0) pass m (asked nat_eq (word s.layout.scheme pair.root 0) m.census m.order)

pin_walk_stay : (s : Scene) (p : ℕ) (pass : Pass) (walk : Walk) (m : Machine) (frame : Held) → KeepsCounts m (pin_walk s p pass walk m frame).after
pin_walk_stay s p pass walk m no_frame = pin_pair_stay s p pass m (next_pair s walk)
pin_walk_stay s p pass walk m (loads f) = all_stay m
pin_walk_stay s p pass walk m (pins f) = all_stay m

pin_stay : (s : Scene) (p : ℕ) (m : Machine) (st : Standing) → KeepsCounts m (pin s p m st).after
pin_stay s p m absent = all_stay m
pin_stay s p m (idle pass) = all_stay m
pin_stay s p m (reads pass c walk) = all_stay m
pin_stay s p m (works pass c walk) = pin_walk_stay s p pass walk m pass.frame

load_frame_stay : {X : Type 0} (p : ℕ) (read : Option X) (pass : Pass) (m : Machine) (frame : Held) → KeepsCounts m (load_frame p read pass m frame).after
load_frame_stay p read pass m no_frame = all_stay m
load_frame_stay p read pass m (pins f) = all_stay m
load_frame_stay p (Some found) pass m (loads f) = framed_stay p (record pass { frame = pins f }) m f (settled (Some found))
load_frame_stay {X} p None pass m (loads f) = framed_stay p (record pass { frame = no_frame }) m f (settled (unread X))

load_stay : {X : Type 0} (p : ℕ) (read : Option X) (m : Machine) (found : Option Pass) → KeepsCounts m (load p read m found).after
load_stay p read m None = all_stay m
load_stay p read m (Some pass) = load_frame_stay p read pass m pass.frame

commit_frame_stay : (s : Scene) (p : ℕ) (pass : Pass) (c : ℕ) (walk : Walk) (m : Machine) (frame : Held) → KeepsCounts m (commit_frame s p pass c walk m frame).after
commit_frame_stay s p pass c walk m no_frame = all_stay m
commit_frame_stay s p pass c walk m (loads f) = all_stay m
commit_frame_stay s p pass c walk m (pins f) = framed_stay p (record pass { frame = no_frame }) m f unpinned

commit_stay : (s : Scene) (p : ℕ) (m : Machine) (st : Standing) → KeepsCounts m (commit s p m st).after
commit_stay s p m absent = all_stay m
commit_stay s p m (idle pass) = all_stay m
commit_stay s p m (reads pass c walk) = all_stay m
commit_stay s p m (works pass c walk) = commit_frame_stay s p pass c walk m pass.frame

given_up_stay : (frame : Held) (census : List (FrameState ℕ)) → length (given_up frame census) ≡ length census
given_up_stay no_frame census = refl
given_up_stay (loads f) census = as_long f (settled (unread ℕ)) census
given_up_stay (pins f) census = as_long f unpinned census

drop_stay : (p : ℕ) (m : Machine) (st : Standing) → KeepsCounts m (drop_work p m st).after
drop_stay p m absent = all_stay m
drop_stay p m (idle pass) = all_stay m
drop_stay p m (reads pass c walk) = all_stay m
drop_stay p m (works pass c walk) = (given_up_stay pass.frame m.census, length-set m.passes p (record pass { frame = no_frame }))

paged_stay : (s : Scene) (p n : ℕ) (pass : Pass) (walk : Walk) (m : Machine) → KeepsCounts m (paged s p n pass walk m).after
paged_stay s p n pass walk m = (refl, length-set m.passes p (record pass { place = pass.place + length (page_tiles s walk pass.place n) }))

page_stay : (s : Scene) (p n : ℕ) (m : Machine) (st : Standing) → KeepsCounts m (page_on s p n m st).after
page_stay s p n m absent = all_stay m
page_stay s p n m (idle pass) = all_stay m
page_stay s p n m (reads pass c walk) = paged_stay s p n pass walk m
page_stay s p n m (works pass c walk) = paged_stay s p n pass walk m

pub frames_and_passes_stay : {X : Type 0} (s : Scene) (m : Machine) (event : Event (Option X)) → KeepsCounts m (turn s m event).after
frames_and_passes_stay s m (Attach p asked) = attach_stay p asked m (standing m p)
frames_and_passes_stay s m (Claim p) = claim_stay s p m (standing m p)
frames_and_passes_stay s m (Pin p) = pin_stay s p m (standing m p)
frames_and_passes_stay s m (Load p read) = load_stay p read m (slice_get m.passes p)
frames_and_passes_stay {X} s m (Fail p) = load_stay p (unread X) m (slice_get m.passes p)
frames_and_passes_stay s m (Commit p) = commit_stay s p m (standing m p)
frames_and_passes_stay s m (Drop p) = drop_stay p m (standing m p)
frames_and_passes_stay s m (Page p n) = page_stay s p n m (standing m p)
frames_and_passes_stay s m Bad = all_stay m
