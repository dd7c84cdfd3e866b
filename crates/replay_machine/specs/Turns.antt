-- The reply to each event, and the state that it leaves, over a scene (this project's own).
use Rattle.std.specs.Prelude.{ℕ, ◌+◌, List, [], ◌∷◌, ◌++◌, length}
use Rattle.std.specs.Prelude.{take, drop, position, nat_eq, slice_get, slice_set}
use Rattle.std.specs.Prelude.{Option, Some, None, Result, Ok, Err}
use Rattle.std.specs.List.{flat_map}
use Rattle.implicit_tiling.specs.Tile.{Tile}
use Rattle.implicit_tiling.specs.Region.{Plan}
use Rattle.implicit_tiling.specs.Scene.{Scene}
use Rattle.implicit_tiling.specs.Code.{word}
use Rattle.implicit_tiling.specs.Answer.{answer}
use Rattle.implicit_tiling.specs.Steps.{Pair, pairs, StepEnd, partial, ended, steps}
use Rattle.walk_laws.specs.Stepped.{last_end}
use Rattle.frame_pool.specs.declared.frame.FrameState.{FrameState}
use Rattle.frame_pool.specs.declared.frame.FrameState.TheVariants.{Loading as is_loading}
use Rattle.frame_pool.specs.declared.frame.Asked.{Asked}
use Rattle.frame_pool.specs.declared.frame.Asked.TheVariants.{Hit, Granted, Loading, Busy}
use Rattle.frame_pool.specs.Moves.{asked_last, pinned, unpinned, settled, changed}
use Rattle.replay_script.specs.declared.event.Event.{Event}
use Rattle.replay_script.specs.declared.event.Event.TheVariants.{Attach, Claim, Pin, Load, Fail}
use Rattle.replay_script.specs.declared.event.Event.TheVariants.{Commit, Drop, Page, Bad}
use Rattle.replay_machine.specs.Machine.{Walk, Held, no_frame, loads, pins}
use Rattle.replay_machine.specs.Machine.{Pass, Machine, is_same_plan, Standing, absent}
use Rattle.replay_machine.specs.Machine.{idle, reads, works, standing}
use Rattle.replay_machine.specs.Asking.{asked}
use Rattle.replay_machine.specs.Said.{Said, bad_line, not_now, cursor, refused, claimed}
use Rattle.replay_machine.specs.Said.{at_end, out, hit, granted, loading}
use Rattle.replay_machine.specs.Said.{busy, loaded, failed, moved, dropped, page}

-- what is replied, and the state after it
pub record Turn : Type 0 where
  pub said : Said
  pub after : Machine

abbrev pub stays : Said → Machine → Turn
stays said m = record { said = said; after = m }

-- ---- what a cursor shows: the tiles and the end of the steps that are made

abbrev pub shown_tiles : Scene → Walk → List Tile
shown_tiles s walk = flat_map (λ step. step.tiles) (take walk.made (steps s walk.plan.region))

abbrev pub shown_end : Scene → Walk → StepEnd
shown_end s walk = last_end partial (take walk.made (steps s walk.plan.region))

-- the pair of which the next step is made
abbrev pub next_pair : Scene → Walk → Option Pair
next_pair s walk = slice_get (pairs s walk.plan.region) walk.made

-- ---- states

abbrev pub with_pass : ℕ → Pass → Machine → Machine
with_pass p pass m = record m { passes = slice_set m.passes p pass }

abbrev pub with_walk : ℕ → Walk → Machine → Machine
with_walk c walk m = record m { cursors = slice_set m.cursors c walk }

abbrev pub with_census : List (FrameState ℕ) → Machine → Machine
with_census census m = record m { census = census }

-- ---- attach: equal plans share a cursor, and a new one has the next number

abbrev pub attached : ℕ → ℕ → Machine → Turn
attached p c m = record {
  said = cursor c;
  after = with_pass p (record { cursor = Some c; place = 0; frame = no_frame }) m;
}

abbrev pub with_new_walk : Plan → Machine → Machine
with_new_walk plan m = record m { cursors = m.cursors ++ record { plan = plan; made = 0; holder = None } ∷ [] }

abbrev pub attach_at : ℕ → Plan → Machine → Option ℕ → Turn
attach_at p plan m (Some c) = attached p c m
attach_at p plan m None = attached p (length m.cursors) (with_new_walk plan m)

abbrev pub attach_plan : ℕ → Machine → Result Plan ℕ → Turn
attach_plan p m (Err k) = stays (refused k) m
attach_plan p m (Ok plan) = attach_at p plan m (position (λ walk. is_same_plan plan walk.plan) m.cursors)

abbrev pub attach : ℕ → Result Plan ℕ → Machine → Standing → Turn
attach p asked m absent = stays not_now m
attach p asked m (idle pass) = attach_plan p m asked
attach p asked m (reads pass c walk) = attach_plan p m asked
attach p asked m (works pass c walk) = stays not_now m

-- ---- claim

abbrev pub claim_walk : ℕ → Machine → ℕ → Walk → StepEnd → Option ℕ → Turn
claim_walk p m c walk (ended end) holder = stays at_end m
claim_walk p m c walk partial (Some q) = stays out m
claim_walk p m c walk partial None = record { said = claimed; after = with_walk c (record walk { holder = Some p }) m }

abbrev pub claim : Scene → ℕ → Machine → Standing → Turn
claim s p m absent = stays not_now m
claim s p m (idle pass) = stays not_now m
claim s p m (reads pass c walk) = claim_walk p m c walk (shown_end s walk) walk.holder
claim s p m (works pass c walk) = stays not_now m

-- ---- pin: the frames are asked for the word of the next root

abbrev pub with_asked : ℕ → Held → ℕ → List (FrameState ℕ) → Pass → Machine → Machine
with_asked p frame f census pass m = with_pass p (record pass { frame = frame })
    (record m { census = census; order = asked_last f m.order })

abbrev pub pin_asked : ℕ → ℕ → Pass → Machine → Asked → Turn
pin_asked p key pass m (Hit f) = record {
  said = hit f;
  after = with_asked p (pins f) f (changed f pinned m.census) pass m;
}
pin_asked p key pass m (Granted f) = record {
  said = granted f;
  after = with_asked p (loads f) f (changed f (λ _. is_loading key) m.census) pass m;
}
pin_asked p key pass m Loading = stays loading m
pin_asked p key pass m Busy = stays busy m

abbrev pub pin_pair : Scene → ℕ → Pass → Machine → Option Pair → Turn
pin_pair s p pass m None = stays not_now m
pin_pair s p pass m (Some pair) = let key = word s.layout.scheme pair.root 0 in
    pin_asked p key pass m (asked nat_eq key m.census m.order)

abbrev pub pin_walk : Scene → ℕ → Pass → Walk → Machine → Held → Turn
pin_walk s p pass walk m no_frame = pin_pair s p pass m (next_pair s walk)
pin_walk s p pass walk m (loads f) = stays not_now m
pin_walk s p pass walk m (pins f) = stays not_now m

abbrev pub pin : Scene → ℕ → Machine → Standing → Turn
pin s p m absent = stays not_now m
pin s p m (idle pass) = stays not_now m
pin s p m (reads pass c walk) = stays not_now m
pin s p m (works pass c walk) = pin_walk s p pass walk m pass.frame

-- ---- load and fail: the frame that is loading is ready where the file was read, and else empty

abbrev pub unread : (X : Type 0) → Option X
unread X = None

abbrev pub load_frame : {X : Type 0} → ℕ → Option X → Pass → Machine → Held → Turn
load_frame p read pass m no_frame = stays not_now m
load_frame p read pass m (pins f) = stays not_now m
load_frame p (Some found) pass m (loads f) = record {
  said = loaded f;
  after = with_pass p (record pass { frame = pins f }) (with_census (changed f (settled (Some found)) m.census) m);
}
load_frame {X} p None pass m (loads f) = record {
  said = failed;
  after = with_pass p (record pass { frame = no_frame }) (with_census (changed f (settled (unread X)) m.census) m);
}

abbrev pub load : {X : Type 0} → ℕ → Option X → Machine → Option Pass → Turn
load p read m None = stays not_now m
load p read m (Some pass) = load_frame p read pass m pass.frame

-- ---- commit: one step more is made, the pin ends and the work is given back

abbrev pub committed : Scene → ℕ → ℕ → Pass → ℕ → Walk → Machine → Turn
committed s p f pass c walk m = record {
  said = moved (length (shown_tiles s walk));
  after = with_walk c walk
      (with_pass p (record pass { frame = no_frame }) (with_census (changed f unpinned m.census) m));
}

abbrev pub commit_frame : Scene → ℕ → Pass → ℕ → Walk → Machine → Held → Turn
commit_frame s p pass c walk m no_frame = stays not_now m
commit_frame s p pass c walk m (loads f) = stays not_now m
commit_frame s p pass c walk m (pins f) = committed s p f pass c (record walk { made = walk.made + 1; holder = None }) m

abbrev pub commit : Scene → ℕ → Machine → Standing → Turn
commit s p m absent = stays not_now m
commit s p m (idle pass) = stays not_now m
commit s p m (reads pass c walk) = stays not_now m
commit s p m (works pass c walk) = commit_frame s p pass c walk m pass.frame

-- ---- drop: a frame that is loading is empty, a pin ends, and the work is given back

abbrev pub given_up : Held → List (FrameState ℕ) → List (FrameState ℕ)
given_up no_frame census = census
given_up (loads f) census = changed f (settled (unread ℕ)) census
given_up (pins f) census = changed f unpinned census

abbrev pub drop_work : ℕ → Machine → Standing → Turn
drop_work p m absent = stays not_now m
drop_work p m (idle pass) = stays not_now m
drop_work p m (reads pass c walk) = stays not_now m
drop_work p m (works pass c walk) = record {
  said = dropped;
  after = with_walk c (record walk { holder = None })
      (with_pass p (record pass { frame = no_frame }) (with_census (given_up pass.frame m.census) m));
}

-- ---- page: the tiles of the answer from the pass's place on, as far as the cursor shows them, and at most n

abbrev pub page_tiles : Scene → Walk → ℕ → ℕ → List Tile
page_tiles s walk place n = take n (drop place (take (length (shown_tiles s walk)) (answer s walk.plan.region).tiles))

abbrev pub paged : Scene → ℕ → ℕ → Pass → Walk → Machine → Turn
paged s p n pass walk m = record {
  said = page pass.place (page_tiles s walk pass.place n) (shown_end s walk);
  after = with_pass p (record pass { place = pass.place + length (page_tiles s walk pass.place n) }) m;
}

abbrev pub page_on : Scene → ℕ → ℕ → Machine → Standing → Turn
page_on s p n m absent = stays not_now m
page_on s p n m (idle pass) = stays not_now m
page_on s p n m (reads pass c walk) = paged s p n pass walk m
page_on s p n m (works pass c walk) = paged s p n pass walk m

-- ---- each event. What a load has read counts only as read or not

abbrev pub turn : {X : Type 0} → Scene → Machine → Event (Option X) → Turn
turn s m (Attach p asked) = attach p asked m (standing m p)
turn s m (Claim p) = claim s p m (standing m p)
turn s m (Pin p) = pin s p m (standing m p)
turn s m (Load p read) = load p read m (slice_get m.passes p)
turn {X} s m (Fail p) = load p (unread X) m (slice_get m.passes p)
turn s m (Commit p) = commit s p m (standing m p)
turn s m (Drop p) = drop_work p m (standing m p)
turn s m (Page p n) = page_on s p n m (standing m p)
turn s m Bad = stays bad_line m
