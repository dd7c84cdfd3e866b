-- Two scripts, as a person would play them.
use Rattle.std.proofs.Common.{◌≡◌, ℕ, true, List, [], ◌∷◌, map, codes, Option, Some, refl}
use Rattle.implicit_tiling.specs.declared.Scheme.TheVariants.{Quad}
use Rattle.implicit_tiling.specs.Tile.{Tile, root}
use Rattle.implicit_tiling.specs.Scene.{Scene, good, bad}
use Rattle.implicit_tiling.specs.Answer.{fault}
use Rattle.implicit_tiling.specs.Steps.{partial, ended}
use Rattle.replay_script.specs.declared.event.Event.{Event}
use Rattle.replay_script.specs.Events.{with_read}
use Rattle.replay_script.specs.Script.{event_of}
use Rattle.replay_machine.specs.Machine.{opening}
use Rattle.replay_machine.specs.Said.{bad_line, not_now, cursor, refused, claimed, at_end, hit, granted, loading, busy, loaded, failed, moved, dropped, page}
use Rattle.replay_machine.specs.Runs.{replies}

-- the events of some lines, in which each file that is loaded is read
played : ℕ → List (List ℕ) → List (Event (Option (Unit {0})))
played levels lines = map (λ line. with_read (event_of Quad levels line) (Some tt)) lines

-- three levels in subtrees of two, in which each tile is there
full : Scene
full = record {
  layout = record { scheme = Quad; subtree_levels = 2; levels = 3; subtree = codes "all.subtree"; contents = [] };
  outcome = λ r. good (record { tiles = λ i. true; contents = []; child = λ i. true });
}

at : ℕ → ℕ → ℕ → Tile
at l x y = record { level = l; x = x; y = y; z = 0 }

-- Two passes and one frame: pass 1 waits while pass 0 loads the root's subtree, finds the frame busy while pass 0 loads
-- another one, and is granted it once that loading has failed.
two_passes_share_a_frame : replies full (opening 1 2) (played 3
    (codes "attach 0 2 0,0 3,3" ∷ codes "attach 1 1 0,0 1,1" ∷ codes "claim 0" ∷ codes "claim 1" ∷ codes "pin 0" ∷ codes "pin 1" ∷ codes "load 0"
    ∷ codes "page 0 9" ∷ codes "commit 0" ∷ codes "claim 0" ∷ codes "pin 0" ∷ codes "commit 0" ∷ codes "claim 0" ∷ codes "pin 0" ∷ codes "pin 1"
    ∷ codes "fail 0" ∷ codes "pin 1" ∷ codes "load 1" ∷ codes "commit 1" ∷ codes "drop 0" ∷ codes "page 0 2" ∷ codes "page 0 9" ∷ []))
    ≡ cursor 0 ∷ cursor 1 ∷ claimed ∷ claimed ∷ granted 0 ∷ loading ∷ loaded 0 ∷ page 0 [] partial ∷ moved 1 ∷ claimed ∷ hit 0 ∷ moved 5 ∷ claimed ∷ granted 0
    ∷ busy ∷ failed ∷ granted 0 ∷ loaded 0 ∷ moved 1 ∷ dropped ∷ page 0 (at 0 0 0 ∷ at 1 0 0 ∷ []) partial
    ∷ page 2 (at 1 1 0 ∷ at 1 0 1 ∷ at 1 1 1 ∷ []) partial ∷ []
unfolding full at played
two_passes_share_a_frame = refl

-- two levels in one subtree with a fault
faulty : Scene
faulty = record {
  layout = record { scheme = Quad; subtree_levels = 2; levels = 2; subtree = codes "s/{level}/{x}/{y}.subtree"; contents = codes "c/{level}/{x}/{y}.glb" ∷ [] };
  outcome = λ r. bad 3;
}

a_fault_ends_a_cursor : replies faulty (opening 1 1) (played 2
    (codes "attach 0 9 0,0 0,0" ∷ codes "attach 0 0 0,0 0,0" ∷ codes "claim 5" ∷ codes "claim 0" ∷ codes "pin 0" ∷ codes "load 0" ∷ codes "commit 0"
    ∷ codes "claim 0" ∷ codes "page 0 1" ∷ codes "jump" ∷ []))
    ≡ refused 3 ∷ cursor 0 ∷ not_now ∷ claimed ∷ granted 0 ∷ loaded 0 ∷ moved 0 ∷ at_end ∷ page 0 [] (ended (fault root 3)) ∷ bad_line ∷ []
unfolding faulty played
a_fault_ends_a_cursor = refl
