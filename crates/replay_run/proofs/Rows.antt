-- A script that was played over a small scene: what is written, where the source fails once.
use Rattle.std.proofs.Common.{◌≡◌, ℕ, true, false, List, [], ◌∷◌, ◌++◌, codes, refl}
use Rattle.std.specs.Fmt.{digits}
use Rattle.implicit_tiling.specs.declared.Scheme.TheVariants.{Quad}
use Rattle.implicit_tiling.specs.Scene.{Scene, good}
use Rattle.implicit_tiling.specs.Text.{line}
use Rattle.replay_script.specs.Script.{event_of as event_in}
use Rattle.replay_run.specs.Plays.{Line, failures, play_text}

-- three levels in subtrees of two, in which each tile is there, with a content on each
full : Scene
full = record {
  layout = record { scheme = Quad; subtree_levels = 2; levels = 3; subtree = codes "all.subtree"; contents = codes "{level}.glb" ∷ [] };
  outcome = λ r. good (record { tiles = λ i. true; contents = (λ i. true) ∷ []; child = λ i. true });
}

-- a line whose load, if it is one, is read, and one whose load fails
played : List ℕ → Line
played text = record { event = event_in Quad 3 text; failed = false }

failing : List ℕ → Line
failing text = record { event = event_in Quad 3 text; failed = true }

script : List Line
script =
    played (codes "attach 0 0 0,0 0,0") ∷ played (codes "claim 0") ∷ played (codes "pin 0") ∷ failing (codes "load 0") ∷ played (codes "pin 0") ∷ played (codes "load 0")
    ∷ played (codes "commit 0") ∷ played (codes "page 0 9") ∷ played (codes "jump") ∷ []

one_failure : failures script ≡ 1
unfolding script played failing
one_failure = refl

its_text : play_text full 1 1 script
    ≡ line (codes "cursor" ∷ codes "0" ∷ []) ++ (line (codes "claimed" ∷ []) ++ (line (codes "granted" ∷ codes "0" ∷ []) ++ (line (codes "failed" ∷ []) ++ (line (codes "granted" ∷ codes "0" ∷ [])
    ++ (line (codes "loaded" ∷ codes "0" ∷ []) ++ (line (codes "moved" ∷ codes "1" ∷ []) ++ (line (codes "page" ∷ codes "0" ∷ codes "1" ∷ codes "complete" ∷ [])
    ++ (line (codes "0" ∷ codes "0" ∷ codes "0" ∷ codes "0.glb" ∷ []) ++ line (codes "bad" ∷ [])))))))))
unfolding digits full script played failing
its_text = refl
