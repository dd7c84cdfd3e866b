-- Events that are run one after another.
use Rattle.std.proofs.Common.{◌≡◌, ◌∙◌, ℕ, List, [], ◌∷◌, ◌++◌, Option, Some, None, sym, ap, subst, append-nil, append_assoc}
use Rattle.std.specs.Prelude.{slice_get, IfSome}
use Rattle.implicit_tiling.specs.Scene.{Layout, Scene}
use Rattle.subtree_outcome.specs.declared.outcome.Outcome.{Outcome}
use Rattle.subtree_outcome.specs.Outcomes.{HasNoOrphans}
use Rattle.replay_script.specs.declared.event.Event.{Event}
use Rattle.replay_script.specs.declared.event.Event.TheVariants.{Attach, Claim, Pin, Load, Fail, Commit, Drop, Page, Bad}
use Rattle.replay_script.specs.declared.reply.Reply.{Reply}
use Rattle.replay_machine.specs.Machine.{Machine}
use Rattle.replay_machine.specs.Said.{Said, Says}
use Rattle.replay_machine.specs.Turns.{turn}
use Rattle.replay_machine.specs.Runs.{replies, state_after}
use Rattle.replay_core.specs.Core.{IsShown, IsOfScene, IsReadAt, Brings, pass_wanted, wanted}
use Rattle.replay_core.specs.declared.state.Core.{Core}
use Rattle.replay_run.specs.Runs.{wanted_in, IsBrought, AreBrought, IsFound, MayRun, AreSaid, HasRun}
use Rattle.replay_run.proofs.Replied.{replies_more, state_more, StepSays}

-- ---- what loads have read

same_wanted : (s : Scene) (m : Machine) (core : Core) (p : ℕ) → IsShown s m core → wanted_in m p ≡ wanted core p
same_wanted s m core p shown = ap (λ (n : Machine). pass_wanted n.census (slice_get n.passes p)) shown.same

-- what is wanted of the machine is wanted of the core
pub brought_is : (P : ℕ → Outcome → Type 0) (s : Scene) (m : Machine) (core : Core) (event : Event (Option Outcome)) → IsShown s m core → IsBrought P m event → Brings P core event
brought_is P s m core (Attach p asked) shown brought = tt
brought_is P s m core (Claim p) shown brought = tt
brought_is P s m core (Pin p) shown brought = tt
brought_is P s m core (Load p None) shown brought = tt
brought_is P s m core (Load p (Some found)) shown brought = subst (λ o. IfSome o (λ key. P key found)) (same_wanted s m core p shown) brought
brought_is P s m core (Fail p) shown brought = tt
brought_is P s m core (Commit p) shown brought = tt
brought_is P s m core (Drop p) shown brought = tt
brought_is P s m core (Page p n) shown brought = tt
brought_is P s m core Bad shown brought = tt

weaker : (P Q : ℕ → Outcome → Type 0) (found : Outcome) (o : Option ℕ) → ((key : ℕ) → P key found → Q key found) → IfSome o (λ key. P key found) → IfSome o (λ key. Q key found)
weaker P Q found None to brought = tt
weaker P Q found (Some key) to brought = to key brought

brought_weaker : (P Q : ℕ → Outcome → Type 0) (m : Machine) (event : Event (Option Outcome)) → ((key : ℕ) (found : Outcome) → P key found → Q key found) → IsBrought P m event → IsBrought Q m event
brought_weaker P Q m (Attach p asked) to brought = tt
brought_weaker P Q m (Claim p) to brought = tt
brought_weaker P Q m (Pin p) to brought = tt
brought_weaker P Q m (Load p None) to brought = tt
brought_weaker P Q m (Load p (Some found)) to brought = weaker P Q found (wanted_in m p) (λ key. to key found) brought
brought_weaker P Q m (Fail p) to brought = tt
brought_weaker P Q m (Commit p) to brought = tt
brought_weaker P Q m (Drop p) to brought = tt
brought_weaker P Q m (Page p n) to brought = tt
brought_weaker P Q m Bad to brought = tt

-- the next event of a run
pub next_read : (layout : Layout) (core : Core) (event : Event (Option Outcome)) (rest : List (Event (Option Outcome))) → MayRun layout core (event ∷ rest) → Brings (IsReadAt layout) core event
next_read layout core event rest may =
    subst (λ l. Brings (IsReadAt l) core event) may.same
    (brought_is (IsReadAt may.scene.layout) may.scene may.machine core event may.shown (brought_weaker (IsFound may.scene) (IsReadAt may.scene.layout) may.machine event (λ key found is. is.0) may.brought.0))

-- and those behind it
pub may_go_on : (layout : Layout) (core new : Core) (event : Event (Option Outcome)) (rest : List (Event (Option Outcome))) (reply : Reply) → MayRun layout core (event ∷ rest) → StepSays layout event core new reply
    → MayRun layout new rest
may_go_on layout core new event rest reply may says =
    let of_scene = brought_is (IsOfScene may.scene) may.scene may.machine core event may.shown (brought_weaker (IsFound may.scene) (IsOfScene may.scene) may.machine event (λ key found is. is.1) may.brought.0) in
    record {
      scene = may.scene;
      machine = (turn may.scene may.machine event).after;
      same = may.same;
      whole = may.whole;
      shown = (says may.scene may.machine may.same may.whole of_scene may.shown).1;
      brought = may.brought.1;
    }

-- ---- the run so far

-- the events in front of the rest were run
pub record HasCome (s : Scene) (m : Machine) (events rest : List (Event (Option Outcome))) (core : Core) (before now : List Reply) : Type 0 where
  pub front : List (Event (Option Outcome))
  pub parts : events ≡ front ++ rest
  pub ran : HasRun s m front core before now
  pub brought : AreBrought (IsOfScene s) s (state_after s m front) rest

pub none_ran : (s : Scene) (m : Machine) (events rest : List (Event (Option Outcome))) (core : Core) (before : List Reply) → rest ≡ events → IsShown s m core → AreBrought (IsOfScene s) s m events
    → HasCome s m events rest core before before
none_ran s m events rest core before all shown brought = record {
  front = [];
  parts = sym all;
  ran = record { more = []; behind = sym (append-nil before); said = tt; shown = shown };
  brought = subst (AreBrought (IsOfScene s) s m) (sym all) brought;
}

said_more : (s : Scene) (said : List Said) (replied : List Reply) (last : Said) (reply : Reply) → AreSaid s said replied → Says s last reply → AreSaid s (said ++ last ∷ []) (replied ++ reply ∷ [])
said_more s [] [] last reply are is = (is, tt)
said_more s [] (r ∷ rs) last reply are is = absurd are
said_more s (x ∷ xs) [] last reply are is = absurd are
said_more s (x ∷ xs) (r ∷ rs) last reply are is = (are.0, said_more s xs rs last reply are.1 is)

-- one event more
pub run_on : (layout : Layout) (s : Scene) (m : Machine) (events rest : List (Event (Option Outcome))) (event : Event (Option Outcome)) (core new : Core) (reply : Reply) (before now next : List Reply)
    → s.layout ≡ layout → HasNoOrphans s → HasCome s m events (event ∷ rest) core before now → StepSays layout event core new reply → next ≡ now ++ reply ∷ []
    → HasCome s m events rest new before next
run_on layout s m events rest event core new reply before now next same whole come says pushed =
    let state = state_after s m come.front in
    let replied = says s state same whole (brought_is (IsOfScene s) s state core event come.ran.shown come.brought.0) come.ran.shown in
    let after = state_more s m come.front (event ∷ []) in
    record {
      front = come.front ++ event ∷ [];
      parts = come.parts ∙ sym (append_assoc come.front (event ∷ []) rest);
      ran = record {
        more = come.ran.more ++ reply ∷ [];
        behind = pushed ∙ ap (λ rs. rs ++ reply ∷ []) come.ran.behind ∙ append_assoc before come.ran.more (reply ∷ []);
        said = subst (λ said. AreSaid s said (come.ran.more ++ reply ∷ [])) (sym (replies_more s m come.front (event ∷ [])))
            (said_more s (replies s m come.front) come.ran.more (turn s state event).said reply come.ran.said replied.0);
        shown = subst (λ n. IsShown s n new) (sym after) replied.1;
      };
      brought = subst (λ n. AreBrought (IsOfScene s) s n rest) (sym after) come.brought.1;
    }

-- all events, or those before one
pub all_ran : (s : Scene) (m : Machine) (events rest : List (Event (Option Outcome))) (core : Core) (before now : List Reply) → rest ≡ [] → HasCome s m events rest core before now → HasRun s m events core before now
all_ran s m events rest core before now none come =
    subst (λ es. HasRun s m es core before now) (sym (come.parts ∙ ap (λ es. come.front ++ es) none ∙ append-nil come.front)) come.ran
