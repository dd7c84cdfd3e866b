-- What each event's call leaves, as the step promises it.
use Rattle.std.proofs.Common.{◌≡◌, ◌∙◌, ℕ, zero, suc, ◌-◌, ◌^◌, ◌<◌, List, [], replicate, Option, Some, None, Result, Ok, Err, refl, sym, ap, subst}
use Rattle.std.specs.Prelude.{slice_get, IfOk, IfSome}
use Rattle.std.specs.List.{All}
use Rattle.std.proofs.lemmas.List.Elements.{All-nil}
use Rattle.std.proofs.lemmas.List.{length-replicate}
use Rattle.std.proofs.lemmas.Option.{none-some, same_Some}
use Rattle.implicit_tiling.specs.Scene.{Layout, Scene}
use Rattle.implicit_tiling.specs.Region.{Plan}
use Rattle.implicit_tiling.specs.declared.Scheme.{Scheme}
use Rattle.implicit_tiling.specs.Code.{IsWord}
use Rattle.walk_laws.specs.Plans.{FitsLayout}
use Rattle.frame_pool.specs.declared.frame.FrameState.TheVariants.{Empty, Ready}
use Rattle.frame_pool.specs.Frames.{Frames, empty_frames}
use Rattle.subtree_outcome.specs.declared.outcome.Outcome.{Outcome}
use Rattle.subtree_outcome.specs.Outcomes.{HasNoOrphans}
use Rattle.replay_script.specs.declared.event.Event.TheVariants.{Attach, Load}
use Rattle.replay_script.specs.declared.reply.Reply.{Reply}
use Rattle.replay_script.specs.Replies.{reply_words}
use Rattle.replay_machine.specs.Machine.{Machine, opening}
use Rattle.replay_machine.specs.declared.pass.Pass.{Pass}
use Rattle.replay_machine.specs.declared.pass.Held.TheVariants.{Nothing as no_frame}
use Rattle.replay_machine.specs.Turns.{Turn}
use Rattle.replay_machine.proofs.Uses.{opening_is_used}
use Rattle.replay_core.specs.Core.{AsksFor, Brings, HoldsValues, IsShown, IsReplied, IsCoreOf, IsReadAt, IsOfScene, wanted}
use Rattle.replay_core.specs.Events.{Answers, AnswersWith}
use Rattle.replay_core.specs.declared.state.Core.{Core}
use Rattle.replay_core.specs.declared.shared_cursor.SharedCursor.{SharedCursor}

-- from the machine's states with the core's frames to all that it shows
pub at_machine : (layout : Layout) (turn : Scene → Machine → Turn) (old new : Core) (r : Reply) → Answers layout turn old r new → (s : Scene) (m : Machine) → s.layout ≡ layout → HasNoOrphans s → IsShown s m old
    → IsReplied s (turn s m) r new
at_machine layout turn old new r answers s m is whole shown =
    subst (λ n. IsReplied s (turn s n) r new) (sym shown.same) (answers s m.cursors is whole (subst (λ n. IsShown s n old) shown.same shown))

pub at_machine_with : (layout : Layout) (P : Scene → Type 0) (turn : Scene → Machine → Turn) (old new : Core) (r : Reply) → AnswersWith layout P turn old r new → (s : Scene) (m : Machine) → s.layout ≡ layout → P s → IsShown s m old
    → IsReplied s (turn s m) r new
at_machine_with layout P turn old new r answers s m is brings shown =
    subst (λ n. IsReplied s (turn s n) r new) (sym shown.same) (answers s m.cursors is brings (subst (λ n. IsShown s n old) shown.same shown))

pub if_ok : {X E : Type 0} (P Q : X → Type 0) (r : Result X E) → ((x : X) → P x → Q x) → IfOk r P → IfOk r Q
if_ok P Q (Ok x) f h = f x h
if_ok P Q (Err e) f h = tt

-- a reply without tiles
pub no_words : (scheme : Scheme) (r : Reply) → reply_words r ≡ [] → All (IsWord scheme) (reply_words r)
no_words scheme r none = subst (All (IsWord scheme)) (sym none) (All-nil (IsWord scheme))

pub asks_is : (layout : Layout) (p : ℕ) (asked : Result Plan ℕ) → AsksFor layout (Attach p asked) → IfOk asked (FitsLayout layout)
asks_is layout p (Ok plan) asks = asks
asks_is layout p (Err k) asks = tt

nothing_brought : (o : Option ℕ) (P : ℕ → Outcome → Type 0) → IfSome o (λ key. IfSome None (P key))
nothing_brought None P = tt
nothing_brought (Some key) P = tt

pub brings_is : (P : ℕ → Outcome → Type 0) (core : Core) (p : ℕ) (read : Option Outcome) → Brings P core (Load p read) → IfSome (wanted core p) (λ key. IfSome read (P key))
brings_is P core p (Some found) brings = brings
brings_is P core p None brings = nothing_brought (wanted core p) P

pub brings_none : (P : ℕ → Outcome → Type 0) (core : Core) (p : ℕ) → IfSome (wanted core p) (λ key. IfSome None (P key))
brings_none P core p = nothing_brought (wanted core p) P

-- ---- the state that a replay begins with

all_alike : {X : Type 0} (n f : ℕ) (x y : X) → slice_get (replicate n x) f ≡ Some y → x ≡ y
all_alike zero f x y at = absurd (none-some y at)
all_alike (suc n) zero x y at = same_Some x y at
all_alike (suc n) (suc f) x y at = all_alike n f x y at

empty_ready : (key n : ℕ) → Empty ≡ Ready key n → ⊥
empty_ready key n e = cc

fresh_pass : Pass
fresh_pass = record { cursor = None; place = 0; frame = no_frame }

new_core : ℕ → ℕ → Core
new_core frames passes = record { frames = empty_frames frames; cursors = []; passes = replicate passes (record { cursor = None; place = 0; frame = no_frame }) }

none_hold : (P : ℕ → Outcome → Type 0) (n : ℕ) → HoldsValues P (empty_frames n)
none_hold P n = λ f key pins found at v. absurd (empty_ready key pins (all_alike n f Empty (Ready key pins) at))

new_core_sound : (layout : Layout) (frames passes : ℕ) → passes < 2 ^ 32 - 1 → IsCoreOf layout (new_core frames passes)
unfolding new_core fresh_pass
new_core_sound layout frames passes few = record {
  used = opening_is_used frames passes;
  keyed = λ p pass c cursor w. absurd (none-some cursor w.at);
  going = λ c cursor p at held. absurd (none-some cursor at);
  walks = λ c cursor at. absurd (none-some cursor at);
  values = none_hold (IsReadAt layout) frames;
  few = subst (λ n. n < 2 ^ 32 - 1) (sym (length-replicate passes fresh_pass)) few;
}

new_core_shown : (s : Scene) (frames passes : ℕ) → IsShown s (opening frames passes) (new_core frames passes)
unfolding new_core
new_core_shown s frames passes = record { same = refl; shown = tt; values = none_hold (IsOfScene s) frames }

-- with what the calls give
opened : (core : Core) (frames passes : ℕ) → core.frames ≡ empty_frames frames → core.cursors ≡ [] → core.passes ≡ replicate passes (record { cursor = None; place = 0; frame = no_frame })
    → core ≡ new_core frames passes
unfolding new_core
opened core frames passes is_frames is_cursors is_passes =
    ap (λ (fs : Frames ℕ Outcome). let now : Core = record { frames = fs; cursors = core.cursors; passes = core.passes } in now) is_frames
    ∙ ap (λ (cs : List SharedCursor). let now : Core = record { frames = empty_frames frames; cursors = cs; passes = core.passes } in now) is_cursors
    ∙ ap (λ (ps : List Pass). let now : Core = record { frames = empty_frames frames; cursors = []; passes = ps } in now) is_passes

pub opened_sound : (layout : Layout) (core : Core) (frames passes : ℕ) → passes < 2 ^ 32 - 1 → core.frames ≡ empty_frames frames → core.cursors ≡ [] → core.passes ≡ replicate passes (record { cursor = None; place = 0; frame = no_frame })
    → IsCoreOf layout core
opened_sound layout core frames passes few is_frames is_cursors is_passes = subst (IsCoreOf layout) (sym (opened core frames passes is_frames is_cursors is_passes)) (new_core_sound layout frames passes few)

pub opened_shown : (s : Scene) (core : Core) (frames passes : ℕ) → core.frames ≡ empty_frames frames → core.cursors ≡ [] → core.passes ≡ replicate passes (record { cursor = None; place = 0; frame = no_frame })
    → IsShown s (opening frames passes) core
opened_shown s core frames passes is_frames is_cursors is_passes = subst (IsShown s (opening frames passes)) (sym (opened core frames passes is_frames is_cursors is_passes)) (new_core_shown s frames passes)
