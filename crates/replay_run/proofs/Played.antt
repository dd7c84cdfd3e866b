-- A script that is played line after line, and the text that is given so far.
use Rattle.std.proofs.Common.{◌≡◌, ◌∙◌, ◌+◌, ◌≤◌, ℕ, List, [], ◌∷◌, ◌++◌, length, map, false, Option, Some, None, refl, sym, ap, subst, arith, append-nil, append_assoc, length-append}
use Rattle.std.specs.Prelude.{filter, IfSome, Result, Ok, Err, OnOk, IsErrAnd}
use Rattle.std.specs.List.{flat_map}
use Rattle.std.specs.Io.KnownBytes.{Appends}
use Rattle.std.proofs.KnownBytes.{Appends-nil}
use Rattle.std.proofs.lemmas.List.{map-append}
use Rattle.std.proofs.lemmas.List.Elements.{filter-append}
use Rattle.std.proofs.lemmas.Grind.{flat_map-append}
use Rattle.implicit_tiling.specs.Scene.{Scene}
use Rattle.scene_ports.specs.Counts.{more_by}
use Rattle.scene_ports.specs.Output.{GivesFront, GivesAllBut}
use Rattle.scene_ports.proofs.Giving.{all_but_start, all_but_line, all_but_then, all_but_then_front, all_but_end, all_but_front, front_within}
use Rattle.tileset_json.specs.Limits.{IsWithinLimits}
use Rattle.replay_script.specs.declared.event.Event.{Event}
use Rattle.replay_script.specs.declared.reply.Reply.{Reply}
use Rattle.replay_script.specs.Events.{with_read}
use Rattle.replay_script.specs.Script.{script_of}
use Rattle.replay_script.specs.Replies.{reply_text}
use Rattle.replay_machine.specs.Machine.{Machine, opening}
use Rattle.replay_machine.specs.Turns.{turn}
use Rattle.replay_machine.specs.Runs.{replies, state_after}
use Rattle.replay_core.specs.Core.{IsShown, AsksFor}
use Rattle.replay_core.specs.declared.state.Core.{Core}
use Rattle.replay_run.specs.Plays.{Line, event_of, read_where, failures, said_text, play_text, IsPlay, IsPlayBegun}
use Rattle.replay_run.specs.Taken.{IsTaken}
use Rattle.replay_run.proofs.Replied.{replies_more, state_more}
use Rattle.replay_run.proofs.Pages.{AreLow, none_low, turn_low}
use Rattle.replay_run.proofs.Texts.{text_is}

-- ---- lines one after another

-- the state after some lines
abbrev pub state_of : Scene → ℕ → ℕ → List Line → Machine
state_of s frames passes lines = state_after s (opening frames passes) (map event_of lines)

-- what they ask for
abbrev pub events : List Line → List (Event (Unit {0}))
events lines = map (λ line. line.event) lines

text_more : (s : Scene) (frames passes : ℕ) (lines more : List Line) → play_text s frames passes (lines ++ more)
    ≡ play_text s frames passes lines ++ flat_map (said_text s) (replies s (state_of s frames passes lines) (map event_of more))
text_more s frames passes lines more =
    ap (λ es. flat_map (said_text s) (replies s (opening frames passes) es)) (map-append event_of lines more)
    ∙ ap (flat_map (said_text s)) (replies_more s (opening frames passes) (map event_of lines) (map event_of more))
    ∙ flat_map-append (said_text s) (replies s (opening frames passes) (map event_of lines)) (replies s (state_of s frames passes lines) (map event_of more))

state_of_more : (s : Scene) (frames passes : ℕ) (lines more : List Line) → state_of s frames passes (lines ++ more) ≡ state_after s (state_of s frames passes lines) (map event_of more)
state_of_more s frames passes lines more =
    ap (state_after s (opening frames passes)) (map-append event_of lines more) ∙ state_more s (opening frames passes) (map event_of lines) (map event_of more)

events_more : (lines more : List Line) → events (lines ++ more) ≡ events lines ++ events more
events_more lines more = map-append (λ (line : Line). line.event) lines more

failures_more : (lines more : List Line) → failures (lines ++ more) ≡ failures lines + failures more
failures_more lines more =
    ap (λ (ls : List Line). length ls) (filter-append (λ (line : Line). line.failed) lines more)
    ∙ length-append (filter (λ (line : Line). line.failed) lines) (filter (λ (line : Line). line.failed) more)

rises : (n k before mid now : ℕ) → more_by n before ≤ mid → more_by k mid ≤ now → more_by (n + k) before ≤ now
rises n k before mid now one two = omega (arith, one, two)

-- lines that aren't played, as if no load of them failed
unplayed : List (Event (Unit {0})) → List Line
unplayed rest = map (λ event. record { event = event; failed = false }) rest

unplayed_are : (rest : List (Event (Unit {0}))) → events (unplayed rest) ≡ rest
unfolding unplayed
unplayed_are [] = refl
unplayed_are (event ∷ rest) = ap (λ es. event ∷ es) (unplayed_are rest)

unplayed_fail : (rest : List (Event (Unit {0}))) → failures (unplayed rest) ≡ 0
unfolding unplayed
unplayed_fail [] = refl
unplayed_fail (event ∷ rest) = unplayed_fail rest

-- a front of the replies to some lines is one of those to all
begun : (s : Scene) (frames passes : ℕ) (input : List ℕ) (faults rose : ℕ) (before now : Option (List ℕ)) (done : List Line) (rest : List (Event (Unit {0})))
    → script_of s.layout.scheme s.layout.levels input ≡ events done ++ rest → more_by (failures done) faults ≤ rose → GivesFront before now (play_text s frames passes done)
    → IsPlayBegun s frames passes input faults rose before now
begun s frames passes input faults rose before now done rest are failed front =
    let lines = done ++ unplayed rest in
    let count : failures lines ≡ failures done = failures_more done (unplayed rest) ∙ omega (arith, unplayed_fail rest) in (
      lines,
      record {
        are = events_more done (unplayed rest) ∙ ap (λ es. events done ++ es) (unplayed_are rest) ∙ sym are;
        failed = subst (λ n. more_by n faults ≤ rose) (sym count) failed;
      },
      front_within before now (play_text s frames passes done) (flat_map (said_text s) (replies s (state_of s frames passes done) (map event_of (unplayed rest)))) (play_text s frames passes lines) front
          (text_more s frames passes done (unplayed rest)),
    )

-- ---- the play so far

-- Some lines in front of the rest were played: the core shows the state after them, and the text of their replies was
-- given but for what is held back.
pub record IsPlaying (s : Scene) (frames passes : ℕ) (input rest : List ℕ) (core : Core) (faults rose : ℕ) (before now : Option (List ℕ)) (held : List ℕ) : Type 0 where
  pub lines : List Line
  pub are : script_of s.layout.scheme s.layout.levels input ≡ events lines ++ script_of s.layout.scheme s.layout.levels rest
  pub failed : more_by (failures lines) faults ≤ rose
  pub shown : IsShown s (state_of s frames passes lines) core
  pub low : AreLow s.layout (state_of s frames passes lines).cursors
  pub text : GivesAllBut before now held (play_text s frames passes lines)

pub not_begun : (s : Scene) (frames passes : ℕ) (input : List ℕ) (faults rose : ℕ) (before : Option (List ℕ)) → faults ≤ rose → IsPlayBegun s frames passes input faults rose before before
not_begun s frames passes input faults rose before grown =
    begun s frames passes input faults rose before before [] (script_of s.layout.scheme s.layout.levels input) refl (omega (arith, grown)) ([], [], refl, Appends-nil before)

pub begins : (s : Scene) (frames passes : ℕ) (input : List ℕ) (core : Core) (faults : ℕ) (before : Option (List ℕ)) (held : List ℕ) → IsShown s (opening frames passes) core → held ≡ []
    → IsPlaying s frames passes input input core faults faults before before held
begins s frames passes input core faults before held shown none = record {
  lines = [];
  are = refl;
  failed = omega arith;
  shown = shown;
  low = none_low s.layout frames passes;
  text = subst (λ h. GivesAllBut before before h []) (sym none) (all_but_start before []);
}

-- no line more is played
pub stopped : (s : Scene) (frames passes : ℕ) (input rest : List ℕ) (core : Core) (faults mid rose : ℕ) (before now : Option (List ℕ)) (held : List ℕ)
    → IsPlaying s frames passes input rest core faults mid before now held → mid ≤ rose → IsPlayBegun s frames passes input faults rose before now
stopped s frames passes input rest core faults mid rose before now held p grown =
    let few = p.failed in
    begun s frames passes input faults rose before now p.lines (script_of s.layout.scheme s.layout.levels rest) p.are (omega (arith, few, grown))
    (all_but_front before now held (play_text s frames passes p.lines) p.text)

-- the turn of the next line is taken, and its reply held back
turned : (s : Scene) (frames passes : ℕ) (input rest behind : List ℕ) (core new : Core) (event : Event (Unit {0})) (reply : Reply) (faults mid rose : ℕ) (before now : Option (List ℕ)) (held : List ℕ)
    → IsWithinLimits s.layout → IsPlaying s frames passes input rest core faults mid before now held
    → script_of s.layout.scheme s.layout.levels rest ≡ event ∷ script_of s.layout.scheme s.layout.levels behind → AsksFor s.layout (with_read event None)
    → IsTaken s event mid rose core reply new → IsPlaying s frames passes input behind new faults rose before now (held ++ reply_text s.layout reply)
turned s frames passes input rest behind core new event reply faults mid rose before now held within p next asks t =
    let line : Line = record { event = event; failed = t.failed } in
    let lines = p.lines ++ line ∷ [] in
    let state = state_of s frames passes p.lines in
    let replied = t.replied state p.shown in
    let low = turn_low s state p.low event (read_where t.failed) within asks in
    let after = state_of_more s frames passes p.lines (line ∷ []) in
    let text : play_text s frames passes lines ≡ play_text s frames passes p.lines ++ reply_text s.layout reply =
    text_more s frames passes p.lines (line ∷ []) ∙ ap (λ w. play_text s frames passes p.lines ++ w)
    (append-nil (said_text s (turn s state (event_of line)).said) ∙ sym (text_is s (turn s state (event_of line)).said reply replied.0 low.tiles within.few_contents)) in
    record {
      lines = lines;
      are = p.are ∙ ap (λ es. events p.lines ++ es) next ∙ sym (append_assoc (events p.lines) (event ∷ []) (script_of s.layout.scheme s.layout.levels behind))
          ∙ ap (λ es. es ++ script_of s.layout.scheme s.layout.levels behind) (sym (events_more p.lines (line ∷ [])));
      failed = subst (λ n. more_by n faults ≤ rose) (sym (failures_more p.lines (line ∷ []))) (rises (failures p.lines) (failures (line ∷ [])) faults mid rose p.failed t.counted);
      shown = subst (λ m. IsShown s m new) (sym after) replied.1;
      low = subst (λ (m : Machine). AreLow s.layout m.cursors) (sym after) low.after;
      text = subst (GivesAllBut before now (held ++ reply_text s.layout reply)) (sym text) (all_but_line before now held (play_text s frames passes p.lines) (reply_text s.layout reply) p.text);
    }

-- the next line is played, and its reply given but for what is held back
pub plays_on : (s : Scene) (frames passes : ℕ) (input rest behind : List ℕ) (core new : Core) (event : Event (Unit {0})) (reply : Reply) (faults mid rose : ℕ) (before now next : Option (List ℕ)) (held kept : List ℕ)
    → IsWithinLimits s.layout → IsPlaying s frames passes input rest core faults mid before now held
    → script_of s.layout.scheme s.layout.levels rest ≡ event ∷ script_of s.layout.scheme s.layout.levels behind → AsksFor s.layout (with_read event None)
    → IsTaken s event mid rose core reply new → GivesAllBut now next kept (held ++ reply_text s.layout reply) → IsPlaying s frames passes input behind new faults rose before next kept
plays_on s frames passes input rest behind core new event reply faults mid rose before now next held kept within p is asks t given =
    let u = turned s frames passes input rest behind core new event reply faults mid rose before now held within p is asks t in
    record {
      lines = u.lines;
      are = u.are;
      failed = u.failed;
      shown = u.shown;
      low = u.low;
      text = all_but_then before now next (held ++ reply_text s.layout reply) kept (play_text s frames passes u.lines) u.text given;
    }

-- or some front of it is
pub breaks : (s : Scene) (frames passes : ℕ) (input rest behind : List ℕ) (core new : Core) (event : Event (Unit {0})) (reply : Reply) (faults mid rose : ℕ) (before now next : Option (List ℕ)) (held : List ℕ)
    → IsWithinLimits s.layout → IsPlaying s frames passes input rest core faults mid before now held
    → script_of s.layout.scheme s.layout.levels rest ≡ event ∷ script_of s.layout.scheme s.layout.levels behind → AsksFor s.layout (with_read event None)
    → IsTaken s event mid rose core reply new → GivesFront now next (held ++ reply_text s.layout reply) → IsPlayBegun s frames passes input faults rose before next
breaks s frames passes input rest behind core new event reply faults mid rose before now next held within p is asks t front =
    let u = turned s frames passes input rest behind core new event reply faults mid rose before now held within p is asks t in
    begun s frames passes input faults rose before next u.lines (script_of s.layout.scheme s.layout.levels behind) u.are u.failed
    (all_but_then_front before now next (held ++ reply_text s.layout reply) (play_text s frames passes u.lines) u.text front)

-- all lines are played, and what is held back is given
pub ends : (s : Scene) (frames passes : ℕ) (input rest : List ℕ) (core : Core) (faults rose : ℕ) (before now next : Option (List ℕ)) (held : List ℕ)
    → IsPlaying s frames passes input rest core faults rose before now held → script_of s.layout.scheme s.layout.levels rest ≡ [] → Appends now next held
    → IsPlay s frames passes input faults rose before next
ends s frames passes input rest core faults rose before now next held p none given = (
  p.lines,
  record { are = sym (p.are ∙ ap (λ es. events p.lines ++ es) none ∙ append-nil (events p.lines)); failed = p.failed },
  all_but_end before now next held (play_text s frames passes p.lines) p.text given,
)

-- or some front of it is
pub ends_broken : (s : Scene) (frames passes : ℕ) (input rest : List ℕ) (core : Core) (faults rose : ℕ) (before now next : Option (List ℕ)) (held : List ℕ)
    → IsPlaying s frames passes input rest core faults rose before now held → GivesFront now next held → IsPlayBegun s frames passes input faults rose before next
ends_broken s frames passes input rest core faults rose before now next held p front =
    begun s frames passes input faults rose before next p.lines (script_of s.layout.scheme s.layout.levels rest) p.are p.failed
    (all_but_then_front before now next held (play_text s frames passes p.lines) p.text front)

-- ---- where files are told

pub where_told : {X : Type 0} (told : Option X) (P : X → Type 0) → ((x : X) → P x) → IfSome told P
where_told None P all = tt
where_told (Some x) P all = all x

pub of_told : {X : Type 0} (told : Option X) (P R : X → Type 0) → ((x : X) → P x → R x) → IfSome told P → IfSome told R
of_told None P R all p = tt
of_told (Some x) P R all p = all x p

pub of_both : {X : Type 0} (told : Option X) (P Q R : X → Type 0) → ((x : X) → P x → Q x → R x) → IfSome told P → IfSome told Q → IfSome told R
of_both None P Q R all p q = tt
of_both (Some x) P Q R all p q = all x p q

pub on_ok : {T E : Type 0} (r : Result T E) (P Q : Type 0) → (P → Q) → OnOk r P → OnOk r Q
on_ok (Ok x) P Q to p = to p
on_ok (Err e) P Q to p = tt

pub not_ok : {T E : Type 0} (r : Result T E) (Q : E → Type 0) (P : Type 0) → IsErrAnd r Q → OnOk r P
not_ok (Ok x) Q P err = absurd err
not_ok (Err e) Q P err = tt
