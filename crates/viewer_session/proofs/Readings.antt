-- Roots that are held one after another.
use Rattle.std.proofs.Math.Logic.{⊎_elim}
use Rattle.std.proofs.Common.{◌≡◌, ◌∙◌, ◌⊎◌, ℕ, zero, suc, ◌<◌, length, List, [], ◌∷◌, ◌++◌, Option, refl, ap, subst, inl, inr, arith}
use Rattle.std.specs.Prelude.{IfErr, Result, Ok, Err}
use Rattle.std.specs.List.{slice_index_or}
use Rattle.std.proofs.lemmas.List.Elements.{All-append}
use Rattle.implicit_tiling.specs.Code.{word_tile}
use Rattle.shared_pool.specs.declared.note.Note.{Note}
use Rattle.shared_pool.specs.declared.entry.Entry.TheVariants.{Granted}
use Rattle.shared_pool.specs.Books.{entered}
use Rattle.subtree_outcome.specs.declared.outcome.Outcome.{Outcome}
use Rattle.subtree_outcome.specs.Fetched.{HasFetched}
use Rattle.scene_frames.specs.Held.{IsHeldBy, IsStoppedBy}
use Rattle.published_prefix.specs.Seats.{Seat}
use Rattle.walk_course.specs.declared.tag.WalkTag.{WalkTag}
use Rattle.walk_course.specs.Course.{IsNextRoot}
use Rattle.viewer_session.specs.Sessions.{FramesPass}
use Rattle.viewer_session.specs.Looks.{HasLooked}
use Rattle.viewer_session.specs.Advances.{IsStuck, IsOnCourse, Holds, HasRead, HasReadUpTo}

-- what is so after notes with the same grants, and the same fetches
held_after : (tag : WalkTag) (number key : ℕ) (n n' m : Note ℕ Outcome) (before before' after : ℕ) → n'.granted ≡ n.granted → before' ≡ before
    → IsHeldBy tag.layout tag.told number key n' m before' after → IsHeldBy tag.layout tag.told number key n m before after
held_after tag number key n n' m before before' after same count held =
    let Fetched : ℕ → Type 0 = λ b. HasFetched tag.layout tag.told (word_tile tag.layout.scheme key ∷ []) b after in
    ⊎_elim
    (λ (x : (m.granted ≡ n'.granted) × (after ≡ before')). inl (x.0 ∙ same, x.1 ∙ count))
    (λ (x : (lost : Option ℕ) × (m.granted ≡ entered (Granted number key lost) n'.granted) × Fetched before').
    inr (x.0, x.1 ∙ ap (entered (Granted number key x.0)) same, subst Fetched count x.2)) held

holds_after : (tag : WalkTag) (number : ℕ) (keys : List ℕ) (n n' m : Note ℕ Outcome) (before before' after : ℕ) → n'.granted ≡ n.granted → before' ≡ before → Holds tag number keys n' m before' after → Holds tag number keys n m before after
holds_after tag number [] n n' m before before' after same count holds = (holds.0 ∙ same, holds.1 ∙ count)
holds_after tag number (key ∷ keys) n n' m before before' after same count holds =
    (holds.0, holds.1, held_after tag number key n n' holds.0 before before' holds.1 same count holds.2, holds.3)

holds_on : (tag : WalkTag) (number : ℕ) (keys more : List ℕ) (n mid m : Note ℕ Outcome) (before between after : ℕ) → Holds tag number keys n mid before between → Holds tag number more mid m between after
    → Holds tag number (keys ++ more) n m before after
holds_on tag number [] more n mid m before between after first later = holds_after tag number more n mid m before between after first.0 first.1 later
holds_on tag number (key ∷ keys) more n mid m before between after first later =
    (first.0, first.1, first.2, holds_on tag number keys more first.0 mid m first.1 between after first.3 later)

one_all : (P : ℕ → Type 0) (x : ℕ) → P x → (k d : ℕ) → k < length (x ∷ []) → P (slice_index_or (x ∷ []) k d)
one_all P x p zero d below = p
one_all P x p (suc k) d below = absurd (omega (arith, below))

-- one root was held
pub reads_one : (tag : WalkTag) (key : ℕ) (old new : FramesPass) (before after : ℕ) → IsOnCourse tag key → IsHeldBy tag.layout tag.told old.number key old.note new.note before after → HasRead tag old new before after
reads_one tag key old new before after on_walk held = record { keys = key ∷ []; on_walk = one_all (IsOnCourse tag) key on_walk; holds = (new.note, after, held, (refl, refl)) }

-- more roots were held
pub reads_on : (tag : WalkTag) (old mid new : FramesPass) (before between after : ℕ) → mid.number ≡ old.number → HasRead tag old mid before between → HasRead tag mid new between after
    → HasRead tag old new before after
reads_on tag old mid new before between after same first later = record {
  keys = first.keys ++ later.keys;
  on_walk = All-append (IsOnCourse tag) first.keys later.keys first.on_walk later.on_walk;
  holds = holds_on tag old.number first.keys later.keys old.note mid.note new.note before between after first.holds
      (subst (λ number. Holds tag number later.keys mid.note new.note between after) same later.holds);
}

-- no outcome of the last root, or nothing more
pub reads_up_to : (tag : WalkTag) (old mid new : FramesPass) (before between after : ℕ) → mid.number ≡ old.number → HasRead tag old mid before between → HasReadUpTo tag mid new between after
    → HasReadUpTo tag old new before after
reads_up_to tag old mid new before between after same first later = record {
  keys = first.keys ++ later.keys;
  note = later.note;
  between = later.between;
  on_walk = All-append (IsOnCourse tag) first.keys later.keys first.on_walk later.on_walk;
  holds = holds_on tag old.number first.keys later.keys old.note mid.note later.note before between later.between first.holds
      (subst (λ number. Holds tag number later.keys mid.note later.note between later.between) same later.holds);
  last = subst (λ number. ((new.note.granted ≡ later.note.granted) × (after ≡ later.between))
      ⊎ ((key : ℕ) × IsOnCourse tag key × IsStoppedBy tag.layout number key later.note new.note later.between after)) same later.last;
}

-- all that was held, and later nothing more
pub reads_no_more : (tag : WalkTag) (old new : FramesPass) (before after : ℕ) → HasRead tag old new before after → HasReadUpTo tag old new before after
reads_no_more tag old new before after read = record {
  keys = read.keys;
  note = new.note;
  between = after;
  on_walk = read.on_walk;
  holds = read.holds;
  last = inl (refl, refl);
}

-- one root, of which no outcome is held
pub reads_no_outcome : (tag : WalkTag) (key : ℕ) (old new : FramesPass) (before after : ℕ) → IsOnCourse tag key → IsStoppedBy tag.layout old.number key old.note new.note before after → HasReadUpTo tag old new before after
reads_no_outcome tag key old new before after on_walk stopped = record {
  keys = [];
  note = old.note;
  between = before;
  on_walk = λ i d below. absurd (omega (arith, below));
  holds = (refl, refl);
  last = inr (key, on_walk, stopped);
}

-- the root of a step that the seat takes is on the walk
pub on_course : (tag : WalkTag) (old mid : Seat WalkTag) (key : ℕ) → old.tag ≡ tag → HasLooked old mid → IsNextRoot mid.tag mid.steps key → IsOnCourse tag key
on_course tag old mid key of_tag looked root = (mid.steps, subst (λ (t : WalkTag). IsNextRoot t mid.steps key) (looked.tag ∙ of_tag) root)

pub if_err : {A E : Type 0} (r : Result A E) (P : Type 0) → P → IfErr r (λ _. P)
if_err (Ok x) P p = tt
if_err (Err e) P p = p

-- a root was held, or no outcome of it
pub reads_at_most_one : (tag : WalkTag) (key : ℕ) (old new : FramesPass) (before after : ℕ) → IsOnCourse tag key
    → IsHeldBy tag.layout tag.told old.number key old.note new.note before after ⊎ IsStoppedBy tag.layout old.number key old.note new.note before after → HasReadUpTo tag old new before after
reads_at_most_one tag key old new before after on_walk read = ⊎_elim
    (λ (x : IsHeldBy tag.layout tag.told old.number key old.note new.note before after). reads_no_more tag old new before after (reads_one tag key old new before after on_walk x))
    (λ (x : IsStoppedBy tag.layout old.number key old.note new.note before after). reads_no_outcome tag key old new before after on_walk x) read

-- a call that is stuck after others that weren't
pub stuck_on : (tag : WalkTag) (made : ℕ) (old mid new : FramesPass) → mid.note.busies ≡ old.note.busies → IsStuck (IsNextRoot tag made) mid new → IsStuck (IsOnCourse tag) old new
stuck_on tag made old mid new same s = (s.0, (made, s.1), s.2, s.3 ∙ same, s.4)
