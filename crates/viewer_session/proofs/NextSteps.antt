-- The work that a seat has taken goes on by a step where it has a next key.
use Rattle.std.proofs.Common.{◌≡◌, ◌∙◌, ℕ, true, Some, refl, sym, subst}
use Rattle.tile_coords.specs.declared.walk_end.WalkEnd.{WalkEnd}
use Rattle.tile_coords.specs.declared.walk_end.WalkEnd.TheVariants.{Partial, Complete, TooMany, Fault}
use Rattle.published_prefix.specs.Seats.{Seat}
use Rattle.region_cursor.specs.Cursor.{cursor_key}
use Rattle.walk_course.specs.Walk.{Walk, GoesOn}
use Rattle.walk_course.specs.Course.{IsHead, Fits, IsNextRoot}
use Rattle.walk_course.specs.declared.tag.WalkTag.{WalkTag}
use Rattle.viewer_session.specs.Looks.{IsStep}

goes_on_partial : (e : WalkEnd) (key : ℕ) → GoesOn e (Some key) → e ≡ Partial
goes_on_partial Partial key going = refl
goes_on_partial Complete key going = absurd (cc)
goes_on_partial TooMany key going = absurd (cc)
goes_on_partial (Fault root number) key going = absurd (cc)

pub is_step : (seat : Seat WalkTag) (work : Walk) (key : ℕ) → seat.has_work ≡ true → IsHead seat.tag seat.steps seat.length seat.end → Fits seat.tag seat.steps seat.length seat.end work
    → Some key ≡ cursor_key work.state → GoesOn work.end (Some key) → IsNextRoot seat.tag seat.steps key → IsStep seat work key
is_step seat work key out course fits key_is going root =
    let partial : seat.end ≡ Partial = sym fits.end_is ∙ goes_on_partial work.end key going in record {
      out = out;
      partial = partial;
      course = subst (λ (e : WalkEnd). IsHead seat.tag seat.steps seat.length e) partial course;
      fits = subst (λ (e : WalkEnd). Fits seat.tag seat.steps seat.length e work) partial fits;
      key_is = sym key_is;
      root = root;
    }
