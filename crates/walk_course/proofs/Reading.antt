-- What was read for the next root is what the next step wants, and the step is one to publish.
use Rattle.std.proofs.Common.{◌≡◌, ℕ, List, Option, Some, None, refl, sym, ap, subst, ◌∙◌}
use Rattle.std.specs.Prelude.{IsSomeAnd}
use Rattle.implicit_tiling.specs.declared.Scheme.{Scheme}
use Rattle.implicit_tiling.specs.Tile.{Tile}
use Rattle.implicit_tiling.specs.Code.{word_tile}
use Rattle.implicit_tileset.specs.Scene.{scene_of}
use Rattle.tile_coords.specs.declared.walk_end.WalkEnd.{WalkEnd}
use Rattle.subtree_outcome.specs.declared.outcome.Outcome.{Outcome}
use Rattle.subtree_outcome.specs.Outcomes.{outcome_seen, IsOutcomeAt, IsOutcomeOf}
use Rattle.region_cursor.specs.Cursor.{cursor_key, next_root, IsWalkOf}
use Rattle.region_cursor.proofs.Callers.{next_root_of_key}
use Rattle.walk_course.specs.Walk.{Walk, IsReadFor}
use Rattle.walk_course.specs.Course.{IsToldFor, MakesStep}
use Rattle.walk_course.specs.declared.tag.WalkTag.{WalkTag}
use Rattle.walk_course.proofs.Steps.{if_told}

read_by : (tag : WalkTag) (w : Walk) (found : Outcome) (next : Option ℕ) → cursor_key w.state ≡ next → IsSomeAnd next (λ root. IsOutcomeOf tag.layout tag.told root found)
    → IsWalkOf tag.layout tag.region w.state → IsReadFor w found × IsToldFor tag w found
read_by tag w found None at read of_plan = absurd read
read_by tag w found (Some key) at read of_plan =
    let same : next_root w.state ≡ word_tile tag.layout.scheme key = next_root_of_key w.state key at ∙ ap (λ (e : Scheme). word_tile e key) of_plan.same_scheme in (
      record { layout = tag.layout; region = tag.region; of_plan = of_plan; read = subst (λ (t : Tile). IsOutcomeAt tag.layout t found) (sym same) read.read },
      if_told tag.told (λ all. (scene_of all tag.layout).outcome (word_tile tag.layout.scheme key) ≡ outcome_seen found)
          (λ all. (scene_of all tag.layout).outcome (next_root w.state) ≡ outcome_seen found) (λ all is. ap ((scene_of all tag.layout).outcome) same ∙ is) read.of_scene,
    )

pub read_next : (tag : WalkTag) (w : Walk) (found : Outcome) → IsSomeAnd (cursor_key w.state) (λ root. IsOutcomeOf tag.layout tag.told root found)
    → IsWalkOf tag.layout tag.region w.state → IsReadFor w found × IsToldFor tag w found
read_next tag w found read of_plan = read_by tag w found (cursor_key w.state) refl read of_plan

-- a step by the words and the end that are handed on
pub handed_on : (tag : WalkTag) (k n : ℕ) (words given : List ℕ) (end told : WalkEnd) (after : Walk) → given ≡ words → told ≡ end → MakesStep tag k n words end after → MakesStep tag k n given told after
handed_on tag k n words given end told after same same_end made =
    subst (λ (ws : List ℕ). MakesStep tag k n ws told after) (sym same) (subst (λ (e : WalkEnd). MakesStep tag k n words e after) (sym same_end) made)
