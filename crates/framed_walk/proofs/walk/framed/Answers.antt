use Rattle.std.proofs.Common.{◌≡◌, ℕ, length, sym, subst}
use Rattle.std.specs.Prelude.{IfSome}
use Rattle.implicit_tiling.specs.Region.{Region}
use Rattle.implicit_tiling.specs.Steps.{steps}
use Rattle.implicit_tileset.specs.Scene.{scene_of}
use Rattle.frame_pool.specs.Frames.{Frames}
use Rattle.subtree_outcome.specs.declared.outcome.Outcome.{Outcome}
use Rattle.framed_walk.specs.Reads.{HasRead, step_keys}
use Rattle.walk_laws.proofs.Regions.{accepted_is_a_region}
use Rattle.walk_laws.specs.Plans.{IsRegionOf}
use Rattle.framed_walk.proofs.walk.framed.Goals as goal

pub walk-requires-clause-region : goal.walk-requires-clause-region
walk-requires-clause-region g c =
    let region = c.args.plan.now.region in
    let is = accepted_is_a_region c.args.layout.now.levels region.level region.lo region.hi region c.requires.fits.accepted in
    let of : IsRegionOf c.args.layout.now region = record { is_region = is.0; below = is.1 } in
    subst (λ (r : Region). IsRegionOf c.args.layout.now r) (sym c.in_ok-cursor.ensures.of_layout.same_region) of

pub returns-clause-fetched : goal.returns-clause-fetched
returns-clause-fetched g c =
    let layout = c.args.layout.now in
    let fetched = c.in_ok-end.ensures.fetched in
    let P : Frames ℕ Outcome → Type 0 = λ p. HasRead layout (g.S.FileSource.told c.args.files.now) p fetched.0 c.walk.new.pool (g.S.FileSource.fetches c.args.files.now) (g.S.FileSource.fetches c.walk.new.files) in
    let Q : Region → Type 0 = λ r. IfSome (g.S.FileSource.told c.args.files.now) (λ all. fetched.0 ≡ step_keys (scene_of all layout) r (length (steps (scene_of all layout) r))) in
    record { keys = fetched.0; last = c.walk.new.pool; read = subst P c.in_ok-pool.ensures fetched.1; of_steps = subst Q c.in_ok-cursor.ensures.of_layout.same_region fetched.2 }
