use Rattle.std.proofs.Common.{ap, ◌∙◌}
use Rattle.tile_occupancy.specs.Occupied.{Occupancy}
use Rattle.tile_builder.proofs.Rows.{worked_names}
use Rattle.tile_builder.proofs.tests.build_worked.Goals as goal

pub build-requires-clause-names : goal.build-requires-clause-names
build-requires-clause-names c =
    worked_names c.in_ok-layout.field-0 c.in_ok-occupancy.occupancy.words c.in_ok-layout.ensures
    (ap (λ (o : Occupancy). o.words) c.in_ok-occupancy.ensures.words ∙ c.in_ok-words.ensures.items)
