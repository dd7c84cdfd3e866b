use Rattle.std.proofs.Common.{◌↔◌, drop}
use Rattle.scene_ports.specs.Files.{files_of, HasDistinctNames}
use Rattle.scene_ports.proofs.pairs.has_distinct_names.Given as goal

abbrev pub invariant-loop-at : goal.invariant-loop-at
invariant-loop-at l = HasDistinctNames (files_of l.files) ↔ HasDistinctNames (files_of (drop l.at l.files))
