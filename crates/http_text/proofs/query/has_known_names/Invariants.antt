use Rattle.std.proofs.Common.{◌≡◌, length}
use Rattle.std.specs.List.{list_all}
use Rattle.http_text.specs.Targets.{is_parameter, parts_of}
use Rattle.http_text.proofs.query.has_known_names.Given as goal

abbrev pub invariant-loop-part : goal.invariant-loop-part
invariant-loop-part l = list_all is_parameter (parts_of l.rest) ≡ list_all is_parameter (parts_of l.query)

abbrev pub decreases-loop-part : goal.decreases-loop-part
decreases-loop-part l = length l.rest
