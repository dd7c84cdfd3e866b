use Rattle.std.proofs.Common.{◌≡◌, ◌++◌, length}
use Rattle.http_text.specs.Inner.{found_in}
use Rattle.http_text.specs.Targets.{values}
use Rattle.http_text.proofs.query.only_value.Given as goal

abbrev pub invariant-loop-part : goal.invariant-loop-part
invariant-loop-part l = values l.name l.query ≡ found_in l.found ++ values l.name l.rest

abbrev pub decreases-loop-part : goal.decreases-loop-part
decreases-loop-part l = length l.rest
