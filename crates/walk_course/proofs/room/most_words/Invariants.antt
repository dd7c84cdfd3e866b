use Rattle.std.proofs.Common.{◌≡◌, ◌*◌, ◌^◌, ◌≤◌}
use Rattle.walk_course.specs.Spread.{places_above}
use Rattle.walk_course.proofs.room.most_words.Given as goal

abbrev pub invariant-loop-above : goal.invariant-loop-above
invariant-loop-above l = (l.places ≡ places_above l.fn.region l.above) × (l.places ≤ l.above * 2 ^ 96) × (l.above ≤ l.above-end)
