use Rattle.std.proofs.Common.{◌≡◌, ◌<◌, ◌≤◌, ◌+◌, ℕ, slice_index}
use Rattle.published_prefix.proofs.reading.Prefix+C.read.Given as goal

abbrev pub invariant-loop-i : goal.invariant-loop-i
invariant-loop-i g l = record {
  table : l.place.table_id ≡ l.initial.place.table_id;
  id : l.place.id ≡ l.initial.place.id;
  me : l.place.me ≡ l.initial.place.me;
  words : (j : ℕ) → j < l.i → g.C.Course.word_at l.initial.place.me.0.tag (l.from + j) (slice_index l.out j);
  others : (j : ℕ) → l.i ≤ j → slice_index l.out j ≡ slice_index l.initial.out j;
}
