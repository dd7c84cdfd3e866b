use Rattle.std.proofs.Common.{◌≡◌, ℕ, [], take, None}
use Rattle.tile_coords.specs.declared.walk_end.WalkEnd.TheVariants.{Partial}
use Rattle.published_prefix.specs.declared.view.Turn.TheVariants.{At}
use Rattle.published_prefix.specs.Prefixes.{halves_of, with_turn}
use Rattle.published_prefix.proofs.writing.Prefix+C.write_words.Given as goal

abbrev pub invariant-loop-i : goal.invariant-loop-i
invariant-loop-i g l = record {
  table : l.place.table_id ≡ l.initial.place.table_id;
  id : l.place.id ≡ l.initial.place.id;
  me : (k : ℕ) → l.initial.place.me.0.turn ≡ At k l.length Partial [] None None → l.place.me ≡ (with_turn l.initial.place.me.0 (At k l.length Partial (halves_of (take l.i l.words)) None None), l.initial.place.me.1);
}
