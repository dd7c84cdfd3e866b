use Rattle.std.proofs.Common.{◌≡◌, ◌≤◌, ◌+◌, ◌*◌, length}
use Rattle.std.specs.Str.{IsUtf8}
use Rattle.implicit_tiling.specs.Template.{filled}
use Rattle.uri_template.specs.Filling.{scheme_of, tile_of}
use Rattle.uri_template.proofs.length.length_filled.Given as goal

abbrev pub invariant-loop-before : goal.invariant-loop-before
invariant-loop-before l = record {
  text : IsUtf8 l.rest;
  so_far : l.count + length (filled (scheme_of l.axes) l.rest (tile_of l.level l.coords)) ≡ length (filled (scheme_of l.axes) l.text (tile_of l.level l.coords));
  room : l.count + 10 * length l.rest ≤ 10 * length l.text;
}

abbrev pub decreases-loop-before : goal.decreases-loop-before
decreases-loop-before l = length l.rest
