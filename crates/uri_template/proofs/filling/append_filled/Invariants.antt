use Rattle.std.proofs.Common.{◌≡◌, ◌++◌, length, take, string_bytes}
use Rattle.std.specs.Str.{IsUtf8}
use Rattle.implicit_tiling.specs.Template.{filled}
use Rattle.uri_template.specs.Filling.{scheme_of, tile_of}
use Rattle.uri_template.proofs.filling.append_filled.Given as goal

abbrev pub invariant-loop-before : goal.invariant-loop-before
invariant-loop-before l = record {
  text : IsUtf8 l.rest;
  so_far : string_bytes l.out ++ filled (scheme_of l.axes) l.rest (tile_of l.level l.coords) ≡ string_bytes l.fn.out ++ filled (scheme_of l.axes) l.text (tile_of l.level l.coords);
  kept : take (length (string_bytes l.fn.out)) (string_bytes l.out) ≡ string_bytes l.fn.out;
}

abbrev pub decreases-loop-before : goal.decreases-loop-before
decreases-loop-before l = length l.rest
