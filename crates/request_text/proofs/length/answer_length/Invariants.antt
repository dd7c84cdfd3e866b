use Rattle.std.proofs.Common.{◌≡◌, ◌≤◌, ◌+◌, ◌*◌, take, length}
use Rattle.std.specs.List.{flat_map}
use Rattle.implicit_tiling.specs.Text.{word_line, step_end_line}
use Rattle.tile_coords.specs.Ends.{end_seen}
use Rattle.request_text.proofs.length.answer_length.Given as goal

-- the end line and the lines so far are counted
abbrev pub invariant-loop-word : goal.invariant-loop-word
invariant-loop-word l = record {
  so_far : l.count ≡ length (flat_map (word_line l.layout) (take l.word-index l.words)) + length (step_end_line l.layout.scheme (length l.words) (end_seen l.layout.scheme l.fn.end));
  few : l.count ≤ 200 + 180000 * l.word-index;
}
