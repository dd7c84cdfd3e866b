use Rattle.std.proofs.Common.{◌≡◌, ◌≤◌, ◌+◌, ◌++◌, map, length}
use Rattle.request_text.specs.Input.{input_lines}
use Rattle.batch_blocks.proofs.round.next_round.Given as goal

-- the lines so far, and what stands behind them
abbrev pub invariant-loop-place : goal.invariant-loop-place
invariant-loop-place l = record {
  cut : input_lines l.input ≡ map (λ line. line.now) l.lines.items ++ input_lines l.rest;
  count : length l.lines.items ≡ l._place;
  shorter : length l.rest + length l.lines.items ≤ length l.input;
}
