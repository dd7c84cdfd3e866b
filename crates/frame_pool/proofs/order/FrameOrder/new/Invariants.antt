use Rattle.std.proofs.Common.{◌≡◌, ◌-◌}
use Rattle.std.specs.List.{range_with_len}
use Rattle.std.specs.Map.{keys_of}
use Rattle.frame_pool.proofs.order.FrameOrder.new.Given as goal

abbrev pub invariant-loop-frame : goal.invariant-loop-frame
invariant-loop-frame l = record {
  keys : keys_of l.order.entries ≡ range_with_len l.frame (l.frames - l.frame);
  cap : l.order.cap ≡ l.frames;
}
