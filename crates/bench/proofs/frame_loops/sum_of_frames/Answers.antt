use Rattle.std.proofs.Common.{ℕ, sym, subst}
use Rattle.frame_pool.specs.Frames.{Frames}
use Rattle.bench.proofs.Pins.{HavePins, empty_pins}
use Rattle.bench.proofs.frame_loops.sum_of_frames.Goals as goal

pub loop-call-init : goal.loop-call-init
loop-call-init c = subst (λ (p : Frames ℕ ℕ). HavePins 0 p.census) (sym c.in_ok-pool.ensures) (empty_pins 1024)
