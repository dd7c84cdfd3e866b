use Rattle.frame_pool.proofs.Runs.{gives_in_order, gives_in_reverse}
use Rattle.frame_pool.proofs.order.FrameOrder.iter.Goals as goal

pub returns-clause-runs : goal.returns-clause-runs
returns-clause-runs c = gives_in_order

pub returns-clause-runs_back : goal.returns-clause-runs_back
returns-clause-runs_back c = gives_in_reverse
