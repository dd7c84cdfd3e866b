use Rattle.shared_pool.proofs.Opens.{opens}
use Rattle.shared_pool.proofs.host.open.Goals as goal

pub new-requires : goal.new-requires
new-requires g c = opens g.R.Key.PartialEq.eq g.R.PoolRule.fits g.met.R.Key.Eq.laws (record { frames = g.L.Sizes.frames; passes = g.L.Sizes.passes; own = g.J.Tells.told }) c.args.frames c.requires.stated.1 c.args.shared c.requires.empty.0 c.requires.empty.1
