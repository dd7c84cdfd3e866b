use Rattle.std.proofs.Common.{refl}
use Rattle.replay_core.proofs.Numbered.{plans_stay, holder_set}
use Rattle.replay_core.proofs.cursors.Cursors.set_holder.Goals as goal

pub invariant_of-self : goal.invariant_of-self
invariant_of-self c = plans_stay c.self.inside.plans.keys c.self.inside.list.items c.args.self.now c.args.number c.index_mut.result.now (record { plan = c.index_mut.result.now.plan; walk = c.index_mut.result.now.walk; holder = c.args.holder })
    c.self.invariant c.self.view_is c.requires c.index_mut.ensures.value refl

pub returns : goal.returns
returns c = holder_set c.self.inside.list.items c.args.self.now c.args.number c.index_mut.result.now c.args.holder c.self.view_is c.requires c.index_mut.ensures.value
