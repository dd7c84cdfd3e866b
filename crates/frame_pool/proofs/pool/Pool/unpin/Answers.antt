use Rattle.std.proofs.Common.{◌-◌, sym, subst}
use Rattle.std.proofs.lemmas.Option.{slice_get_within}
use Rattle.frame_pool.specs.Frames.{Frames, IsPinnedAt}
use Rattle.frame_pool.proofs.Places.{read-at}
use Rattle.frame_pool.proofs.Kept.{kept-pins}
use Rattle.frame_pool.proofs.pool.Pool.unpin.Goals as goal

pub invariant_of-self : goal.invariant_of-self
invariant_of-self g c =
    let pinned = subst (λ (p : Frames g.row.K.Denot g.row.V.Denot). IsPinnedAt p.census c.args.frame) (sym c.self.view_is) c.requires in
    let inside = slice_get_within c.self.inside.census.items c.args.frame _ pinned.2 in
    kept-pins g.K.PartialEq.eq c.self.inside.census.items c.self.inside.values.items c.self.inside.order c.self.inside.notes c.self.inside.least_empty c.args.frame c.self.invariant c.in-Ready.key c.in-Ready.pins (c.in-Ready.pins - 1)
    (read-at c.self.inside.census.items c.args.frame c.index.result.now _ inside c.index.ensures c.in-Ready.is)
