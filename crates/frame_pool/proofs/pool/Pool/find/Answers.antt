use Rattle.std.proofs.Common.{sym, subst}
use Rattle.frame_pool.specs.declared.frame.Asked.TheVariants.{Hit, Loading as Waiting}
use Rattle.frame_pool.specs.Frames.{Frames, HasKeysOnce}
use Rattle.frame_pool.specs.Moves.{IsAskAnswer, NoneHas}
use Rattle.frame_pool.proofs.Asking.{no_hit-loading, no_hit-none}
use Rattle.frame_pool.proofs.Holders.{ready-at, loading-at, none-has}
use Rattle.frame_pool.proofs.pool.Pool.find.Goals as goal

pub returns-in-Ready : goal.returns-in-Ready
returns-in-Ready g c =
    let ready = ready-at g.K.PartialEq.eq c.args.key c.self.inside.census.items c.deref.result.now c.in-Some.frame c.index.result.now c.in-Ready.key c.in-Ready.pins c.in-Some.ensures c.deref.ensures.value c.index.ensures c.in-Ready.is in
    record {
      found = subst (λ (p : Frames g.row.K.Denot g.row.V.Denot). IsAskAnswer g.K.PartialEq.eq c.args.key p (Hit c.in-Some.frame)) c.self.view_is (c.in-Ready.key, c.in-Ready.pins, ready.0, ready.1);
      none = tt;
    }

pub returns-in_default : goal.returns-in_default
returns-in_default g c =
    let loading = loading-at g.K.PartialEq.eq c.args.key c.self.inside.census.items c.deref.result.now c.in-Some.frame c.index.result.now c.in-Some.ensures c.deref.ensures.value c.index.ensures c.in_default.not-Ready in
    let once = subst (λ (p : Frames g.row.K.Denot g.row.V.Denot). HasKeysOnce g.K.PartialEq.eq p.census) c.self.view_is c.self.invariant.frames.keys in
    let waits = subst (λ (p : Frames g.row.K.Denot g.row.V.Denot). IsAskAnswer g.K.PartialEq.eq c.args.key p Waiting) c.self.view_is (c.in-Some.frame, loading.0, loading.1, loading.2) in
    record { found = tt; none = no_hit-loading g.K.PartialEq.eq c.args.key c.args.self.now once waits }

pub returns-in-None : goal.returns-in-None
returns-in-None g c =
    let none = subst (λ (p : Frames g.row.K.Denot g.row.V.Denot). NoneHas g.K.PartialEq.eq c.args.key p.census) c.self.view_is (none-has g.K.PartialEq.eq c.args.key c.self.inside.census.items c.deref.result.now c.in-None.ensures c.deref.ensures.value) in
    record { found = tt; none = no_hit-none g.K.PartialEq.eq c.args.key c.args.self.now none }
