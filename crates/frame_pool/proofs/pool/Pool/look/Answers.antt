use Rattle.std.proofs.Common.{◌∙◌, sym, ap, subst, Some}
use Rattle.std.specs.List.{slice_get}
use Rattle.std.specs.Option.{option_copied}
use Rattle.frame_pool.specs.Frames.{Frames, IsReadyAt}
use Rattle.frame_pool.proofs.Looks.{value-read, is_some-read}
use Rattle.frame_pool.proofs.pool.Pool.look.Goals as goal

pub unwrap-requires : goal.unwrap-requires
unwrap-requires g c =
    let ready = subst (λ (p : Frames g.row.K.Denot g.row.V.Denot). IsReadyAt p.census c.args.frame) (sym c.self.view_is) c.requires in
    let h = value-read c.self.inside.census.items c.self.inside.values.items c.args.frame c.index.result.now c.self.invariant.frames.filled ready c.index.ensures in
    is_some-read h.0 c.index.result.now c.as_ref.result h.2 c.as_ref.ensures.variant

pub returns : goal.returns
returns g c =
    let ready = subst (λ (p : Frames g.row.K.Denot g.row.V.Denot). IsReadyAt p.census c.args.frame) (sym c.self.view_is) c.requires in
    let h = value-read c.self.inside.census.items c.self.inside.values.items c.args.frame c.index.result.now c.self.invariant.frames.filled ready c.index.ensures in
    ap (λ (p : Frames g.row.K.Denot g.row.V.Denot). slice_get p.values c.args.frame) (sym c.self.view_is) ∙ h.1 ∙ ap Some (sym (ap option_copied (sym c.unwrap.ensures) ∙ c.as_ref.ensures.value ∙ h.2))
