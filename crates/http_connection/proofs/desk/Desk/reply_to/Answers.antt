use Rattle.std.proofs.Common.{◌∙◌, ap, sym, slice_range}
use Rattle.http_front.specs.Requests.{whole}
use Rattle.http_front.specs.Table.{decision}
use Rattle.http_connection.proofs.Replying.{wants_body, none_given, acted}
use Rattle.http_connection.proofs.desk.Desk.reply_to.Goals as goal

pub act-requires : goal.act-requires
act-requires g c =
    wants_body c.args.parts.now (slice_range c.held.result.now c.args.parts.now.target_start c.args.parts.now.target_end) c.decide-decided.new.line.items c.in-Ok.decided c.requires.one_method c.in-Ok.ensures

pub returns-in-Ok-clause-reply : goal.returns-in-Ok-clause-reply
returns-in-Ok-clause-reply g c =
    let decides = ap (λ bytes. decision (whole c.args.parts.now (slice_range bytes c.args.parts.now.target_start c.args.parts.now.target_end))) (sym c.held.ensures.held) ∙ c.in-Ok.ensures in
    acted g.V.Viewers.may _ _ _ _ _ _ c.closes-close.result _ c.args.parts.now.head _ decides c.closes-close.ensures c.act.ensures.acts

pub returns-in-Err-clause-reply : goal.returns-in-Err-clause-reply
returns-in-Err-clause-reply g c = none_given g.V.Viewers.may c.args.viewers.now _ _ _ _
