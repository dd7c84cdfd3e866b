use Rattle.std.proofs.Common.{rules, ◌≡◌, subst, false}
use Rattle.implicit_tiling.specs.Text.{refused_text}
use Rattle.http_front.specs.Table.{whole_reply}
use Rattle.http_connection.specs.Steps.{GivesReply}
use Rattle.http_connection.proofs.giving.give_refusal.Goals as goal

pub returns-clause-reply : goal.returns-clause-reply
returns-clause-reply g c =
    let body : c.deref.result.now ≡ refused_text c.args.number = search rules in
    subst (λ w. GivesReply (g.L.Outlet.given c.args.link.now) (g.L.Outlet.given c.give.new.link) (whole_reply 400 w c.args.close false) c.args.close c.give.result) body c.give.ensures.reply
