use Rattle.std.proofs.Common.{◌≡◌, ◌∙◌, subst}
use Rattle.scene_ports.specs.Output.{GivesFront}
use Rattle.http_front.specs.Table.{whole_reply}
use Rattle.http_front.proofs.given.give_reply.Goals as goal

pub returns-clause-front : goal.returns-clause-front
returns-clause-front g c =
    let same : c.as_bytes.result.now ≡ whole_reply c.args.status c.args.body.now c.args.close c.args.quiet = c.as_bytes.ensures.value ∙ c.in_ok-put_together.ensures in
    subst (GivesFront (g.O.Outlet.given c.args.out.now) (g.O.Outlet.given c.give_all.new.out)) same c.give_all.ensures.front
