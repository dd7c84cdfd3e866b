use Rattle.std.proofs.Common.{refl, codes, subst}
use Rattle.http_front.specs.declared.decided.Decided.TheVariants.{BadRequest, NotFound, NotAllowed}
use Rattle.http_front.specs.Table.{closing, going_on}
use Rattle.http_connection.specs.Steps.{GivesAsked}
use Rattle.http_connection.proofs.Replying.{fixed, asked_by}
use Rattle.http_connection.proofs.desk.Desk.act.Goals as goal

pub returns-in-BadRequest-clause-acts : goal.returns-in-BadRequest-clause-acts
returns-in-BadRequest-clause-acts g c =
    fixed g.V.Viewers.may _ c.args.decided BadRequest c.args.self.now.line.items (closing 400 (codes "bad request")) _ _ c.args.close c.args.quiet _ c.in-BadRequest.is refl c.give.ensures.reply

pub returns-in-NotFound-clause-acts : goal.returns-in-NotFound-clause-acts
returns-in-NotFound-clause-acts g c =
    fixed g.V.Viewers.may _ c.args.decided NotFound c.args.self.now.line.items (going_on 404 (codes "not found")) _ _ c.args.close c.args.quiet _ c.in-NotFound.is refl c.give-in-NotFound.ensures.reply

pub returns-in-NotAllowed-clause-acts : goal.returns-in-NotAllowed-clause-acts
returns-in-NotAllowed-clause-acts g c =
    fixed g.V.Viewers.may _ c.args.decided NotAllowed c.args.self.now.line.items (going_on 405 (codes "method not allowed")) _ _ c.args.close c.args.quiet _ c.in-NotAllowed.is refl c.give-in-NotAllowed.ensures.reply

pub returns-in-Asks-clause-acts : goal.returns-in-Asks-clause-acts
returns-in-Asks-clause-acts g c =
    let gives = subst (λ w. GivesAsked g.V.Viewers.may c.args.viewers.now c.ask.new.viewers c.in-Asks.route w (g.L.Outlet.given c.args.link.now) (g.L.Outlet.given c.ask.new.link) c.args.close c.ask.result)
    c.deref.ensures.value c.ask.ensures.asked in
    asked_by g.V.Viewers.may _ _ c.args.decided c.in-Asks.route c.args.self.now.line.items _ _ c.args.close c.args.quiet _ c.in-Asks.is c.requires gives
