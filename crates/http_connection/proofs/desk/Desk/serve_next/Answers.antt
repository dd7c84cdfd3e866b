use Rattle.std.proofs.Common.{refl}
use Rattle.http_connection.proofs.Replying.{head_served, long_served, bad_served, ended}
use Rattle.http_connection.proofs.desk.Desk.serve_next.Goals as goal

pub returns-in-Head-clause-next : goal.returns-in-Head-clause-next
returns-in-Head-clause-next g c =
    head_served g.V.Viewers.may _ _ _ (g.L.Inlet.left c.read_next.new.link) _ _ (g.L.Outlet.given c.read_next.new.link) _ c.args.self.now.buffer c.read_next.new.buffer _ c.in-Head.parts c.args.n _
    c.in-Head.ensures.taken c.in-Head.ensures.reading c.reply_to.ensures.left c.in-Head.ensures.given c.reply_to.ensures.behind c.reply_to.ensures.reply

pub returns-in-TooLong-clause-next : goal.returns-in-TooLong-clause-next
returns-in-TooLong-clause-next g c =
    long_served g.V.Viewers.may _ _ (g.L.Inlet.left c.read_next.new.link) _ _ (g.L.Outlet.given c.read_next.new.link) _ c.args.self.now.buffer c.read_next.new.buffer c.args.n _
    c.in-TooLong.ensures.taken c.in-TooLong.ensures.reading c.give.ensures.left c.in-TooLong.ensures.given c.give.ensures.reply

pub returns-in-Bad-clause-next : goal.returns-in-Bad-clause-next
returns-in-Bad-clause-next g c =
    bad_served g.V.Viewers.may _ _ (g.L.Inlet.left c.read_next.new.link) _ _ (g.L.Outlet.given c.read_next.new.link) _ c.args.self.now.buffer c.read_next.new.buffer c.args.n _
    c.in-Bad.ensures.taken c.in-Bad.ensures.reading c.give-in-Bad.ensures.left c.in-Bad.ensures.given c.give-in-Bad.ensures.reply

pub returns-in-End-clause-next : goal.returns-in-End-clause-next
returns-in-End-clause-next g c =
    ended g.V.Viewers.may _ _ _ _ _ c.args.self.now.buffer c.read_next.new.buffer c.args.n c.in-End.ensures.taken c.in-End.ensures.reading (c.in-End.ensures.end refl) c.in-End.ensures.given
