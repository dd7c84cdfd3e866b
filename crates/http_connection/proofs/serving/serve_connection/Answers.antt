use Rattle.std.proofs.Common.{◌+◌, arith, subst, sym}
use Rattle.http_front.specs.Talk.{IsClosed, IsCutShort}
use Rattle.http_connection.proofs.Talking.{begins, goes_on, few_replies, closes, ends, fails, starves, starves_at_once}
use Rattle.http_connection.proofs.serving.serve_connection.Goals as goal

pub returns-in_default-clause-cut_short : goal.returns-in_default-clause-cut_short
returns-in_default-clause-cut_short g c _ =
    subst (IsCutShort g.V.Viewers.may c.args.viewers.now c.args.viewers.now (g.L.Inlet.left c.args.link.now) (g.L.Inlet.left c.args.link.now) (g.L.Outlet.given c.args.link.now) (g.L.Outlet.given c.args.link.now))
    (sym c.ended.ensures.replies) (starves_at_once g.V.Viewers.may c.args.viewers.now (g.L.Inlet.left c.args.link.now) (g.L.Outlet.given c.args.link.now))

pub loop-replies-init : goal.loop-replies-init
loop-replies-init g c = record {
  talk = begins g.V.Viewers.may c.args.viewers.now (g.L.Inlet.left c.args.link.now) (g.L.Outlet.given c.args.link.now) c.in-Ok.desk.buffer c.in-Ok.ensures;
  few = omega arith;
  later = omega arith;
}

pub loop-replies-preserved : goal.loop-replies-preserved
loop-replies-preserved g c =
    let talk = goes_on g.V.Viewers.may c.args.viewers.now c.loop-replies.viewers c.serve_next.new.viewers (g.L.Inlet.left c.args.link.now) (g.L.Inlet.left c.loop-replies.link) (g.L.Inlet.left c.serve_next.new.link)
    (g.L.Outlet.given c.args.link.now) (g.L.Outlet.given c.loop-replies.link) (g.L.Outlet.given c.serve_next.new.link) c.loop-replies.desk.buffer c.serve_next.new.self.buffer c.loop-replies.replies
    c.loop-replies.invariant.talk c.in-Open.ensures.next in
    record {
      talk = talk;
      few = few_replies g.V.Viewers.may c.args.viewers.now c.serve_next.new.viewers (g.L.Inlet.left c.args.link.now) (g.L.Inlet.left c.serve_next.new.link) (g.L.Outlet.given c.args.link.now) (g.L.Outlet.given c.serve_next.new.link) c.serve_next.new.self.buffer (c.loop-replies.replies + 1) talk;
      later = omega (arith, c.loop-replies.invariant.later, c.in-Open.ensures.later);
    }

pub returns-in-Closed-clause-closed : goal.returns-in-Closed-clause-closed
returns-in-Closed-clause-closed g c _ =
    subst (IsClosed g.V.Viewers.may c.args.viewers.now c.serve_next.new.viewers (g.L.Inlet.left c.args.link.now) (g.L.Inlet.left c.serve_next.new.link) (g.L.Outlet.given c.args.link.now) (g.L.Outlet.given c.serve_next.new.link)) (sym c.ended-in-Closed.ensures.replies)
    (closes g.V.Viewers.may c.args.viewers.now c.loop-replies.viewers c.serve_next.new.viewers (g.L.Inlet.left c.args.link.now) (g.L.Inlet.left c.loop-replies.link) (g.L.Inlet.left c.serve_next.new.link)
    (g.L.Outlet.given c.args.link.now) (g.L.Outlet.given c.loop-replies.link) (g.L.Outlet.given c.serve_next.new.link) c.loop-replies.desk.buffer c.serve_next.new.self.buffer c.loop-replies.replies
    c.loop-replies.invariant.talk c.in-Closed.ensures.next)

pub returns-in-Ended-clause-closed : goal.returns-in-Ended-clause-closed
returns-in-Ended-clause-closed g c _ =
    subst (IsClosed g.V.Viewers.may c.args.viewers.now c.serve_next.new.viewers (g.L.Inlet.left c.args.link.now) (g.L.Inlet.left c.serve_next.new.link) (g.L.Outlet.given c.args.link.now) (g.L.Outlet.given c.serve_next.new.link)) (sym c.ended-in-Ended.ensures.replies)
    (ends g.V.Viewers.may c.args.viewers.now c.loop-replies.viewers c.serve_next.new.viewers (g.L.Inlet.left c.args.link.now) (g.L.Inlet.left c.loop-replies.link) (g.L.Inlet.left c.serve_next.new.link)
    (g.L.Outlet.given c.args.link.now) (g.L.Outlet.given c.loop-replies.link) (g.L.Outlet.given c.serve_next.new.link) c.loop-replies.desk.buffer c.serve_next.new.self.buffer c.loop-replies.replies
    c.loop-replies.invariant.talk c.in-Ended.ensures.next)

pub returns-in-LinkFault-clause-cut_short : goal.returns-in-LinkFault-clause-cut_short
returns-in-LinkFault-clause-cut_short g c _ =
    subst (IsCutShort g.V.Viewers.may c.args.viewers.now c.serve_next.new.viewers (g.L.Inlet.left c.args.link.now) (g.L.Inlet.left c.serve_next.new.link) (g.L.Outlet.given c.args.link.now) (g.L.Outlet.given c.serve_next.new.link)) (sym c.ended-in-LinkFault.ensures.replies)
    (fails g.V.Viewers.may c.args.viewers.now c.loop-replies.viewers c.serve_next.new.viewers (g.L.Inlet.left c.args.link.now) (g.L.Inlet.left c.loop-replies.link) (g.L.Inlet.left c.serve_next.new.link)
    (g.L.Outlet.given c.args.link.now) (g.L.Outlet.given c.loop-replies.link) (g.L.Outlet.given c.serve_next.new.link) c.loop-replies.desk.buffer c.serve_next.new.self.buffer c.loop-replies.replies
    c.loop-replies.invariant.talk c.in-LinkFault.ensures.next)

pub returns-in-Memory-clause-cut_short : goal.returns-in-Memory-clause-cut_short
returns-in-Memory-clause-cut_short g c _ =
    subst (IsCutShort g.V.Viewers.may c.args.viewers.now c.serve_next.new.viewers (g.L.Inlet.left c.args.link.now) (g.L.Inlet.left c.serve_next.new.link) (g.L.Outlet.given c.args.link.now) (g.L.Outlet.given c.serve_next.new.link)) (sym c.ended-in-Memory.ensures.replies)
    (starves g.V.Viewers.may c.args.viewers.now c.loop-replies.viewers c.serve_next.new.viewers (g.L.Inlet.left c.args.link.now) (g.L.Inlet.left c.loop-replies.link) (g.L.Inlet.left c.serve_next.new.link)
    (g.L.Outlet.given c.args.link.now) (g.L.Outlet.given c.loop-replies.link) (g.L.Outlet.given c.serve_next.new.link) c.loop-replies.desk.buffer c.serve_next.new.self.buffer c.loop-replies.replies
    c.loop-replies.invariant.talk c.in-Memory.ensures.next)
