use Rattle.std.proofs.Common.{rules, ◌≡◌, ◌++◌, ◌∙◌, ap, subst, string_bytes, false}
use Rattle.scene_ports.specs.Output.{GivesFront}
use Rattle.http_text.specs.Replies.{reply_head}
use Rattle.http_front.specs.Table.{whole_reply}
use Rattle.http_connection.proofs.giving.give_text.Goals as goal

pub returns-in-Err-Memory-clause-reply : goal.returns-in-Err-Memory-clause-reply
returns-in-Err-Memory-clause-reply g c =
    let body = g.V.Viewers.text c.args.viewers.now in
    let head : string_bytes c.reply_head.new.out ≡ reply_head 200 c.args.length c.args.close = search rules in
    let all : string_bytes c.reply_head.new.out ++ body ≡ whole_reply 200 body c.args.close false =
    ap (λ w. w ++ body) (head ∙ ap (λ n. reply_head 200 n c.args.close) c.requires.length) in
    subst (GivesFront (g.L.Outlet.given c.args.link.now) (g.L.Outlet.given c.write_text.new.out)) all c.in-Err-Memory.ensures.front
