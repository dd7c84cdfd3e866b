use Rattle.std.proofs.Common.{string_bytes}
use Rattle.http_text.proofs.Laying.{pieces_make_the_head, on_ok, on_err}
use Rattle.http_text.proofs.replies.reply_head.Goals as goal

pub returns-clause-head : goal.returns-clause-head
returns-clause-head c =
    let whole = pieces_make_the_head c.args.status c.args.length c.args.close c.format.result.now c.reason.result.now c.allow.result.now c.format-2.result.now c.connection.result.now
    c.format.ensures.text c.reason.ensures c.allow.ensures c.format-2.ensures.text c.connection.ensures in
    on_ok c.append_all.result (string_bytes c.append_all.new.out) (string_bytes c.args.out.now) _ _ whole c.append_all.ensures.all

pub returns-clause-room : goal.returns-clause-room
returns-clause-room c =
    let whole = pieces_make_the_head c.args.status c.args.length c.args.close c.format.result.now c.reason.result.now c.allow.result.now c.format-2.result.now c.connection.result.now
    c.format.ensures.text c.reason.ensures c.allow.ensures c.format-2.ensures.text c.connection.ensures in
    on_err c.append_all.result _ _ _ _ whole c.append_all.ensures.room
