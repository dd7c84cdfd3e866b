use Rattle.std.proofs.Common.{◌≡◌, length, string_bytes, rules}
use Rattle.std.proofs.lemmas.Str.{IsUtf8-string_bytes}
use Rattle.uri_template.proofs.Appending.{may_be_cut}
use Rattle.uri_template.proofs.template.Template.fill.Goals as goal

pub truncate-requires : goal.truncate-requires
truncate-requires c fits =
    let long : c.len-before.result ≡ length (string_bytes c.args.out.now) = search rules in
    let edge = may_be_cut _ _ _ (IsUtf8-string_bytes c.append_filled-appended.new.out) (IsUtf8-string_bytes c.args.out.now) long c.append_filled-appended.ensures.kept in
    (edge.0, λ some. edge.1)
