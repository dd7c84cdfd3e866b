use Rattle.std.proofs.Common.{◌≡◌, ◌∙◌, ℕ, true, false, List, sym, ap}
use Rattle.std.specs.Prelude.{option_map}
use Rattle.std.specs.List.{list_any}
use Rattle.std.specs.Str.{bytes_eq}
use denote.Ref.{Bor}
use Rattle.implicit_tileset.specs.BufferFiles.{put_once}
use Rattle.subtree_file.specs.Needed.{shown}
use Rattle.subtree_file.proofs.Naming.{once_there, once_new}
use Rattle.subtree_file.proofs.needed.put_once.Goals as goal

pub returns-then-has_uri : goal.returns-then-has_uri
returns-then-has_uri c =
    let texts = c.args.uris.now.items in
    let there : list_any (λ t. bytes_eq c.in-Some.uri.now t.now) texts ≡ true =
    ap (list_any (λ (t : Bor (List ℕ)). bytes_eq c.in-Some.uri.now t.now)) (sym c.deref.ensures.value) ∙ sym c.has_uri.ensures ∙ c.if-has_uri.true in
    sym (ap (λ o. put_once (shown texts) (option_map (λ (u : Bor (List ℕ)). u.now) o)) c.in-Some.is ∙ once_there texts c.in-Some.uri.now there)

pub returns : goal.returns
returns c =
    let texts = c.args.uris.now.items in
    let new : list_any (λ t. bytes_eq c.in-Some.uri.now t.now) texts ≡ false =
    ap (list_any (λ (t : Bor (List ℕ)). bytes_eq c.in-Some.uri.now t.now)) (sym c.deref.ensures.value) ∙ sym c.has_uri.ensures ∙ c.if-has_uri.false in
    ap shown c.in_ok-push.ensures.items ∙ once_new texts c.in-Some.uri new ∙ sym (ap (λ o. put_once (shown texts) (option_map (λ (u : Bor (List ℕ)). u.now) o)) c.in-Some.is)
