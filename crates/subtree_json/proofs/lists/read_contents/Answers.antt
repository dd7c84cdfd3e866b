use Rattle.std.proofs.Common.{◌+◌, ◌∷◌, [], ◌∙◌, sym, ap, rules, map}
use Rattle.std.proofs.lemmas.List.{map-append}
use Rattle.std.specs.Prelude.{option_map}
use Rattle.serde_json.specs.View.{view}
use Rattle.implicit_tileset.specs.Record.{content_of}
use Rattle.subtree_json.specs.Seen.{content_seen}
use Rattle.implicit_tileset.proofs.EachRead.{goes_on, goes_on-start, goes_on-step, goes_on-end}
use Rattle.subtree_json.proofs.Listed.{IsList, listed_as}
use Rattle.subtree_json.proofs.lists.read_contents.Goals as goal

pub loop-member-init : goal.loop-member-init
loop-member-init c =
    ap (λ done. goes_on content_of (map content_seen done) c.deref-member-items.result.now 0) c.in_ok-parts.ensures.items ∙ goes_on-start content_of c.deref-member-items.result.now

pub loop-member-preserved : goal.loop-member-preserved
loop-member-preserved c =
    ap (λ done. goes_on content_of (map content_seen done) c.deref-member-items.result.now (c.loop-member.member-index + 1)) c.in_ok-push.ensures.items
    ∙ ap (λ done. goes_on content_of done c.deref-member-items.result.now (c.loop-member.member-index + 1)) (map-append content_seen c.loop-member.parts.items (c.content_of.result ∷ []))
    ∙ goes_on-step content_of (map content_seen c.loop-member.parts.items) (content_seen c.content_of.result) c.deref-member-items.result.now c.loop-member.member-index c.member-item.result c.loop-member-test.true c.member-item.is c.content_of.ensures
    ∙ c.loop-member.invariant

pub returns : goal.returns
returns c =
    let is_list : IsList (option_map (λ v. view v.now) c.args.list) c.deref-member-items.result.now = record {
      value = view c.in-Some.list.now;
      there = search rules;
      values = search rules;
    } in
    sym (listed_as content_of _ _ _ is_list (sym c.loop-member.invariant ∙ goes_on-end content_of (map content_seen c.loop-member.parts.items) c.deref-member-items.result.now c.loop-member.member-index c.loop-member-test.false))
