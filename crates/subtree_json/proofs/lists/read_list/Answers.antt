use Rattle.std.proofs.Common.{◌+◌, ◌∙◌, sym, ap, rules}
use Rattle.std.specs.Prelude.{option_map}
use Rattle.serde_json.specs.View.{view}
use Rattle.implicit_tileset.proofs.EachRead.{goes_on, goes_on-start, goes_on-step, goes_on-fails, goes_on-end}
use Rattle.subtree_json.proofs.Listed.{IsList, listed_as}
use Rattle.subtree_json.proofs.lists.read_list.Goals as goal

pub loop-member-init : goal.loop-member-init
loop-member-init g c = ap (λ done. goes_on g.T.ListedPart.stated done c.deref-member-items.result.now 0) c.in_ok-parts.ensures.items ∙ goes_on-start g.T.ListedPart.stated c.deref-member-items.result.now

pub loop-member-preserved : goal.loop-member-preserved
loop-member-preserved g c =
    ap (λ done. goes_on g.T.ListedPart.stated done c.deref-member-items.result.now (c.loop-member.member-index + 1)) c.in_ok-push.ensures.items
    ∙ goes_on-step g.T.ListedPart.stated c.loop-member.parts.items c.in-Some-found.part c.deref-member-items.result.now c.loop-member.member-index c.member-item.result c.loop-member-test.true c.member-item.is (sym c.in-Some-found.is ∙ c.in_ok-found.ensures)
    ∙ c.loop-member.invariant

pub returns : goal.returns
returns g c =
    let is_list : IsList (option_map (λ v. view v.now) c.args.list) c.deref-member-items.result.now = record {
      value = view c.in-Some.list.now;
      there = search rules;
      values = search rules;
    } in
    sym (listed_as g.T.ListedPart.stated _ _ _ is_list
    (sym c.loop-member.invariant ∙ goes_on-end g.T.ListedPart.stated c.loop-member.parts.items c.deref-member-items.result.now c.loop-member.member-index c.loop-member-test.false))

pub returns-in_default-found : goal.returns-in_default-found
returns-in_default-found g c =
    let is_list : IsList (option_map (λ v. view v.now) c.args.list) c.deref-member-items.result.now = record {
      value = view c.in-Some.list.now;
      there = search rules;
      values = search rules;
    } in
    sym (listed_as g.T.ListedPart.stated _ _ _ is_list (sym c.loop-member.invariant
    ∙ goes_on-fails g.T.ListedPart.stated c.loop-member.parts.items c.deref-member-items.result.now c.loop-member.member-index c.member-item.result c.loop-member-test.true c.member-item.is (sym c.in_default-found.is ∙ c.in_ok-found.ensures)))
