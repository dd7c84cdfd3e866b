use Rattle.std.proofs.Common.{◌≡◌, ◌∙◌, sym, ap, rules, map, take}
use Rattle.std.specs.Prelude.{None, Ok, Err}
use Rattle.implicit_tileset.specs.Record.{Availability, SubtreeRecord}
use Rattle.implicit_tileset.specs.SubtreeFile.{Used, for_nodes}
use Rattle.subtree_json.specs.Seen.{content_seen}
use Rattle.subtree_file.specs.Decoding.{used_in}
use Rattle.subtree_file.proofs.Contents.{goes_on-end, goes_on-malformed, of_all-wanted, used_in-is}
use Rattle.subtree_file.proofs.used.used_of.Goals as goal

pub returns-in-Malformed : goal.returns-in-Malformed
returns-in-Malformed c =
    let whole = c.deref.result.now in
    let m = c.min-contents.result in
    let f : Availability → Used = for_nodes c.args.layout.now in
    let seen : c.args.parts.now.contents ≡ map content_seen whole = sym (ap (λ (r : SubtreeRecord). r.contents) c.parts.view_is) ∙ ap (map content_seen) (sym c.deref.ensures.value) in
    let is : used_in c.args.layout.now c.args.parts.now ≡ Err 11 =
    used_in-is c.args.layout.now c.args.parts.now (take m whole) None
    (of_all-wanted c.args.layout.now c.args.parts.now whole m seen (search rules))
    (sym c.loop-part.invariant ∙ goes_on-malformed f c.loop-part.used.items (take m whole) c.loop-part.part-index _ c.loop-part-test.true c.in-Malformed.is) in
    rw (c.from.ensures) is

pub returns : goal.returns
returns c =
    let whole = c.deref.result.now in
    let m = c.min-contents.result in
    let f : Availability → Used = for_nodes c.args.layout.now in
    let seen : c.args.parts.now.contents ≡ map content_seen whole = sym (ap (λ (r : SubtreeRecord). r.contents) c.parts.view_is) ∙ ap (map content_seen) (sym c.deref.ensures.value) in
    used_in-is c.args.layout.now c.args.parts.now (take m whole) _
    (of_all-wanted c.args.layout.now c.args.parts.now whole m seen (search rules))
    (sym c.loop-part.invariant ∙ goes_on-end f c.loop-part.used.items (take m whole) c.loop-part.part-index c.loop-part-test.false)
    ∙ ap Ok (search rules)
