use Rattle.std.proofs.Common.{◌≡◌, ◌≤◌, ◌<◌, ◌-◌, length, take, ap, ◌∙◌, arith, rules}
use Rattle.std.proofs.lemmas.List.{with_items_is, places}
use borrow.Rule.Slice.PartMut.{put_mid}
use Rattle.http_front.proofs.Filled.{taken_behind, part_long}
use Rattle.http_front.proofs.buffer.HeadBuffer.fill.Goals as goal

pub returns-in-Got-clause-next : goal.returns-in-Got-clause-next
returns-in-Got-clause-next g c =
    let at = c.self.inside.end - c.self.inside.start in
    let items = c.deref_mut.result.now in
    let same : items ≡ c.move_to_front.new.bytes.items = search rules in
    let long : length c.take-answer.new.buffer ≡ length items - at = search rules in
    let within : at ≤ length items = omega (arith, c.self.invariant, ap (λ w. length w) same, c.move_to_front.ensures.long) in
    let stood : take at items ≡ c.args.self.now = ap (take at) same ∙ c.move_to_front.ensures.moved ∙ c.self.view_is in
    let room : 0 < length c.take-answer.new.buffer =
    omega (arith, long, c.requires.room, part_long c.self.inside.bytes.items c.args.self.now c.self.inside.start c.self.inside.end c.self.invariant.0 (omega (arith, c.self.invariant)) c.self.view_is, ap (λ w. length w) same, c.move_to_front.ensures.long, c.self.invariant) in
    taken_behind items _ c.take-answer.new.buffer c.args.self.now at (length items - at) c.in-Got.count _ _
    (with_items_is c.move_to_front.new.bytes (put_mid at (length items - at) items c.take-answer.new.buffer) (search (rules, places))) within c.in-Got.ensures.some.0 (c.in-Got.ensures.some.1 room) stood c.in-Got.ensures.next
