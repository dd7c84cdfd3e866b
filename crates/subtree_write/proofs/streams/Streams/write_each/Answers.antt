use Rattle.subtree_write.proofs.Added.{one_more, value_more}
use Rattle.subtree_write.proofs.streams.Streams.write_each.Goals as goal

pub loop-bits-preserved : goal.loop-bits-preserved
loop-bits-preserved c =
    let old = c.args.self.now in
    let mid = c.loop-bits.self in
    let all = c.args.availabilities.now in
    let i = c.loop-bits.bits-index in
    let bits = c.bits-item.result in
    let kept = c.loop-bits.invariant in
    record {
      values = value_more old mid all i bits c.loop-bits.values.items c.push.new.self.items c.in_ok-write.field-0 c.loop-bits-test.true c.bits-item.is kept.added kept.values c.in_ok-push.ensures.items c.in_ok-write.ensures.value;
      added = one_more old mid c.write.new.self all i bits c.loop-bits-test.true c.bits-item.is kept.added c.in_ok-write.ensures.added;
    }
