use Rattle.std.proofs.Common.{◌≡◌, ◌∙◌, suc, ℕ, ◌+◌, ◌-◌, ◌<◌, sym, ap, subst, arith}
use Rattle.std.specs.List.{range_with_len}
use Rattle.std.specs.Map.{keys_of}
use Rattle.frame_pool.proofs.Linked.{keys-put}
use Rattle.frame_pool.proofs.order.FrameOrder.new.Goals as goal

pub loop-frame-preserved : goal.loop-frame-preserved
loop-frame-preserved c =
    let n = c.args.frames in
    let i = c.loop-frame.frame in
    let most = c.loop-frame.auto.frame in
    let next : i ≡ i - 1 + 1 = omega arith in
    let more : suc (n - i) ≡ n - (i - 1) = omega arith in
    let room : n - i < c.loop-frame.order.cap = subst (λ (k : ℕ). n - i < k) (sym c.loop-frame.invariant.cap) (omega arith) in
    record {
      keys = ap (λ o. keys_of o.entries) c.in_ok-put.ensures.entries
          ∙ keys-put c.loop-frame.order tt (i - 1) (n - i) (c.loop-frame.invariant.keys ∙ ap (λ k. range_with_len k (n - i)) next) room
          ∙ ap (range_with_len (i - 1)) more;
      cap = ap (λ o. o.cap) c.in_ok-put.ensures.entries ∙ c.loop-frame.invariant.cap;
    }
