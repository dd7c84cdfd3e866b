use Rattle.std.proofs.Common.{◌≡◌, ◌⊎◌, ◌∙◌, ℕ, Bool, true, take, List, IfOk, length, subst, sym, ap, ap₂, inl, inr, arith}
use Rattle.std.proofs.lemmas.List.{take_all}
use Rattle.std.proofs.lemmas.Result.{IfOk-weaker}
use Rattle.serde_json.specs.View.{view}
use Rattle.bitstream.specs.Bytes.{bytes_filled}
use Rattle.subtree_write.specs.Canonical.{is_mixed, constant_value, stream_value}
use Rattle.subtree_write.proofs.Mixed.{ones, not_mixed, mixed, has_one-positive, constant_of, stream_of}
use Rattle.subtree_write.proofs.Added.{constant_added, stream_added}
use Rattle.subtree_write.proofs.streams.Streams.write.Goals as goal

-- the ones that were counted
counted : (bits : List Bool) (count n : ℕ) → count ≡ length bits → n ≡ ones (take count bits) → n ≡ ones bits
counted bits count n all e = e ∙ ap ones (take_all count bits (omega arith))

one_kind : (bits : List Bool) (count n : ℕ) → count ≡ length bits → n ≡ ones bits → (n ≡ 0) ⊎ ((n ≡ 0 → ⊥) × (n ≡ count)) → (ones bits ≡ 0) ⊎ (ones bits ≡ length bits)
one_kind bits count n all e (inl none) = inl (sym e ∙ none)
one_kind bits count n all e (inr other) = inr (sym e ∙ other.1 ∙ all)

pub returns-then-ones-eq0-clause-value : goal.returns-then-ones-eq0-clause-value
returns-then-ones-eq0-clause-value c =
    let bits = c.args.bits.now in
    let n = counted bits c.count-count.result c.ones-ones.result c.count-count.ensures c.ones-ones.ensures in
    let kind = not_mixed bits (one_kind bits c.count-count.result c.ones-ones.result c.count-count.ensures n c.then-ones-eq0.either) in
    subst (λ d. IfOk c.constant_value.result (λ value. view value ≡ d))
    (ap constant_value (has_one-positive bits c.ones-ones.result n) ∙ sym (constant_of (length c.args.self.now.views.items) bits kind))
    c.constant_value.ensures

pub returns-then-ones-eq0-clause-added : goal.returns-then-ones-eq0-clause-added
returns-then-ones-eq0-clause-added c =
    let bits = c.args.bits.now in
    let n = counted bits c.count-count.result c.ones-ones.result c.count-count.ensures c.ones-ones.ensures in
    IfOk-weaker c.constant_value.result _ _
    (λ value is. constant_added c.args.self.now bits (not_mixed bits (one_kind bits c.count-count.result c.ones-ones.result c.count-count.ensures n c.then-ones-eq0.either))) c.constant_value.ensures

both_kinds : (bits : List Bool) (count n : ℕ) → count ≡ length bits → n ≡ ones bits → (n ≡ 0 → ⊥) → (n ≡ count → ⊥) → is_mixed bits ≡ true
both_kinds bits count n all e some few = mixed bits (λ none. some (e ∙ none)) (λ same. few (e ∙ same ∙ sym all))

pub returns-clause-value : goal.returns-clause-value
returns-clause-value c =
    let bits = c.args.bits.now in
    let n = counted bits c.count-count.result c.ones-ones.result c.count-count.ensures c.ones-ones.ensures in
    let kind = both_kinds bits c.count-count.result c.ones-ones.result c.count-count.ensures n c.if-ones-eq0.false c.if-ones-count.false in
    let number : c.len-number.result ≡ length c.args.self.now.views.items = omega (arith, c.len-number.ensures, c.args.self.now.views.ok) in
    subst (λ d. IfOk c.stream_value.result (λ value. view value ≡ d))
    (ap₂ stream_value n number ∙ sym (stream_of (length c.args.self.now.views.items) bits kind))
    c.stream_value.ensures

pub returns-clause-added : goal.returns-clause-added
returns-clause-added c =
    let bits = c.args.bits.now in
    let n = counted bits c.count-count.result c.ones-ones.result c.count-count.ensures c.ones-ones.ensures in
    let kind = both_kinds bits c.count-count.result c.ones-ones.result c.count-count.ensures n c.if-ones-eq0.false c.if-ones-count.false in
    let offset : c.len.result ≡ length c.args.self.now.bytes.items = omega (arith, c.len.ensures, c.args.self.now.bytes.ok) in
    let size : c.div_ceil-size.result ≡ bytes_filled (length bits) = omega (arith, c.div_ceil-size.ensures, c.count-count.ensures) in
    IfOk-weaker c.stream_value.result _ _
    (λ value is. stream_added c.args.self.now (record { views = c.push.new.self; bytes = c.pad.new.out }) bits c.len.result c.div_ceil-size.result c.in_ok-view_value.field-0 c.append_bytes.new.out.items
    kind c.in_ok-push.ensures.items c.in_ok-view_value.ensures offset size c.in_ok-append_bytes.ensures.ok c.in_ok-pad.ensures.ok) c.stream_value.ensures
