-- What the test of one node says of a scan: it is the first one from there on, or there is none up to the next.
use Rattle.std.proofs.Common.{◌≡◌, ℕ, ◌+◌, ◌<◌, Bool, true, false, refl, arith, subst}
use Rattle.std.specs.Prelude.{◌&&◌, Some, None}
use Rattle.std.proofs.lemmas.Bool.{and_parts, ltb-true}
use Rattle.implicit_tiling.specs.Subtree.{Subtree, is_kept}
use Rattle.bitstream.specs.Bits.{HasNoOne, IsFirstOne}
use Rattle.reference_scan.specs.Tested.{some_if}

holds : {X : Type 0} (b : Bool) (w v : X) → Some w ≡ some_if b v → (b ≡ true) × (w ≡ v)
holds true w v is = (refl, cc)
holds false w v is = cc

fails : {X : Type 0} (b : Bool) (v : X) → None ≡ some_if b v → b ≡ false
fails true v is = cc
fails false v is = refl

pub first_here : (test : ℕ → Bool) (value : ℕ → ℕ) (n m w : ℕ) → n < m → Some w ≡ some_if (test n) (value n)
    → IsFirstOne test n m n
first_here test value n m w low is = record {
  low = omega arith;
  high = low;
  one = (holds (test n) w (value n) is).0;
  before = λ i from until. absurd (omega (arith, from, until));
}

pub value_here : (test : ℕ → Bool) (value : ℕ → ℕ) (n w : ℕ) → Some w ≡ some_if (test n) (value n) → w ≡ value n
value_here test value n w is = (holds (test n) w (value n) is).1

pub none_here : (test : ℕ → Bool) (value : ℕ → ℕ) (n : ℕ) → None ≡ some_if (test n) (value n) → HasNoOne test n (n + 1)
none_here test value n is = λ i from until.
    let same : n ≡ i = omega (arith, from, until) in
    subst (λ k. test k ≡ false) same (fails (test n) (value n) is)

-- a node that is there is below the levels in all, and so is a child root
pub level_kept : (s : Subtree) (l : ℕ) (bit : Bool) → (is_kept s l && bit) ≡ true → s.root.level + l < s.cut
level_kept s l bit h = ltb-true (s.root.level + l) s.cut (and_parts (is_kept s l) bit h).0
