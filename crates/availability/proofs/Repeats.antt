-- Bits of a word, each as often as a tile has children.
use Rattle.std.proofs.Common.{◌≡◌, ℕ, zero, suc, ◌-◌, ◌*◌, ◌/◌, ◌%◌, ◌^◌, ◌<◌, bit_and, refl, sym, ap, subst, ◌∙◌, arith}
use Rattle.std.specs.Int.{bit_at}
use Rattle.std.proofs.lemmas.Nat.{and_mask}
use Rattle.implicit_tiling.specs.declared.Scheme.{Scheme}
use Rattle.implicit_tiling.specs.declared.Scheme.TheVariants.{Quad, Oct}
use Rattle.implicit_tiling.specs.Tile.{branching, interleaved}
use Rattle.bitstream.proofs.Front.{digit_of_low}
use Rattle.morton.proofs.Places.{bit_of_place, bit_at_place}
use Rattle.availability.specs.Rules.{RepeatsBits}

-- the bits of a place whose coordinates are one another's
one_of_two : (x r j : ℕ) → r < 2 → bit_of_place Quad x x 0 r j ≡ bit_at x j
one_of_two x zero j h = refl
one_of_two x (suc zero) j h = refl
one_of_two x (suc (suc r)) j h = absurd (omega arith)

pub twice_bits : (word ones twice : ℕ) → ones ≡ 2 ^ 32 - 1 → twice ≡ interleaved Quad 32 (bit_and word ones) (bit_and word ones) 0 → RepeatsBits 2 word twice
twice_bits word ones twice ones_are is i h =
    let half = bit_and word ones in
    ap (λ n. bit_at n i) is ∙ bit_at_place Quad 32 half half 0 i (omega arith) ∙ one_of_two half (i % 2) (i / 2) (omega arith)
    ∙ ap (λ n. bit_at (bit_and word n) (i / 2)) ones_are ∙ ap (λ n. bit_at n (i / 2)) (and_mask word 32) ∙ digit_of_low word 32 (i / 2) (omega arith)

half_again : (times word once twice : ℕ) → ((i : ℕ) → i / 2 / times ≡ i / (2 * times)) → RepeatsBits times word once → RepeatsBits 2 once twice → RepeatsBits (2 * times) word twice
half_again times word once twice halves first second i h =
    second i h ∙ first (i / 2) (omega arith) ∙ ap (bit_at word) (halves i)

pub four_times : (scheme : Scheme) (word two four : ℕ) → scheme ≡ Quad → RepeatsBits 2 word two → RepeatsBits 2 two four → RepeatsBits (branching scheme) word four
four_times scheme word two four is first second =
    subst (λ s. RepeatsBits (branching s) word four) (sym is) (half_again 2 word two four (λ i. omega arith) first second)

pub eight_times : (scheme : Scheme) (word two four eight : ℕ) → scheme ≡ Oct → RepeatsBits 2 word two → RepeatsBits 2 two four → RepeatsBits 2 four eight
    → RepeatsBits (branching scheme) word eight
eight_times scheme word two four eight is first second third =
    subst (λ s. RepeatsBits (branching s) word eight) (sym is)
    (half_again 4 word four eight (λ i. omega arith) (half_again 2 word two four (λ i. omega arith) first second) third)
