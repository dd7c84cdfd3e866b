-- The lengths of filled texts.
use Rattle.std.proofs.Common.{◌≡◌, ◌≢◌, ℕ, ◌+◌, ◌<◌, get_or, List, ◌∷◌, ◌++◌, length, ap, ◌∙◌, arith, length-append}
use Rattle.std.specs.Prelude.{Some, None}
use Rattle.std.specs.Fmt.{decimal}
use Rattle.implicit_tiling.specs.declared.Scheme.{Scheme}
use Rattle.implicit_tiling.specs.Tile.{Tile}
use Rattle.uri_template.proofs.Variables.{at, from, IsParted, from-cut_variable, from-cut_brace, from-uncut}

-- the lengths of the parts make the length of the rest
pub length-cut_variable : (scheme : Scheme) (t : Tile) (rest before after name behind : List ℕ) (number : ℕ) → IsParted rest before after
    → at scheme t after ≡ Some (123 ∷ name, number) → after ≡ name ++ behind
    → length (from scheme t rest) ≡ length before + length (decimal number) + length (from scheme t behind)
length-cut_variable scheme t rest before after name behind number cut is parts =
    ap (λ w. length w) (from-cut_variable scheme t rest before after name behind number cut is parts)
    ∙ omega (arith, length-append before (decimal number ++ from scheme t behind), length-append (decimal number) (from scheme t behind))

pub length-cut_brace : (scheme : Scheme) (t : Tile) (rest before after : List ℕ) → IsParted rest before after → at scheme t after ≡ None
    → length (from scheme t rest) ≡ length before + 1 + length (from scheme t after)
length-cut_brace scheme t rest before after cut is =
    ap (λ w. length w) (from-cut_brace scheme t rest before after cut is) ∙ omega (arith, length-append before (123 ∷ from scheme t after))

pub length-uncut : (scheme : Scheme) (t : Tile) (rest : List ℕ) → ((i : ℕ) → i < length rest → get_or rest i 0 ≢ 123) → length (from scheme t rest) ≡ length rest
length-uncut scheme t rest no_brace = ap (λ w. length w) (from-uncut scheme t rest no_brace)

-- a cut has the brace and the text on both sides
pub length-cut : (rest before after : List ℕ) → IsParted rest before after → length rest ≡ length before + 1 + length after
length-cut rest before after cut = ap (λ w. length w) cut.parts ∙ omega (arith, length-append before (123 ∷ after))
