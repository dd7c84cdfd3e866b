-- Decimal numbers with dots between them are told apart: no digit is a dot.
use Rattle.std.proofs.Common.{◌≡◌, ℕ, ◌<◌, ◌^◌, List, [], ◌∷◌, ◌++◌, refl, ap₂, arith}
use Rattle.std.specs.Fmt.{decimal}
use Rattle.std.specs.Str.Parse.{AllDigits}
use Rattle.std.proofs.lemmas.Fmt.{decimal_is_IsNumeral, decimal_injective}
use Rattle.std.proofs.lemmas.Str.Parse.{digit_from_value}

head : (c d : ℕ) (x y : List ℕ) → c ∷ x ≡ d ∷ y → c ≡ d
head c d x y e = cc

tail : (c d : ℕ) (x y : List ℕ) → c ∷ x ≡ d ∷ y → x ≡ y
tail c d x y e = cc

-- texts that begin with digits and a dot have the same digits, and the same behind the dot
split : (a b x y : List ℕ) → AllDigits 10 a → AllDigits 10 b → a ++ 46 ∷ x ≡ b ++ 46 ∷ y → (a ≡ b) × (x ≡ y)
split [] [] x y one other e = (refl, tail 46 46 x y e)
split [] (d ∷ b) x y one other e = absurd (omega (arith, digit_from_value d other.0, head 46 d x (b ++ 46 ∷ y) e))
split (c ∷ a) [] x y one other e = absurd (omega (arith, digit_from_value c one.0, head c 46 (a ++ 46 ∷ x) y e))
split (c ∷ a) (d ∷ b) x y one other e =
    let rest = split a b x y one.1 other.1 (tail c d (a ++ 46 ∷ x) (b ++ 46 ∷ y) e) in
    (ap₂ (λ first more. first ∷ more) (head c d (a ++ 46 ∷ x) (b ++ 46 ∷ y) e) rest.0, rest.1)

pub numbers_apart : (m n : ℕ) (x y : List ℕ) → m < 2 ^ 64 → n < 2 ^ 64 → decimal m ++ 46 ∷ x ≡ decimal n ++ 46 ∷ y → (m ≡ n) × (x ≡ y)
numbers_apart m n x y one other e =
    let parts = split (decimal m) (decimal n) x y (decimal_is_IsNumeral m one).0.1 (decimal_is_IsNumeral n other).0.1 e in
    (decimal_injective m n one other parts.0, parts.1)
