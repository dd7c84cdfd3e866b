-- The head of the published words, and the words of a fault. This project's own.
use Rattle.std.specs.Prelude.{◌≡◌, ◌⊎◌, ℕ, ◌+◌, ◌*◌, ◌/◌, ◌%◌, ◌^◌, ◌<◌, ◌≤◌, Option, Some, None}
use Rattle.published_prefix.specs.declared.head.EndKind.{EndKind}
use Rattle.published_prefix.specs.declared.head.EndKind.TheVariants as kind
use Rattle.published_prefix.specs.declared.head.Head.{Head}
use Rattle.tile_coords.specs.declared.walk_end.WalkEnd.{WalkEnd}
use Rattle.tile_coords.specs.declared.walk_end.WalkEnd.TheVariants.{Partial, Complete, TooMany, Fault}

-- what a head tells of an end
abbrev pub kind_of : WalkEnd → EndKind
kind_of Partial = kind.Partial
kind_of Complete = kind.Complete
kind_of (Fault root number) = kind.Fault
kind_of TooMany = kind.TooMany

abbrev pub code : EndKind → ℕ
code kind.Partial = 0
code kind.Complete = 1
code kind.Fault = 2
code kind.TooMany = 3

abbrev pub head : ℕ → ℕ → WalkEnd → Head
head steps count end = record { steps = steps; end = kind_of end; length = count }

-- the steps stand above the end, and the end above the length
abbrev pub head_number : Head → ℕ
head_number h = h.steps * 2 ^ 19 + code h.end * 2 ^ 17 + h.length

-- what was seen is no further: it is partial with fewer steps and no more words, or the same
abbrev pub NoFurther : ℕ → ℕ → WalkEnd → ℕ → ℕ → WalkEnd → Type 0
NoFurther k n e k' n' e' = ((e ≡ Partial) × (k < k') × (n ≤ n')) ⊎ ((k ≡ k') × (n ≡ n') × (e ≡ e'))

-- the root's mask is 0, so that the number has its place
abbrev pub FitsFaultWord : WalkEnd → Type 0
FitsFaultWord (Fault root number) = (root / 2 ^ 64 % 2 ^ 16 ≡ 0) × (number < 2 ^ 16)
FitsFaultWord Partial = Unit {0}
FitsFaultWord Complete = Unit {0}
FitsFaultWord TooMany = Unit {0}

-- a fault is told by the word of its root, with its number in place of the mask
abbrev pub fault_high : WalkEnd → Option ℕ
fault_high (Fault root number) = Some (root / 2 ^ 64 + number)
fault_high Partial = None
fault_high Complete = None
fault_high TooMany = None

abbrev pub fault_low : WalkEnd → Option ℕ
fault_low (Fault root number) = Some (root % 2 ^ 64)
fault_low Partial = None
fault_low Complete = None
fault_low TooMany = None
