-- For proofs and inner functions: what one take does to the bytes that stand in a buffer (this project's own).
use Rattle.std.specs.Prelude.{ℕ, ◌≡◌, ◌<◌, List, length, Option}
use Rattle.std.specs.Io.KnownBytes.{Keeps, IsAtEnd}
use Rattle.scene_ports.specs.declared.stream.Take.{Take}
use Rattle.scene_ports.specs.declared.stream.Take.TheVariants.{Got, End, Failed}
use Rattle.http_front.specs.Reading.{TakesOn}

-- some of the next bytes come behind them, or none where there is none or the inlet failed
abbrev pub Fills : Option (List ℕ) → Option (List ℕ) → List ℕ → List ℕ → Take → Type 0
Fills before now held_before held (Got n) = TakesOn before now held_before held × (length held_before < length held)
Fills before now held_before held End = IsAtEnd before × Keeps before now × (held ≡ held_before)
Fills before now held_before held Failed = Keeps before now × (held ≡ held_before)
