-- The rules of a subtree's bits (OGC 22-025r4, implicit tiling: availability), as one answer and as facts of raw bits.
use Rattle.std.specs.Prelude.{ℕ, ◌≡◌, ◌+◌, ◌-◌, ◌/◌, ◌%◌, ◌^◌, ◌<◌, ◌≤◌, ◌&&◌, not, Bool, true, false, List, Result}
use Rattle.std.specs.Prelude.{Ok, Err, MatchBool}
use Rattle.implicit_tiling.specs.declared.Scheme.{Scheme}
use Rattle.implicit_tiling.specs.Tile.{branching}
use Rattle.implicit_tiling.specs.Availability.{nodes_above}
use Rattle.implicit_tiling.specs.Subtree.{Subtree, has_orphan, has_content_alone}
use Rattle.implicit_tiling.specs.Bits.{bit_at}
use Rattle.availability.specs.declared.subtree.RuleFault.{RuleFault}
use Rattle.availability.specs.declared.subtree.RuleFault.TheVariants.{ParentMissing, ContentWithoutTile}

-- the first rule that is broken: a parent is missing, else a content stands without its tile
abbrev pub fault_from : Bool → Bool → Result (Unit {0}) RuleFault
fault_from true alone = Err ParentMissing
fault_from false true = Err ContentWithoutTile
fault_from false false = Ok tt

abbrev pub rule_fault : Subtree → Result (Unit {0}) RuleFault
rule_fault s = fault_from (has_orphan s) (has_content_alone s)

-- the bits break no rule between them
pub record KeepsRules (s : Subtree) : Type 0 where
  pub no_orphan : has_orphan s ≡ false
  pub no_content_alone : has_content_alone s ≡ false

-- so many of the local levels stand below the levels in all
pub record IsKeptCount (s : Subtree) (kept : ℕ) : Type 0 where
  pub some : 1 ≤ kept
  pub within : kept ≤ s.levels
  pub low : s.root.level + kept ≤ s.cut
  pub high : kept < s.levels → s.cut ≤ s.root.level + kept

-- the raw bit of a node, and of its parent
abbrev pub node_raw_bit : Scheme → List Bool → ℕ → ℕ → Bool
node_raw_bit scheme bits l m = bit_at bits (nodes_above scheme l + m)

abbrev pub raw_orphan : Scheme → List Bool → ℕ → ℕ → Bool
raw_orphan scheme bits l m = node_raw_bit scheme bits l m
    && not (node_raw_bit scheme bits (l - 1) (m / branching scheme))

-- whether some node of the level is one without its parent
abbrev pub HasOrphanAt : Scheme → List Bool → ℕ → Bool → Type 0
HasOrphanAt scheme bits l found = MatchBool found
    ((m : ℕ) × (m < branching scheme ^ l) × (raw_orphan scheme bits l m ≡ true))
    ((m : ℕ) → m < branching scheme ^ l → raw_orphan scheme bits l m ≡ false)

-- each of the first bits of a word so many times, side by side, in a word of 64 bits
abbrev pub RepeatsBits : ℕ → ℕ → ℕ → Type 0
RepeatsBits times word repeated = (i : ℕ) → i < 64 → repeated / 2 ^ i % 2 ≡ word / 2 ^ (i / times) % 2
