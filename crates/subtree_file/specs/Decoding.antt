-- What the decoding of a subtree file answers, beside what is stated (this project's own).
use Rattle.std.specs.Prelude.{ℕ, ◌≡◌, ◌≤◌, Bool, false, List, map, Some, Result, Ok, Err, Vec}
use Rattle.std.specs.List.{list_any, range_with_len}
use Rattle.std.specs.declared.alloc.Global.{Global}
use Rattle.implicit_tiling.specs.Checks.{need, refuse}
use Rattle.implicit_tiling.specs.Limits.{most_subtree_fault}
use Rattle.implicit_tiling.specs.Tile.{Tile}
use Rattle.implicit_tiling.specs.Scene.{Layout}
use Rattle.implicit_tiling.specs.Subtree.{Subtree}
use Rattle.implicit_tileset.specs.Record.{Availability, BufferView, SubtreeRecord}
use Rattle.implicit_tileset.specs.SubtreeFile.{Used, Held, names_no_view, is_out, is_short}
use Rattle.implicit_tileset.specs.SubtreeFile.{is_miscounted, raw_bits, view_bit, wanted_contents, used_of}
use Rattle.implicit_tileset.specs.FileOutcome.{Sources, held_at, subtree_at, bits_checked}
use Rattle.subtree_file.specs.declared.fault.DecodeFault.{DecodeFault}
use Rattle.subtree_file.specs.declared.fault.DecodeFault.TheVariants.{Fault, Memory}

-- what is stated, or its fault, unless there isn't enough memory
abbrev pub Decodes : {A : Type 0} → Result A ℕ → Result A DecodeFault → Type 0
Decodes stated (Ok a) = stated ≡ Ok a
Decodes stated (Err (Fault n)) = stated ≡ Err n
Decodes stated (Err Memory) = Unit {0}

-- the same of a list, in a `Vec`
abbrev pub DecodesList : {A : Type 0} → Result (List A) ℕ → Result (Vec A Global) DecodeFault → Type 0
DecodesList stated (Ok v) = stated ≡ Ok v.items
DecodesList stated (Err (Fault n)) = stated ≡ Err n
DecodesList stated (Err Memory) = Unit {0}

-- a fault has a number of the table of faults of a subtree file
abbrev pub IsNumbered : {A : Type 0} → Result A DecodeFault → Type 0
IsNumbered (Ok a) = Unit {0}
IsNumbered (Err (Fault n)) = (3 ≤ n) × (n ≤ most_subtree_fault)
IsNumbered (Err Memory) = Unit {0}

-- the availabilities that are used, or fault 11 where a content that is wanted is malformed
abbrev pub used_in : Layout → SubtreeRecord → Result (List Used) ℕ
used_in layout r = need 11 (wanted_contents layout r) (λ contents. Ok (used_of layout r contents))

-- the rows 14 and 15, each asked over all that are used
abbrev pub views_checked : Sources → List Used → Result (Unit {0}) ℕ
views_checked s used =
    refuse 14 (list_any (λ u. is_out (held_at s u.availability) u.availability) used)
    (refuse 15 (list_any (λ u. is_short (held_at s u.availability) u) used)
    (Ok tt))

-- a used availability that has none of the faults 12, 14 and 15
pub record IsPlaced (h : Held) (u : Used) : Type 0 where
  pub named : names_no_view h u.availability ≡ false
  pub inside : is_out h u.availability ≡ false
  pub long : is_short h u ≡ false

-- the needed bits, or fault 16 where they have another count
abbrev pub bits_counted : Held → Used → Result (List Bool) ℕ
bits_counted h u = refuse 16 (is_miscounted h u) (Ok (raw_bits h u))

-- the same of each in turn, beside the bytes of its buffer
abbrev pub all_counted : Sources → List Used → Result (List (List Bool)) ℕ
all_counted s used = refuse 16 (list_any (λ u. is_miscounted (held_at s u.availability) u) used)
    (Ok (map (λ u. raw_bits (held_at s u.availability) u) used))

-- the first bits of a view
abbrev pub bits_of_view : List ℕ → BufferView → ℕ → List Bool
bits_of_view binary v count = map (λ i. view_bit binary i (Some v)) (range_with_len 0 count)

-- these are the availabilities that are used
pub record AreUsed (layout : Layout) (r : SubtreeRecord) (used : List Used) : Type 0 where
  pub contents : List Availability
  pub wanted : wanted_contents layout r ≡ Some contents
  pub are : used ≡ used_of layout r contents

-- the subtree before its bits are compared with one another, or one of the faults 11 and 16
abbrev pub subtree_counted : Layout → Tile → Sources → Result Subtree ℕ
subtree_counted layout root s =
    need 11 (wanted_contents layout s.parts) (λ contents.
    refuse 16 (list_any (λ u. is_miscounted (held_at s u.availability) u) (used_of layout s.parts contents))
    (Ok (subtree_at layout root s contents)))

-- the subtree, or one of the faults 11 and 14 to 18
abbrev pub subtree_placed : Layout → Tile → Sources → List Used → Result Subtree ℕ
subtree_placed layout root s used =
    need 11 (wanted_contents layout s.parts) (λ contents. bits_checked layout root s contents used)
