-- A canonical file holds its subtree (OGC 22-025r4, subtree binary format, subtree JSON format).
use Rattle.std.specs.Prelude.{◌≡◌, Some, Ok}
use Rattle.implicit_tiling.specs.Scene.{Layout, good}
use Rattle.implicit_tiling.specs.Subtree.{Subtree, IsSubtree, IsOf, bits_of}
use Rattle.implicit_tileset.specs.BufferFiles.{Find}
use Rattle.implicit_tileset.specs.FileOutcome.{subtree_found, outcome_of_bytes}
use Rattle.availability.specs.Rules.{KeepsRules}
use Rattle.subtree_write.specs.Canonical.{canonical}

-- for a layout that the subtree is of, its canonical file has no fault whatever stands beside it, and holds the subtree
-- with all its bits
abbrev pub CanonicalFilesReadBack : Type 0
CanonicalFilesReadBack = (find : Find) (layout : Layout) (s : Subtree) → IsSubtree s → IsOf layout s → KeepsRules s
    → subtree_found find layout s.root (canonical s) ≡ Ok s

-- it is no longer than a file may be, so it is good where it stands as the file of the subtree's root
abbrev pub CanonicalFilesAreGood : Type 0
CanonicalFilesAreGood = (find : Find) (layout : Layout) (s : Subtree) → IsSubtree s → IsOf layout s → KeepsRules s
    → outcome_of_bytes find layout s.root (Some (canonical s)) ≡ good (bits_of s)
