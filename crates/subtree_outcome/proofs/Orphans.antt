-- A scene of files has no orphan.
use Rattle.std.proofs.Common.{◌≡◌, ◌∙◌, ℕ, ◌+◌, ◌-◌, ◌/◌, Bool, true, false, List, length, Option, Some, None, Result, Ok, Err, refl, sym, ap}
use Rattle.std.specs.Prelude.{◌&&◌, nat_lt, not, if◌then◌else◌}
use Rattle.implicit_tiling.specs.declared.Scheme.{Scheme}
use Rattle.implicit_tiling.specs.Limits.{most_file_bytes}
use Rattle.implicit_tiling.specs.Files.{Files, file}
use Rattle.implicit_tiling.specs.Tile.{Tile, branching}
use Rattle.implicit_tiling.specs.Scene.{Layout, Bits, Outcome, good, bad}
use Rattle.implicit_tiling.specs.Availability.{nodes_above}
use Rattle.implicit_tiling.specs.Subtree.{Subtree, IsOf, has_orphan, some_node, bits_of}
use Rattle.implicit_tileset.specs.Scene.{subtree_name, scene_of}
use Rattle.implicit_tileset.specs.SubtreeFile.{outcome_from}
use Rattle.implicit_tileset.specs.BufferFiles.{Find}
use Rattle.implicit_tileset.specs.FileOutcome.{subtree_found, outcome_of_bytes}
use Rattle.subtree_outcome.specs.Outcomes.{HasNoOrphans}
use Rattle.subtree_outcome.proofs.Stating.{IsStated, stated}

-- whether there is an orphan, by the numbers and bits that it depends on
node_there : Scheme → ℕ → ℕ → (ℕ → Bool) → ℕ → ℕ → Bool
node_there scheme cut at bits l m = nat_lt (at + l) cut && bits (nodes_above scheme l + m)

orphan_among : Scheme → ℕ → ℕ → ℕ → (ℕ → Bool) → Bool
orphan_among scheme levels cut at bits =
    some_node scheme 1 (levels - 1) (λ l m. node_there scheme cut at bits l m && not (node_there scheme cut at bits (l - 1) (m / branching scheme)))

is_among : (s : Subtree) → has_orphan s ≡ orphan_among s.scheme s.levels s.cut s.root.level (bits_of s).tiles
unfolding node_there orphan_among
is_among s = refl

-- two subtrees of a layout and a root that have the same bits
none_in_both : (layout : Layout) (made st : Subtree) → IsStated layout st.root made → IsOf layout st → bits_of made ≡ bits_of st → has_orphan st ≡ false
none_in_both layout made st is of same =
    let bits = ap (λ (b : Bits). b.tiles) same in
    is_among st
    ∙ ap (λ (e : Scheme). orphan_among e st.levels st.cut st.root.level (bits_of st).tiles) (of.same_scheme ∙ sym is.scheme)
    ∙ ap (λ n. orphan_among made.scheme n st.cut st.root.level (bits_of st).tiles) (of.same_levels ∙ sym is.levels)
    ∙ ap (λ n. orphan_among made.scheme made.levels n st.root.level (bits_of st).tiles) (of.same_cut ∙ sym is.cut)
    ∙ ap (λ (t : Tile). orphan_among made.scheme made.levels made.cut t.level (bits_of st).tiles) (sym is.at_root)
    ∙ ap (orphan_among made.scheme made.levels made.cut made.root.level) (sym bits)
    ∙ sym (is_among made) ∙ is.no_orphan

by_result : (find : Find) (layout : Layout) (st : Subtree) (bytes : List ℕ) (r : Result Subtree ℕ) → IsOf layout st → subtree_found find layout st.root bytes ≡ r
    → outcome_from r ≡ good (bits_of st) → has_orphan st ≡ false
by_result find layout st bytes (Ok made) of is same =
    let bits : bits_of made ≡ bits_of st = cc in
    none_in_both layout made st (stated find layout st.root bytes made is) of bits
by_result find layout st bytes (Err n) of is same = cc

by_length : (find : Find) (layout : Layout) (st : Subtree) (bytes : List ℕ) (long : Bool) → IsOf layout st
    → (if long then bad 2 else outcome_from (subtree_found find layout st.root bytes)) ≡ good (bits_of st) → has_orphan st ≡ false
by_length find layout st bytes true of same = cc
by_length find layout st bytes false of same = by_result find layout st bytes (subtree_found find layout st.root bytes) of refl same

by_file : (find : Find) (layout : Layout) (st : Subtree) (found : Option (List ℕ)) → IsOf layout st → outcome_of_bytes find layout st.root found ≡ good (bits_of st) → has_orphan st ≡ false
by_file find layout st None of same = cc
by_file find layout st (Some bytes) of same = by_length find layout st bytes (nat_lt most_file_bytes (length bytes)) of same

pub files_have_none : (all : Files) (layout : Layout) → HasNoOrphans (scene_of all layout)
files_have_none all layout = λ st of same. by_file (λ name. file name all) layout st (file (subtree_name layout st.root) all) of same
