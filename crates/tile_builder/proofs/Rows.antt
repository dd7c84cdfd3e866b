-- The files of four worked tiles have names of their own.
use Rattle.std.proofs.Common.{◌≡◌, ℕ, ◌+◌, ◌*◌, ◌^◌, List, [], ◌∷◌, map, codes, refl, sym, ap, subst, ◌∙◌}
use Rattle.std.specs.Fmt.{digits}
use Rattle.implicit_tiling.specs.declared.Scheme.TheVariants.{Quad}
use Rattle.implicit_tiling.specs.Tile.{Tile, root}
use Rattle.implicit_tiling.specs.Scene.{Layout}
use Rattle.implicit_tileset.specs.Scene.{subtree_name}
use Rattle.scene_ports.specs.Files.{HasDistinctNames}
use Rattle.subtree_write.specs.Canonical.{canonical}
use Rattle.build_laws.specs.Made.{made_subtree, made_roots, made_files}

abbrev pub worked_layout : Layout
worked_layout = record { scheme = Quad; subtree_levels = 2; levels = 3; subtree = codes "s.{level}.{x}.{y}.subtree"; contents = codes "c0.{level}.{x}.{y}.glb" ∷ [] }

abbrev pub worked_words : List ℕ
worked_words = 2 ^ 64 ∷ (2 ^ 80 + 2 ^ 64 + 2) ∷ (2 * 2 ^ 80 + 2 ^ 64 + 8) ∷ (2 * 2 ^ 80 + 2 ^ 64 + 11) ∷ []

abbrev worked_roots : List Tile
worked_roots = root ∷ record { level = 2; x = 0; y = 2; z = 0 } ∷ record { level = 2; x = 1; y = 3; z = 0 } ∷ []

roots_are : made_roots worked_layout worked_words ≡ worked_roots
roots_are = refl

-- whatever their bytes
names_differ : (bytes : Tile → List ℕ) → HasDistinctNames (map (λ r. (subtree_name worked_layout r, bytes r)) worked_roots)
unfolding digits
names_differ bytes = (refl, (refl, (refl, tt)))

pub worked_names : (layout : Layout) (words : List ℕ) → layout ≡ worked_layout → words ≡ worked_words → HasDistinctNames (made_files layout words)
worked_names layout words one other =
    let bytes = λ (r : Tile). canonical (made_subtree layout words r) in
    let roots : made_roots layout words ≡ worked_roots = ap (λ l. made_roots l words) one ∙ ap (made_roots worked_layout) other ∙ roots_are in
    subst (λ rs. HasDistinctNames (map (λ r. (subtree_name layout r, bytes r)) rs)) (sym roots)
    (subst (λ l. HasDistinctNames (map (λ r. (subtree_name l r, bytes r)) worked_roots)) (sym one) (names_differ bytes))
