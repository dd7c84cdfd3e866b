-- The names of a recipe's subtree files are distinct, and none of them is `tileset.json`.
use Rattle.std.proofs.Common.{zero, suc, Bool, ◌≡◌, ◌≢◌, ℕ, ◌<◌, ◌≤◌, ◌^◌, true, List, [], ◌∷◌, ◌++◌, map, codes, refl, sym, ap, ◌∙◌, subst, arith, lit<, lit≤, get_or}
use Rattle.std.specs.Prelude.{filter, is_some, None}
use Rattle.std.specs.List.{All, AllPairs}
use Rattle.std.specs.Fmt.{decimal}
use Rattle.std.proofs.Math.Nat.{pow-le-pow_right}
use Rattle.std.proofs.lemmas.List.Elements.{All-head, All-tail, All-filter, All-map, All-weaker}
use Rattle.std.proofs.lemmas.List.Kept.{AllPairs-filter}
use Rattle.implicit_tiling.specs.declared.Scheme.{Scheme}
use Rattle.implicit_tiling.specs.declared.Scheme.TheVariants.{Quad, Oct}
use Rattle.implicit_tiling.specs.Limits.{most_levels}
use Rattle.implicit_tiling.specs.Files.{file}
use Rattle.implicit_tiling.specs.Tile.{Tile, is_key_below, IsInKeyOrder}
use Rattle.implicit_tiling.specs.Scene.{Layout}
use Rattle.implicit_tiling.specs.Template.{filled}
use Rattle.implicit_tileset.specs.Scene.{subtree_name}
use Rattle.tiling_laws.proofs.TileAt.{same_tile}
use Rattle.tiling_laws.proofs.Order.{keys_are_an_order}
use Rattle.scene_ports.specs.Files.{HasDistinctNames}
use Rattle.scene_ports.proofs.Named.{file-later, appended_distinct}
use Rattle.tile_word.specs.Words.{HasWord}
use Rattle.implicit_tiling.specs.Code.{word_tile}
use Rattle.implicit_tiling.specs.Availability.{is_subtree_root}
use Rattle.subtree_write.specs.Canonical.{canonical}
use Rattle.tileset_write.specs.LayoutText.{layout_text}
use Rattle.tile_occupancy.specs.Occupied.{IsWordBelow, IsOccupancy, tiles_of}
use Rattle.tile_occupancy.proofs.Keys.{has_word}
use Rattle.build_laws.specs.Made.{made_subtree, made_roots, made_files}
use Rattle.tileset_make.specs.declared.recipe.Recipe.{Recipe}
use Rattle.tileset_make.specs.Recipes.{subtree_template, recipe_layout, tileset_files}
use Rattle.tileset_make.proofs.Decimals.{numbers_apart}

abbrev pub name_of : Scheme → Tile → List ℕ
name_of scheme t = filled scheme (subtree_template scheme) t

-- ---- what a name is: the numbers with dots between them

abbrev x_on : Tile → List ℕ → List ℕ
x_on t rest = decimal t.x ++ 46 ∷ (decimal t.y ++ 46 ∷ rest)

abbrev level_on : Tile → List ℕ → List ℕ
level_on t rest = decimal t.level ++ 46 ∷ x_on t rest

-- behind the last dot, or the last but one
abbrev z_on : Tile → List ℕ
z_on t = decimal t.z ++ 46 ∷ codes "subtree"

quad_name : (t : Tile) → name_of Quad t ≡ 115 ∷ 46 ∷ level_on t (codes "subtree")
quad_name t = refl

oct_name : (t : Tile) → name_of Oct t ≡ 115 ∷ 46 ∷ level_on t (z_on t)
oct_name t = refl

-- it begins with another letter than `tileset.json`
begins_apart : (x y : List ℕ) → get_or x 0 0 ≡ 115 → get_or y 0 0 ≡ 116 → x ≢ y
begins_apart x y one other e = omega (arith, one, other, ap (λ w. get_or w 0 0) e)

pub never_tileset : (scheme : Scheme) (t : Tile) → name_of scheme t ≢ codes "tileset.json"
never_tileset Quad t = begins_apart (name_of Quad t) (codes "tileset.json") refl refl
never_tileset Oct t = begins_apart (name_of Oct t) (codes "tileset.json") refl refl

-- ---- names of two tiles are two

behind_start : (x y : List ℕ) → 115 ∷ 46 ∷ x ≡ 115 ∷ 46 ∷ y → x ≡ y
behind_start x y e = cc

record IsShort (t : Tile) : Type 0 where
  pub level : t.level < 2 ^ 64
  pub x : t.x < 2 ^ 64
  pub y : t.y < 2 ^ 64
  pub z : t.z < 2 ^ 64

few_levels : (scheme : Scheme) → most_levels scheme ≤ 64
few_levels Quad = lit≤ tt
few_levels Oct = lit≤ tt

short : (scheme : Scheme) (t : Tile) → HasWord scheme t → IsShort t
short scheme t has =
    let low : t.level ≤ 64 = omega (arith, has.within, few_levels scheme) in
    let power : 2 ^ t.level ≤ 2 ^ 64 = pow-le-pow_right (lit< tt) low in
    let large : 64 < 2 ^ 64 = lit< tt in
    record {
      level = omega (arith, low, large);
      x = omega (arith, has.is_tile.x_fits, power);
      y = omega (arith, has.is_tile.y_fits, power);
      z = omega (arith, has.is_tile.z_fits, power);
    }

-- the level, x and y are told apart, and the same follows behind them
record AreAlike (t u : Tile) (x y : List ℕ) : Type 0 where
  pub levels : t.level ≡ u.level
  pub xs : t.x ≡ u.x
  pub ys : t.y ≡ u.y
  pub behind : x ≡ y

alike : (t u : Tile) (x y : List ℕ) → IsShort t → IsShort u → level_on t x ≡ level_on u y → AreAlike t u x y
alike t u x y a b e =
    let one = numbers_apart t.level u.level (x_on t x) (x_on u y) a.level b.level e in
    let two = numbers_apart t.x u.x (decimal t.y ++ 46 ∷ x) (decimal u.y ++ 46 ∷ y) a.x b.x one.1 in
    let three = numbers_apart t.y u.y x y a.y b.y two.1 in
    record { levels = one.0; xs = two.0; ys = three.0; behind = three.1 }

pub names_apart : (scheme : Scheme) (t u : Tile) → HasWord scheme t → HasWord scheme u → name_of scheme t ≡ name_of scheme u → t ≡ u
names_apart Quad t u one other e =
    let parts = alike t u (codes "subtree") (codes "subtree") (short Quad t one) (short Quad u other)
    (behind_start (level_on t (codes "subtree")) (level_on u (codes "subtree")) (sym (quad_name t) ∙ e ∙ quad_name u)) in
    same_tile t u parts.levels parts.xs parts.ys (one.is_tile.flat ∙ sym other.is_tile.flat)
names_apart Oct t u one other e =
    let a = short Oct t one in
    let b = short Oct u other in
    let parts = alike t u (z_on t) (z_on u) a b (behind_start (level_on t (z_on t)) (level_on u (z_on u)) (sym (oct_name t) ∙ e ∙ oct_name u)) in
    same_tile t u parts.levels parts.xs parts.ys (numbers_apart t.z u.z (codes "subtree") (codes "subtree") a.z b.z parts.behind).0

-- ---- files of such names

-- where no tile has the name, it isn't found
not_found : (wanted : List ℕ) (name body : Tile → List ℕ) (ts : List Tile) → All (λ t. name t ≢ wanted) ts → file wanted (map (λ t. (name t, body t)) ts) ≡ None
not_found wanted name body [] apart = refl
not_found wanted name body (t ∷ ts) apart =
    let P : Tile → Type 0 = λ u. name u ≢ wanted in
    file-later wanted (name t) (body t) (map (λ u. (name u, body u)) ts) (All-head P t ts apart) ∙ not_found wanted name body ts (All-tail P t ts apart)

distinct : (name body : Tile → List ℕ) (ts : List Tile) → AllPairs (λ t u. name u ≢ name t) ts → HasDistinctNames (map (λ t. (name t, body t)) ts)
distinct name body [] apart = tt
distinct name body (t ∷ ts) apart =
    let here : All (λ u. name u ≢ name t) ts = λ k d within. apart zero (suc k) d (omega arith) (omega (arith, within)) in
    let later : AllPairs (λ u v. name v ≢ name u) ts = λ i j d low within. apart (suc i) (suc j) d (omega (arith, low)) (omega (arith, within)) in
    (ap is_some (not_found (name t) name body ts here), distinct name body ts later)

below_is_another : (scheme : Scheme) (t u : Tile) → is_key_below scheme t u ≡ true → t ≢ u
below_is_another scheme t u below same =
    let here : is_key_below scheme t t ≡ true = subst (λ v. is_key_below scheme t v ≡ true) (sym same) below in
    let never = (keys_are_an_order scheme).irreflexive t in cc

-- the tiles of words, and those of them with which subtrees begin, have names of their own
pub names_of_tiles : (scheme : Scheme) (ts : List Tile) → All (HasWord scheme) ts → IsInKeyOrder scheme ts
    → AllPairs (λ t u. name_of scheme u ≢ name_of scheme t) ts
names_of_tiles scheme ts have rise i j d low within e =
    let t = get_or ts i d in
    let u = get_or ts j d in
    below_is_another scheme t u (rise i j d low within)
    (names_apart scheme t u (have i d (omega (arith, low, within))) (have j d within) (sym e))

have_words : (scheme : Scheme) (levels : ℕ) (ws : List ℕ) → All (IsWordBelow scheme levels) ws → All (HasWord scheme) (tiles_of scheme ws)
have_words scheme levels ws are =
    All-map (HasWord scheme) (word_tile scheme) ws (All-weaker (IsWordBelow scheme levels) (λ w. HasWord scheme (word_tile scheme w)) (λ w one. has_word scheme w one.is_word) ws are)

roots_distinct : (scheme : Scheme) (levels : ℕ) (is_root : Tile → Bool) (body : Tile → List ℕ) (ws : List ℕ) → IsOccupancy scheme levels ws
    → HasDistinctNames (map (λ t. (name_of scheme t, body t)) (filter is_root (tiles_of scheme ws)))
roots_distinct scheme levels is_root body ws whole =
    let ts = tiles_of scheme ws in
    let R : Tile → Tile → Type 0 = λ t u. is_key_below scheme t u ≡ true in
    distinct (name_of scheme) body (filter is_root ts)
    (names_of_tiles scheme (filter is_root ts) (All-filter is_root (HasWord scheme) ts (have_words scheme levels ws whole.are_words)) (AllPairs-filter R is_root ts whole.rise))

pub made_files_distinct : (r : Recipe) (ws : List ℕ) → IsOccupancy r.scheme r.levels ws → HasDistinctNames (made_files (recipe_layout r) ws)
made_files_distinct r [] whole = (refl, tt)
made_files_distinct r (w ∷ ws) whole =
    roots_distinct r.scheme r.levels (is_subtree_root (recipe_layout r)) (λ t. canonical (made_subtree (recipe_layout r) (w ∷ ws) t)) (w ∷ ws) whole

-- where no name of a subtree file is this one, it isn't found among them
pub not_made : (layout : Layout) (wanted : List ℕ) (words : List ℕ) → ((t : Tile) → subtree_name layout t ≢ wanted) → file wanted (made_files layout words) ≡ None
not_made layout wanted words apart =
    not_found wanted (subtree_name layout) (λ t. canonical (made_subtree layout words t)) (made_roots layout words) (λ k d within. apart (get_or (made_roots layout words) k d))

pub recipe_files_distinct : (r : Recipe) (ws : List ℕ) → IsOccupancy r.scheme r.levels ws → HasDistinctNames (tileset_files (recipe_layout r) ws)
recipe_files_distinct r ws whole =
    let layout = recipe_layout r in
    appended_distinct (codes "tileset.json") (layout_text layout) (made_files layout ws)
    (ap is_some (not_made layout (codes "tileset.json") ws (never_tileset r.scheme))) (made_files_distinct r ws whole)
