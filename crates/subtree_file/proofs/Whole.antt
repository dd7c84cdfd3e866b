-- A subtree put together of its bits.
use Rattle.std.proofs.Common.{◌≡◌, ℕ, suc, ◌+◌, ◌-◌, ◌<◌, ◌≤◌, Bool, false, List, [], ◌∷◌, ◌++◌, ◌||◌, length, get_or, take, drop, map, refl, sym, ap, subst, ◌∙◌, arith, length-append}
use Rattle.std.specs.Prelude.{Option, Some, None, option_map, Ok, Err}
use Rattle.std.specs.List.{list_any, slice_range, All}
use Rattle.std.proofs.Math.Seq.{take-append_seam, get_or-append_seam}
use Rattle.std.proofs.lemmas.List.{length-take, length-map}
use Rattle.std.proofs.lemmas.List.FromFn.{length-map-range_with_len}
use Rattle.std.proofs.lemmas.List.Elements.{All-cons, All-nil}
use Rattle.std.proofs.lemmas.Bool.{or_from}
use Rattle.std.proofs.lemmas.List.Folds.{list_any-append}
use Rattle.implicit_tiling.proofs.Tables.{refuse-good}
use Rattle.implicit_tiling.specs.declared.Scheme.{Scheme}
use Rattle.implicit_tiling.specs.declared.Scheme.TheVariants.{Quad, Oct}
use Rattle.implicit_tiling.specs.Limits.{most_levels, most_subtree_levels}
use Rattle.implicit_tiling.specs.Checks.{need, refuse}
use Rattle.implicit_tiling.specs.Tile.{Tile, IsTile}
use Rattle.implicit_tiling.specs.Scene.{Layout}
use Rattle.implicit_tiling.specs.Subtree.{Subtree, IsSubtree, node_count}
use Rattle.implicit_tileset.specs.Tileset.{most_levels as layout_levels, most_subtree_levels as layout_subtree_levels}
use Rattle.implicit_tileset.specs.Record.{Availability, ContentPart, well_formed, malformed, SubtreeRecord}
use Rattle.implicit_tileset.specs.SubtreeFile.{Used, raw_bit, availabilities, wanted_contents, for_nodes, for_children, used_of}
use Rattle.implicit_tileset.specs.FileOutcome.{Sources, held_at, subtree_at}
use Rattle.tileset_json.specs.Limits.{IsWithinLimits}
use Rattle.subtree_file.specs.declared.fault.DecodeFault.{DecodeFault}
use Rattle.subtree_file.specs.declared.fault.DecodeFault.TheVariants.{Fault, Memory}
use Rattle.subtree_file.specs.Decoding.{Decodes, AreUsed, IsPlaced, bits_counted, all_counted, subtree_counted}
use Rattle.subtree_file.proofs.Viewed.{miscounted, bits_at, refused, all_counted-err}

-- ---- no more contents than templates

one_longer : (a : Availability) (n : ℕ) (found : Option (List Availability)) (contents : List Availability)
    → ((rest : List Availability) → found ≡ Some rest → length rest ≡ n) → option_map (λ rest. a ∷ rest) found ≡ Some contents → length contents ≡ suc n
one_longer a n None contents each is = cc
one_longer a n (Some rest) contents each is =
    let same : a ∷ rest ≡ contents = cc in ap length (sym same) ∙ ap suc (each rest refl)

length-availabilities : (parts : List ContentPart) (contents : List Availability) → availabilities parts ≡ Some contents → length contents ≡ length parts
length-availabilities [] contents is = let same : [] ≡ contents = cc in ap length (sym same)
length-availabilities (malformed ∷ parts) contents is = cc
length-availabilities (well_formed a ∷ parts) contents is = one_longer a (length parts) (availabilities parts) contents (length-availabilities parts) is

pub few_wanted : (layout : Layout) (r : SubtreeRecord) (contents : List Availability) → wanted_contents layout r ≡ Some contents → length contents ≤ length layout.contents
few_wanted layout r contents wanted =
    omega (arith, length-availabilities (take (length layout.contents) r.contents) contents wanted, length-take (length layout.contents) r.contents)

-- ---- the limits of a subtree

subtree_limit : (scheme : Scheme) → layout_subtree_levels scheme ≡ most_subtree_levels scheme
subtree_limit Quad = refl
subtree_limit Oct = refl

levels_limit : (scheme : Scheme) → layout_levels scheme ≡ most_levels scheme
levels_limit Quad = refl
levels_limit Oct = refl

pub length-raw_bits : (s : Sources) (u : Used) → length (bits_at s u) ≡ u.needed
length-raw_bits s u = length-map-range_with_len (raw_bit (held_at s u.availability) u.availability) 0 u.needed

each_long : (s : Sources) (layout : Layout) (contents : List Availability)
    → All (λ bits. length bits ≡ node_count layout.scheme layout.subtree_levels) (map (λ a. bits_at s (for_nodes layout a)) contents)
each_long s layout [] = All-nil (λ bits. length bits ≡ node_count layout.scheme layout.subtree_levels)
each_long s layout (a ∷ contents) =
    All-cons (λ bits. length bits ≡ node_count layout.scheme layout.subtree_levels) (bits_at s (for_nodes layout a)) (map (λ a. bits_at s (for_nodes layout a)) contents)
    (length-raw_bits s (for_nodes layout a)) (each_long s layout contents)

pub is_subtree : (layout : Layout) (root : Tile) (s : Sources) (contents : List Availability) → IsWithinLimits layout → root.level < layout.levels → IsTile layout.scheme root
    → wanted_contents layout s.parts ≡ Some contents → IsSubtree (subtree_at layout root s contents)
is_subtree layout root s contents limits below tile wanted = record {
  some_levels = limits.some_subtree_levels;
  few_levels = omega (arith, limits.few_subtree_levels, subtree_limit layout.scheme);
  few_levels_in_all = omega (arith, limits.few_levels, levels_limit layout.scheme);
  root_below_cut = below;
  root_is_tile = tile;
  few_contents = omega (arith, length-map contents (λ a. bits_at s (for_nodes layout a)), few_wanted layout s.parts contents wanted, limits.few_contents);
  tile_bits = length-raw_bits s (for_nodes layout s.parts.tiles);
  content_bits = each_long s layout contents;
  child_bits = length-raw_bits s (for_children layout s.parts.child);
}

-- ---- the places of what is used

pub first_used : (x z : Used) (ys used : List Used) (d : Used) → used ≡ x ∷ (ys ++ z ∷ []) → get_or used 0 d ≡ x
first_used x z ys used d are = ap (λ us. get_or us 0 d) are

pub length_used : (x z : Used) (ys used : List Used) → used ≡ x ∷ (ys ++ z ∷ []) → length used ≡ length ys + 2
length_used x z ys used are = ap length are ∙ omega (arith, length-append ys (z ∷ []))

pub last_used : (x z : Used) (ys used : List Used) (last : ℕ) (d : Used) → used ≡ x ∷ (ys ++ z ∷ []) → last ≡ length used - 1 → get_or used last d ≡ z
last_used x z ys used last d are at =
    let e : last ≡ suc (length ys) = omega (arith, length_used x z ys used are) in
    ap (λ us. get_or us last d) are ∙ ap (λ k. get_or (x ∷ (ys ++ z ∷ [])) k d) e ∙ get_or-append_seam ys z [] d

pub middle_used : (x z : Used) (ys used : List Used) (last : ℕ) → used ≡ x ∷ (ys ++ z ∷ []) → last ≡ length used - 1 → slice_range used 1 last ≡ ys
middle_used x z ys used last are at =
    let e : last - 1 ≡ length ys = omega (arith, length_used x z ys used are) in
    ap (λ us. slice_range us 1 last) are ∙ ap (λ k. take k (ys ++ z ∷ [])) e ∙ take-append_seam ys (z ∷ [])

-- ---- the count of each

map_map : {X Y Z : Type 0} (f : Y → Z) (g : X → Y) (xs : List X) → map f (map g xs) ≡ map (λ x. f (g x)) xs
map_map f g [] = refl
map_map f g (x ∷ xs) = ap (λ ys. f (g x) ∷ ys) (map_map f g xs)

-- the bits of each, as they were read
pub record AreRead (layout : Layout) (s : Sources) (contents : List Availability) (tiles : List Bool) (bits : List (List Bool)) (child : List Bool) : Type 0 where
  pub wanted : wanted_contents layout s.parts ≡ Some contents
  pub of_tiles : bits_counted (held_at s s.parts.tiles) (for_nodes layout s.parts.tiles) ≡ Ok tiles
  pub of_contents : all_counted s (map (for_nodes layout) contents) ≡ Ok bits
  pub of_child : bits_counted (held_at s s.parts.child) (for_children layout s.parts.child) ≡ Ok child

abbrev pub made_of : Layout → Tile → List Bool → List (List Bool) → List Bool → Subtree
made_of layout root tiles bits child = record { scheme = layout.scheme; levels = layout.subtree_levels; cut = layout.levels; root = root; tiles = tiles; contents = bits; child = child }

same_subtree : (layout : Layout) (root : Tile) (s : Sources) (contents : List Availability) (tiles : List Bool) (bits : List (List Bool)) (child : List Bool)
    → AreRead layout s contents tiles bits child → subtree_at layout root s contents ≡ made_of layout root tiles bits child
same_subtree layout root s contents tiles bits child are =
    let x = for_nodes layout s.parts.tiles in
    let ys = map (for_nodes layout) contents in
    let z = for_children layout s.parts.child in
    let of_tiles = refuse-good 16 (miscounted s x) (Ok (bits_at s x)) tiles are.of_tiles in
    let of_contents = refuse-good 16 (list_any (miscounted s) ys) (Ok (map (bits_at s) ys)) bits are.of_contents in
    let of_child = refuse-good 16 (miscounted s z) (Ok (bits_at s z)) child are.of_child in
    let same_tiles : bits_at s x ≡ tiles = cc in
    let same_contents : map (bits_at s) ys ≡ bits = cc in
    let same_child : bits_at s z ≡ child = cc in
    ap (λ bs. made_of layout root (bits_at s x) bs (bits_at s z)) (sym (map_map (bits_at s) (for_nodes layout) contents))
    ∙ ap (λ bs. made_of layout root bs (map (bits_at s) ys) (bits_at s z)) same_tiles
    ∙ ap (λ bs. made_of layout root tiles bs (bits_at s z)) same_contents
    ∙ ap (made_of layout root tiles bits) same_child

none_miscounted : (layout : Layout) (s : Sources) (contents : List Availability) (tiles : List Bool) (bits : List (List Bool)) (child : List Bool)
    → AreRead layout s contents tiles bits child → list_any (miscounted s) (used_of layout s.parts contents) ≡ false
none_miscounted layout s contents tiles bits child are =
    let x = for_nodes layout s.parts.tiles in
    let ys = map (for_nodes layout) contents in
    let z = for_children layout s.parts.child in
    let of_tiles = refuse-good 16 (miscounted s x) (Ok (bits_at s x)) tiles are.of_tiles in
    let of_contents = refuse-good 16 (list_any (miscounted s) ys) (Ok (map (bits_at s) ys)) bits are.of_contents in
    let of_child = refuse-good 16 (miscounted s z) (Ok (bits_at s z)) child are.of_child in
    ap (λ b. miscounted s x || b) (list_any-append (miscounted s) ys (z ∷ []))
    ∙ or_from _ _ of_tiles.0 (or_from _ _ of_contents.0 (or_from _ _ of_child.0 refl))

-- the layout as it is seen, and its parts
pub counted-ok : (layout inside : Layout) (root : Tile) (s : Sources) (contents : List Availability) (tiles : List Bool) (bits : List (List Bool)) (child : List Bool)
    → inside ≡ layout → AreRead layout s contents tiles bits child → subtree_counted layout root s ≡ Ok (made_of inside root tiles bits child)
counted-ok layout inside root s contents tiles bits child same are =
    ap (λ found. need 11 found (λ cs. refuse 16 (list_any (miscounted s) (used_of layout s.parts cs)) (Ok (subtree_at layout root s cs)))) are.wanted
    ∙ ap (λ b. refuse 16 b (Ok (subtree_at layout root s contents))) (none_miscounted layout s contents tiles bits child are)
    ∙ ap Ok (same_subtree layout root s contents tiles bits child are)
    ∙ ap (λ l. Ok (made_of l root tiles bits child)) (sym same)

pub read_is_subtree : (layout inside : Layout) (root : Tile) (s : Sources) (contents : List Availability) (tiles : List Bool) (bits : List (List Bool)) (child : List Bool)
    → inside ≡ layout → IsWithinLimits inside → root.level < layout.levels → IsTile layout.scheme root
    → AreRead layout s contents tiles bits child → IsSubtree (made_of inside root tiles bits child)
read_is_subtree layout inside root s contents tiles bits child same limits below tile are =
    subst IsSubtree
    (same_subtree layout root s contents tiles bits child are ∙ ap (λ l. made_of l root tiles bits child) (sym same))
    (is_subtree layout root s contents (subst IsWithinLimits same limits) below tile are.wanted)

-- one of them that has another count
pub counted-err : (layout : Layout) (root : Tile) (s : Sources) (used : List Used) (i : ℕ) (u : Used) (fault : DecodeFault)
    → AreUsed layout s.parts used → i < length used → u ≡ get_or used i u → Decodes (bits_counted (held_at s u.availability) u) (Err fault) → Decodes (subtree_counted layout root s) (Err fault)
counted-err layout root s used i u Memory are within is one = tt
counted-err layout root s used i u (Fault n) are within is one =
    let row = refused 16 (list_any (miscounted s) used) (map (bits_at s) used) n (all_counted-err s used i u (Fault n) within is one) in
    ap (λ found. need 11 found (λ cs. refuse 16 (list_any (miscounted s) (used_of layout s.parts cs)) (Ok (subtree_at layout root s cs)))) are.wanted
    ∙ ap (λ us. refuse 16 (list_any (miscounted s) us) (Ok (subtree_at layout root s are.contents))) (sym are.are)
    ∙ ap (λ b. refuse 16 b (Ok (subtree_at layout root s are.contents))) row.0
    ∙ ap Err row.1

-- what holds of all that are used holds of those behind the first
pub placed_behind : (s : Sources) (used : List Used) → All (λ u. IsPlaced (held_at s u.availability) u) used → All (λ u. IsPlaced (held_at s u.availability) u) (drop 1 used)
placed_behind s [] all = all
placed_behind s (u ∷ used) all = λ k d low. all (suc k) d (omega (arith, low))
