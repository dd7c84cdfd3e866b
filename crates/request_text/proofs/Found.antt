-- The lines of found faults.
use Rattle.std.proofs.Common.{◌≡◌, ℕ, ◌-◌, ◌<◌, ◌≤◌, List, [], ◌∷◌, take, refl, ap, ◌∙◌, sym, arith, lit<}
use Rattle.std.specs.Prelude.{◌++◌, length, map, Option, Some, None, option_map}
use Rattle.std.specs.List.{All, AllByRecursion, filter_map, cons_option}
use Rattle.std.proofs.lemmas.List.{length-map}
use Rattle.std.proofs.lemmas.List.Elements.{All-filter, All-take, recursion_from_All}
use Rattle.implicit_tiling.specs.declared.Scheme.TheVariants.{Quad, Oct}
use Rattle.implicit_tiling.specs.Limits.{most_levels}
use Rattle.implicit_tiling.specs.Tile.{Tile, all_tiles}
use Rattle.implicit_tiling.specs.Scene.{Scene, fault_of}
use Rattle.implicit_tiling.specs.Availability.{is_reached}
use Rattle.implicit_tiling.specs.Answer.{fault_at}
use Rattle.implicit_tiling.specs.Checked.{checked, most_roots, reached_roots}
use Rattle.tile_word.specs.Words.{HasWord}
use Rattle.tile_word.proofs.Tiles.{words_have_their_parts}
use Rattle.request_text.specs.Laws.{FoundMakeTheText}
use Rattle.request_text.proofs.Words.{all_have_words}
use Rattle.std.specs.Io.KnownBytes.{Appends}
use Rattle.scene_ports.specs.Output.{GivesFront}
use Rattle.std.specs.List.{flat_map}
use Rattle.std.proofs.lemmas.List.Folds.{flat_map-map}
use Rattle.implicit_tiling.specs.declared.Scheme.{Scheme}
use Rattle.implicit_tiling.specs.Text.{fault_line, check_end_line}
use Rattle.tile_coords.specs.declared.walk_end.FoundFault.{FoundFault}
use Rattle.tile_coords.specs.declared.walk_end.CheckEnd.{CheckEnd}
use Rattle.request_text.specs.Found.{fault_seen, found_text}
use Rattle.tile_coords.specs.Found.{found_of}

-- the line of a fault by its word
abbrev pub found_line : Scheme → FoundFault → List ℕ
found_line scheme f = fault_line scheme (fault_seen scheme f)

pub text_by_lines : (scheme : Scheme) (found : List FoundFault) (end : CheckEnd) → flat_map (found_line scheme) found ++ check_end_line end.more end.looked (length found) ≡ found_text scheme found end
text_by_lines scheme found end = ap (λ w. w ++ check_end_line end.more end.looked (length found)) (sym (flat_map-map (fault_line scheme) (fault_seen scheme) found))

pub front_by_lines : (scheme : Scheme) (found : List FoundFault) (end : CheckEnd) (before now : Option (List ℕ))
    → GivesFront before now (flat_map (found_line scheme) found ++ check_end_line end.more end.looked (length found)) → GivesFront before now (found_text scheme found end)
front_by_lines scheme found end before now front = rw (← text_by_lines scheme found end) front

pub given_by_lines : (scheme : Scheme) (found : List FoundFault) (end : CheckEnd) (before now : Option (List ℕ))
    → Appends before now (flat_map (found_line scheme) found ++ check_end_line end.more end.looked (length found)) → Appends before now (found_text scheme found end)
given_by_lines scheme found end before now given = rw (← text_by_lines scheme found end) given

-- a root of the limits is that of its word
seen_again : (scheme : Scheme) (r : Tile) (n : ℕ) → HasWord scheme r → fault_seen scheme (found_of scheme (r, n)) ≡ (r, n)
seen_again scheme r n has = ap (λ (t : Tile). (t, n)) (words_have_their_parts scheme r 0 has (lit< tt)).tile

abbrev again : Scheme → List (Tile × ℕ) → List (Tile × ℕ)
again scheme faults = map (fault_seen scheme) (map (found_of scheme) faults)

one_more : (scheme : Scheme) (r : Tile) (found : Option ℕ) (rest : List (Tile × ℕ)) → HasWord scheme r → again scheme rest ≡ rest
    → again scheme (cons_option (option_map (λ n. (r, n)) found) rest) ≡ cons_option (option_map (λ n. (r, n)) found) rest
one_more scheme r None rest has same = same
one_more scheme r (Some n) rest has same = ap (λ f. f ∷ again scheme rest) (seen_again scheme r n has) ∙ ap (λ fs. (r, n) ∷ fs) same

all_again : (s : Scene) (rs : List Tile) → AllByRecursion (HasWord s.layout.scheme) rs → again s.layout.scheme (filter_map (fault_at s) rs) ≡ filter_map (fault_at s) rs
all_again s [] all = refl
all_again s (r ∷ rs) all = one_more s.layout.scheme r (fault_of (s.outcome r)) (filter_map (fault_at s) rs) all.0 (all_again s rs all.1)

-- each root that a check looks at has a word
last_level : (scheme : Scheme) (levels : ℕ) → levels ≤ most_levels scheme → levels - 1 < most_levels scheme
last_level Quad levels within = omega arith
last_level Oct levels within = omega arith

roots_have_words : (s : Scene) → s.layout.levels ≤ most_levels s.layout.scheme → All (HasWord s.layout.scheme) (take most_roots (reached_roots s))
roots_have_words s within =
    let scheme = s.layout.scheme in
    let last = s.layout.levels - 1 in
    All-take (HasWord scheme) most_roots (reached_roots s)
    (All-filter (is_reached s) (HasWord scheme) (all_tiles scheme last) (all_have_words scheme last (last_level scheme s.layout.levels within)))

pub found_make_the_text : FoundMakeTheText
found_make_the_text s within =
    let scheme = s.layout.scheme in
    let same = all_again s (take most_roots (reached_roots s)) (recursion_from_All (HasWord scheme) (take most_roots (reached_roots s)) (roots_have_words s within)) in
    ap (λ fs. flat_map (fault_line scheme) fs ++ check_end_line (checked s).more (length (checked s).looked) (length (map (found_of scheme) (checked s).faults))) same
    ∙ ap (λ n. flat_map (fault_line scheme) (checked s).faults ++ check_end_line (checked s).more (length (checked s).looked) n) (length-map (checked s).faults (found_of scheme))
