-- What the walk over the region of all tiles of a recipe finds.
use Rattle.std.proofs.Common.{◌≡◌, ℕ, Bool, true, false, nat_lt, List, [], ◌∷◌, length, take, map, refl, sym, ap, ap₂, ◌∙◌, get_or}
use Rattle.std.specs.Prelude.{◌↔◌}
use Rattle.std.specs.List.{All}
use Rattle.std.proofs.lemmas.List.{take-map}
use Rattle.std.proofs.lemmas.List.Elements.{All-head, All-tail}
use Rattle.implicit_tiling.specs.declared.Scheme.{Scheme}
use Rattle.implicit_tiling.specs.Answer.{complete, too_many, fault, most_tiles, Answer}
use Rattle.implicit_tiling.specs.Code.{word, word_tile, tile_word}
use Rattle.implicit_tiling.specs.Scene.{Scene}
use Rattle.implicit_tiling.specs.Steps.{partial, ended}
use Rattle.implicit_tiling.specs.Tile.{Tile}
use Rattle.walk_laws.specs.Regions.{whole}
use Rattle.walk_laws.proofs.Lists.{map-map}
use Rattle.tile_coords.specs.Ends.{end_seen}
use Rattle.tile_coords.specs.declared.walk_end.WalkEnd.{WalkEnd}
use Rattle.tile_coords.specs.declared.walk_end.WalkEnd.TheVariants.{Partial, Complete, TooMany, Fault}
use Rattle.tile_word.proofs.Tiles.{parts_have_their_word}
use Rattle.tile_word.specs.Answers.{IsAnswer}
use Rattle.tile_occupancy.specs.Occupied.{tiles_of, IsOccupancy}
use Rattle.build_laws.specs.Holds.{HoldsTiles}
use Rattle.build_laws.specs.Laws.{end_after}
use Rattle.build_laws.proofs.Answer.{all_tiles_are_the_answer}

-- ---- the words

-- a word is that of its tile with the contents that stand there
own_word : (s : Scene) (ws : List ℕ) → IsOccupancy s.layout.scheme s.layout.levels ws → HoldsTiles s ws
    → All (λ w. tile_word s (word_tile s.layout.scheme w) ≡ w) ws
own_word s ws occupancy holds i d within =
    let w = get_or ws i d in
    ap (word s.layout.scheme (word_tile s.layout.scheme w)) (holds.masks i d within)
    ∙ (parts_have_their_word s.layout.scheme w (occupancy.are_words i d within).is_word).word

map_back : (f : ℕ → ℕ) (ws : List ℕ) → All (λ w. f w ≡ w) ws → map f ws ≡ ws
map_back f [] all = refl
map_back f (w ∷ ws) all = ap₂ (λ v vs. v ∷ vs) (All-head (λ v. f v ≡ v) w ws all) (map_back f ws (All-tail (λ v. f v ≡ v) w ws all))

words_again : (f : Tile → ℕ) (scheme : Scheme) (ws : List ℕ) (n : ℕ) → All (λ w. f (word_tile scheme w) ≡ w) ws → map f (take n (tiles_of scheme ws)) ≡ take n ws
words_again f scheme ws n all =
    sym (take-map f n (tiles_of scheme ws))
    ∙ ap (take n) (map-map f (word_tile scheme) ws ∙ map_back (λ w. f (word_tile scheme w)) ws all)

-- ---- the end

-- whether an end says that there is more
abbrev pub is_cut : WalkEnd → Bool
is_cut Partial = false
is_cut Complete = false
is_cut TooMany = true
is_cut (Fault root number) = false

-- a test that decides it
pub cut_if : (end : WalkEnd) (b : Bool) → (b ≡ true) ↔ (end ≡ TooMany) → b ≡ is_cut end
cut_if Partial true h = let impossible : Partial ≡ TooMany = h.0 refl in absurd (cc)
cut_if Partial false h = refl
cut_if Complete true h = let impossible : Complete ≡ TooMany = h.0 refl in absurd (cc)
cut_if Complete false h = refl
cut_if TooMany b h = h.1 refl
cut_if (Fault root number) true h = let impossible : Fault root number ≡ TooMany = h.0 refl in absurd (cc)
cut_if (Fault root number) false h = refl

ends_so : (scheme : Scheme) (end : WalkEnd) (more : Bool) → end_seen scheme end ≡ ended (end_after more) → is_cut end ≡ more
ends_so scheme Partial more e = let impossible : partial ≡ ended (end_after more) = e in absurd (cc)
ends_so scheme Complete true e = let impossible : ended complete ≡ ended too_many = e in absurd (cc)
ends_so scheme Complete false e = refl
ends_so scheme TooMany true e = refl
ends_so scheme TooMany false e = let impossible : ended too_many ≡ ended complete = e in absurd (cc)
ends_so scheme (Fault root number) true e = let impossible : ended (fault (word_tile scheme root) number) ≡ ended too_many = e in absurd (cc)
ends_so scheme (Fault root number) false e = let impossible : ended (fault (word_tile scheme root) number) ≡ ended complete = e in absurd (cc)

-- ---- both

pub record IsFound (ws words : List ℕ) (end : WalkEnd) : Type 0 where
  pub words_are : words ≡ take most_tiles ws
  pub more_is : is_cut end ≡ nat_lt most_tiles (length ws)

pub found : (s : Scene) (ws words : List ℕ) (end : WalkEnd) → IsOccupancy s.layout.scheme s.layout.levels ws → HoldsTiles s ws
    → IsAnswer s (whole s.layout.scheme s.layout.levels) words end → IsFound ws words end
found s ws words end occupancy holds is =
    let law = all_tiles_are_the_answer s ws occupancy holds in
    record {
      words_are = is.words_are ∙ ap (λ (a : Answer). map (tile_word s) a.tiles) law
          ∙ words_again (tile_word s) s.layout.scheme ws most_tiles (own_word s ws occupancy holds);
      more_is = ends_so s.layout.scheme end (nat_lt most_tiles (length ws)) (is.end_is ∙ ap (λ (a : Answer). ended a.end) law);
    }
