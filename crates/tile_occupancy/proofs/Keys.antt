-- Words without contents stand for the keys of their tiles: what rises, and where a tile is found.
use Rattle.std.proofs.Common.{zero, suc, add-one, ◌≡◌, ℕ, ◌+◌, ◌-◌, ◌<◌, ◌≤◌, Bool, true, List, length, get_or, refl, sym, ap, subst, ◌∙◌, arith, lit<, inl, inr, Result, Ok, Err}
use Rattle.std.specs.Prelude.{◌↔◌, false, nat_lt, slice_index, is_ok, MatchBool}
use Rattle.std.specs.Bool.{Decides}
use Rattle.std.specs.List.{All, Contains, IsAllAdjacentAnswer}
use Rattle.std.specs.List.Sorted.{IsNonDecreasingBy, IsSearchInRange, IsBinarySearchResult}
use Rattle.std.specs.Ordering.{nat_cmp, ordering_index}
use Rattle.std.proofs.lemmas.Cmp.{ranked}
use Rattle.std.proofs.lemmas.List.Sorted.{IsNonDecreasingBy-from_default}
use Rattle.std.proofs.lemmas.Bool.Decides.{nat_tests}
use Rattle.std.proofs.lemmas.List.{get_or-map, length-map}
use Rattle.std.proofs.lemmas.Bool.{cases_order, cases_lt, ltb-true, ltb-false}
use Rattle.implicit_tiling.specs.declared.Scheme.{Scheme}
use Rattle.implicit_tiling.specs.Tile.{Tile, is_key_below, root}
use Rattle.implicit_tiling.specs.Code.{word, word_tile, IsWord}
use Rattle.tile_word.specs.Words.{word_key, HasWord}
use Rattle.tile_word.proofs.Tiles.{tile_of_word, key_is_that_of_the_tile, parts_have_their_word, words_are_ordered}
use Rattle.tile_occupancy.specs.Occupied.{KeysRise, tiles_of}

-- the keys of the words before a place rise
abbrev pub RiseBefore : List ℕ → ℕ → Type 0
RiseBefore ws n = (i j : ℕ) → i < j → j < n → word_key (slice_index ws i) < word_key (slice_index ws j)

pub has_word : (scheme : Scheme) (w : ℕ) → IsWord scheme w → HasWord scheme (word_tile scheme w)
has_word scheme w is = (parts_have_their_word scheme w is).has_word

-- tiles stand at the places of their words
pub places : (scheme : Scheme) (ws : List ℕ) → length (tiles_of scheme ws) ≡ length ws
places scheme ws = length-map ws (word_tile scheme)

pub tile_of_place : (scheme : Scheme) (ws : List ℕ) (i d : ℕ) (e : Tile) → i < length ws → get_or (tiles_of scheme ws) i e ≡ word_tile scheme (get_or ws i d)
tile_of_place scheme ws i d e h = get_or-map (word_tile scheme) ws i d e h

-- the order of keys
pub by_key : (scheme : Scheme) (v w : ℕ) → IsWord scheme v → IsWord scheme w
    → (word_key v < word_key w) ↔ (is_key_below scheme (word_tile scheme v) (word_tile scheme w) ≡ true)
by_key scheme v w one other =
    let tiles = (words_are_ordered scheme (word_tile scheme v) (word_tile scheme w) (has_word scheme v one) (has_word scheme w other)).by_key 0 (lit< tt) in
    let v_is = key_is_that_of_the_tile scheme v one in
    let w_is = key_is_that_of_the_tile scheme w other in
    (λ h. tiles.0 (omega (arith, h, v_is, w_is)), λ h. omega (arith, tiles.1 h, v_is, w_is))

pub rising_below : (scheme : Scheme) (ws : List ℕ) → All (IsWord scheme) ws → KeysRise scheme ws → RiseBefore ws (length ws)
rising_below scheme ws are rise i j low within =
    let before : i < length ws = omega arith in
    let tiles = rise i j root low (omega (arith, places scheme ws)) in
    (by_key scheme (slice_index ws i) (slice_index ws j) (are i 0 before) (are j 0 within)).1
    (subst (λ t. is_key_below scheme t (word_tile scheme (slice_index ws j)) ≡ true) (tile_of_place scheme ws i 0 root before)
    (subst (λ t. is_key_below scheme (get_or (tiles_of scheme ws) i root) t ≡ true) (tile_of_place scheme ws j 0 root within) tiles))

pub rising_from : (scheme : Scheme) (ws : List ℕ) → All (IsWord scheme) ws → RiseBefore ws (length ws) → KeysRise scheme ws
rising_from scheme ws are rise i j e low within =
    let later : j < length ws = omega (arith, places scheme ws) in
    let before : i < length ws = omega arith in
    let keys = (by_key scheme (slice_index ws i) (slice_index ws j) (are i 0 before) (are j 0 later)).0 (rise i j low later) in
    subst (λ t. is_key_below scheme t (get_or (tiles_of scheme ws) j e) ≡ true) (sym (tile_of_place scheme ws i 0 e before))
    (subst (λ t. is_key_below scheme (word_tile scheme (slice_index ws i)) t ≡ true) (sym (tile_of_place scheme ws j 0 e later)) keys)

pub rise_more : (ws : List ℕ) (n : ℕ) → RiseBefore ws n → word_key (slice_index ws (n - 1)) < word_key (slice_index ws n) → RiseBefore ws (n + 1)
rise_more ws n rise step i j low within =
    elim (cases_order j n) [
      | inl last ↦ subst (λ k. word_key (slice_index ws i) < word_key (slice_index ws k)) (sym last)
          (elim (cases_order i (n - 1)) [
            | inl next ↦ subst (λ k. word_key (slice_index ws k) < word_key (slice_index ws n)) (sym next) step
            | inr (inl before) ↦ omega (arith, rise i (n - 1) before (omega arith), step)
            | inr (inr behind) ↦ absurd (omega arith)
          ])
      | inr (inl before) ↦ rise i j low before
      | inr (inr behind) ↦ absurd (omega arith)
    ]

-- keys that rise from each place to the next rise
pub rise_upto : (ws : List ℕ) (n : ℕ) → n ≤ length ws → ((k : ℕ) → 0 < k → k < length ws → word_key (slice_index ws (k - 1)) < word_key (slice_index ws k)) → RiseBefore ws n
rise_upto ws zero within step = λ i j low h. absurd (omega (arith, h))
rise_upto ws (suc zero) within step = λ i j low h. absurd (omega (arith, low, h))
rise_upto ws (suc (suc n)) within step =
    subst (RiseBefore ws) (add-one (suc n)) (rise_more ws (suc n) (rise_upto ws (suc n) (omega (arith, within)) step) (step (suc n) (omega arith) (omega (arith, within))))

-- keys that rise do not fall
pub never_fall : (ws : List ℕ) → RiseBefore ws (length ws) → IsNonDecreasingBy word_key ws
never_fall ws rise =
    IsNonDecreasingBy-from_default word_key ws 0
    (λ i j le within. elim (cases_order i j) [
      | inl same ↦ omega (arith, ap (λ k. word_key (slice_index ws k)) same)
      | inr (inl before) ↦ omega (arith, rise i j before within)
      | inr (inr behind) ↦ absurd (omega arith)
    ])

-- an answer of no
pub apart : false ≡ true → ⊥
apart e = subst (λ b. MatchBool b ⊥ (Unit {0})) e tt

pub decides_no : {P : Type 0} → (P → ⊥) → Decides false P
decides_no never = (λ e. absurd (apart e), λ p. absurd (never p))

-- each key is compared with the next
pub rising_is_decided : (scheme : Scheme) (ws : List ℕ) (rises : Bool) → All (IsWord scheme) ws → IsAllAdjacentAnswer (λ v w b. b ≡ nat_lt (word_key v) (word_key w)) ws rises
    → Decides rises (KeysRise scheme ws)
rising_is_decided scheme ws true are steps = (
  λ e. rising_from scheme ws are
      (rise_upto ws (length ws) (omega arith)
      (λ k some within.
      let back : k - 1 + 1 ≡ k = omega (arith, some) in
      let next = ltb-true (word_key (slice_index ws (k - 1))) (word_key (slice_index ws (k - 1 + 1))) (sym (steps (k - 1) 0 (omega (arith, back, within)))) in
      subst (λ n. word_key (slice_index ws (k - 1)) < word_key (slice_index ws n)) back next)),
  λ rise. refl,
)
rising_is_decided scheme ws false are falls =
    decides_no (λ rise.
    let k = falls.0 in
    let within = falls.1 in
    omega (
      arith,
      rising_below scheme ws are rise k (k + 1) (omega arith) within,
      ltb-false (word_key (slice_index ws k)) (word_key (slice_index ws (k + 1))) (sym (falls.2 0)),
    ))

-- a tile is at the place of its key, and nowhere else
pub found_at : (scheme : Scheme) (ws : List ℕ) (t : Tile) (i : ℕ) → HasWord scheme t → All (IsWord scheme) ws → i < length ws
    → word_key (slice_index ws i) ≡ word scheme t 0 → Contains (tiles_of scheme ws) t
found_at scheme ws t i has are within same =
    let w = slice_index ws i in
    let one : word_tile scheme w ≡ t =
    sym (tile_of_word scheme (word_tile scheme w) 0 (has_word scheme w (are i 0 within)) (lit< tt))
    ∙ ap (word_tile scheme) (sym (key_is_that_of_the_tile scheme w (are i 0 within)) ∙ same) ∙ tile_of_word scheme t 0 has (lit< tt) in
    (i, omega (arith, places scheme ws), tile_of_place scheme ws i 0 t within ∙ one)

pub place_of_tile : (scheme : Scheme) (ws : List ℕ) (t : Tile) → All (IsWord scheme) ws → Contains (tiles_of scheme ws) t
    → (k : ℕ) × (k < length ws) × (word_key (slice_index ws k) ≡ word scheme t 0)
place_of_tile scheme ws t are there =
    let at = there.1 in
    let within : there.0 < length ws = omega (arith, places scheme ws, at) in
    (there.0, within, key_is_that_of_the_tile scheme (slice_index ws there.0) (are there.0 0 within) ∙ ap (λ u. word scheme u 0) (sym (tile_of_place scheme ws there.0 0 t within) ∙ there.2))

-- a search by key finds each tile that is there, and no other
pub search_decides : (scheme : Scheme) (ws : List ℕ) (t : Tile) (w : ℕ) (found : Result ℕ ℕ) → HasWord scheme t → All (IsWord scheme) ws → KeysRise scheme ws
    → w ≡ word scheme t 0 → IsSearchInRange found (length ws) → IsBinarySearchResult (λ v. nat_cmp (word_key v) w) ws found → Decides (is_ok found) (Contains (tiles_of scheme ws) t)
search_decides scheme ws t w (Ok i) has are rise wanted within equal = (
  λ e. found_at scheme ws t i has are within (ranked (word_key (slice_index ws i)) w _ (sym (equal 0)) ∙ wanted),
  λ there. refl,
)
search_decides scheme ws t w (Err i) has are rise wanted within parted =
    decides_no (λ there.
    let at = place_of_tile scheme ws t are there in
    let same = at.2 in
    let sorted = never_fall ws (rising_below scheme ws are rise) in
    let sides = parted (IsNonDecreasingBy-from_default (λ v. ordering_index (nat_cmp (word_key v) w)) ws 0
    (λ j k le inside. let order = sorted j k 0 le inside in grind (arith, nat_tests))) in
    elim (cases_lt at.0 i) [
      | inl before ↦ let lower : word_key (slice_index ws at.0) < w = ranked _ w _ (sym (sides.0 at.0 0 (omega arith) before)) in omega (arith, same, wanted, lower)
      | inr behind ↦ let higher : w < word_key (slice_index ws at.0) = ranked _ w _ (sym (sides.1 at.0 0 behind at.1)) in omega (arith, same, wanted, higher)
    ])
