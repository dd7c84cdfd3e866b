-- Lists of words grow by the words of a tile and its ancestors.
use Rattle.std.proofs.Common.{◌≡◌, ℕ, ◌+◌, ◌-◌, ◌<◌, ◌≤◌, List, [], ◌∷◌, ◌++◌, sym, ap, subst, ◌∙◌, arith, zero-add, append_assoc, inl, inr}
use Rattle.std.proofs.lemmas.Bool.{cases_order}
use Rattle.std.specs.List.{All, Contains}
use Rattle.std.proofs.lemmas.List.FromFn.{map-range_with_len_more, length-map-range_with_len, get_or-map-range_with_len}
use Rattle.std.proofs.lemmas.List.Elements.{All-append, All-weaker, Contains-append_left, Contains-append_right}
use Rattle.implicit_tiling.specs.declared.Scheme.{Scheme}
use Rattle.implicit_tiling.specs.Tile.{Tile, ancestor}
use Rattle.tile_occupancy.specs.Generated.{point, generated_word, line_words, HasLines}

pub line_more : (scheme : Scheme) (contents up w : ℕ) (t : Tile) (xs before after : List ℕ) → w ≡ generated_word scheme contents (ancestor up t)
    → before ≡ xs ++ line_words scheme up contents t → after ≡ before ++ w ∷ [] → after ≡ xs ++ line_words scheme (up + 1) contents t
line_more scheme contents up w t xs before after word before_is after_is =
    after_is ∙ ap (λ ys. ys ++ w ∷ []) before_is ∙ append_assoc xs (line_words scheme up contents t) (w ∷ [])
    ∙ ap (λ v. xs ++ (line_words scheme up contents t ++ v ∷ [])) word
    ∙ ap (λ ys. xs ++ ys) (sym (map-range_with_len_more (λ j. generated_word scheme contents (ancestor j t)) 0 up up (zero-add up)))

-- the word of a generated tile
abbrev pub IsMade : Scheme → ℕ → ℕ → ℕ → ℕ → ℕ → Type 0
IsMade scheme levels contents points number w = (k j : ℕ) × (k < points) × (j < levels) × (w ≡ generated_word scheme contents (ancestor j (point scheme levels number k)))

line_made : (scheme : Scheme) (levels contents k number : ℕ) → All (IsMade scheme levels contents (k + 1) number) (line_words scheme levels contents (point scheme levels number k))
line_made scheme levels contents k number i d h =
    let f = λ (j : ℕ). generated_word scheme contents (ancestor j (point scheme levels number k)) in
    let inside : i < levels = omega (arith, h, length-map-range_with_len f 0 levels) in
    (k, i, omega arith, inside, get_or-map-range_with_len f 0 levels i i d inside (zero-add i))

in_line : (scheme : Scheme) (levels contents j : ℕ) (t : Tile) → j < levels → Contains (line_words scheme levels contents t) (generated_word scheme contents (ancestor j t))
in_line scheme levels contents j t h =
    let f = λ (i : ℕ). generated_word scheme contents (ancestor i t) in
    (j, omega (arith, h, length-map-range_with_len f 0 levels), get_or-map-range_with_len f 0 levels j j (f j) h (zero-add j))

pub lines_more : (scheme : Scheme) (levels contents k number : ℕ) (p : Tile) (before after : List ℕ) → 1 ≤ levels → p ≡ point scheme levels number k
    → HasLines scheme levels contents k number before → after ≡ before ++ line_words scheme (p.level + 1) contents p → HasLines scheme levels contents (k + 1) number after
lines_more scheme levels contents k number p before after some at has after_is =
    let t = point scheme levels number k in
    let line = line_words scheme levels contents t in
    let whole : levels - 1 + 1 ≡ levels = omega (arith, some) in
    let is : after ≡ before ++ line =
    after_is ∙ ap (λ (u : Tile). before ++ line_words scheme (u.level + 1) contents u) at ∙ ap (λ n. before ++ line_words scheme n contents t) whole in
    record {
      made = subst (All (IsMade scheme levels contents (k + 1) number)) (sym is)
          (All-append (IsMade scheme levels contents (k + 1) number) before line
          (All-weaker (IsMade scheme levels contents k number) (IsMade scheme levels contents (k + 1) number)
          (λ w one. (one.0, one.1, omega (arith, one.2), one.3, one.4)) before has.made) (line_made scheme levels contents k number));
      every = λ m j h inside. subst (λ ws. Contains ws (generated_word scheme contents (ancestor j (point scheme levels number m)))) (sym is)
          (elim (cases_order m k) [
            | inl same ↦ Contains-append_right before line (generated_word scheme contents (ancestor j (point scheme levels number m)))
                (subst (λ n. Contains line (generated_word scheme contents (ancestor j (point scheme levels number n)))) (sym same) (in_line scheme levels contents j t inside))
            | inr (inl low) ↦ Contains-append_left before line (generated_word scheme contents (ancestor j (point scheme levels number m))) (has.every m j low inside)
            | inr (inr high) ↦ absurd (omega (arith, h, high))
          ]);
    }
