-- Fields one by one.
use Rattle.std.proofs.Common.{◌+◌, length, refl, arith, length-append, ◌≡◌, ℕ, List, [], ◌∷◌, ◌++◌, sym, ap, ◌∙◌, append-nil, append_assoc}
use Rattle.std.specs.List.{flat_map}
use Rattle.std.proofs.lemmas.Grind.{flat_map-append}
use Rattle.std.specs.Prelude.{Result, Ok, Err, OnOk, is_ok, if◌then◌else◌}
use Rattle.std.specs.Fmt.{decimal}
use Rattle.implicit_tiling.specs.declared.Scheme.{Scheme}
use Rattle.implicit_tiling.specs.declared.Scheme.TheVariants.{Quad, Oct}
use Rattle.implicit_tiling.specs.Tile.{Tile}
use Rattle.implicit_tiling.specs.Scene.{Layout}
use Rattle.implicit_tiling.specs.Text.{coordinate_texts, content_texts, tile_line}
use Rattle.request_text.specs.Fields.{joined, after_tab}

-- the first field, and each other behind its TAB
pub joined_tabs : (field : List ℕ) (fields : List (List ℕ)) → joined (field ∷ fields) ≡ field ++ flat_map after_tab fields
joined_tabs field [] = sym (append-nil field)
joined_tabs field (next ∷ fields) = ap (λ w. field ++ (9 ∷ w)) (joined_tabs next fields)

pub joined_append : (field : List ℕ) (fields more : List (List ℕ)) → joined (field ∷ (fields ++ more)) ≡ joined (field ∷ fields) ++ flat_map after_tab more
joined_append field fields more =
    joined_tabs field (fields ++ more)
    ∙ ap (λ w. field ++ w) (flat_map-append after_tab fields more)
    ∙ sym (append_assoc field (flat_map after_tab fields) (flat_map after_tab more))
    ∙ ap (λ w. w ++ flat_map after_tab more) (sym (joined_tabs field fields))

-- the fields of a tile's place, and more
pub place_and_more : (scheme : Scheme) (t : Tile) (more : List (List ℕ)) → joined (coordinate_texts scheme t ++ more) ≡ joined (coordinate_texts scheme t) ++ flat_map after_tab more
place_and_more Quad t more = joined_append (decimal t.level) (decimal t.x ∷ decimal t.y ∷ []) more
place_and_more Oct t more = joined_append (decimal t.level) (decimal t.x ∷ decimal t.y ∷ decimal t.z ∷ []) more

-- what holds where a call succeeds, from what the call ensures there
pub on_ok : {T E : Type 0} (r : Result T E) (P Q : Type 0) → (P → Q) → OnOk r P → OnOk r Q
on_ok (Ok value) P Q f h = f h
on_ok (Err fault) P Q f h = h

-- a line is the place of its tile, the contents and LF
pub line_written : (layout : Layout) (scheme : Scheme) (contents : List (List ℕ)) (t : Tile) (m : ℕ) (old one two three : List ℕ) → scheme ≡ layout.scheme → contents ≡ layout.contents
    → one ≡ old ++ joined (coordinate_texts scheme t) → two ≡ one ++ flat_map after_tab (content_texts scheme t m 0 contents) → three ≡ two ++ (10 ∷ []) → three ≡ old ++ tile_line layout t m
line_written layout scheme contents t m old one two three same_scheme same_contents first second third =
    let place = joined (coordinate_texts layout.scheme t) in
    let names = flat_map after_tab (content_texts layout.scheme t m 0 layout.contents) in
    let one_is : one ≡ old ++ place = first ∙ ap (λ s. old ++ joined (coordinate_texts s t)) same_scheme in
    let two_is : two ≡ one ++ names = second ∙ ap (λ s. one ++ flat_map after_tab (content_texts s t m 0 contents)) same_scheme
    ∙ ap (λ cs. one ++ flat_map after_tab (content_texts layout.scheme t m 0 cs)) same_contents in
    let whole : joined (coordinate_texts layout.scheme t ++ content_texts layout.scheme t m 0 layout.contents) ≡ place ++ names = place_and_more layout.scheme t (content_texts layout.scheme t m 0 layout.contents) in
    third ∙ ap (λ w. w ++ (10 ∷ [])) (two_is ∙ ap (λ w. w ++ names) one_is ∙ append_assoc old place names)
    ∙ append_assoc old (place ++ names) (10 ∷ []) ∙ ap (λ w. old ++ (w ++ (10 ∷ []))) (sym whole)

-- and its length that of these parts
pub length_of_line : (layout : Layout) (scheme : Scheme) (contents : List (List ℕ)) (t : Tile) (m place names : ℕ) → scheme ≡ layout.scheme → contents ≡ layout.contents
    → place ≡ length (joined (coordinate_texts scheme t)) → names ≡ length (flat_map after_tab (content_texts scheme t m 0 contents)) → place + names + 1 ≡ length (tile_line layout t m)
length_of_line layout scheme contents t m place names same_scheme same_contents first second =
    let fields = joined (coordinate_texts scheme t) in
    let more = flat_map after_tab (content_texts scheme t m 0 contents) in
    let whole : (fields ++ more) ++ (10 ∷ []) ≡ tile_line layout t m =
    line_written layout scheme contents t m [] fields (fields ++ more) ((fields ++ more) ++ (10 ∷ [])) same_scheme same_contents refl refl refl in
    omega (arith, first, second, length-append (fields ++ more) (10 ∷ []), length-append fields more, ap (λ w. length w) whole)

-- a push that succeeds appends
pub pushed : {T E : Type 0} (r : Result T E) (now before text : List ℕ) → now ≡ (if is_ok r then before ++ text else before) → OnOk r (now ≡ before ++ text)
pushed (Ok value) now before text h = h
pushed (Err fault) now before text h = tt
