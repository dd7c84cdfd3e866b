-- The contents that are used, part by part: what was used, and what is left.
use Rattle.std.proofs.Common.{◌≡◌, ℕ, suc, ◌<◌, ◌≤◌, List, [], ◌∷◌, ◌++◌, length, get_or, drop, take, map, refl, sym, ap, ◌∙◌, append-nil}
use Rattle.std.specs.Prelude.{Option, Some, None, option_map, Ok, min}
use Rattle.std.proofs.Math.Seq.{drop-cons}
use Rattle.std.proofs.lemmas.List.{take_min, take-map}
use Rattle.std.proofs.Math.ListN.{drop_of_length-le}
use Rattle.implicit_tiling.specs.Checks.{need}
use Rattle.implicit_tiling.specs.Scene.{Layout}
use Rattle.implicit_tileset.specs.Record.{SubtreeRecord, Availability as availability}
use Rattle.implicit_tileset.specs.SubtreeFile.{Used, availabilities, wanted_contents, for_nodes, for_children}
use Rattle.subtree_json.specs.declared.part.ContentPart.{ContentPart}
use Rattle.subtree_json.specs.declared.part.ContentPart.TheVariants.{Malformed}
use Rattle.subtree_json.specs.Seen.{content_seen}
use Rattle.subtree_file.specs.Decoding.{used_in}

-- what is used of these parts
abbrev pub of_all : List ContentPart → Option (List availability)
of_all parts = availabilities (map content_seen parts)

-- what was used, followed by what is used of the parts from a place on
abbrev pub followed : {A : Type 0} → (availability → A) → List A → Option (List availability) → Option (List A)
followed f done rest = option_map (λ more. done ++ map f more) rest

abbrev pub goes_on : {A : Type 0} → (availability → A) → List A → List ContentPart → ℕ → Option (List A)
goes_on f done parts i = followed f done (of_all (drop i parts))

pub goes_on-malformed : {A : Type 0} (f : availability → A) (done : List A) (parts : List ContentPart) (i : ℕ) (d : ContentPart)
    → i < length parts → get_or parts i d ≡ Malformed → goes_on f done parts i ≡ None
goes_on-malformed f done parts i d within bad =
    ap (λ ps. followed f done (of_all ps)) (drop-cons parts i d within)
    ∙ ap (λ p. followed f done (availabilities (content_seen p ∷ map content_seen (drop (suc i) parts)))) bad

pub goes_on-end : {A : Type 0} (f : availability → A) (done : List A) (parts : List ContentPart) (i : ℕ) → length parts ≤ i → goes_on f done parts i ≡ Some done
goes_on-end f done parts i past = ap (λ ps. followed f done (of_all ps)) (drop_of_length-le parts past) ∙ ap Some (append-nil done)

-- the parts that are wanted, where m is the number of those that are there
pub of_all-wanted : (layout : Layout) (r : SubtreeRecord) (whole : List ContentPart) (m : ℕ)
    → r.contents ≡ map content_seen whole → m ≡ min (length layout.contents) (length whole) → of_all (take m whole) ≡ wanted_contents layout r
of_all-wanted layout r whole m seen is =
    ap availabilities (ap (λ k. map content_seen (take k whole)) is
    ∙ ap (map content_seen) (take_min (length layout.contents) whole)
    ∙ sym (take-map content_seen (length layout.contents) whole)
    ∙ ap (take (length layout.contents)) (sym seen))

put_together : (f : availability → Used) (x y : Used) (o : Option (List availability))
    → need 11 o (λ contents. Ok (x ∷ (map f contents ++ y ∷ []))) ≡ need 11 (followed f (x ∷ []) o) (λ done. Ok (done ++ y ∷ []))
put_together f x y None = refl
put_together f x y (Some contents) = refl

-- the used availabilities by those of tiles and contents
pub used_in-is : (layout : Layout) (r : SubtreeRecord) (parts : List ContentPart) (found : Option (List Used))
    → of_all parts ≡ wanted_contents layout r → goes_on (for_nodes layout) (for_nodes layout r.tiles ∷ []) parts 0 ≡ found
    → used_in layout r ≡ need 11 found (λ done. Ok (done ++ for_children layout r.child ∷ []))
used_in-is layout r parts found wanted is =
    put_together (for_nodes layout) (for_nodes layout r.tiles) (for_children layout r.child) (wanted_contents layout r)
    ∙ ap (λ o. need 11 (followed (for_nodes layout) (for_nodes layout r.tiles ∷ []) o) (λ done. Ok (done ++ for_children layout r.child ∷ []))) (sym wanted)
    ∙ ap (λ o. need 11 o (λ done. Ok (done ++ for_children layout r.child ∷ []))) is
