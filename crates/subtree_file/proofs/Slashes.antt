-- The folder of a name.
use Rattle.std.proofs.Common.{◌≡◌, ◌∙◌, ℕ, zero, suc, ◌+◌, ◌<◌, ◌≤◌, ◌||◌, ◌==◌, Bool, true, false, cond, List, [], ◌∷◌, ◌++◌, length, get_or, take, drop, take-append-drop, refl, sym, ap, arith}
use Rattle.std.specs.Prelude.{Option, Some, None, option_map, MatchOption, Result, Ok, Err, IfOk, String, string_bytes}
use Rattle.std.specs.List.{list_any}
use Rattle.std.proofs.lemmas.Bool.{or_from, or_right, ne_eqb}
use Rattle.std.proofs.lemmas.Str.Pattern.{NoCharPasses-char}
use Rattle.std.specs.Str.Pattern.{RFindsChar}
use Rattle.std.specs.declared.alloc.Global.{Global}
use denote.Ref.{Bor}
use Rattle.implicit_tiling.specs.declared.Scheme.{Scheme}
use Rattle.implicit_tiling.specs.declared.Scheme.TheVariants.{Quad, Oct}
use Rattle.implicit_tiling.specs.Tile.{Tile, axes}
use Rattle.implicit_tiling.specs.Template.{filled}
use Rattle.implicit_tiling.specs.Scene.{Layout}
use Rattle.uri_template.specs.Filling.{scheme_of}
use Rattle.subtree_file.specs.Needed.{joined}
use Rattle.implicit_tileset.specs.BufferFiles.{folder_of}

-- no byte is a slash
abbrev pub HasNoSlash : List ℕ → Type 0
HasNoSlash xs = (i : ℕ) → i < length xs → get_or xs i 0 ≡ 47 → ⊥

none_there : (xs : List ℕ) → HasNoSlash xs → list_any (λ b. b == 47) xs ≡ false
none_there [] h = refl
none_there (x ∷ xs) h = or_from (x == 47) (list_any (λ b. b == 47) xs) (ne_eqb x 47 (h 0 (omega arith))) (none_there xs (λ i l. h (suc i) (omega (arith, l))))

no_folder_by : (b : Bool) (x : ℕ) (xs : List ℕ) → b ≡ false → cond b (x ∷ folder_of xs) [] ≡ []
no_folder_by true x xs e = cc
no_folder_by false x xs e = refl

no_folder : (xs : List ℕ) → HasNoSlash xs → folder_of xs ≡ []
no_folder [] h = refl
no_folder (x ∷ xs) h = no_folder_by (list_any (λ b. b == 47) (x ∷ xs)) x xs (none_there (x ∷ xs) h)

slash_there : (front back : List ℕ) → list_any (λ b. b == 47) (front ++ 47 ∷ back) ≡ true
slash_there [] back = refl
slash_there (x ∷ front) back = or_right (x == 47) (list_any (λ b. b == 47) (front ++ 47 ∷ back)) (slash_there front back)

folder_split : (front back : List ℕ) → HasNoSlash back → folder_of (front ++ 47 ∷ back) ≡ front ++ 47 ∷ []
folder_split [] back h = ap (λ l. 47 ∷ l) (no_folder back h)
folder_split (x ∷ front) back h =
    ap (λ b. cond b (x ∷ folder_of (front ++ 47 ∷ back)) []) (slash_there (x ∷ front) back) ∙ ap (λ l. x ∷ l) (folder_split front back h)

-- takes the clause of `rsplit_once` at a slash
pub by_split : (text : List ℕ) (r : Option (Bor (List ℕ) × Bor (List ℕ)))
    → MatchOption r (RFindsChar 47 text None) (λ x. (i : ℕ) × (j : ℕ) × RFindsChar 47 text (Some (i, j)) × (x.0.now ≡ take i text) × (x.1.now ≡ drop j text) × (i ≤ j) × (length x.0.now ≡ i) × (length x.1.now + j ≡ length text))
    → folder_of text ≡ joined (option_map (λ x. (x.0.now, x.1.now)) r)
unfolding lib.Utf8.encode
by_split text None h = no_folder text (λ i. NoCharPasses-char 47 text i h (omega arith))
by_split text (Some x) h =
    let i = h.0 in
    let j = h.1 in
    let whole : text ≡ take i text ++ 47 ∷ drop j text = sym (take-append-drop i text) ∙ ap (λ l. take i text ++ l) h.2.1.split in
    ap folder_of whole ∙ folder_split (take i text) (drop j text) (λ k. NoCharPasses-char 47 (drop j text) k h.2.0 (omega arith)) ∙ ap (λ l. l ++ 47 ∷ []) (sym h.3)

pub ok_same : {E : Type 0} (r : Result (String Global) E) (a b : List ℕ) → a ≡ b → IfOk r (λ s. string_bytes s ≡ a) → IfOk r (λ s. string_bytes s ≡ b)
ok_same (Ok s) a b e h = h ∙ e
ok_same (Err e) a b is h = tt

scheme_again : (scheme : Scheme) → scheme_of (axes scheme) ≡ scheme
scheme_again Quad = refl
scheme_again Oct = refl

-- a template filled with a root is the name of its file
pub name_is : (layout : Layout) (root tile : Tile) (count : ℕ) (scheme : Scheme) (template text before after : List ℕ)
    → text ≡ after → after ≡ before ++ filled (scheme_of count) template tile → before ≡ [] → count ≡ axes scheme → scheme ≡ layout.scheme → template ≡ layout.subtree → tile ≡ root
    → text ≡ filled layout.scheme layout.subtree root
name_is layout root tile count scheme template text before after is more empty of same written at =
    is ∙ more ∙ ap (λ w. w ++ filled (scheme_of count) template tile) empty
    ∙ ap (λ e. filled (scheme_of e) template tile) of ∙ ap (λ e. filled e template tile) (scheme_again scheme ∙ same)
    ∙ ap (λ w. filled layout.scheme w tile) written ∙ ap (filled layout.scheme layout.subtree) at
