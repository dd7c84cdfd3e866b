-- The parts of a layout's value, from what was put; and that it has no float.
use Rattle.std.proofs.Common.{◌≡◌, ◌∙◌, ℕ, ◌||◌, false, List, [], ◌∷◌, ◌++◌, map, codes, Result, Ok, Err, OnOk, cond, is_ok, refl, ap, ap₂}
use Rattle.serde_json.specs.Data.{Data, string, object, Members, no_members, put}
use Rattle.serde_json.specs.View.{items_of}
use Rattle.serde_json.specs.Written.{has_float, items_have_float, members_have_float}
use Rattle.implicit_tiling.specs.Scene.{Layout}
use Rattle.implicit_tileset.specs.Json.{whole_number}
use Rattle.tileset_write.specs.LayoutText.{uri_value, box_value, with_contents, root_value, layout_value}
use Rattle.tileset_write.specs.LayoutMembers.{put_contents}
use Rattle.tileset_write.proofs.LayoutReads.{root_in_order}

no_float-uris : (ts : List (List ℕ)) → items_have_float (items_of (map uri_value ts)) ≡ false
no_float-uris [] = refl
no_float-uris (t ∷ ts) = no_float-uris ts

no_float-contents : (contents : List (List ℕ)) (ms : Members) → members_have_float ms ≡ false → members_have_float (with_contents contents ms) ≡ false
no_float-contents [] ms h = h
no_float-contents (t ∷ []) ms h = h
no_float-contents (t ∷ u ∷ ts) ms h = ap₂ (λ a b. a || b) (no_float-uris ts) h

pub no_float : (layout : Layout) → has_float (layout_value layout) ≡ false
no_float layout = ap (λ b. b || false) (no_float-contents layout.contents _ refl)

pub root_made : (contents : List (List ℕ)) (implicit : Data) (m₁ m₂ m₃ m₄ m₅ : Members) → m₁ ≡ put (codes "boundingVolume") box_value no_members → m₂ ≡ put_contents contents m₁
    → m₃ ≡ put (codes "geometricError") (whole_number 1) m₂ → m₄ ≡ put (codes "implicitTiling") implicit m₃ → m₅ ≡ put (codes "refine") (string (codes "ADD")) m₄ → object m₅ ≡ root_value contents implicit
root_made contents implicit m₁ m₂ m₃ m₄ m₅ e₁ e₂ e₃ e₄ e₅ =
    ap object (e₅ ∙ ap (put (codes "refine") (string (codes "ADD"))) (e₄ ∙ ap (put (codes "implicitTiling") implicit)
    (e₃ ∙ ap (put (codes "geometricError") (whole_number 1)) (e₂ ∙ ap (put_contents contents) e₁))))
    ∙ root_in_order contents implicit

pub text_added : {A E : Type 0} (r : Result A E) (before more after text : List ℕ) → after ≡ cond (is_ok r) (before ++ more) before → more ≡ text → OnOk r (after ≡ before ++ text)
text_added (Ok a) before more after text e same = e ∙ ap (λ l. before ++ l) same
text_added (Err a) before more after text e same = tt
