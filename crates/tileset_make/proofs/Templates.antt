-- The templates of recipes are short, printable texts.
use Rattle.std.proofs.Common.{◌≡◌, ℕ, zero, suc, ◌<◌, true, List, arith, refl}
use Rattle.std.specs.Fmt.{digits}
use Rattle.std.specs.Char.{encode_utf8}
use Rattle.std.specs.Str.{is_utf8, chars}
use Rattle.std.proofs.lemmas.Str.{IsUtf8-from_is_utf8}
use Rattle.implicit_tiling.specs.declared.Scheme.{Scheme}
use Rattle.implicit_tiling.specs.declared.Scheme.TheVariants.{Quad, Oct}
use Rattle.implicit_tiling.specs.Limits.{most_contents}
use Rattle.implicit_tiling.specs.Template.{is_template}
use Rattle.tileset_write.specs.LayoutText.{IsTemplateText}
use Rattle.tileset_make.specs.Recipes.{subtree_template, content_template}

good : (text : List ℕ) → is_template text ≡ true → is_utf8 text ≡ true → IsTemplateText text
good text template utf8 = record { template = template; utf8 = IsUtf8-from_is_utf8 text utf8 }

pub subtree_is_template : (scheme : Scheme) → IsTemplateText (subtree_template scheme)
unfolding is_utf8 chars encode_utf8
subtree_is_template Quad = good (subtree_template Quad) refl refl
subtree_is_template Oct = good (subtree_template Oct) refl refl

-- one for each number of a content
quad : (content : ℕ) → content < most_contents → IsTemplateText (content_template Quad content)
unfolding digits is_utf8 chars encode_utf8
quad zero few = good (content_template Quad 0) refl refl
quad (suc zero) few = good (content_template Quad 1) refl refl
quad (suc (suc zero)) few = good (content_template Quad 2) refl refl
quad (suc (suc (suc zero))) few = good (content_template Quad 3) refl refl
quad (suc (suc (suc (suc zero)))) few = good (content_template Quad 4) refl refl
quad (suc (suc (suc (suc (suc zero))))) few = good (content_template Quad 5) refl refl
quad (suc (suc (suc (suc (suc (suc zero)))))) few = good (content_template Quad 6) refl refl
quad (suc (suc (suc (suc (suc (suc (suc zero))))))) few = good (content_template Quad 7) refl refl
quad (suc (suc (suc (suc (suc (suc (suc (suc zero)))))))) few = good (content_template Quad 8) refl refl
quad (suc (suc (suc (suc (suc (suc (suc (suc (suc zero))))))))) few = good (content_template Quad 9) refl refl
quad (suc (suc (suc (suc (suc (suc (suc (suc (suc (suc zero)))))))))) few = good (content_template Quad 10) refl refl
quad (suc (suc (suc (suc (suc (suc (suc (suc (suc (suc (suc zero))))))))))) few = good (content_template Quad 11) refl refl
quad (suc (suc (suc (suc (suc (suc (suc (suc (suc (suc (suc (suc zero)))))))))))) few = good (content_template Quad 12) refl refl
quad (suc (suc (suc (suc (suc (suc (suc (suc (suc (suc (suc (suc (suc zero))))))))))))) few = good (content_template Quad 13) refl refl
quad (suc (suc (suc (suc (suc (suc (suc (suc (suc (suc (suc (suc (suc (suc zero)))))))))))))) few = good (content_template Quad 14) refl refl
quad (suc (suc (suc (suc (suc (suc (suc (suc (suc (suc (suc (suc (suc (suc (suc zero))))))))))))))) few = good (content_template Quad 15) refl refl
quad (suc (suc (suc (suc (suc (suc (suc (suc (suc (suc (suc (suc (suc (suc (suc (suc content)))))))))))))))) few = absurd (omega arith)

oct : (content : ℕ) → content < most_contents → IsTemplateText (content_template Oct content)
unfolding digits is_utf8 chars encode_utf8
oct zero few = good (content_template Oct 0) refl refl
oct (suc zero) few = good (content_template Oct 1) refl refl
oct (suc (suc zero)) few = good (content_template Oct 2) refl refl
oct (suc (suc (suc zero))) few = good (content_template Oct 3) refl refl
oct (suc (suc (suc (suc zero)))) few = good (content_template Oct 4) refl refl
oct (suc (suc (suc (suc (suc zero))))) few = good (content_template Oct 5) refl refl
oct (suc (suc (suc (suc (suc (suc zero)))))) few = good (content_template Oct 6) refl refl
oct (suc (suc (suc (suc (suc (suc (suc zero))))))) few = good (content_template Oct 7) refl refl
oct (suc (suc (suc (suc (suc (suc (suc (suc zero)))))))) few = good (content_template Oct 8) refl refl
oct (suc (suc (suc (suc (suc (suc (suc (suc (suc zero))))))))) few = good (content_template Oct 9) refl refl
oct (suc (suc (suc (suc (suc (suc (suc (suc (suc (suc zero)))))))))) few = good (content_template Oct 10) refl refl
oct (suc (suc (suc (suc (suc (suc (suc (suc (suc (suc (suc zero))))))))))) few = good (content_template Oct 11) refl refl
oct (suc (suc (suc (suc (suc (suc (suc (suc (suc (suc (suc (suc zero)))))))))))) few = good (content_template Oct 12) refl refl
oct (suc (suc (suc (suc (suc (suc (suc (suc (suc (suc (suc (suc (suc zero))))))))))))) few = good (content_template Oct 13) refl refl
oct (suc (suc (suc (suc (suc (suc (suc (suc (suc (suc (suc (suc (suc (suc zero)))))))))))))) few = good (content_template Oct 14) refl refl
oct (suc (suc (suc (suc (suc (suc (suc (suc (suc (suc (suc (suc (suc (suc (suc zero))))))))))))))) few = good (content_template Oct 15) refl refl
oct (suc (suc (suc (suc (suc (suc (suc (suc (suc (suc (suc (suc (suc (suc (suc (suc content)))))))))))))))) few = absurd (omega arith)

pub content_is_template : (scheme : Scheme) (content : ℕ) → content < most_contents → IsTemplateText (content_template scheme content)
content_is_template Quad = quad
content_is_template Oct = oct
