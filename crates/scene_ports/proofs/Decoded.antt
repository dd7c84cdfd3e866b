-- The path that decoded bytes are, if any.
use Rattle.std.proofs.Common.{◌≡◌, ℕ, Bool, true, false, List, refl, sym, ap, ◌∙◌, subst}
use Rattle.std.specs.Prelude.{IsUtf8, Some, None, cond, ◌&&◌}
use Rattle.std.specs.Bool.{then_some}
use Rattle.std.specs.Option.{option_map}
use Rattle.percent_encoding.specs.declared.DecodeError.{DecodeError}
use Rattle.percent_encoding.specs.declared.DecodeError.TheVariants.{Utf8, OutOfMemory}
use Rattle.std.specs.Str.{is_utf8}
use Rattle.std.proofs.lemmas.Str.{IsUtf8-from_is_utf8, is_utf8-from_IsUtf8}
use Rattle.scene_ports.specs.Paths.{is_plain, path_in}

-- what is shown of a value that is there under a condition
pub shown_if : {A B : Type 0} (show : A → B) (there : Bool) (value : A) → option_map show (then_some there value) ≡ cond there (Some (show value)) None
shown_if show true value = refl
shown_if show false value = refl

-- a text is a path where it is plain
pub text_path : (bytes : List ℕ) (plain : Bool) → IsUtf8 bytes → plain ≡ is_plain bytes → cond plain (Some bytes) None ≡ path_in bytes
text_path bytes plain text e =
    ap (λ p. cond p (Some bytes) None) e
    ∙ ap (λ u. cond (u && is_plain bytes) (Some bytes) None) (sym (is_utf8-from_IsUtf8 bytes text))

by_utf8 : (bytes : List ℕ) (text : Bool) → is_utf8 bytes ≡ text → (IsUtf8 bytes → ⊥) → None ≡ path_in bytes
by_utf8 bytes true e broken = absurd (broken (IsUtf8-from_is_utf8 bytes e))
by_utf8 bytes false e broken = ap (λ u. cond (u && is_plain bytes) (Some bytes) None) (sym e)

-- what is not UTF-8 is no path
pub broken_path : (bytes : List ℕ) → (IsUtf8 bytes → ⊥) → None ≡ path_in bytes
broken_path bytes broken = by_utf8 bytes (is_utf8 bytes) refl broken

-- an error of the text
abbrev pub IsTextError : DecodeError → Type 0
IsTextError (Utf8 error) = Unit {0}
IsTextError OutOfMemory = ⊥

-- it is not want of memory
pub text_error : (fault error : DecodeError) → fault ≡ error → IsTextError error → fault ≡ OutOfMemory → ⊥
text_error fault error e text memory = subst IsTextError (sym e ∙ memory) text
