-- Spaces behind a JSON text change nothing of the tokens that are read of it.
use Rattle.std.proofs.Common.{◌≡◌, ◌∙◌, ℕ, zero, suc, Bool, true, false, cond, ◌&&◌, List, [], ◌∷◌, ◌++◌, replicate, refl, sym, ap, ap₂, append_assoc, append-nil}
use Rattle.json.specs.Token.{Token, begin_object, end_object, begin_array, end_array, key, string, number, boolean, null, bad}
use Rattle.json.specs.Word.{ends_word, word}
use Rattle.json.specs.Lex.{Lexeme, token, comma, colon, string_token, lex, between, fresh, punctuate, tokens}
use Rattle.json.specs.Print.{escape, quoted, token_text, begins, ends, separator, print_from, print, IsPrintable, ArePrintable}
use Rattle.json.proofs.Printed.Strings.{content-escape, lex-escape}
use Rattle.json.proofs.Printed.Numbers.{lex-number, in_word-ended}
use Rattle.json.proofs.Printed.Tokens.{tokens-print}

abbrev spaces : ℕ → List ℕ
spaces n = replicate n 32

lex-spaces : (n : ℕ) → lex between (spaces n) ≡ []
unfolding lex
lex-spaces zero = refl
lex-spaces (suc n) = lex-spaces n

spaces_end : (n : ℕ) → ends_word (spaces n) ≡ true
spaces_end zero = refl
spaces_end (suc n) = refl

text_ends : (ts : List Token) (n : ℕ) → ends_word (print_from true ts ++ spaces n) ≡ true
unfolding print_from
text_ends [] n = spaces_end n
text_ends (begin_object ∷ ts) n = refl
text_ends (end_object ∷ ts) n = refl
text_ends (begin_array ∷ ts) n = refl
text_ends (end_array ∷ ts) n = refl
text_ends (key s ∷ ts) n = refl
text_ends (string s ∷ ts) n = refl
text_ends (number s ∷ ts) n = refl
text_ends (boolean b ∷ ts) n = refl
text_ends (null ∷ ts) n = refl
text_ends (bad ∷ ts) n = refl

abbrev lexemes_of : Token → List Lexeme
lexemes_of begin_object = token begin_object ∷ []
lexemes_of end_object = token end_object ∷ []
lexemes_of begin_array = token begin_array ∷ []
lexemes_of end_array = token end_array ∷ []
lexemes_of (key s) = token (string s) ∷ colon ∷ []
lexemes_of (string s) = token (string s) ∷ []
lexemes_of (number s) = token (number s) ∷ []
lexemes_of (boolean b) = token (boolean b) ∷ []
lexemes_of null = token null ∷ []
lexemes_of bad = []

quoted_first : (s rest : List ℕ) → lex between (quoted s ++ rest) ≡ token (string s) ∷ lex between rest
unfolding lex
quoted_first s rest =
    ap (λ l. lex between (34 ∷ l)) (append_assoc (escape s) (34 ∷ []) rest) ∙ ap₂ (λ o l. token (string_token o) ∷ l) (content-escape s rest) (lex-escape s rest)

token_first : (t : Token) (rest : List ℕ) → IsPrintable t → (ends t ≡ true → ends_word rest ≡ true) → lex between (token_text t ++ rest) ≡ lexemes_of t ++ lex between rest
unfolding lex word
token_first begin_object rest h ended = refl
token_first end_object rest h ended = refl
token_first begin_array rest h ended = refl
token_first end_array rest h ended = refl
token_first (key s) rest h ended = ap (lex between) (append_assoc (quoted s) (58 ∷ []) rest) ∙ quoted_first s (58 ∷ rest)
token_first (string s) rest h ended = quoted_first s rest
token_first (number s) rest h ended = lex-number s rest h (ended refl)
token_first (boolean true) rest h ended = ap₂ (λ b l. token (cond b (boolean true) bad) ∷ l) (ended refl) (in_word-ended rest (ended refl))
token_first (boolean false) rest h ended = ap₂ (λ b l. token (cond b (boolean false) bad) ∷ l) (ended refl) (in_word-ended rest (ended refl))
token_first null rest h ended = ap₂ (λ b l. token (cond b null bad) ∷ l) (ended refl) (in_word-ended rest (ended refl))
token_first bad rest h ended = absurd h

separator_first : (b : Bool) (rest : List ℕ) → lex between (cond b (44 ∷ []) [] ++ rest) ≡ cond b (comma ∷ []) [] ++ lex between rest
unfolding lex
separator_first true rest = refl
separator_first false rest = refl

abbrev lexemes : Bool → List Token → List Lexeme
lexemes c [] = []
lexemes c (t ∷ ts) = cond (c && begins t) (comma ∷ []) [] ++ (lexemes_of t ++ lexemes (ends t) ts)

regroup : (a b c d : List ℕ) → (a ++ (b ++ c)) ++ d ≡ a ++ (b ++ (c ++ d))
regroup a b c d = simp append_assoc

lexed : (c : Bool) (ts : List Token) (n : ℕ) → ArePrintable ts → lex between (print_from c ts ++ spaces n) ≡ lexemes c ts
unfolding lex print_from ArePrintable
lexed c [] n h = lex-spaces n
lexed c (t ∷ ts) n h =
    let rest = print_from (ends t) ts ++ spaces n in
    ap (lex between) (regroup (separator c t) (token_text t) (print_from (ends t) ts) (spaces n))
    ∙ separator_first (c && begins t) (token_text t ++ rest)
    ∙ ap (λ l. cond (c && begins t) (comma ∷ []) [] ++ l)
    (token_first t rest h.0 (λ e. ap (λ b. ends_word (print_from b ts ++ spaces n)) e ∙ text_ends ts n)
    ∙ ap (λ l. lexemes_of t ++ l) (lexed (ends t) ts n h.1))

pub tokens-spaces : (ts : List Token) (n : ℕ) → ArePrintable ts → tokens (print ts ++ spaces n) ≡ ts
tokens-spaces ts n h =
    ap (punctuate fresh) (lexed false ts n h ∙ sym (lexed false ts 0 h) ∙ ap (lex between) (append-nil (print ts))) ∙ tokens-print ts h
