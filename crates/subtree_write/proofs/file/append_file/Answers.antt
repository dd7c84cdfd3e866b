use Rattle.std.proofs.Common.{◌≡◌, ◌∙◌, ℕ, ◌++◌, List, Result, Ok, Err, OnOk, cond, is_ok, length, append_assoc, codes, w32, w64, ap}
use Rattle.std.specs.Int.{to_le_bytes}
use Rattle.subtree_write.proofs.file.append_file.Goals as goal

last_piece : {A E : Type 0} (r : Result A E) (before more after whole : List ℕ) → after ≡ cond (is_ok r) (before ++ more) before → before ++ more ≡ whole → OnOk r (after ≡ whole)
last_piece (Ok a) before more after whole e w = e ∙ w
last_piece (Err a) before more after whole e w = tt

six_pieces : (old a b c d e f n₁ n₂ n₃ n₄ n₅ : List ℕ) → n₁ ≡ old ++ a → n₂ ≡ n₁ ++ b → n₃ ≡ n₂ ++ c → n₄ ≡ n₃ ++ d → n₅ ≡ n₄ ++ e → n₅ ++ f ≡ old ++ (a ++ (b ++ (c ++ (d ++ (e ++ f)))))
six_pieces old a b c d e f n₁ n₂ n₃ n₄ n₅ e₁ e₂ e₃ e₄ e₅ =
    ap (λ l. l ++ f) (e₅ ∙ ap (λ l. l ++ e) (e₄ ∙ ap (λ l. l ++ d) (e₃ ∙ ap (λ l. l ++ c) (e₂ ∙ ap (λ l. l ++ b) e₁)))) ∙ simp append_assoc

pub returns-clause-ok : goal.returns-clause-ok
returns-clause-ok c =
    let json = c.args.json.now in
    let bytes = c.args.bytes.now in
    last_piece c.extend_from_slice-6.result c.extend_from_slice-5.new.self.items bytes c.extend_from_slice-6.new.self.items _ c.extend_from_slice-6.ensures.items
    (six_pieces c.args.out.now.items (codes "subt") (to_le_bytes w32 1) (to_le_bytes w64 (length json)) (to_le_bytes w64 (length bytes)) json bytes
    c.extend_from_slice.new.self.items c.extend_from_slice-2.new.self.items c.extend_from_slice-3.new.self.items c.extend_from_slice-4.new.self.items c.extend_from_slice-5.new.self.items
    c.in_ok-extend_from_slice.ensures.items (c.in_ok-extend_from_slice-2.ensures.items ∙ ap (λ l. c.extend_from_slice.new.self.items ++ l) c.to_le_bytes.ensures) (c.in_ok-extend_from_slice-3.ensures.items ∙ ap (λ l. c.extend_from_slice-2.new.self.items ++ l) c.to_le_bytes-2.ensures) (c.in_ok-extend_from_slice-4.ensures.items ∙ ap (λ l. c.extend_from_slice-3.new.self.items ++ l) c.to_le_bytes-3.ensures) c.in_ok-extend_from_slice-5.ensures.items)
