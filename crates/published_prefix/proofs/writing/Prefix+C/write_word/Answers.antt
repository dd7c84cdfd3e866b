use Rattle.std.proofs.Common.{sym, ap, ◌∙◌, arith}
use Rattle.published_prefix.specs.Prefixes.{row_with}
use Rattle.published_prefix.proofs.Keeps.{number_allowed, put_turn, longer}
use Rattle.published_prefix.proofs.writing.Prefix+C.write_word.Goals as goal

pub store-requires : goal.store-requires
store-requires g c =
    let own = c.requires.own ∙ sym c.self.view_is in
    let words = ap (λ t. t.words) own in
    let size = c.requires.size in
    let room = c.requires.room in
    let t = c.requires.turn in
    let here = t.4 in
    (own, omega arith, number_allowed _ _ _ _ _ _ _ _ t.0 t.1 _ t.2 _ _ _ _ t.3 (omega arith) (omega arith))

pub store-requires-2 : goal.store-requires-2
store-requires-2 g c =
    let own = c.requires.own ∙ sym c.self.view_is in
    let words = ap (λ t. t.words) own in
    let size = c.requires.size in
    let room = c.requires.room in
    let t = c.requires.turn in
    let here = t.4 in
    let after = c.store.ensures.2 in
    let same_size = ap (λ m. m.0.capacity) after in (
      c.store.ensures.0 ∙ own,
      omega arith,
      number_allowed _ _ _ _ _ _ _ _ t.0 t.1 _ _ _ _ _ _ (put_turn row_with after t.3) (omega arith) (let more = longer t.2 c.word.inside.high in omega arith),
    )
