use Rattle.std.proofs.Common.{◌∷◌, Some, sym, ap, ◌∙◌, subst, ⊎_elim, arith}
use Rattle.atomic_table.specs.Table.{rest}
use Rattle.published_prefix.specs.Prefixes.{Gains}
use Rattle.published_prefix.proofs.prefix.Prefix+C.try_claim.Goals as goal

pub exchange-requires : goal.exchange-requires
exchange-requires g c =
    let own = ap (λ s. s.table) c.seat.view_is ∙ (c.requires.own ∙ sym c.self.view_is) in
    let zero = c.if-try_turn-ne0.false in
    let won = ⊎_elim (λ t. t.1) (λ t. let one = t.0 in absurd (omega arith)) c.try_turn.ensures.claims in
    let e = c.load_head.ensures.sees in
    let got = subst (λ t. Gains (g.C.Course.fits c.try_turn.new.place.me.0.tag) e.steps e.count e.end t c.try_turn.new.place.me.1 c.load_head.new.place.me.1) (ap (λ m. m.0.turn) won) e.gains in
    let p = got.1 in (
      c.load_head.ensures.same.0 ∙ (c.try_turn.ensures.same.0 ∙ own),
      (Some got.0, p ∙ ap (λ l. (0, Some got.0) ∷ l) (sym (ap rest p))),
    )
