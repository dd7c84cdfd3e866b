use Rattle.std.proofs.Common.{◌∷◌, Some, sym, ap, ◌∙◌, subst, arith}
use Rattle.atomic_table.specs.Table.{rest}
use Rattle.published_prefix.specs.Seats.{carried_by}
use Rattle.published_prefix.proofs.Keeps.{leave_allowed}
use Rattle.published_prefix.proofs.prefix.Prefix+C.put_back.Goals as goal

pub store-requires : goal.store-requires
store-requires g c =
    let e = c.exchange-empty.ensures in
    let before = c.requires.carried ∙ ap carried_by c.requires.out in
    let own = c.requires.own ∙ sym c.self.view_is in
    let words = ap (λ t. t.words) own in
    let size = c.requires.size in (
      e.0 ∙ own,
      omega arith,
      leave_allowed _ _ _ _ _ _ _ _ _ _ _ _ _ _ c.args.work
          (ap (λ m. m.0.turn) e.3 ∙ c.requires.out)
          (ap (λ m. m.1) e.3 ∙ ap (λ l. (0, Some c.args.work) ∷ rest l) before)
          (subst (λ t. g.C.Course.fits t c.args.place.now.me.0.steps c.args.place.now.me.0.length c.args.place.now.me.0.end c.args.work) (sym (ap (λ m. m.0.tag) e.3)) c.requires.fits),
    )
