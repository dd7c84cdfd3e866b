use Rattle.std.proofs.Common.{sym, ap, ◌∙◌, arith}
use Rattle.published_prefix.proofs.Keeps.{split_allowed}
use Rattle.published_prefix.proofs.prefix.Prefix+C.split.Goals as goal

pub split_seat-requires : goal.split_seat-requires
split_seat-requires g c =
    let own = ap (λ s. s.table) c.seat.view_is ∙ (c.requires.own ∙ sym c.self.view_is) in
    let words = ap (λ t. t.words) own in
    let size = c.seat.invariant.0 in
    (own, omega arith, split_allowed _ _ _ _ _ _ _)
