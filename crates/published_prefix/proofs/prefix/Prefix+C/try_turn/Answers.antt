use Rattle.std.proofs.Common.{sym, ap, ◌∙◌, arith}
use Rattle.published_prefix.proofs.Keeps.{claim_allowed}
use Rattle.published_prefix.proofs.prefix.Prefix+C.try_turn.Goals as goal

pub compare_exchange-requires : goal.compare_exchange-requires
compare_exchange-requires g c =
    let own = c.requires.own ∙ sym c.self.view_is in
    let words = ap (λ t. t.words) own in
    let size = c.requires.size in
    (own, omega arith, claim_allowed _ _ _ _ _ _ _ _ c.requires.none_out)
