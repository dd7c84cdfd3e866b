use Rattle.std.proofs.Common.{sym, ap, ◌∙◌, arith}
use Rattle.published_prefix.proofs.Keeps.{see_allowed}
use Rattle.published_prefix.proofs.reading.Prefix+C.load_head.Goals as goal

pub load-requires : goal.load-requires
load-requires g c =
    let own = c.requires.own ∙ sym c.self.view_is in
    let words = ap (λ t. t.words) own in
    let size = c.requires.size in
    (own, omega arith, see_allowed _ _ _ _ _ _ _ _)
