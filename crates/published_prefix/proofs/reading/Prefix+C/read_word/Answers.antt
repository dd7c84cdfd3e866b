use Rattle.std.proofs.Common.{◌+◌, ◌*◌, sym, ap, ◌∙◌, arith}
use Rattle.published_prefix.proofs.Keeps.{high_allowed, low_allowed}
use Rattle.published_prefix.proofs.reading.Prefix+C.read_word.Goals as goal

pub load-high-requires : goal.load-high-requires
load-high-requires g c =
    let own = c.requires.own ∙ sym c.self.view_is in
    let words = ap (λ t. t.words) own in
    let size = c.requires.size in
    let inside = c.requires.published in
    let room = c.requires.room in
    (own, omega arith, high_allowed _ _ _ _ _ _ _ _ c.args.at _ (omega arith) inside)

pub load-low-requires : goal.load-low-requires
load-low-requires g c =
    let own = c.requires.own ∙ sym c.self.view_is in
    let words = ap (λ t. t.words) own in
    let size = c.requires.size in
    let inside = c.requires.published in
    let room = c.requires.room in
    let h = c.load-high.ensures.2 in
    let here = h.2 in
    (c.load-high.ensures.0 ∙ own, omega arith, low_allowed _ _ _ _ _ _ _ _ h.0 h.1 _ (omega arith) (ap (λ m. m.0.half) h.4))
