use Rattle.std.proofs.Common.{◌≡◌, ℕ, Some, sym, ap, ◌∙◌, subst, arith}
use Rattle.published_prefix.specs.Heads.{fault_low}
use Rattle.published_prefix.proofs.Codes.{fault_read}
use Rattle.published_prefix.proofs.Keeps.{fault_high_allowed, fault_low_allowed}
use Rattle.published_prefix.proofs.reading.Prefix+C.end_of.Goals as goal

pub load-high-requires : goal.load-high-requires
load-high-requires g c =
    let own = c.requires.own ∙ sym c.self.view_is in
    let words = ap (λ t. t.words) own in
    let size = c.requires.size in
    (own, omega arith, fault_high_allowed _ _ _ _ _ _ _ _)

pub load-low-requires : goal.load-low-requires
load-low-requires g c =
    let own = c.requires.own ∙ sym c.self.view_is in
    let words = ap (λ t. t.words) own in
    let size = c.requires.size in
    (c.load-high.ensures.0 ∙ own, omega arith, fault_low_allowed _ _ _ _ _ _ _ _)

pub returns-in-Fault-clause-end : goal.returns-in-Fault-clause-end
returns-in-Fault-clause-end g c =
    let high = c.load-high.ensures.2 in
    let low = c.load-low.ensures.2 in
    c.fault_of.ensures ∙ fault_read _ _ _ (sym c.in-Fault.is ∙ c.requires.kind) c.requires.fits high.1 (subst (λ m. (x : ℕ) → fault_low m.0.end ≡ Some x → c.load-low.result ≡ x) high.0 low.1)
