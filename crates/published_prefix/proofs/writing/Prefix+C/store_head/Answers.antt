use Rattle.std.proofs.Common.{◌+◌, ◌*◌, ◌^◌, sym, ap, ◌∙◌, subst, arith}
use Rattle.published_prefix.specs.Heads.{head_number}
use Rattle.published_prefix.specs.Prefixes.{halves_of}
use Rattle.published_prefix.proofs.Codes.{halves_length, high_half, low_half, whole_again, fault_parts}
use Rattle.published_prefix.proofs.Keeps.{publish_allowed}
use Rattle.published_prefix.proofs.writing.Prefix+C.store_head.Goals as goal

pub store-requires : goal.store-requires
store-requires g c =
    let own = c.requires.own ∙ sym c.self.view_is in
    let words = ap (λ t. t.words) own in
    let size = c.requires.size in
    let w = c.requires.written in
    let more = w.4 in
    let sum = w.5 in (
      own,
      omega arith,
      publish_allowed _ _ _ _ _ _ _ _ w.0 w.1 (halves_of w.2) _ _ g.H.Heads.steps g.H.Heads.count g.H.Heads.end _ w.3 (omega (arith, halves_length w.2)) (omega arith)
          (c.to_number.ensures ∙ ap head_number c.requires.stated.0) c.requires.course
          (λ i inside. subst (λ x. g.C.Course.word_at c.args.place.now.me.0.tag (w.1 + i) x) (sym ((λ z. (high_half w.2 i z) * 2 ^ 64 + low_half w.2 i z) ∙ whole_again _)) (w.6 i (omega arith)))
          (fault_parts _),
    )
