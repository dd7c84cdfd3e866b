use Rattle.std.proofs.Common.{◌≡◌, ◌∙◌, ℕ, List, eqb, ap, sym, subst}
use Rattle.std.specs.List.{count_by}
use Rattle.std.specs.Map.{keys_of}
use Rattle.std.proofs.lemmas.List.Sums.{length-filter}
use Rattle.frame_pool.specs.Moves.{asked_last}
use Rattle.frame_pool.proofs.Linked.{keys-promoted}
use Rattle.frame_pool.proofs.order.FrameOrder.move_to_front.Goals as goal

pub returns : goal.returns
returns c =
    let once = subst (λ (order : List ℕ). count_by (λ g. eqb g c.args.frame) order ≡ 1) (sym c.self.view_is) c.requires in
    ap (λ o. keys_of o.entries) c.promote.ensures.entries
    ∙ keys-promoted c.args.frame c.self.inside.frames.entries (length-filter (λ g. eqb g c.args.frame) (keys_of c.self.inside.frames.entries) ∙ once)
    ∙ ap (asked_last c.args.frame) c.self.view_is
