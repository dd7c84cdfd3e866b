use Rattle.std.proofs.Common.{◌+◌, ◌<◌, List, Bool, length, subst, sym, ◌∙◌}
use Rattle.std.specs.List.{All}
use Rattle.availability.proofs.Places.{place_is_short, content_place}
use Rattle.availability.proofs.Masks.{no_contents, kept_contents}
use Rattle.availability.proofs.subtree.Subtree.contents_at.Goals as goal

pub returns-then-not-is_kept : goal.returns-then-not-is_kept
returns-then-not-is_kept c = no_contents c.args.self.now c.args.local c.args.index (sym c.is_kept.ensures ∙ c.if-not-is_kept.true)

pub overflow_add-nodes_above : goal.overflow_add-nodes_above
overflow_add-nodes_above c =
    record { fits = place_is_short _ _ c.args.local c.args.index c.nodes_above.result c.self.view_is c.self.invariant c.requires.local c.requires.index c.nodes_above.ensures }

pub mask_at-requires-clause-within : goal.mask_at-requires-clause-within
mask_at-requires-clause-within c =
    subst (All (λ (bits : List Bool). c.nodes_above.result + c.args.index < length bits)) (sym c.deref.ensures.value)
    (content_place _ _ c.args.local c.args.index c.nodes_above.result c.self.view_is c.self.invariant c.requires.local c.requires.index c.nodes_above.ensures)

pub returns : goal.returns
returns c =
    c.mask_at.ensures ∙ kept_contents _ _ c.args.local c.args.index c.nodes_above.result c.deref.result.now c.self.view_is c.deref.ensures.value c.nodes_above.ensures
    (sym c.is_kept.ensures ∙ c.if-not-is_kept.false)
