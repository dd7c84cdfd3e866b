use Rattle.std.proofs.Common.{◌^◌, ◌≤◌, sym, subst, arith}
use Rattle.implicit_tiling.specs.Tile.{branching}
use Rattle.implicit_tiling.specs.Subtree.{Subtree}
use Rattle.availability.proofs.Places.{level_within, few_places}
use Rattle.availability.proofs.subtree.Subtree.next_tile.Goals as goal

pub next_one-requires-clause-within : goal.next_one-requires-clause-within
next_one-requires-clause-within c =
    level_within _ _ c.args.local c.nodes_above-above.result c.nodes_at.result c.self.view_is c.self.invariant c.requires.local c.nodes_above-above.ensures c.nodes_at.ensures

pub overflow_add-end : goal.overflow_add-end
overflow_add-end c = record {
  fits = omega (
    arith,
    few_places _ c.self.invariant,
    level_within _ _ c.args.local c.nodes_above-above.result c.nodes_at.result c.self.view_is c.self.invariant c.requires.local c.nodes_above-above.ensures c.nodes_at.ensures,
  );
}

pub overflow_add-above : goal.overflow_add-above
overflow_add-above c =
    let from : c.args.from ≤ branching c.self.inside.scheme ^ c.args.local = subst (λ (u : Subtree). c.args.from ≤ branching u.scheme ^ c.args.local) (sym c.self.view_is) c.requires.from in record {
      fits = omega (
        arith,
        from,
        c.nodes_at.ensures,
        few_places _ c.self.invariant,
        level_within _ _ c.args.local c.nodes_above-above.result c.nodes_at.result c.self.view_is c.self.invariant c.requires.local c.nodes_above-above.ensures c.nodes_at.ensures,
      );
    }
