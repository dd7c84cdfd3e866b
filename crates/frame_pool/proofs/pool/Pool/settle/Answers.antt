use Rattle.std.proofs.Common.{◌≡◌, ◌∙◌, ℕ, sym, ap, subst, set, cond, min, List, IfSome}
use Rattle.std.proofs.lemmas.Option.{slice_get_within}
use Rattle.frame_pool.specs.declared.frame.FrameState.{FrameState}
use Rattle.frame_pool.specs.declared.frame.FrameState.TheVariants.{Loading}
use Rattle.frame_pool.specs.States.{is_empty}
use Rattle.frame_pool.specs.Frames.{Frames, IsLoadingAt, IsPinnedAt}
use Rattle.frame_pool.specs.Moves.{settled, after_settle}
use Rattle.frame_pool.specs.Finding.{IsKept}
use Rattle.frame_pool.proofs.Keeping.{settled-going_on}
use Rattle.frame_pool.proofs.Places.{read-at}
use Rattle.frame_pool.proofs.Pools.{changed-at}
use Rattle.frame_pool.proofs.Kept.{kept-settled}
use Rattle.frame_pool.proofs.pool.Pool.settle.Goals as goal

pub invariant_of-self : goal.invariant_of-self
invariant_of-self g c =
    let loading = subst (λ (p : Frames g.row.K.Denot g.row.V.Denot). IsLoadingAt p.census c.args.frame) (sym c.self.view_is) c.requires in
    let inside = slice_get_within c.self.inside.census.items c.args.frame _ loading.1 in
    let at = read-at c.self.inside.census.items c.args.frame c.index.result.now (Loading c.in-Loading.key) inside c.index.ensures c.in-Loading.is in
    let low : c.least_empty_after-self-inside.result ≡ cond (is_empty (settled c.args.value (Loading c.in-Loading.key))) (min c.self.inside.least_empty c.args.frame) c.self.inside.least_empty =
    c.least_empty_after-self-inside.ensures ∙ ap (λ s. cond (is_empty s) (min c.self.inside.least_empty c.args.frame) c.self.inside.least_empty) c.settled-state.ensures in
    subst (λ (s : FrameState g.row.K.Denot). IsKept g.K.PartialEq.eq (set c.self.inside.census.items c.args.frame s) (set c.self.inside.values.items c.args.frame c.args.value) c.self.inside.order c.self.inside.notes c.least_empty_after-self-inside.result) (sym c.settled-state.ensures)
    (subst (λ (n : ℕ). IsKept g.K.PartialEq.eq (set c.self.inside.census.items c.args.frame (settled c.args.value (Loading c.in-Loading.key))) (set c.self.inside.values.items c.args.frame c.args.value) c.self.inside.order c.self.inside.notes n) (sym low)
    (kept-settled g.K.PartialEq.eq c.self.inside.census.items c.self.inside.values.items c.self.inside.order c.self.inside.notes c.self.inside.least_empty c.args.frame c.self.invariant c.in-Loading.key c.args.value at))

pub returns-clause-after : goal.returns-clause-after
returns-clause-after g c =
    let loading = subst (λ (p : Frames g.row.K.Denot g.row.V.Denot). IsLoadingAt p.census c.args.frame) (sym c.self.view_is) c.requires in
    let inside = slice_get_within c.self.inside.census.items c.args.frame _ loading.1 in
    let at = read-at c.self.inside.census.items c.args.frame c.index.result.now (Loading c.in-Loading.key) inside c.index.ensures c.in-Loading.is in
    ap (λ (states : List (FrameState g.row.K.Denot)). let after : Frames g.row.K.Denot g.row.V.Denot = record { census = states; values = set c.self.inside.values.items c.args.frame c.args.value; order = c.self.inside.order } in after)
    (ap (λ (s : FrameState g.row.K.Denot). set c.self.inside.census.items c.args.frame s) c.settled-state.ensures ∙ sym (changed-at c.self.inside.census.items c.args.frame (Loading c.in-Loading.key) (settled c.args.value) at))
    ∙ ap (after_settle c.args.frame c.args.value) c.self.view_is

pub returns-clause-next : goal.returns-clause-next
returns-clause-next g c =
    subst (λ (p : Frames g.row.K.Denot g.row.V.Denot). IfSome c.args.value (λ _. IsPinnedAt p.census c.args.frame)) (sym (returns-clause-after g c))
    (settled-going_on c.args.self.now c.args.frame c.args.value c.requires)
