use Rattle.std.proofs.Common.{refl, None, List, ap, subst, set, slice_get, Some, ◌≡◌, ◌<◌, sym, length}
use Rattle.std.specs.Prelude.{IsSome}
use Rattle.region_cursor.specs.Cursor.{cursor_key, Fits}
use Rattle.replay_core.specs.declared.shared_cursor.SharedCursor.{SharedCursor}
use Rattle.replay_core.proofs.Numbered.{plans_stay, read_at, some_within}
use Rattle.replay_core.proofs.cursors.Cursors.advance.Goals as goal

pub invariant_of-self-2 : goal.invariant_of-self-2
invariant_of-self-2 c =
    let cursor = c.index_mut-cursor.result.now in
    let inside = some_within c.args.self.now c.args.number (λ (d : SharedCursor). IsSome (cursor_key d.walk.cursor) × Fits d.walk.cursor c.args.outcome.now) (slice_get c.args.self.now c.args.number) refl c.requires in
    plans_stay c.self.inside.plans.keys c.self.inside.list.items c.args.self.now c.args.number cursor (record { plan = cursor.plan; walk = c.step.new.self; holder = None })
    c.self.invariant c.self.view_is inside c.index_mut-cursor.ensures.value refl

pub returns-clause-stepped : goal.returns-clause-stepped
returns-clause-stepped c =
    let cursor = c.index_mut-cursor.result.now in
    let next : SharedCursor = record { plan = cursor.plan; walk = c.step.new.self; holder = None } in
    let inside = some_within c.args.self.now c.args.number (λ (d : SharedCursor). IsSome (cursor_key d.walk.cursor) × Fits d.walk.cursor c.args.outcome.now) (slice_get c.args.self.now c.args.number) refl c.requires in
    let at = read_at c.self.inside.list.items c.args.number cursor (subst (λ (xs : List SharedCursor). c.args.number < length xs) (sym c.self.view_is) inside) c.index_mut-cursor.ensures.value in
    record {
      was = cursor;
      now = next;
      at = subst (λ (xs : List SharedCursor). slice_get xs c.args.number ≡ Some cursor) c.self.view_is at;
      after = ap (λ (xs : List SharedCursor). set xs c.args.number next) c.self.view_is;
      same_plan = refl;
      free = refl;
      same_walk = c.in_ok-tiles.ensures.same;
      count = c.in_ok-tiles.ensures.count;
      scene = λ s walk whole shows told. c.in_ok-tiles.ensures.scene s walk whole shows told;
    }
