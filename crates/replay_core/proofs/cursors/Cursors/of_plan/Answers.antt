use Rattle.std.proofs.Common.{◌≡◌, ◌∙◌, List, [], ◌∷◌, ◌++◌, position, inl, inr, Some, None, refl, sym, ap, subst}
use Rattle.replay_machine.specs.Machine.{is_same_plan}
use Rattle.replay_core.specs.declared.shared_cursor.SharedCursor.{SharedCursor}
use Rattle.replay_core.proofs.Numbered.{position_of_plan}
use Rattle.replay_core.proofs.cursors.Cursors.of_plan.Goals as goal

pub returns-in-Some-clause-found : goal.returns-in-Some-clause-found
returns-in-Some-clause-found c =
    let at = position_of_plan c.args.plan c.self.inside.plans.keys c.self.inside.list.items c.self.invariant in
    inl (subst (λ (xs : List SharedCursor). position (λ (d : SharedCursor). is_same_plan c.args.plan d.plan) xs ≡ Some c.in-Some.number) c.self.view_is (sym at ∙ sym c.in-Some.ensures.index), refl)

pub returns-in-Ok-clause-found : goal.returns-in-Ok-clause-found
returns-in-Ok-clause-found c =
    let at = position_of_plan c.args.plan c.self.inside.plans.keys c.self.inside.list.items c.self.invariant in
    let walk = c.in_ok-walk.walk in
    let fresh : SharedCursor = record { plan = c.args.plan; walk = walk; holder = None } in
    inr (record {
      walk = walk;
      absent = subst (λ (xs : List SharedCursor). position (λ (d : SharedCursor). is_same_plan c.args.plan d.plan) xs ≡ None) c.self.view_is (sym at ∙ sym c.in-None.ensures.index);
      last = c.len-count.ensures;
      after = c.in_ok-push.ensures.items ∙ ap (λ (xs : List SharedCursor). xs ++ fresh ∷ []) c.self.view_is;
      of_layout = c.in_ok-walk.ensures.of_layout;
      scene = λ s is. c.in_ok-walk.ensures.scene s is;
    })
