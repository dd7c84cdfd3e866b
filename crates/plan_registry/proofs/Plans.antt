-- Two plans are equal in code exactly where they are the same.
use Rattle.std.proofs.Common.{rules, ◌≡◌, true, Bool, subst}
use Rattle.std.specs.Bool.{Decides}
use Rattle.implicit_tiling.specs.Region.{Plan}
use Rattle.tile_coords.specs.contracts.plan.PlanPartialEq.TheImpl.{eq-value}

pub eq : Plan → Plan → Bool
eq a b = eq-value.it a b

pub plan_is : (a b : Plan) → eq-value.it a b ≡ true → a ≡ b
plan_is a b e = search rules

plan_same : (a : Plan) → eq-value.it a a ≡ true
plan_same a = search rules

pub same_plan : (a b : Plan) → Decides (eq-value.it a b) (a ≡ b)
same_plan a b = (plan_is a b, λ is. subst (λ p. eq-value.it a p ≡ true) is (plan_same a))
