-- What a look and a put behind the turn leave.
use Rattle.std.proofs.Common.{◌≡◌, ◌⊎◌, ◌∙◌, ◌-◌, ◌≤◌, ◌∷◌, length, take, All, Option, Some, Result, Ok, Err, refl, sym, ap, subst, inl, inr}
use Rattle.std.specs.Prelude.{IfOk, IfErr}
use Rattle.std.specs.declared.alloc.AllocError.{AllocError}
use Rattle.std.specs.Map.{keys_of}
use Rattle.std.proofs.lemmas.List.Elements.{All-from_recursion, recursion_from_All, All-take, All-weaker}
use Rattle.std.proofs.lemmas.Map.Made.{AllPairs-from_IsDistinct}
use Rattle.lru.specs.LruCache.{IsValid}
use Rattle.implicit_tiling.specs.Region.{Plan}
use Rattle.plan_registry.specs.declared.looked.Looked.{Looked}
use Rattle.plan_registry.specs.declared.looked.Looked.TheVariants.{There, Absent, Memory}
use Rattle.plan_registry.specs.Registries.{CursorSeen, Walks, HasFound, HasAdded, HasLooked, HasPut, IsNew, IsOn, IsByPlan, IsRegistry, HasAttached, HasKept, HasAsked, most_plans}
use Rattle.plan_registry.proofs.Fronts as f
use Rattle.plan_registry.proofs.Plans.{same_plan}
use Rattle.tile_coords.specs.contracts.plan.PlanPartialEq.TheImpl.{eq-value}

module _ {G : Type 0} (P : Plan × CursorSeen G → Type 0) where
  -- what holds of all entries, and of a new one, holds afterwards
  pub found-all : (plan : Plan) (taken given : Walks G) (cursor : CursorSeen G) → HasFound plan taken given cursor → All P taken.entries → All P given.entries
  found-all plan taken given cursor h all = subst (All P) (sym h.is)
      (All-from_recursion P ((plan, h.walk) ∷ h.others) (f.all_in_front P (plan, h.walk) h.others taken.entries h.was (recursion_from_All P taken.entries all)))

  pub found-first : (plan : Plan) (taken given : Walks G) (cursor : CursorSeen G) (h : HasFound plan taken given cursor) → All P taken.entries → P (plan, h.walk)
  found-first plan taken given cursor h all = (f.all_in_front P (plan, h.walk) h.others taken.entries h.was (recursion_from_All P taken.entries all)).0

  added-all : (tag : G) (plan : Plan) (taken given : Walks G) (cursor : CursorSeen G) → HasAdded tag plan taken given cursor → P (plan, cursor) → All P taken.entries → All P given.entries
  added-all tag plan taken given cursor h its all = subst (All P) (sym h.is)
      (All-from_recursion P ((plan, cursor) ∷ take (most_plans - 1) taken.entries)
      (its, recursion_from_All P (take (most_plans - 1) taken.entries) (All-take P (most_plans - 1) taken.entries all)))

  pub looked-all : (plan : Plan) (taken given : Walks G) (looked : Looked (CursorSeen G)) → HasLooked plan taken given looked → All P taken.entries → All P given.entries
  looked-all plan taken given (There cursor) h all = found-all plan taken given cursor h all
  looked-all plan taken given Absent h all = subst (λ w. All P w.entries) (sym h.0) all
  looked-all plan taken given Memory h all = subst (λ w. All P w.entries) (sym h) all

  pub put-all : (tag : G) (plan : Plan) (taken given : Walks G) (r : Result (CursorSeen G) AllocError) → HasPut tag plan taken given r → ((c : CursorSeen G) → HasAdded tag plan taken given c → P (plan, c)) → All P taken.entries → All P given.entries
  put-all tag plan taken given (Ok c) (inl h) new all = found-all plan taken given c h all
  put-all tag plan taken given (Ok c) (inr h) new all = added-all tag plan taken given c h (new c h) all
  put-all tag plan taken given (Err e) h new all = subst (λ w. All P w.entries) (sym h) all

module _ {S G : Type 0} (tag_of : S → Plan → G) (scene : S) where
  abbrev pub OnPlans : Walks G → Type 0
  OnPlans walks = All (λ (e : Plan × CursorSeen G). IsOn tag_of scene e.0 e.1) walks.entries

  pub by-plan : (walks : Walks G) → OnPlans walks → IsByPlan walks
  by-plan walks on = All-weaker (λ (e : Plan × CursorSeen G). IsOn tag_of scene e.0 e.1) (λ (e : Plan × CursorSeen G). e.1.plan ≡ e.0) (λ e h. h.0) walks.entries on

  pub is-registry : (walks : Walks G) → walks.cap ≡ most_plans → IsValid eq-value.it walks → OnPlans walks → IsRegistry tag_of scene walks
  is-registry walks room valid on = record {
    room = room;
    few = subst (λ n. length walks.entries ≤ n) room valid.1;
    apart = AllPairs-from_IsDistinct same_plan (keys_of walks.entries) valid.0;
    on_plans = on;
  }

  -- a new cursor is on its plan
  new-on : (tag : G) (plan : Plan) (c : CursorSeen G) → tag ≡ tag_of scene plan → IsNew tag plan c → IsOn tag_of scene plan c
  new-on tag plan c is new = subst (IsOn tag_of scene plan) (sym new.2) (refl, is, refl)

  found-on : (plan : Plan) (taken given : Walks G) (c : CursorSeen G) → HasFound plan taken given c → OnPlans taken → IsOn tag_of scene plan c
  found-on plan taken given c h on =
      let its = found-first (λ (e : Plan × CursorSeen G). IsOn tag_of scene e.0 e.1) plan taken given c h on in
      subst (IsOn tag_of scene plan) (sym h.on_it) (refl, its.1, refl)

  pub put-on : (tag : G) (plan : Plan) (taken given : Walks G) (r : Result (CursorSeen G) AllocError) → tag ≡ tag_of scene plan → HasPut tag plan taken given r → OnPlans taken → OnPlans given
  put-on tag plan taken given r is h on = put-all (λ (e : Plan × CursorSeen G). IsOn tag_of scene e.0 e.1) tag plan taken given r h (λ c a. new-on tag plan c is a.is_new) on

  pub looked-on : (plan : Plan) (taken given : Walks G) (looked : Looked (CursorSeen G)) → HasLooked plan taken given looked → OnPlans taken → OnPlans given
  looked-on plan taken given looked h on = looked-all (λ (e : Plan × CursorSeen G). IsOn tag_of scene e.0 e.1) plan taken given looked h on

  module _ (plan : Plan) (taken given : Walks G) (last gave : Option (Walks G)) (is : last ≡ Some taken) (gives : gave ≡ Some given) (fits : IsRegistry tag_of scene taken × IsRegistry tag_of scene given) where
    kept : given ≡ taken → HasKept tag_of scene last gave
    kept same = (taken, is, gives ∙ ap (λ x. Some x) same, fits.0)

    attached : (c : CursorSeen G) → IsOn tag_of scene plan c → HasFound plan taken given c ⊎ HasAdded (tag_of scene plan) plan taken given c → HasAttached tag_of scene plan last gave c
    attached c on made = record { taken = taken; given = given; last_is = is; gave_is = gives; fits = fits; on_plan = on; made = made }

    -- after a look
    pub asked : (looked : Looked (CursorSeen G)) → HasLooked plan taken given looked → HasAsked tag_of scene plan last gave looked
    asked (There c) h = attached c (found-on plan taken given c h fits.0.on_plans) (inl h)
    asked Absent h = kept h.0
    asked Memory h = kept h

    -- after a put
    pub put-attached : (tag : G) (r : Result (CursorSeen G) AllocError) → tag ≡ tag_of scene plan → HasPut tag plan taken given r → IfOk r (λ c. HasAttached tag_of scene plan last gave c)
    put-attached tag (Ok c) same (inl h) = attached c (found-on plan taken given c h fits.0.on_plans) (inl h)
    put-attached tag (Ok c) same (inr h) = attached c (new-on tag plan c same h.is_new) (inr (subst (λ t. HasAdded t plan taken given c) same h))
    put-attached tag (Err e) same h = tt

    pub put-kept : (tag : G) (r : Result (CursorSeen G) AllocError) → HasPut tag plan taken given r → IfErr r (λ _. HasKept tag_of scene last gave)
    put-kept tag (Ok c) h = tt
    put-kept tag (Err e) h = kept h

module _ {G : Type 0} (tag : G) (plan : Plan) where
  -- a new cursor, by its own tag
  pub own-tag : (c : CursorSeen G) → IsNew tag plan c → c.seat.tag ≡ tag
  own-tag c new = ap (λ (x : CursorSeen G). x.seat.tag) new.2

  pub new-own : (c : CursorSeen G) → IsNew tag plan c → IsNew c.seat.tag plan c
  new-own c new = subst (λ t. IsNew t plan c) (sym (own-tag c new)) new
