-- What a look and a push leave of the walks.
use Rattle.std.proofs.Common.{◌≡◌, ◌≢◌, ◌∙◌, ◌-◌, List, ◌∷◌, take, All, Some, None, sym, ap, subst}
use Rattle.std.specs.Map.{keys_of, lookup, remove_entry, set_value}
use Rattle.std.proofs.lemmas.List.Elements.{All-from_recursion, recursion_from_All}
use Rattle.lru.specs.LruCache.{lru_cache, promoted, put_entries}
use Rattle.implicit_tiling.specs.Region.{Plan}
use Rattle.published_prefix.specs.Seats.{informed}
use Rattle.plan_registry.specs.Registries.{CursorSeen, Walks, cursor_on, HasAmong, HasNone, HasFound, HasAdded, IsNew, IsByPlan, most_plans}
use Rattle.plan_registry.proofs.Fronts as f
use Rattle.plan_registry.proofs.Plans.{same_plan, plan_is}
use Rattle.tile_coords.specs.contracts.plan.PlanPartialEq.TheImpl.{eq-value}

module _ {G : Type 0} where
  -- a walk that was shared is as it was
  pub shared-same : (walks : Walks G) (plan : Plan) (walk w : CursorSeen G) → Some walk ≡ lookup (eq-value.it plan) walks.entries → w ≡ walk
      → lru_cache (set_value (eq-value.it plan) walks.entries w) walks.cap ≡ walks
  shared-same walks plan walk w found is = ap (λ es. lru_cache es walks.cap) (f.set_value-same (eq-value.it plan) walks.entries w (sym found ∙ ap (λ x. Some x) (sym is)))

  pub none-there : (walks : Walks G) (plan : Plan) → None ≡ lookup (eq-value.it plan) walks.entries → HasNone plan walks
  none-there walks plan none = All-from_recursion (λ p. p ≢ plan) (keys_of walks.entries)
      (f.none_passes (eq-value.it plan) (λ p. p ≢ plan) (λ p e. f.differs same_plan plan p e) walks.entries (sym none))

  first_of : (P : Plan × CursorSeen G → Type 0) (x : Plan × CursorSeen G) (others es : List (Plan × CursorSeen G)) → HasAmong x others es → All P es → P x
  first_of P x others es a h = (f.all_in_front P x others es a (recursion_from_All P es h)).0

  -- what a promotion of the walk leaves
  pub found-made : (walks given : Walks G) (plan : Plan) (walk w cursor : CursorSeen G) → IsByPlan walks → Some walk ≡ lookup (eq-value.it plan) walks.entries → w ≡ walk
      → given ≡ lru_cache (promoted (eq-value.it plan) (set_value (eq-value.it plan) walks.entries w)) walks.cap
      → cursor ≡ cursor_on walk.plan (informed walk.seat) → HasFound plan walks given cursor
  found-made walks given plan walk w cursor by_plan found same gives on =
      let test = eq-value.it plan in
      let s = f.stands test walks.entries walk (sym found) in
      let key : s.key ≡ plan = sym (plan_is plan s.key s.passes) in
      let among : HasAmong (plan, walk) (remove_entry test walks.entries) walks.entries = subst (λ k. HasAmong (k, walk) (remove_entry test walks.entries) walks.entries) key s.among in
      let its : walk.plan ≡ plan = first_of (λ e. e.1.plan ≡ e.0) (plan, walk) (remove_entry test walks.entries) walks.entries among by_plan in
      record {
        walk = walk;
        others = remove_entry test walks.entries;
        was = among;
        is = ap (λ c. c.entries) gives ∙ ap (promoted test) (f.set_value-same test walks.entries w (sym found ∙ ap (λ x. Some x) (sym same))) ∙ f.promoted-stands test walks.entries walk s
            ∙ ap (λ k. (k, walk) ∷ remove_entry test walks.entries) key;
        on_it = on ∙ ap (λ p. cursor_on p (informed walk.seat)) its;
      }

  -- what a push of a new walk leaves
  pub added-made : (walks given : Walks G) (tag : G) (plan : Plan) (walk cursor : CursorSeen G) → HasNone plan walks → walks.cap ≡ most_plans → IsNew tag plan cursor → walk ≡ cursor
      → given ≡ lru_cache (put_entries eq-value.it walks plan walk) walks.cap → HasAdded tag plan walks given cursor
  added-made walks given tag plan walk cursor absent room new same gives = record {
    absent = absent;
    is_new = new;
    is = ap (λ c. c.entries) gives ∙ f.pushed same_plan walks plan walk (recursion_from_All (λ p. p ≢ plan) (keys_of walks.entries) absent)
        ∙ ap (λ n. (plan, walk) ∷ take (n - 1) walks.entries) room ∙ ap (λ w. (plan, w) ∷ take (most_plans - 1) walks.entries) same;
  }
