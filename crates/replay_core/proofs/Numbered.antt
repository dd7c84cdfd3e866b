-- The cursors by the numbers of their plans.
use Rattle.std.proofs.Common.{rules, ◌≡◌, ◌∙◌, ℕ, zero, suc, ◌+◌, ◌<◌, Bool, true, false, not, cond, List, [], ◌∷◌, length, map, position, get_or, set, Option, Some, None, refl, sym, ap, subst}
use Rattle.std.specs.Prelude.{slice_get, nat_lt, IsSomeAnd}
use Rattle.std.specs.List.{prefix_len}
use Rattle.std.proofs.lemmas.Bool.{false≢true}
use Rattle.std.proofs.lemmas.List.{length-map}
use Rattle.std.proofs.lemmas.Option.{none-some, same_Some, slice_get-get_or, slice_get_within}
use Rattle.implicit_tiling.specs.Region.{Plan}
use Rattle.tile_coords.specs.contracts.plan.PlanPartialEq.TheImpl.{eq-value}
use Rattle.replay_machine.specs.Machine.{is_same_plan}
use Rattle.replay_core.specs.declared.shared_cursor.SharedCursor.{SharedCursor}

-- ---- equal plans

plan_is : (a b : Plan) → eq-value.it a b ≡ true → a ≡ b
plan_is a b e = search rules

plan_same : (a : Plan) → eq-value.it a a ≡ true
plan_same a = search rules

same_is : (a b : Plan) → is_same_plan a b ≡ true → a ≡ b
same_is a b e = search rules

same_same : (a : Plan) → is_same_plan a a ≡ true
same_same a = search rules

both : (a b : Plan) (x y : Bool) → eq-value.it a b ≡ x → is_same_plan a b ≡ y → x ≡ y
both a b true true e f = refl
both a b false false e f = refl
both a b true false e f = absurd (false≢true (sym f ∙ subst (λ q. is_same_plan a q ≡ true) (plan_is a b e) (same_same a)))
both a b false true e f = absurd (false≢true (sym e ∙ subst (λ q. eq-value.it a q ≡ true) (same_is a b f) (plan_same a)))

same_test : (a b : Plan) → eq-value.it a b ≡ is_same_plan a b
same_test a b = both a b (eq-value.it a b) (is_same_plan a b) refl refl

fronts : (plan : Plan) (cursors : List SharedCursor)
    → prefix_len (λ (q : Plan). not (eq-value.it plan q)) (map (λ (d : SharedCursor). d.plan) cursors) ≡ prefix_len (λ (d : SharedCursor). not (is_same_plan plan d.plan)) cursors
fronts plan [] = refl
fronts plan (d ∷ ds) =
    ap (λ b. cond (not b) (1 + prefix_len (λ (q : Plan). not (eq-value.it plan q)) (map (λ (e : SharedCursor). e.plan) ds)) 0) (same_test plan d.plan)
    ∙ ap (λ n. cond (not (is_same_plan plan d.plan)) (1 + n) 0) (fronts plan ds)

-- the place of a plan among the plans is that of its cursor
pub position_of_plan : (plan : Plan) (keys : List Plan) (cursors : List SharedCursor) → keys ≡ map (λ (d : SharedCursor). d.plan) cursors
    → position (eq-value.it plan) keys ≡ position (λ (d : SharedCursor). is_same_plan plan d.plan) cursors
position_of_plan plan keys cursors is =
    let of_plan : SharedCursor → Plan = λ (d : SharedCursor). d.plan in
    let front = prefix_len (λ (d : SharedCursor). not (is_same_plan plan d.plan)) cursors in
    ap (position (eq-value.it plan)) is
    ∙ ap (λ n. cond (nat_lt n (length (map of_plan cursors))) (Some n) None) (fronts plan cursors)
    ∙ ap (λ k. cond (nat_lt front k) (Some front) None) (length-map cursors of_plan)

-- ---- one cursor changes

pub map_set_same : (cursors : List SharedCursor) (c : ℕ) (was now : SharedCursor) → slice_get cursors c ≡ Some was → now.plan ≡ was.plan
    → map (λ (d : SharedCursor). d.plan) (set cursors c now) ≡ map (λ (d : SharedCursor). d.plan) cursors
map_set_same [] c was now at same = absurd (none-some was at)
map_set_same (d ∷ ds) zero was now at same = ap (λ p. p ∷ map (λ (e : SharedCursor). e.plan) ds) (same ∙ ap (λ (e : SharedCursor). e.plan) (sym (same_Some d was at)))
map_set_same (d ∷ ds) (suc c) was now at same = ap (λ ps. d.plan ∷ ps) (map_set_same ds c was now at same)

pub read_at : {X : Type 0} (xs : List X) (c : ℕ) (x : X) → c < length xs → x ≡ get_or xs c x → slice_get xs c ≡ Some x
read_at xs c x inside read = slice_get-get_or xs c x inside ∙ ap (λ y. Some y) (sym read)

pub some_and : {X : Type 0} (o : Option X) (x : X) (P : X → Type 0) → o ≡ Some x → P x → IsSomeAnd o P
some_and o x P is holds = subst (λ o. IsSomeAnd o P) (sym is) holds

pub some_within : {X : Type 0} (xs : List X) (c : ℕ) (P : X → Type 0) (o : Option X) → slice_get xs c ≡ o → IsSomeAnd o P → (c < length xs)
some_within xs c P None is holds = absurd holds
some_within xs c P (Some x) is holds = slice_get_within xs c x is

pub some_holds : {X : Type 0} (xs : List X) (c : ℕ) (x : X) (P : X → Type 0) → slice_get xs c ≡ Some x → IsSomeAnd (slice_get xs c) P → P x
some_holds xs c x P is holds = subst (λ o. IsSomeAnd o P) is holds

-- the plans are as they were
pub plans_stay : (keys : List Plan) (items now : List SharedCursor) (c : ℕ) (cursor next : SharedCursor) → keys ≡ map (λ (d : SharedCursor). d.plan) items → items ≡ now → c < length now
    → cursor ≡ get_or items c cursor → next.plan ≡ cursor.plan → keys ≡ map (λ (d : SharedCursor). d.plan) (set items c next)
plans_stay keys items now c cursor next are is inside read same =
    are ∙ sym (map_set_same items c cursor next (read_at items c cursor (subst (λ (xs : List SharedCursor). c < length xs) (sym is) inside) read) same)

-- a cursor whose holder is another one
pub holder_set : (items now : List SharedCursor) (c : ℕ) (cursor : SharedCursor) (holder : Option ℕ) → items ≡ now → c < length now → cursor ≡ get_or items c cursor
    → IsSomeAnd (slice_get now c) (λ (was : SharedCursor). set items c (record { plan = cursor.plan; walk = cursor.walk; holder = holder }) ≡ set now c (record was { holder = holder }))
holder_set items now c cursor holder is inside read =
    let at = read_at items c cursor (subst (λ (xs : List SharedCursor). c < length xs) (sym is) inside) read in
    some_and (slice_get now c) cursor (λ (was : SharedCursor). set items c (record { plan = cursor.plan; walk = cursor.walk; holder = holder }) ≡ set now c (record was { holder = holder }))
    (subst (λ (xs : List SharedCursor). slice_get xs c ≡ Some cursor) is at)
    (ap (λ (xs : List SharedCursor). set xs c (record cursor { holder = holder })) is)
