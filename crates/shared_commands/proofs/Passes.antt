-- Passes that are put into desks, and taken out again.
use Rattle.std.proofs.Common.{◌≡◌, ℕ, ◌+◌, ◌<◌, ◌≤◌, ⊎_elim, List, [], ◌∷◌, ◌++◌, length, set, refl, sym, ap, subst, ◌∙◌, arith}
use Rattle.std.specs.Prelude.{Option, Some, None, IfSome, slice_index_or}
use Rattle.std.proofs.lemmas.List.{get_or_default, get_or_append_left, get_or_push, get_or-set_same, get_or-set_other, length-set, length_push}
use Rattle.std.proofs.lemmas.Bool.{cases_eq, cases_lt}
use Rattle.viewer_session.specs.Sessions.{PassSeen}
use Rattle.shared_commands.specs.Desks.{Place, HaveLostPasses}

above : (left more w n : ℕ) → left ≡ more + 1 → n ≡ more → more ≤ w → (w ≡ n → ⊥) → left ≤ w
above left more w n count place high other = ⊎_elim (λ (low : w < left). absurd (other (omega (arith, low, count, place, high)))) (λ h. omega (arith, h)) (cases_lt w left)

below : (w place : ℕ) → w < place + 1 → (w ≡ place → ⊥) → w < place
below w place low other = ⊎_elim (λ (h : w < place). h) (λ h. absurd (other (omega (arith, h, low)))) (cases_lt w place)

module _ {S : Type 0} where
  -- the passes from a place on are in their desks, and those before it are left
  pub record ArePut (passes : List PassSeen) (old : List (Place S)) (left : List PassSeen) (new : List (Place S)) : Type 0 where
    pub many : length new ≡ length old
    pub few : length left ≤ length old
    pub front : (w : ℕ) (p : PassSeen) → w < length left → slice_index_or left w p ≡ slice_index_or passes w p
    pub behind : (w : ℕ) (d : Place S) (p : PassSeen) → w < length old → length left ≤ w
        → slice_index_or new w d ≡ record (slice_index_or old w d) { pass = Some (slice_index_or passes w p) }
    pub before : (w : ℕ) (d : Place S) → w < length left → slice_index_or new w d ≡ slice_index_or old w d

  pub none_put : (passes : List PassSeen) (old : List (Place S)) → length passes ≡ length old → ArePut passes old passes old
  none_put passes old count = record {
    many = refl;
    few = omega (arith, count);
    front = λ w p low. refl;
    behind = λ w d p low high. absurd (omega (arith, low, high, count));
    before = λ w d low. refl;
  }

  pub all_put : (passes : List PassSeen) (old : List (Place S)) (left : List PassSeen) (new : List (Place S)) → ArePut passes old left new → length left ≡ 0
      → (w : ℕ) (d : Place S) (p : PassSeen) → w < length old → slice_index_or new w d ≡ record (slice_index_or old w d) { pass = Some (slice_index_or passes w p) }
  all_put passes old left new put none w d p low = put.behind w d p low (omega (arith, none))

  pub one_put : (passes : List PassSeen) (old : List (Place S)) (left more : List PassSeen) (new : List (Place S)) (pass : PassSeen) (was now : Place S) (n : ℕ) → ArePut passes old left new
      → left ≡ more ++ pass ∷ [] → n ≡ length more → was ≡ slice_index_or new n was → now ≡ record was { pass = Some pass } → ArePut passes old more (set new n now)
  one_put passes old left more new pass was now n put ends place read written =
      let count : length left ≡ length more + 1 = ap length ends ∙ length_push more pass in
      let within : n < length new = omega (arith, place, count, put.few, put.many) in
      record {
        many = length-set new n now ∙ put.many;
        few = omega (arith, count, put.few);
        front = λ w p low. sym (get_or_append_left more (pass ∷ []) p w low) ∙ ap (λ l. slice_index_or l w p) (sym ends) ∙ put.front w p (omega (arith, low, count));
        behind = λ w d p low high. ⊎_elim
            (λ (same : w ≡ n).
            let first : slice_index_or (set new n now) w d ≡ now = ap (λ k. slice_index_or (set new n now) k d) same ∙ get_or-set_same new n now d within in
            let old_one : was ≡ slice_index_or old w d = read ∙ put.before n was (omega (arith, place, count)) ∙ get_or_default old n was d (omega (arith, within, put.many)) ∙ ap (λ k. slice_index_or old k d) (sym same) in
            let pass_is : pass ≡ slice_index_or passes w p =
            sym (get_or_push more pass p n (sym place)) ∙ ap (λ l. slice_index_or l n p) (sym ends) ∙ put.front n p (omega (arith, place, count)) ∙ ap (λ k. slice_index_or passes k p) (sym same) in
            first ∙ written ∙ ap (λ (x : Place S). record x { pass = Some pass }) old_one ∙ ap (λ q. record (slice_index_or old w d) { pass = Some q }) pass_is)
            (λ (other : w ≡ n → ⊥). get_or-set_other new n w now d other ∙ put.behind w d p low (above (length left) (length more) w n count place high other))
            (cases_eq w n);
        before = λ w d low. get_or-set_other new n w now d (λ same. omega (arith, same, place, low)) ∙ put.before w d (omega (arith, low, count));
      }

  -- the passes of the desks before a place are taken out
  pub record AreTaken (old : List (Place S)) (place : ℕ) (new : List (Place S)) : Type 0 where
    pub many : length new ≡ length old
    pub before : (w : ℕ) (d : Place S) (pass : PassSeen) → w < place → w < length old → (slice_index_or old w d).pass ≡ Some pass
        → slice_index_or new w d ≡ record (slice_index_or old w d) { pass = None; shown = pass.walked }
    pub behind : (w : ℕ) (d : Place S) → place ≤ w → slice_index_or new w d ≡ slice_index_or old w d

  pub none_taken : (old : List (Place S)) → AreTaken old 0 old
  none_taken old = record {
    many = refl;
    before = λ w d pass low within has. absurd (omega (arith, low));
    behind = λ w d high. refl;
  }

  pub all_taken : (old : List (Place S)) (place : ℕ) (new : List (Place S)) → AreTaken old place new → length old ≤ place → HaveLostPasses old new
  all_taken old place new taken all = (taken.many, λ w d pass low has. taken.before w d pass (omega (arith, low, all)) low has)

  pub one_taken : (old : List (Place S)) (place : ℕ) (new : List (Place S)) (result : Option PassSeen) (e was now : Place S) → AreTaken old place new → place < length old
      → was ≡ slice_index_or new place e → result ≡ was.pass → IfSome result (λ pass. now ≡ record was { pass = None; shown = pass.walked })
      → AreTaken old (place + 1) (set new place now)
  one_taken old place new result e was now taken within read found lost = record {
    many = length-set new place now ∙ taken.many;
    before = λ w d pass low inside has. ⊎_elim
        (λ (same : w ≡ place).
        let first : slice_index_or (set new place now) w d ≡ now = ap (λ k. slice_index_or (set new place now) k d) same ∙ get_or-set_same new place now d (omega (arith, within, taken.many)) in
        let old_one : was ≡ slice_index_or old w d = read ∙ taken.behind place e (omega arith) ∙ get_or_default old place e d within ∙ ap (λ k. slice_index_or old k d) (sym same) in
        let found_pass : result ≡ Some pass = found ∙ ap (λ (x : Place S). x.pass) old_one ∙ has in
        let lost_pass : now ≡ record was { pass = None; shown = pass.walked } = subst (λ r. IfSome r (λ (pass : PassSeen). now ≡ record was { pass = None; shown = pass.walked })) found_pass lost in
        first ∙ lost_pass ∙ ap (λ (x : Place S). record x { pass = None; shown = pass.walked }) old_one)
        (λ (other : w ≡ place → ⊥). get_or-set_other new place w now d other ∙ taken.before w d pass (below w place low other) inside has)
        (cases_eq w place);
    behind = λ w d high. get_or-set_other new place w now d (λ same. omega (arith, same, high)) ∙ taken.behind w d (omega (arith, high));
  }
