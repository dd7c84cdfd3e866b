-- The walk of a command with one positional that takes any number of values.
use Rattle.std.proofs.Common.{ap, ap₂, refl, codes, true, false, ◌≡◌, ◌∙◌, sym, ℕ, List, [], ◌∷◌, ◌++◌, Bool, Option, Some, None, is_some, length, arith, ◌≤◌}
use Rattle.std.specs.Prelude.{fold, drop, ◌||◌, ◌&&◌, unwrap_or, nat_le, IsSomeAnd}
use Rattle.std.specs.Str.{bytes_eq, chars}
use Rattle.std.specs.Prelude.{slice_get}
use Rattle.std.proofs.Common.{suc}
use Rattle.clap.specs.Faults.{walk_fault, fault_of, is_simple_and_free}
use Rattle.clap.specs.Kinds.{Kinds, or_else}
use Rattle.clap.specs.Lexer.{usize_max, long_of, short_of}
use Rattle.clap.specs.Words.{Rule, Shape, Text, all_of, is_simple, matches_of, takes}
use Rattle.clap.specs.Walk.{Walk, walked, nothing_held, idle, positional, finished}
use Rattle.clap.specs.Takes.{walk_passes, settle_passes, entered_passes, default_passes, is_valid, value_passes}
use Rattle.std.specs.List.{list_all}
use Rattle.std.proofs.lemmas.Bool.Decides.{nat_tests}
use Rattle.clap.specs.Simple.{built, entered}
use Rattle.clap.specs.declared.builder.action.ArgAction.TheVariants.{Append}
use Rattle.clap.specs.declared.builder.value_parser.ValueParser.TheVariants as vp
use Rattle.clap.proofs.OnLiterals.{clap_on_literals}
use Rattle.commands.specs.Values.{values_rule, command}
use Rattle.commands.specs.Words.{without_dashes}
use Rattle.commands.proofs.Given.{has_flag}
use Rattle.std.proofs.Common.{append-nil, append_assoc}

-- the same once it is built
abbrev pub rule : Rule
rule = record values_rule { index = Some 1; action = Some Append; parser = Some vp.String }

abbrev pub state : List Text → Bool → Walk
state [] b = record { held = nothing_held; waiting = idle; position = 1; is_trailing = b; stopped = None }
state (t ∷ ts) b = record { held = record { rows = []; pending = Some (codes "values", t ∷ ts); skip = 0 }; waiting = positional; position = 1; is_trailing = b; stopped = None }

pub is_some_of : {X : Type 0} (o : Option X) (x : X) → IsSomeAnd o (λ y. y ≡ x) → o ≡ Some x
is_some_of (Some y) x e = ap (λ z. Some z) e
is_some_of None x e = absurd e

pub behind : (taken : List Text) (w : Text) → walked (rule ∷ []) [] (state taken true) w ≡ state (taken ++ w ∷ []) true
unfolding clap_on_literals
behind [] w = refl
behind (t ∷ ts) w = refl

pub plain : (taken : List Text) (w : Text) → bytes_eq w (45 ∷ 45 ∷ []) ≡ false → long_of w ≡ None → short_of w ≡ None
    → walked (rule ∷ []) [] (state taken false) w ≡ state (taken ++ w ∷ []) false
unfolding clap_on_literals
plain [] w e l s = rw (e, l, s) refl
plain (t ∷ ts) w e l s = rw (e, l, s) refl

pub mark : (taken : List Text) (w : Text) → bytes_eq w (45 ∷ 45 ∷ []) ≡ true → walked (rule ∷ []) [] (state taken false) w ≡ state taken true
unfolding clap_on_literals
mark [] w e = rw e refl
mark (t ∷ ts) w e = rw e refl

abbrev go : Walk → List Text → Walk
go = fold (walked (rule ∷ []) [])

fold_behind : (ws taken : List Text) → go (state taken true) ws ≡ state (taken ++ ws) true
fold_behind [] taken = ap (λ (x : List Text). state x true) (sym (append-nil taken))
fold_behind (w ∷ ws) taken =
    ap (λ (s : Walk). go s ws) (behind taken w) ∙ fold_behind ws (taken ++ w ∷ []) ∙ ap (λ (x : List Text). state x true) (append_assoc taken (w ∷ []) ws)

none_of : {X : Type 0} (o : Option X) → is_some o ≡ false → o ≡ None
none_of None e = refl
none_of (Some x) e = absurd (grind (arith, e))

or_false : (a b : Bool) → (a || b) ≡ false → (a ≡ false) × (b ≡ false)
or_false false b e = (refl, e)
or_false true b e = (e, absurd (grind (arith, e)))

abbrev Ends : List Text → List Text → Type 0
Ends ws taken = (b : Bool) × (go (state taken false) ws ≡ state (taken ++ without_dashes ws) b)

walks_by : (b : Bool) (w : Text) (ws taken : List Text) → bytes_eq w (45 ∷ 45 ∷ []) ≡ b → has_flag (w ∷ ws) ≡ false
    → (has_flag ws ≡ false → Ends ws (taken ++ w ∷ [])) → Ends (w ∷ ws) taken
walks_by true w ws taken is e more = (true, ap (λ (s : Walk). go s ws) (mark taken w is) ∙ (fold_behind ws taken ∙ ap (λ (x : List Text). state (taken ++ x) true) (rw is refl)))
walks_by false w ws taken is e more =
    let flags : (is_some (long_of w) || (is_some (short_of w) || has_flag ws)) ≡ false = rw is at e in
    let l = or_false (is_some (long_of w)) _ flags in
    let s = or_false (is_some (short_of w)) _ l.1 in
    let rest = more s.1 in (
      rest.0,
      ap (λ (x : Walk). go x ws) (plain taken w is (none_of (long_of w) l.0) (none_of (short_of w) s.0))
          ∙ (rest.1 ∙ ap (λ (x : List Text). state x rest.0) (append_assoc taken (w ∷ []) (without_dashes ws) ∙ ap (λ (x : List Text). taken ++ x) (rw is refl))),
    )

pub walks : (ws taken : List Text) → has_flag ws ≡ false → Ends ws taken
walks [] taken e = (false, ap (λ (x : List Text). state x false) (sym (append-nil taken)))
walks (w ∷ ws) taken e = walks_by (bytes_eq w (45 ∷ 45 ∷ [])) w ws taken refl e (walks ws (taken ++ w ∷ []))

ends : (vs : List Text) (b : Bool) → unwrap_or (all_of (codes "values") (finished (rule ∷ []) (state vs b).held)) [] ≡ vs
unfolding clap_on_literals
ends [] b = refl
ends (v ∷ vs) b = refl

all_pass : (vs : List Text) → list_all (value_passes rule) vs ≡ true
all_pass [] = refl
all_pass (v ∷ vs) = all_pass vs

short_by : (b : Bool) (w : Text) (ws : List Text) → bytes_eq w (45 ∷ 45 ∷ []) ≡ b → length (without_dashes ws) ≤ length ws → length (without_dashes (w ∷ ws)) ≤ length (w ∷ ws)
short_by true w ws is e = rw is (omega arith)
short_by false w ws is e = rw is (omega (arith, e))

pub short : (ws : List Text) → length (without_dashes ws) ≤ length ws
short [] = omega arith
short (w ∷ ws) = short_by (bytes_eq w (45 ∷ 45 ∷ [])) w ws refl (short ws)

nonempty : {X : Type 0} (x : X) (xs : List X) → x ∷ xs ≡ [] → ⊥
nonempty x xs e = let long : suc (length xs) ≡ 0 = ap length e in omega arith

first_of_both : (a b : Kinds) → or_else a b ≡ [] → a ≡ []
first_of_both [] b e = refl
first_of_both (k ∷ ks) b e = e

module _ (name : Text) where
  -- the built command
  abbrev top : Shape
  top = (built (command name)).top

  pub simple : is_simple (command name) ≡ true
  unfolding clap_on_literals
  simple = refl

  pub one_rule : top.rules ≡ rule ∷ []
  unfolding clap_on_literals
  one_rule = refl

  passes_behind : (ws taken : List Text) → walk_passes top [] (state taken true) ws ≡ true
  unfolding clap_on_literals
  passes_behind [] taken = refl
  passes_behind (w ∷ ws) [] = ap (λ (s : Walk). walk_passes top [] s ws) (behind [] w) ∙ passes_behind ws (w ∷ [])
  passes_behind (w ∷ ws) (t ∷ ts) = ap (λ (s : Walk). walk_passes top [] s ws) (behind (t ∷ ts) w) ∙ passes_behind ws ((t ∷ ts) ++ w ∷ [])

  turn_plain : (taken : List Text) (w : Text) (ws : List Text) → bytes_eq w (45 ∷ 45 ∷ []) ≡ false → long_of w ≡ None → short_of w ≡ None
      → walk_passes top [] (state taken false) (w ∷ ws) ≡ walk_passes top [] (walked top.rules [] (state taken false) w) ws
  unfolding clap_on_literals
  turn_plain [] w ws e l s = rw (e, l, s) refl
  turn_plain (t ∷ ts) w ws e l s = rw (e, l, s) refl

  turn_mark : (taken : List Text) (w : Text) (ws : List Text) → bytes_eq w (45 ∷ 45 ∷ []) ≡ true
      → walk_passes top [] (state taken false) (w ∷ ws) ≡ walk_passes top [] (walked top.rules [] (state taken false) w) ws
  unfolding clap_on_literals
  turn_mark [] w ws e = rw e refl
  turn_mark (t ∷ ts) w ws e = rw e refl

  passes_by : (b : Bool) (w : Text) (ws taken : List Text) → bytes_eq w (45 ∷ 45 ∷ []) ≡ b → has_flag (w ∷ ws) ≡ false
      → (has_flag ws ≡ false → walk_passes top [] (state (taken ++ w ∷ []) false) ws ≡ true) → walk_passes top [] (state taken false) (w ∷ ws) ≡ true
  passes_by true w ws taken is e more =
      turn_mark taken w ws is ∙ (ap (λ (r : List Rule). walk_passes top [] (walked r [] (state taken false) w) ws) one_rule ∙ (ap (λ (s : Walk). walk_passes top [] s ws) (mark taken w is) ∙ passes_behind ws taken))
  passes_by false w ws taken is e more =
      let flags : (is_some (long_of w) || (is_some (short_of w) || has_flag ws)) ≡ false = rw is at e in
      let l = or_false (is_some (long_of w)) _ flags in
      let s = or_false (is_some (short_of w)) _ l.1 in
      let long = none_of (long_of w) l.0 in
      let short = none_of (short_of w) s.0 in
      turn_plain taken w ws is long short ∙ (ap (λ (r : List Rule). walk_passes top [] (walked r [] (state taken false) w) ws) one_rule ∙ (ap (λ (s : Walk). walk_passes top [] s ws) (plain taken w is long short) ∙ more s.1))

  passes : (ws taken : List Text) → has_flag ws ≡ false → walk_passes top [] (state taken false) ws ≡ true
  unfolding clap_on_literals
  passes [] taken e = refl
  passes (w ∷ ws) taken e = passes_by (bytes_eq w (45 ∷ 45 ∷ [])) w ws taken refl e (passes ws (taken ++ w ∷ []))

  abbrev level : Walk → Bool → Bool
  level w p = entered_passes (built (command name)) w.stopped && (p && (settle_passes top.rules top.args_override_self w.held
      && (list_all default_passes top.rules && is_valid top (finished top.rules w.held) (is_some (entered (built (command name)) w.stopped)))))

  level_is : (vs : List Text) (b : Bool) → length vs ≤ usize_max → level (state vs b) true ≡ true
  unfolding clap_on_literals
  level_is [] b e = refl
  level_is (v ∷ vs) b e =
      let fits : nat_le (length (v ∷ vs)) usize_max ≡ true = grind (arith, nat_tests, e) in
      let zero : nat_le 0 (length (v ∷ vs)) ≡ true = grind (arith, nat_tests) in
      rw (zero, fits, all_pass vs) refl

  pub is_taken : (words : List Text) → has_flag (drop 1 words) ≡ false → length (without_dashes (drop 1 words)) ≤ usize_max → takes (command name) words ≡ true
  unfolding clap_on_literals
  is_taken words e fits =
      let w = walks (drop 1 words) [] e in
      ap₂ level w.1 (passes (drop 1 words) [] e) ∙ level_is (without_dashes (drop 1 words)) w.0 fits

  fault_long : (taken : List Text) (w : Text) (ws : List Text) (p : Text × Option Text) → bytes_eq w (45 ∷ 45 ∷ []) ≡ false → long_of w ≡ Some p
      → walk_fault top [] (state taken false) (w ∷ ws) ≡ [] → ⊥
  unfolding clap_on_literals
  fault_long [] w ws p e l none = nonempty _ _ (rw (e, l) at none)
  fault_long (t ∷ ts) w ws p e l none = nonempty _ _ (rw (e, l) at none)

  fault_short : (taken : List Text) (w : Text) (ws : List Text) (x : ℕ) (xs : Text) (ch : ℕ) → bytes_eq w (45 ∷ 45 ∷ []) ≡ false → long_of w ≡ None → short_of w ≡ Some (x ∷ xs)
      → slice_get (chars (x ∷ xs)) 0 ≡ Some ch → walk_fault top [] (state taken false) (w ∷ ws) ≡ [] → ⊥
  unfolding clap_on_literals
  fault_short [] w ws x xs ch e l s c none = nonempty _ _ (rw (e, l, s, c) at none)
  fault_short (t ∷ ts) w ws x xs ch e l s c none = nonempty _ _ (rw (e, l, s, c) at none)

  abbrev Ahead : List Text → Text → List Text → Type 0
  Ahead taken w ws = (walk_fault top [] (state taken false) (w ∷ ws) ≡ [] → walk_fault top [] (state (taken ++ w ∷ []) false) ws ≡ [])
      × (walked (rule ∷ []) [] (state taken false) w ≡ state (taken ++ w ∷ []) false)

  at_plain : (taken : List Text) (w : Text) (ws : List Text) → bytes_eq w (45 ∷ 45 ∷ []) ≡ false → long_of w ≡ None → short_of w ≡ None → Ahead taken w ws
  unfolding clap_on_literals
  at_plain [] w ws e l s = ((λ h. rw (e, l, s) at h), plain [] w e l s)
  at_plain (t ∷ ts) w ws e l s = ((λ h. rw (e, l, s) at h), plain (t ∷ ts) w e l s)

  at_empty : (taken : List Text) (w : Text) (ws : List Text) → bytes_eq w (45 ∷ 45 ∷ []) ≡ false → long_of w ≡ None → short_of w ≡ Some [] → Ahead taken w ws
  unfolding clap_on_literals
  at_empty [] w ws e l s = ((λ h. rw (e, l, s) at h), rw (e, l, s) refl)
  at_empty (t ∷ ts) w ws e l s = ((λ h. rw (e, l, s) at h), rw (e, l, s) refl)

  at_none : (taken : List Text) (w : Text) (ws : List Text) (x : ℕ) (xs : Text) → bytes_eq w (45 ∷ 45 ∷ []) ≡ false → long_of w ≡ None → short_of w ≡ Some (x ∷ xs)
      → slice_get (chars (x ∷ xs)) 0 ≡ None → Ahead taken w ws
  unfolding clap_on_literals
  at_none [] w ws x xs e l s c = ((λ h. rw (e, l, s, c) at h), rw (e, l, s, c) refl)
  at_none (t ∷ ts) w ws x xs e l s c = ((λ h. rw (e, l, s, c) at h), rw (e, l, s, c) refl)

  by_char : (taken : List Text) (w : Text) (ws : List Text) (x : ℕ) (xs : Text) → bytes_eq w (45 ∷ 45 ∷ []) ≡ false → long_of w ≡ None → short_of w ≡ Some (x ∷ xs)
      → (o : Option ℕ) → slice_get (chars (x ∷ xs)) 0 ≡ o → walk_fault top [] (state taken false) (w ∷ ws) ≡ [] → Ahead taken w ws
  by_char taken w ws x xs e l s None c none = at_none taken w ws x xs e l s c
  by_char taken w ws x xs e l s (Some ch) c none = absurd (fault_short taken w ws x xs ch e l s c none)

  by_short : (taken : List Text) (w : Text) (ws : List Text) → bytes_eq w (45 ∷ 45 ∷ []) ≡ false → long_of w ≡ None → (o : Option Text) → short_of w ≡ o
      → walk_fault top [] (state taken false) (w ∷ ws) ≡ [] → Ahead taken w ws
  by_short taken w ws e l None s none = at_plain taken w ws e l s
  by_short taken w ws e l (Some []) s none = at_empty taken w ws e l s
  by_short taken w ws e l (Some (x ∷ xs)) s none = by_char taken w ws x xs e l s (slice_get (chars (x ∷ xs)) 0) refl none

  by_long : (taken : List Text) (w : Text) (ws : List Text) → bytes_eq w (45 ∷ 45 ∷ []) ≡ false → (o : Option (Text × Option Text)) → long_of w ≡ o
      → walk_fault top [] (state taken false) (w ∷ ws) ≡ [] → Ahead taken w ws
  by_long taken w ws e None l none = by_short taken w ws e l (short_of w) refl none
  by_long taken w ws e (Some p) l none = absurd (fault_long taken w ws p e l none)

  took_by : (b : Bool) (w : Text) (ws taken : List Text) → bytes_eq w (45 ∷ 45 ∷ []) ≡ b → walk_fault top [] (state taken false) (w ∷ ws) ≡ []
      → (walk_fault top [] (state (taken ++ w ∷ []) false) ws ≡ [] → Ends ws (taken ++ w ∷ [])) → Ends (w ∷ ws) taken
  took_by true w ws taken is none more = (true, ap (λ (s : Walk). go s ws) (mark taken w is) ∙ (fold_behind ws taken ∙ ap (λ (x : List Text). state (taken ++ x) true) (rw is refl)))
  took_by false w ws taken is none more =
      let a = by_long taken w ws is (long_of w) refl none in
      let rest = more (a.0 none) in (
        rest.0,
        ap (λ (x : Walk). go x ws) a.1
            ∙ (rest.1 ∙ ap (λ (x : List Text). state x rest.0) (append_assoc taken (w ∷ []) (without_dashes ws) ∙ ap (λ (x : List Text). taken ++ x) (rw is refl))),
      )

  pub took : (ws taken : List Text) → walk_fault top [] (state taken false) ws ≡ [] → Ends ws taken
  took [] taken e = (false, ap (λ (x : List Text). state x false) (sym (append-nil taken)))
  took (w ∷ ws) taken e = took_by (bytes_eq w (45 ∷ 45 ∷ [])) w ws taken refl e (took ws (taken ++ w ∷ []))

  pub accepted : (words : List Text) → fault_of (command name) words ≡ [] → unwrap_or (all_of (codes "values") (matches_of (command name) words)) [] ≡ without_dashes (drop 1 words)
  unfolding clap_on_literals
  accepted words e =
      let w = took (drop 1 words) [] (first_of_both (walk_fault top [] (state [] false) (drop 1 words)) _ e) in
      ap (λ (x : Walk). unwrap_or (all_of (codes "values") (finished (rule ∷ []) x.held)) []) w.1 ∙ ends (without_dashes (drop 1 words)) w.0

  pub free : is_simple_and_free (command name) ≡ true
  unfolding clap_on_literals
  free = refl
