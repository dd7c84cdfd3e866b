use Rattle.std.proofs.Common.{◌≡◌, ◌+◌, length, ℕ, List, ap, ◌∙◌, arith, lit<, length-append}
use Rattle.std.specs.Prelude.{Some, None}
use Rattle.std.proofs.lemmas.Str.Pattern.{split_parts}
use Rattle.uri_template.specs.Filling.{scheme_of, tile_of}
use Rattle.uri_template.proofs.Variables.{IsParted, after_brace}
use Rattle.uri_template.proofs.Lengths.{length-cut, length-cut_variable, length-cut_brace, length-uncut}
use Rattle.uri_template.proofs.length.length_filled.Goals as goal

pub overflow_add-count : goal.overflow_add-count
overflow_add-count c =
    let parts = split_parts 123 c.loop-before.rest.now (Some (c.in-Some.before, c.in-Some.after)) c.in-Some.ensures.cases (lit< tt) in
    let cut : IsParted c.loop-before.rest.now c.in-Some.before.now c.in-Some.after.now = record { parts = parts.0; no_brace = parts.1 } in
    omega (arith, length-cut _ _ _ cut, c.loop-before.invariant.room, c.requires.short)

pub overflow_add-count-in-Some-variable : goal.overflow_add-count-in-Some-variable
overflow_add-count-in-Some-variable c =
    let parts = split_parts 123 c.loop-before.rest.now (Some (c.in-Some.before, c.in-Some.after)) c.in-Some.ensures.cases (lit< tt) in
    let cut : IsParted c.loop-before.rest.now c.in-Some.before.now c.in-Some.after.now = record { parts = parts.0; no_brace = parts.1 } in
    omega (arith, length-cut _ _ _ cut, c.loop-before.invariant.room, c.requires.short, c.digits_of-count.ensures.few)

pub loop-before-preserved-in-Some-variable : goal.loop-before-preserved-in-Some-variable
loop-before-preserved-in-Some-variable c =
    let parts = split_parts 123 c.loop-before.rest.now (Some (c.in-Some.before, c.in-Some.after)) c.in-Some.ensures.cases (lit< tt) in
    let cut : IsParted c.loop-before.rest.now c.in-Some.before.now c.in-Some.after.now = record { parts = parts.0; no_brace = parts.1 } in
    let found = c.in-Some-variable.ensures in
    let rest = length-cut_variable (scheme_of c.args.axes) (tile_of c.args.level c.args.coords) _ _ _ _ _ _ cut found.1 found.2 in
    let behind : length c.in-Some.after.now ≡ length found.0 + length c.in-Some-variable.behind.now = ap (λ (w : List ℕ). length w) found.2 ∙ length-append found.0 c.in-Some-variable.behind.now in
    record {
      text = found.3;
      so_far = omega (arith, rest, c.digits_of-count.ensures.digits, c.loop-before.invariant.so_far);
      room = omega (arith, length-cut _ _ _ cut, behind, c.digits_of-count.ensures.few, c.loop-before.invariant.room);
    }

pub overflow_add-count-in-None : goal.overflow_add-count-in-None
overflow_add-count-in-None c =
    let parts = split_parts 123 c.loop-before.rest.now (Some (c.in-Some.before, c.in-Some.after)) c.in-Some.ensures.cases (lit< tt) in
    let cut : IsParted c.loop-before.rest.now c.in-Some.before.now c.in-Some.after.now = record { parts = parts.0; no_brace = parts.1 } in
    omega (arith, length-cut _ _ _ cut, c.loop-before.invariant.room, c.requires.short)

pub loop-before-preserved : goal.loop-before-preserved
loop-before-preserved c =
    let parts = split_parts 123 c.loop-before.rest.now (Some (c.in-Some.before, c.in-Some.after)) c.in-Some.ensures.cases (lit< tt) in
    let cut : IsParted c.loop-before.rest.now c.in-Some.before.now c.in-Some.after.now = record { parts = parts.0; no_brace = parts.1 } in
    let rest = length-cut_brace (scheme_of c.args.axes) (tile_of c.args.level c.args.coords) _ _ _ cut c.in-None.ensures in
    record {
      text = after_brace _ _ _ c.loop-before.invariant.text parts.0;
      so_far = omega (arith, rest, c.loop-before.invariant.so_far);
      room = omega (arith, length-cut _ _ _ cut, c.loop-before.invariant.room);
    }

pub returns-clause-length : goal.returns-clause-length
returns-clause-length c =
    let none = split_parts 123 c.loop-before.rest.now None c.in_default.ensures.cases (lit< tt) in
    let rest = length-uncut (scheme_of c.args.axes) (tile_of c.args.level c.args.coords) c.loop-before.rest.now none in
    omega (arith, rest, c.loop-before.invariant.so_far)
