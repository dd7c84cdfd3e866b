use Rattle.std.proofs.Common.{◌≡◌, [], ◌∷◌, ◌++◌, rules, string_bytes, lit<}
use Rattle.std.specs.Prelude.{Some, None}
use Rattle.std.specs.Fmt.{decimal}
use Rattle.std.proofs.lemmas.Str.Pattern.{split_parts}
use Rattle.uri_template.specs.Filling.{scheme_of, tile_of}
use Rattle.uri_template.proofs.Variables.{IsParted, step_variable, step_brace, step_end, after_brace}
use Rattle.uri_template.proofs.Appending.{kept-append, appended}
use Rattle.uri_template.proofs.filling.append_filled.Goals as goal

pub loop-before-preserved-in-Some-variable : goal.loop-before-preserved-in-Some-variable
loop-before-preserved-in-Some-variable c =
    let parts = split_parts 123 c.loop-before.rest.now (Some (c.in-Some.before, c.in-Some.after)) c.in-Some.ensures.cases (lit< tt) in
    let cut : IsParted c.loop-before.rest.now c.in-Some.before.now c.in-Some.after.now = record { parts = parts.0; no_brace = parts.1 } in
    let found = c.in-Some-variable.ensures in
    let one : string_bytes c.push_str.new.self ≡ string_bytes c.loop-before.out ++ c.in-Some.before.now = search rules in
    let two : string_bytes c.push_str-in-Some-variable.new.self ≡ string_bytes c.push_str.new.self ++ decimal c.in-Some-variable.number = search rules in
    record {
      text = found.3;
      so_far = step_variable (scheme_of c.args.axes) (tile_of c.args.level c.args.coords) _ _ _ _ _ _ _ _ _ _ cut found.1 found.2 c.loop-before.invariant.so_far one two;
      kept = kept-append _ _ _ _ two (kept-append _ _ _ _ one c.loop-before.invariant.kept);
    }

pub loop-before-preserved : goal.loop-before-preserved
loop-before-preserved c =
    let parts = split_parts 123 c.loop-before.rest.now (Some (c.in-Some.before, c.in-Some.after)) c.in-Some.ensures.cases (lit< tt) in
    let cut : IsParted c.loop-before.rest.now c.in-Some.before.now c.in-Some.after.now = record { parts = parts.0; no_brace = parts.1 } in
    let one : string_bytes c.push_str.new.self ≡ string_bytes c.loop-before.out ++ c.in-Some.before.now = search rules in
    let two : string_bytes c.push.new.self ≡ string_bytes c.push_str.new.self ++ (123 ∷ []) = search rules in
    record {
      text = after_brace _ _ _ c.loop-before.invariant.text parts.0;
      so_far = step_brace (scheme_of c.args.axes) (tile_of c.args.level c.args.coords) _ _ _ _ _ _ _ cut c.in-None.ensures c.loop-before.invariant.so_far one two;
      kept = kept-append _ _ _ _ two (kept-append _ _ _ _ one c.loop-before.invariant.kept);
    }

pub returns-clause-filled : goal.returns-clause-filled
returns-clause-filled c =
    let none = split_parts 123 c.loop-before.rest.now None c.in_default.ensures.cases (lit< tt) in
    appended c.push_str-2.result _ (string_bytes c.loop-before.out) c.loop-before.rest.now _ c.push_str-2.ensures.bytes
    (step_end (scheme_of c.args.axes) (tile_of c.args.level c.args.coords) c.loop-before.rest.now _ _ none c.loop-before.invariant.so_far)
