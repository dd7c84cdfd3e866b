use Rattle.std.proofs.Common.{ap, sym, ◌∙◌, ◌≡◌, List, [], map, arith, length, ◌≤◌}
use Rattle.std.specs.Prelude.{codes, drop, string_bytes, unwrap_or}
use Rattle.std.proofs.lemmas.List.{length-drop, length-map}
use Rattle.clap.specs.Lexer.{usize_max}
use Rattle.clap.specs.Words.{App, Text, Row, is_simple, is_simple_and_free, fault_of, takes, matches_of, all_of, found_of}
use Rattle.clap.proofs.WalkLemmas.{raw_values-rows}
use Rattle.commands.specs.Values.{command}
use Rattle.commands.specs.Words.{without_dashes}
use Rattle.commands.proofs.Given.{has_flag, true_of, flags_are_hyphens}
use Rattle.commands.proofs.Walks.{simple, free, accepted, is_taken, short}
use Rattle.commands.proofs.words.matches_of.Goals as goal

pub returns-in-Ok-clause-taken : goal.returns-in-Ok-clause-taken
returns-in-Ok-clause-taken c =
    let app = c.in_ok-command.ensures in
    let name = c.args.name.now in
    let words : List Text = map string_bytes c.args.words.now in
    let rows = (c.in-Ok.ensures.matches (ap is_simple app ∙ simple name)).0 in
    let no_fault : fault_of (command name) words ≡ [] = ap (λ (a : App). fault_of a words) (sym app) ∙ c.in-Ok.ensures.kinds (ap is_simple_and_free app ∙ free name) in
    ap (λ o. unwrap_or o []) (raw_values-rows (found_of c.in-Ok.matches) (codes "values")) ∙ ap (λ (r : List Row). unwrap_or (all_of (codes "values") r) []) (rows ∙ ap (λ (a : App). matches_of a words) app) ∙ accepted name words no_fault

pub returns : goal.returns
returns c =
    let app = c.in_ok-command.ensures in
    let words : List Text = map string_bytes c.args.words.now in
    let behind = drop 1 words in
    record {
      taken = tt;
      refused = λ e.
          let fits : length (without_dashes behind) ≤ usize_max =
          omega (arith, short behind, length-drop 1 words, length-map c.args.words.now string_bytes, c.count_of-count.ensures, c.count_of-count.type_inv) in
          flags_are_hyphens behind (true_of (has_flag behind) (λ plain.
          let is_memory = c.in-Err.ensures.passes (ap (λ (a : App). takes a words) app ∙ is_taken c.args.name.now words plain fits) in
          c.in_default.not-OutOfMemory (c.kind.ensures ∙ is_memory)));
    }
