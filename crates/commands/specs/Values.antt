-- For proofs and inner functions: the values of a command by `clap` (this project's own).
use Rattle.std.specs.Prelude.{ℕ, List, [], Some, codes, true, option_map, unwrap_or}
use Rattle.clap.specs.Lexer.{usize_max}
use Rattle.clap.specs.Words.{App, Rule, new_app, new_rule, with_rule, found_of, matched_of, raw_values}
use Rattle.clap.specs.declared.parser.matches.ArgMatches.{ArgMatches}

-- the one argument, of any number of values
abbrev pub values_rule : Rule
values_rule = record (new_rule (codes "values")) {
  range = Some
      (record { start_inclusive = 0; end_inclusive = usize_max });
}

-- the command of a name: this argument, and neither help nor version
abbrev pub command : List ℕ → App
command name = with_rule
    (record (new_app name) {
      top = record
          (new_app name).top { disable_help_flag = true; disable_version_flag = true };
    }) values_rule

-- the values that were found
abbrev pub values_of : ArgMatches → List (List ℕ)
values_of matches = unwrap_or (option_map raw_values (matched_of (found_of matches) (codes "values"))) []
