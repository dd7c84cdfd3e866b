use Rattle.std.proofs.Common.{ap, ap₂, true, ◌∙◌, ◌≡◌, Some, Option}
use Rattle.std.proofs.lemmas.Result.{IfOk-weaker}
use Rattle.clap.specs.Lexer.{usize_max}
use Rattle.clap.specs.Words.{App, Rule, rule_of, with_rule}
use Rattle.clap.specs.Simple.{app_of_fields}
use Rattle.clap.specs.declared.builder.range.ValueRange.{ValueRange}
use Rattle.commands.specs.Values.{values_rule}
use Rattle.commands.proofs.Walks.{is_some_of}
use Rattle.commands.proofs.words.command_of.Goals as goal

abbrev flagged : App → App
flagged a = record a { top = record a.top { disable_help_flag = true } }

abbrev versioned : App → App
versioned a = record a { top = record a.top { disable_version_flag = true } }

pub returns : goal.returns
returns c =
    let range_is = is_some_of c.num_args-values.result.num_vals (record { start_inclusive = 0; end_inclusive = usize_max }) c.num_args-values.ensures.1 in
    let rule_is : rule_of c.num_args-values.result ≡ values_rule =
    ap rule_of c.num_args-values.ensures.0 ∙ (ap (λ (nv : Option ValueRange). record (rule_of c.new.result) { range = nv }) range_is
    ∙ ap (λ (r : Rule). record r { range = Some (record { start_inclusive = 0; end_inclusive = usize_max }) }) c.new.ensures.rule) in
    let start_is = ap app_of_fields c.disable_version_flag-start.ensures
    ∙ (ap versioned (ap app_of_fields c.disable_help_flag.ensures) ∙ ap (λ (a : App). versioned (flagged a)) c.new-2.ensures.app) in
    IfOk-weaker c.arg.result _ _ (λ r h. h.shape (ap (λ a. a.global) c.num_args-values.ensures.0 ∙ c.new.ensures.optional.1) ∙ ap₂ with_rule start_is rule_is) c.arg.ensures
