use Rattle.std.proofs.Common.{◌≡◌, ◌∙◌, rules, ap, ap₂, codes, true}
use Rattle.std.proofs.lemmas.Result.{IfOk-weaker}
use Rattle.clap.specs.Walk.{rule_of}
use Rattle.clap.specs.Simple.{App, Shape, app_of, app_of_fields, with_rule, on_top, new_app}
use Rattle.prefsql_session.specs.WordsApp.{command_rule, words_rule, stats_rule}
use Rattle.prefsql_session.proofs.reader.words_command.Goals as goal

abbrev no_name : App → App
no_name = on_top (λ (shape : Shape). record shape { no_binary_name = true })

abbrev no_help : App → App
no_help = on_top (λ (shape : Shape). record shape { disable_help_flag = true })

pub returns : goal.returns
returns c =
    let first_is : rule_of c.action-command.result ≡ command_rule = search rules in
    let words_is : rule_of c.action-words.result ≡ words_rule = search rules in
    let stats_is : rule_of c.action-stats.result ≡ stats_rule = search rules in
    let named : app_of c.no_binary_name.result ≡ no_name (new_app (codes "prefsql")) = ap app_of_fields c.no_binary_name.ensures ∙ ap no_name c.new-4.ensures.app in
    let bare : app_of c.disable_help_flag.result ≡ no_help (no_name (new_app (codes "prefsql"))) = ap app_of_fields c.disable_help_flag.ensures ∙ ap no_help named in
    IfOk-weaker c.arg-3.result _ _
    (λ command added. added.shape (search rules)
    ∙ ap₂ with_rule (c.in_ok-arg-2.ensures.shape (search rules)
    ∙ ap₂ with_rule (c.in_ok-arg.ensures.shape (search rules) ∙ ap₂ with_rule bare first_is) words_is) stats_is)
    c.arg-3.ensures
