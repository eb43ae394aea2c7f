-- The choices of a base preference, cut by their sides.
use Rattle.prefsql_lexer.specs.declared.token.Keyword.TheVariants as word
use Rattle.query_tree.specs.declared.preference.BaseForm.{BaseForm}
use Rattle.query_tree.specs.declared.preference.BaseForm.TheVariants as base_form
use Rattle.query_grammar.specs.Rules.{Grammar}
use Rattle.token_forms.specs.Forms.{◌⨟>◌, ◌<$>◌, ◌∣◌, word_only, in_parens}
use Rattle.token_forms.specs.Columns.{literal}
use Rattle.query_grammar.specs.ReadPreferences.{Second, second_good, second_bad, good_set, bad_set}
use Rattle.query_grammar.specs.ReadPreferences.{between_base, layers_form}

-- "=" literal | IN set | "<>" literal | NOT IN set, behind the column after ELSE
unfoldable pub second_set : Grammar Second
second_set = second_good <$> good_set ∣ second_bad <$> bad_set

-- AROUND literal | BETWEEN literal AND literal | LAYERED "(" .. ")"
unfoldable pub no_set_form : Grammar BaseForm
no_set_form =
    base_form.Around <$> word_only word.Around ⨟> literal ∣ between_base
    ∣ word_only word.Layered ⨟> in_parens layers_form

-- a set of bad values, or no set
unfoldable pub no_good_form : Grammar BaseForm
no_good_form = base_form.Neg <$> bad_set ∣ no_set_form
