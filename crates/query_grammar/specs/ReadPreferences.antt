-- Preferences as they are read: what two sides of a choice have in common stands once, before the
-- choice.
use Rattle.std.specs.Prelude.{ℕ, Bool, true, List, [], ◌∷◌, Option, Some, None}
use Rattle.grammar_forms.specs.Form.{option, rows, rule}
use Rattle.prefsql_lexer.specs.declared.token.Keyword.TheVariants as word
use Rattle.prefsql_lexer.specs.declared.token.Symbol.TheVariants as symbol
use Rattle.query_tree.specs.declared.name.NameTree.{NameTree}
use Rattle.query_tree.specs.declared.name.LiteralTree.{LiteralTree}
use Rattle.query_tree.specs.declared.preference.SetTree.{SetTree}
use Rattle.query_tree.specs.declared.preference.EdgeTree.{EdgeTree}
use Rattle.query_tree.specs.declared.preference.BaseForm.{BaseForm}
use Rattle.query_tree.specs.declared.preference.BaseForm.TheVariants as base_form
use Rattle.query_tree.specs.declared.preference.BaseTree.{BaseTree}
use Rattle.query_tree.specs.declared.preference.PrefTree.{PrefTree}
use Rattle.query_tree.specs.declared.preference.PrefTree.TheVariants as pref_tree
use Rattle.token_forms.specs.Classes.{symbol_class}
use Rattle.query_grammar.specs.Rules.{Grammar, preference_rule}
use Rattle.token_forms.specs.Forms.{◌⨟◌, ◌⨟>◌, ◌<⨟◌, ◌<$>◌, ◌∣◌, symbol_only, word_at, word_only}
use Rattle.token_forms.specs.Forms.{separated, comma, in_parens, or_none, chain}
use Rattle.token_forms.specs.Columns.{column, literal}
use Rattle.query_grammar.specs.Sets.{single, set, sets, edges, mark}

-- "=" literal | IN set
unfoldable pub good_set : Grammar SetTree
good_set = single <$> symbol_only symbol.Equal ⨟> literal ∣ word_only word.In ⨟> set

-- "<>" literal | NOT IN set
unfoldable pub bad_set : Grammar SetTree
bad_set = single <$> symbol_only symbol.NotEqual ⨟> literal
    ∣ word_only word.Not ⨟> word_only word.In ⨟> set

-- what the values after ELSE are, and the set before it
abbrev pub Second : Type 0
Second = NameTree → SetTree → BaseForm

abbrev pub second_good : SetTree → Second
second_good s column first = base_form.PosPos first column s

abbrev pub second_bad : SetTree → Second
second_bad s column first = base_form.PosNeg first column s

abbrev pub second_form : NameTree × Second → SetTree → BaseForm
second_form p = p.1 p.0

-- ELSE column ( "=" literal | IN set | "<>" literal | NOT IN set )
unfoldable pub otherwise : Grammar (SetTree → BaseForm)
otherwise = second_form <$> word_only word.Else ⨟> column ⨟ (second_good <$> good_set
    ∣ second_bad <$> bad_set)

abbrev pub good_form : SetTree × Option (SetTree → BaseForm) → BaseForm
good_form (s, None) = base_form.Pos s
good_form (s, Some second) = second s

unfoldable pub good_base : Grammar BaseForm
good_base = good_form <$> good_set ⨟ option otherwise

abbrev pub between_form : LiteralTree × LiteralTree → BaseForm
between_form p = base_form.Between p.0 p.1

-- BETWEEN literal AND literal
unfoldable pub between_base : Grammar BaseForm
between_base = between_form <$> word_only word.Between ⨟> literal ⨟ word_only word.And ⨟> literal

-- OTHERS ["," sets]
unfoldable pub others : Grammar (List SetTree)
others = or_none <$> word_only word.Others ⨟> option (comma ⨟> sets)

-- { "," set } ["," OTHERS ["," sets]]
unfoldable pub more_layers : Grammar (List SetTree × Option (List SetTree))
more_layers = rows (symbol_class symbol.Comma) set others

abbrev pub with_first : SetTree × (List SetTree × Option (List SetTree)) → List SetTree
    × Option (List SetTree)
with_first p = (p.0 ∷ p.1.0, p.1.1)

-- sets ["," OTHERS ["," sets]]
unfoldable pub sets_and_others : Grammar (List SetTree × Option (List SetTree))
sets_and_others = with_first <$> set ⨟ more_layers

abbrev pub layers_from_sets : List SetTree × Option (List SetTree) → BaseForm
layers_from_sets p = base_form.Layered p.0 (or_none p.1)

abbrev pub layers_from_others : List SetTree → BaseForm
layers_from_others sets = base_form.Layered [] sets

-- OTHERS "," sets | sets ["," OTHERS ["," sets]]
unfoldable pub layers_form : Grammar BaseForm
layers_form = layers_from_others <$> word_only word.Others ⨟> comma ⨟> sets
    ∣ layers_from_sets <$> sets_and_others

-- what stands after the column of a base preference that is no graph
unfoldable pub other_form : Grammar BaseForm
other_form = good_base ∣ base_form.Neg <$> bad_set ∣ base_form.Around <$> word_only word.Around
    ⨟> literal ∣ between_base ∣ word_only word.Layered ⨟> in_parens layers_form

abbrev pub other_tree : BaseForm × Bool → NameTree → BaseTree
other_tree p column = record { column = column; form = p.0; trivial = p.1; at = column.at }

abbrev pub graph_tree : List EdgeTree → NameTree → BaseTree
graph_tree edges column = record {
  column = column;
  form = base_form.Explicit edges;
  trivial = true;
  at = column.at;
}

-- EXPLICIT "(" edge { "," edge } ")" [TRIVIAL]
unfoldable pub graph_form : Grammar (List EdgeTree)
graph_form = word_only word.Explicit ⨟> in_parens edges <⨟ option (word_only word.Trivial)

abbrev pub on_column : NameTree × (NameTree → BaseTree) → BaseTree
on_column p = p.1 p.0

unfoldable pub column_base : Grammar BaseTree
column_base = on_column <$> column ⨟ (graph_tree <$> graph_form ∣ other_tree <$> other_form ⨟ mark)

abbrev pub extremum_tree : BaseForm → (ℕ × NameTree) × Bool → BaseTree
extremum_tree form p = record { column = p.0.1; form = form; trivial = p.1; at = p.0.0 }

unfoldable pub lowest : Grammar BaseTree
lowest = extremum_tree base_form.Lowest <$> (word_at word.Lowest ⨟ in_parens column) ⨟ mark

unfoldable pub highest : Grammar BaseTree
highest = extremum_tree base_form.Highest <$> (word_at word.Highest ⨟ in_parens column) ⨟ mark

unfoldable pub any_base : Grammar BaseTree
any_base = lowest ∣ highest ∣ column_base

-- "(" pref ")" | DUAL "(" pref ")" | base
unfoldable pub primary : Grammar PrefTree
primary =
    in_parens (rule preference_rule)
    ∣ pref_tree.Dual <$> word_only word.Dual ⨟> in_parens (rule preference_rule)
    ∣ pref_tree.Base <$> any_base

unfoldable pub primaries : Grammar (List PrefTree)
primaries = separated (word_only word.And) primary

-- prim { AND prim }
unfoldable pub pareto : Grammar PrefTree
pareto = chain pref_tree.Pareto <$> primaries

unfoldable pub cascade : Grammar (List PrefTree)
cascade = separated (word_only word.Cascade) pareto

-- par { CASCADE par }
unfoldable pub preference : Grammar PrefTree
preference = chain pref_tree.Prior <$> cascade
