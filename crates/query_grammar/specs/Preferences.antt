-- Preferences, production by production. What they mean follows Kießling (2002) and Kießling and
-- Köstler (2002); the spelling is this project's own.
use Rattle.std.specs.Prelude.{ℕ, Bool, true, List, [], Option, Some, None}
use Rattle.grammar_forms.specs.Form.{option, rule}
use Rattle.prefsql_lexer.specs.declared.token.Keyword.TheVariants as word
use Rattle.prefsql_lexer.specs.declared.token.Symbol.TheVariants as symbol
use Rattle.query_tree.specs.declared.name.NameTree.{NameTree}
use Rattle.query_tree.specs.declared.name.LiteralTree.{LiteralTree}
use Rattle.query_tree.specs.declared.preference.SetTree.{SetTree}
use Rattle.query_tree.specs.declared.preference.EdgeTree.{EdgeTree}
use Rattle.query_tree.specs.declared.preference.BaseForm.{BaseForm}
use Rattle.query_tree.specs.declared.preference.BaseForm.TheVariants as base_form
use Rattle.query_tree.specs.declared.preference.BaseTree.{BaseTree}
use Rattle.query_tree.specs.declared.preference.PrefTree.{PrefTree}
use Rattle.query_tree.specs.declared.preference.PrefTree.TheVariants as pref_tree
use Rattle.query_grammar.specs.Rules.{Grammar, preference_rule}
use Rattle.token_forms.specs.Forms.{◌⨟◌, ◌⨟>◌, ◌<⨟◌, ◌<$>◌, ◌∣◌, symbol_only, word_at, word_only}
use Rattle.token_forms.specs.Forms.{separated, comma, in_parens, or_none, chain}
use Rattle.token_forms.specs.Columns.{column, literal}
use Rattle.query_grammar.specs.Sets.{single, set, sets, edges, mark}

-- good := column "=" literal | column IN set
unfoldable pub good : Grammar (NameTree × SetTree)
good = column ⨟ (single <$> symbol_only symbol.Equal ⨟> literal) ∣ column ⨟ word_only word.In ⨟> set

-- bad := column "<>" literal | column NOT IN set
unfoldable pub bad : Grammar (NameTree × SetTree)
bad = column ⨟ (single <$> symbol_only symbol.NotEqual ⨟> literal)
    ∣ column ⨟ word_only word.Not ⨟> word_only word.In ⨟> set

-- Where OTHERS is written, the sets after it are those of the second list.
abbrev pub layers_tree : List SetTree × Option (List SetTree) → BaseForm
layers_tree p = base_form.Layered p.0 (or_none p.1)

-- layers := sets ["," OTHERS ["," sets]] | OTHERS "," sets
unfoldable pub layers : Grammar BaseForm
layers =
    layers_tree <$> sets
    ⨟ option (comma ⨟> (or_none <$> word_only word.Others ⨟> option (comma ⨟> sets)))
    ∣ (λ after. base_form.Layered [] after) <$> word_only word.Others ⨟> comma ⨟> sets

-- a base preference, but for whether it is trivial
abbrev pub Unmarked : Type 0
Unmarked = Bool → BaseTree

-- Its place is that of its column, which is written first.
abbrev pub on_column : NameTree → BaseForm → Unmarked
on_column column form trivial = record {
  column = column;
  form = form;
  trivial = trivial;
  at = column.at;
}

-- Its place is that of the word.
abbrev pub extremum : BaseForm → ℕ × NameTree → Unmarked
extremum form p trivial = record { column = p.1; form = form; trivial = trivial; at = p.0 }

-- what the set after ELSE makes of the set before it
abbrev pub else_good : NameTree × SetTree → SetTree → BaseForm
else_good second first = base_form.PosPos first second.0 second.1

abbrev pub else_bad : NameTree × SetTree → SetTree → BaseForm
else_bad second first = base_form.PosNeg first second.0 second.1

abbrev pub good_tree : (NameTree × SetTree) × Option (SetTree → BaseForm) → Unmarked
good_tree (first, None) = on_column first.0 (base_form.Pos first.1)
good_tree (first, Some second) = on_column first.0 (second first.1)

abbrev pub bad_tree : NameTree × SetTree → Unmarked
bad_tree p = on_column p.0 (base_form.Neg p.1)

abbrev pub around_tree : NameTree × LiteralTree → Unmarked
around_tree p = on_column p.0 (base_form.Around p.1)

abbrev pub between_tree : NameTree × (LiteralTree × LiteralTree) → Unmarked
between_tree p = on_column p.0 (base_form.Between p.1.0 p.1.1)

abbrev pub layered_tree : NameTree × BaseForm → Unmarked
layered_tree p = on_column p.0 p.1

-- other := good [ELSE good | ELSE bad] | bad | column AROUND literal
--        | column BETWEEN literal AND literal
--        | column LAYERED "(" layers ")" | LOWEST "(" column ")" | HIGHEST "(" column ")"
unfoldable pub other : Grammar Unmarked
other =
    good_tree <$> good ⨟ option (else_good <$> word_only word.Else ⨟> good
    ∣ else_bad <$> word_only word.Else ⨟> bad)
    ∣ bad_tree <$> bad
    ∣ around_tree <$> column ⨟ word_only word.Around ⨟> literal
    ∣ between_tree <$> column ⨟ word_only word.Between ⨟> literal ⨟ word_only word.And ⨟> literal
    ∣ layered_tree <$> column ⨟ word_only word.Layered ⨟> in_parens layers
    ∣ extremum base_form.Lowest <$> word_at word.Lowest ⨟ in_parens column
    ∣ extremum base_form.Highest <$> word_at word.Highest ⨟ in_parens column

-- An explicit preference is trivial.
abbrev pub explicit_tree : NameTree × List EdgeTree → BaseTree
explicit_tree p = on_column p.0 (base_form.Explicit p.1) true

-- graph := column EXPLICIT "(" edge { "," edge } ")"
unfoldable pub graph : Grammar BaseTree
graph = explicit_tree <$> column ⨟ word_only word.Explicit ⨟> in_parens edges

abbrev pub marked : Unmarked × Bool → BaseTree
marked p = p.0 p.1

-- base := graph [TRIVIAL] | other [TRIVIAL | REGULAR]
unfoldable pub base : Grammar BaseTree
base = graph <⨟ option (word_only word.Trivial) ∣ marked <$> other ⨟ mark

-- prim := "(" pref ")" | DUAL "(" pref ")" | base
unfoldable pub prim : Grammar PrefTree
prim =
    in_parens (rule preference_rule)
    ∣ pref_tree.Dual <$> word_only word.Dual ⨟> in_parens (rule preference_rule)
    ∣ pref_tree.Base <$> base

-- par := prim { AND prim }
unfoldable pub par : Grammar PrefTree
par = chain pref_tree.Pareto <$> separated (word_only word.And) prim

-- pref := par { CASCADE par }
unfoldable pub pref : Grammar PrefTree
pref = chain pref_tree.Prior <$> separated (word_only word.Cascade) par
