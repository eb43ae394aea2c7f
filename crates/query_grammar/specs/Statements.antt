-- Statements, production by production: this project's own profile of the queries of SQL-92
-- (ISO/IEC 9075:1992) with the preferring clause of Preference SQL (Kießling and Köstler 2002).
use Rattle.std.specs.Prelude.{true, false}
use Rattle.grammar_forms.specs.Form.{option}
use Rattle.prefsql_lexer.specs.declared.token.Keyword.TheVariants as word
use Rattle.query_tree.specs.declared.query.QueryTree.{QueryTree}
use Rattle.query_grammar.specs.Rules.{Grammar, Rule, condition_rule, preference_rule}
use Rattle.token_forms.specs.Forms.{◌⨟◌, ◌⨟>◌, ◌<$>◌, word_only}
use Rattle.query_grammar.specs.Items.{list, groups}
use Rattle.token_forms.specs.Phrases.{distinctness, ordering, from_items}
use Rattle.query_grammar.specs.Trees.{Preferred, query_tree}
use Rattle.query_grammar.specs.Conditions.{cond}
use Rattle.query_grammar.specs.Preferences.{pref}

-- prefer := PREFERRING pref [GROUPING column { "," column }] [BUT ONLY qcond]
unfoldable pub prefer : Grammar Preferred
prefer = word_only word.Preferring ⨟> pref ⨟ groups
    ⨟ option (word_only word.But ⨟> word_only word.Only ⨟> cond true)

-- statement := SELECT [DISTINCT] list FROM from { "," from } [WHERE cond] [prefer]
--            [ORDER BY order { "," order }]
unfoldable pub statement : Grammar QueryTree
statement =
    query_tree <$> word_only word.Select ⨟> distinctness ⨟ list
    ⨟ (word_only word.From ⨟> from_items)
    ⨟ option (word_only word.Where ⨟> cond false) ⨟ option prefer ⨟ ordering

-- the right side of each production that nests
abbrev pub production : (A : Type 0) → Rule A → Grammar A
production A (condition_rule q) = cond q
production A preference_rule = pref
