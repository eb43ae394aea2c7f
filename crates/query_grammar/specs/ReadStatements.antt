-- Statements and scripts as they are read.
use Rattle.std.specs.Prelude.{true, false, Option}
use Rattle.grammar_forms.specs.Form.{option}
use Rattle.prefsql_lexer.specs.declared.token.Keyword.TheVariants as word
use Rattle.query_tree.specs.declared.condition.CondTree.{CondTree}
use Rattle.query_tree.specs.declared.query.QueryTree.{QueryTree}
use Rattle.query_grammar.specs.Rules.{Grammar}
use Rattle.token_forms.specs.Forms.{◌⨟◌, ◌⨟>◌, ◌<$>◌, word_only}
use Rattle.query_grammar.specs.Items.{list, groups}
use Rattle.token_forms.specs.Phrases.{distinctness, ordering, from_items}
use Rattle.query_grammar.specs.Trees.{Preferred, query_tree}
use Rattle.query_grammar.specs.ReadConditions.{condition}
use Rattle.query_grammar.specs.ReadPreferences.{preference}

-- [WHERE cond]
unfoldable pub filter : Grammar (Option CondTree)
filter = option (word_only word.Where ⨟> condition false)

-- [BUT ONLY qcond]
unfoldable pub only : Grammar (Option CondTree)
only = option (word_only word.But ⨟> word_only word.Only ⨟> condition true)

unfoldable pub prefer_form : Grammar Preferred
prefer_form = word_only word.Preferring ⨟> preference ⨟ groups ⨟ only

unfoldable pub statement_form : Grammar QueryTree
statement_form = query_tree <$> word_only word.Select ⨟> distinctness ⨟ list
    ⨟ (word_only word.From ⨟> from_items) ⨟ filter ⨟ option prefer_form ⨟ ordering
