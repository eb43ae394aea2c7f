-- Phrases in which nothing nests, for any names of productions: this project's own profile of
-- SQL-92 (ISO/IEC 9075:1992).
use Rattle.std.specs.Prelude.{Bool, List, Option, Some, None}
use Rattle.grammar_forms.specs.Form.{option}
use Rattle.prefsql_lexer.specs.declared.token.Keyword.TheVariants as word
use Rattle.query_tree.specs.declared.query.FromTree.{FromTree}
use Rattle.query_tree.specs.declared.query.OrderTree.{OrderTree}
use Rattle.token_forms.specs.Forms.{GrammarOf, ◌⨟◌, ◌⨟>◌, ◌<$>◌, Named, name, word_only, separated}
use Rattle.token_forms.specs.Forms.{comma, present, or_none}
use Rattle.token_forms.specs.Columns.{orders}

-- [[AS] name]
unfoldable pub alias : {Rule : Type 0 → Type 1} → GrammarOf Rule (Option Named)
alias = option (option (word_only word.As) ⨟> name)

-- The place of the written name stands beside that of the table's name.
abbrev pub from_tree : Named × Option Named → FromTree
from_tree (n, None) = record { table = n.0; name = None; at = n.1; name_at = n.1 }
from_tree (n, Some m) = record { table = n.0; name = Some m.0; at = n.1; name_at = m.1 }

-- from := name [[AS] name]
unfoldable pub from : {Rule : Type 0 → Type 1} → GrammarOf Rule FromTree
from = from_tree <$> name ⨟ alias

-- from { "," from }
unfoldable pub from_items : {Rule : Type 0 → Type 1} → GrammarOf Rule (List FromTree)
from_items = separated comma from

-- [DISTINCT]
unfoldable pub distinctness : {Rule : Type 0 → Type 1} → GrammarOf Rule Bool
distinctness = present <$> option (word_only word.Distinct)

-- [NOT]
unfoldable pub negation : {Rule : Type 0 → Type 1} → GrammarOf Rule Bool
negation = present <$> option (word_only word.Not)

-- [ORDER BY order { "," order }]
unfoldable pub ordering : {Rule : Type 0 → Type 1} → GrammarOf Rule (List OrderTree)
ordering = or_none <$> option (word_only word.Order ⨟> word_only word.By ⨟> orders)
