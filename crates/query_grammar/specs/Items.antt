-- The parts of a statement in which nothing nests: this project's own profile of SQL-92 (ISO/IEC
-- 9075:1992).
use Rattle.std.specs.Prelude.{List, Option}
use Rattle.grammar_forms.specs.Form.{option}
use Rattle.prefsql_lexer.specs.declared.token.Keyword.TheVariants as word
use Rattle.prefsql_lexer.specs.declared.token.Symbol.TheVariants as symbol
use Rattle.query_tree.specs.declared.condition.ScalarTree.{ScalarTree}
use Rattle.query_tree.specs.declared.condition.ScalarTree.TheVariants as scalar_tree
use Rattle.query_tree.specs.declared.name.NameTree.{NameTree}
use Rattle.query_tree.specs.declared.query.ItemTree.{ItemTree}
use Rattle.query_tree.specs.declared.query.SelectTree.{SelectTree}
use Rattle.query_tree.specs.declared.query.SelectTree.TheVariants as select_tree
use Rattle.query_grammar.specs.Rules.{Grammar}
use Rattle.token_forms.specs.Forms.{◌⨟◌, ◌⨟>◌, ◌<$>◌, ◌∣◌, Named, symbol_only, word_only, separated}
use Rattle.token_forms.specs.Forms.{comma, or_none, text_of}
use Rattle.token_forms.specs.Columns.{column, columns}
use Rattle.token_forms.specs.Phrases.{alias}
use Rattle.query_grammar.specs.Scalars.{level, distance}

-- value := column | LEVEL "(" column ")" | DISTANCE "(" column ")"
unfoldable pub value : Grammar ScalarTree
value = level ∣ distance ∣ scalar_tree.Column <$> column

abbrev pub item_tree : ScalarTree × Option Named → ItemTree
item_tree p = record { value = p.0; name = text_of p.1 }

-- item := value [[AS] name]
unfoldable pub item : Grammar ItemTree
item = item_tree <$> value ⨟ alias

-- item { "," item }
unfoldable pub items : Grammar (List ItemTree)
items = separated comma item

-- list := "*" | item { "," item }
unfoldable pub list : Grammar SelectTree
list = (λ _. select_tree.All) <$> symbol_only symbol.Star ∣ select_tree.Items <$> items

-- [GROUPING column { "," column }]
unfoldable pub groups : Grammar (List NameTree)
groups = or_none <$> option (word_only word.Grouping ⨟> columns)
