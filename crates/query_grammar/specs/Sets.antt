-- What base preferences are made of: sets of literals, pairs of a graph, and the words after a base
-- preference, as in Preference SQL (Kießling and Köstler 2002); the spelling is this project's own.
use Rattle.std.specs.Prelude.{Bool, true, false, List, [], ◌∷◌}
use Rattle.grammar_forms.specs.Form.{option}
use Rattle.prefsql_lexer.specs.declared.token.Keyword.TheVariants as word
use Rattle.prefsql_lexer.specs.declared.token.Symbol.TheVariants as symbol
use Rattle.query_tree.specs.declared.name.LiteralTree.{LiteralTree}
use Rattle.query_tree.specs.declared.preference.SetTree.{SetTree}
use Rattle.query_tree.specs.declared.preference.EdgeTree.{EdgeTree}
use Rattle.query_grammar.specs.Rules.{Grammar}
use Rattle.token_forms.specs.Forms.{◌⨟◌, ◌⨟>◌, ◌<$>◌, ◌∣◌, symbol_only, word_only, separated, comma}
use Rattle.token_forms.specs.Forms.{in_parens}
use Rattle.token_forms.specs.Columns.{literal, literals, if_written}

abbrev pub set_tree : List LiteralTree → SetTree
set_tree literals = record { literals = literals }

-- a literal by itself as a set
abbrev pub single : LiteralTree → SetTree
single l = record { literals = l ∷ [] }

-- set := "(" literal { "," literal } ")"
unfoldable pub set : Grammar SetTree
set = set_tree <$> in_parens literals

-- sets := set { "," set }
unfoldable pub sets : Grammar (List SetTree)
sets = separated comma set

abbrev pub edge_tree : LiteralTree × LiteralTree → EdgeTree
edge_tree p = record { upper = p.0; lower = p.1 }

-- edge := literal ">" literal
unfoldable pub edge : Grammar EdgeTree
edge = edge_tree <$> literal ⨟ symbol_only symbol.Greater ⨟> literal

-- edge { "," edge }
unfoldable pub edges : Grammar (List EdgeTree)
edges = separated comma edge

-- [TRIVIAL | REGULAR], whether it is TRIVIAL
unfoldable pub mark : Grammar Bool
mark = if_written <$> option ((λ _. true) <$> word_only word.Trivial
    ∣ (λ _. false) <$> word_only word.Regular)
