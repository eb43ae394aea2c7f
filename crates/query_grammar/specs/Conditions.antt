-- Conditions, production by production: this project's own profile of SQL-92 (ISO/IEC 9075:1992).
-- The flag is true for a condition that may speak of the qualities of Preference SQL (Kießling and
-- Köstler 2002), as BUT ONLY has it.
use Rattle.std.specs.Prelude.{Bool, true, false}
use Rattle.grammar_forms.specs.Form.{rule}
use Rattle.prefsql_lexer.specs.declared.token.Keyword.TheVariants as word
use Rattle.query_tree.specs.declared.condition.CondTree.{CondTree}
use Rattle.query_tree.specs.declared.condition.CondTree.TheVariants as cond_tree
use Rattle.query_grammar.specs.Rules.{Grammar, condition_rule}
use Rattle.token_forms.specs.Forms.{◌⨟◌, ◌⨟>◌, ◌<$>◌, ◌∣◌, word_only, separated, in_parens, chain}
use Rattle.token_forms.specs.Columns.{column}
use Rattle.query_grammar.specs.Scalars.{Rest, scalar, comparison, between, member, null_test}
use Rattle.query_grammar.specs.Scalars.{negated_rest, test_tree, negated_tree}
use Rattle.token_forms.specs.Phrases.{negation}

-- rest := op scalar | [NOT] BETWEEN scalar AND scalar | [NOT] IN "(" scalar { "," scalar } ")"
--       | IS [NOT] NULL
unfoldable pub rest : Bool → Grammar Rest
rest q = comparison q ∣ negated_rest <$> negation ⨟ between q ∣ negated_rest <$> negation ⨟ member q
    ∣ null_test

-- test := "(" cond ")" | scalar rest, and with qualities also TOP "(" column ")"
unfoldable pub test : Bool → Grammar CondTree
test false = in_parens (rule (condition_rule false)) ∣ test_tree <$> scalar false ⨟ rest false
test true = in_parens (rule (condition_rule true)) ∣ test_tree <$> scalar true ⨟ rest true
    ∣ cond_tree.Top <$> word_only word.Top ⨟> in_parens column

-- neg := [NOT] test
unfoldable pub neg : Bool → Grammar CondTree
neg q = negated_tree <$> negation ⨟ test q

-- conj := neg { AND neg }
unfoldable pub conj : Bool → Grammar CondTree
conj q = chain cond_tree.And <$> separated (word_only word.And) (neg q)

-- cond := conj { OR conj }, and qcond with the flag
unfoldable pub cond : Bool → Grammar CondTree
cond q = chain cond_tree.Or <$> separated (word_only word.Or) (conj q)
