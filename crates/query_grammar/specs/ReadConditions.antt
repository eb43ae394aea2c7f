-- Conditions as they are read: what two sides of a choice have in common stands once, before the
-- choice.
use Rattle.std.specs.Prelude.{Bool, true, false, List}
use Rattle.grammar_forms.specs.Form.{rule}
use Rattle.prefsql_lexer.specs.declared.token.Keyword.TheVariants as word
use Rattle.query_tree.specs.declared.condition.CondTree.{CondTree}
use Rattle.query_tree.specs.declared.condition.CondTree.TheVariants as cond_tree
use Rattle.query_grammar.specs.Rules.{Grammar, condition_rule}
use Rattle.token_forms.specs.Forms.{◌⨟◌, ◌⨟>◌, ◌<$>◌, ◌∣◌, word_only, separated, in_parens, chain}
use Rattle.token_forms.specs.Columns.{column}
use Rattle.query_grammar.specs.Scalars.{Rest, scalar, comparison, between, member, null_test}
use Rattle.query_grammar.specs.Scalars.{negated_rest, test_tree, negated_tree}
use Rattle.token_forms.specs.Phrases.{negation}

-- [NOT] ( BETWEEN .. | IN .. )
unfoldable pub negatable : Bool → Grammar Rest
negatable q = negated_rest <$> negation ⨟ (between q ∣ member q)

unfoldable pub rest_form : Bool → Grammar Rest
rest_form q = null_test ∣ negatable q ∣ comparison q

unfoldable pub plain_test : Bool → Grammar CondTree
plain_test q = in_parens (rule (condition_rule q)) ∣ test_tree <$> scalar q ⨟ rest_form q

unfoldable pub test_form : Bool → Grammar CondTree
test_form false = plain_test false
test_form true = cond_tree.Top <$> word_only word.Top ⨟> in_parens column ∣ plain_test true

-- [NOT] test
unfoldable pub negated : Bool → Grammar CondTree
negated q = negated_tree <$> negation ⨟ test_form q

unfoldable pub conjuncts : Bool → Grammar (List CondTree)
conjuncts q = separated (word_only word.And) (negated q)

-- neg { AND neg }
unfoldable pub conjunction : Bool → Grammar CondTree
conjunction q = chain cond_tree.And <$> conjuncts q

unfoldable pub disjuncts : Bool → Grammar (List CondTree)
disjuncts q = separated (word_only word.Or) (conjunction q)

-- conj { OR conj }
unfoldable pub condition : Bool → Grammar CondTree
condition q = chain cond_tree.Or <$> disjuncts q
