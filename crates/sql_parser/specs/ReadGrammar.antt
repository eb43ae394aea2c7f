-- The grammar of SQL scripts as it is read: what two sides of a choice have in common stands once,
-- before the choice, so that one token of look-ahead decides.
use Rattle.std.specs.Prelude.{List, ◌∷◌, Option}
use Rattle.grammar_forms.specs.Form.{option, many, rule}
use Rattle.prefsql_lexer.specs.declared.token.Keyword.TheVariants as word
use Rattle.sql_text.specs.declared.named.NamedCond.{NamedCond, And, Or}
use Rattle.sql_text.specs.declared.named.NamedItem.{NamedItem}
use Rattle.sql_text.specs.declared.named.NamedQuery.{NamedQuery}
use Rattle.sql_text.specs.declared.named.NamedScalar.{NamedScalar}
use Rattle.sql_text.specs.declared.named.NamedStatement.{NamedStatement}
use Rattle.sql_text.specs.declared.named.NamedTerm.{NamedTerm}
use Rattle.sql_text.specs.declared.named.NamedWhen.{NamedWhen}
use Rattle.sql_text.specs.Grammar.{Grammar, Rest, Results, condition_rule, later_term, sum}
use Rattle.sql_text.specs.Grammar.{comparison, between, member, null_test, exists, negated_rest}
use Rattle.sql_text.specs.Grammar.{test_tree, negated_tree, when_tree, item, list, from_items}
use Rattle.sql_text.specs.Grammar.{query_tree, statement_tree}
use Rattle.token_forms.specs.Forms.{◌⨟◌, ◌⨟>◌, ◌<$>◌, ◌∣◌, word_at, word_only, separated, comma}
use Rattle.token_forms.specs.Forms.{in_parens, chain}
use Rattle.token_forms.specs.Phrases.{distinctness, negation, ordering}

-- { ( "+" | "-" ) factor }
unfoldable pub later_terms : Grammar (List NamedTerm)
later_terms = many later_term

-- [NOT] ( BETWEEN .. | IN .. )
unfoldable pub negatable : Grammar Rest
negatable = negated_rest <$> negation ⨟ (between ∣ member)

unfoldable pub rest_form : Grammar Rest
rest_form = null_test ∣ negatable ∣ comparison

-- sum rest
unfoldable pub compared : Grammar NamedCond
compared = test_tree <$> sum ⨟ rest_form

unfoldable pub test_form : Grammar NamedCond
test_form = in_parens (rule condition_rule) ∣ compared ∣ exists

-- [NOT] test
unfoldable pub negated : Grammar NamedCond
negated = negated_tree <$> negation ⨟ test_form

-- neg { AND neg }
unfoldable pub conjuncts : Grammar (List NamedCond)
conjuncts = separated (word_only word.And) negated

unfoldable pub conjunction : Grammar NamedCond
conjunction = chain And <$> conjuncts

-- conj { OR conj }
unfoldable pub disjuncts : Grammar (List NamedCond)
disjuncts = separated (word_only word.Or) conjunction

unfoldable pub condition : Grammar NamedCond
condition = chain Or <$> disjuncts

-- WHEN cond THEN sum
unfoldable pub when_form : Grammar NamedWhen
when_form = when_tree <$> (word_only word.When ⨟> condition) ⨟ word_only word.Then ⨟> sum

unfoldable pub whens_form : Grammar (List NamedWhen)
whens_form = (λ p. p.0 ∷ p.1) <$> when_form ⨟ many when_form

-- [ELSE sum]
unfoldable pub otherwise : Grammar (Option NamedScalar)
otherwise = option (word_only word.Else ⨟> sum)

unfoldable pub results_form : Grammar Results
results_form = whens_form ⨟ otherwise

-- item { "," item }
unfoldable pub items : Grammar (List NamedItem)
items = separated comma item

-- [WHERE cond]
unfoldable pub filter_form : Grammar (Option NamedCond)
filter_form = option (word_only word.Where ⨟> condition)

unfoldable pub query_form : Grammar NamedQuery
query_form =
    query_tree <$> word_at word.Select ⨟ distinctness ⨟ list ⨟ (word_only word.From ⨟> from_items)
    ⨟ filter_form

unfoldable pub statement_form : Grammar NamedStatement
statement_form = statement_tree <$> query_form ⨟ ordering
