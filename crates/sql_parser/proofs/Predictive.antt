-- One token of look-ahead decides at each production.
use Rattle.std.proofs.Common.{◌≡◌, ℕ, Bool, true, false, List, [], ◌∷◌, refl}
use Rattle.grammar_forms.specs.Reading.{starts, is_optional, is_predictive}
use Rattle.grammar_forms.proofs.Predictive.{AgreesAt}
use Rattle.prefsql_lexer.specs.declared.token.Token.{Token}
use Rattle.prefsql_lexer.specs.declared.token.Keyword.TheVariants.{Select}
use Rattle.token_forms.specs.Classes.{class, word_class}
use Rattle.token_forms.specs.Columns.{column, optional_sign, number_form, literal, op, direction, order, orders}
use Rattle.token_forms.specs.Phrases.{alias, distinctness, negation, ordering, from as table}
use Rattle.script_forms.specs.Counted.{counted}
use Rattle.sql_text.specs.Grammar.{Grammar, Rule, condition_rule, results_rule, query_rule, case, factor, sum_sign, later_term, sum, comparison, between, sums, member, null_test, exists, item, list, derived, from, from_items}
use Rattle.sql_parser.specs.ReadGrammar.{negatable, rest_form, compared, test_form, negated, conjuncts, conjunction, disjuncts, condition, when_form, whens_form, otherwise, results_form, filter_form, query_form, statement_form}
use Rattle.sql_parser.specs.Outcome.{rule_starts, rule_continues, right_side}

abbrev pub first : {A : Type 0} → Grammar A → List ℕ
first f = starts Token Rule class rule_starts rule_continues f

abbrev pub optional : {A : Type 0} → Grammar A → Bool
optional f = is_optional Token Rule class rule_starts rule_continues f

abbrev pub predictive : {A : Type 0} → Grammar A → Bool
predictive f = is_predictive Token Rule class rule_starts rule_continues f

pub agrees : (A : Type 0) (p : Rule A) → AgreesAt Token Rule class rule_starts rule_continues right_side A p
unfolding column optional_sign number_form literal case factor sum_sign later_term sum negation op comparison between sums member null_test exists negatable rest_form compared test_form negated conjuncts conjunction disjuncts condition alias distinctness direction order orders ordering item list derived table from from_items when_form whens_form otherwise results_form filter_form query_form
agrees A condition_rule = record { decides = refl; not_empty = refl; starts_with = refl; goes_on_with = refl }
agrees A results_rule = record { decides = refl; not_empty = refl; starts_with = refl; goes_on_with = refl }
agrees A query_rule = record { decides = refl; not_empty = refl; starts_with = refl; goes_on_with = refl }

pub predictive-counted : predictive (counted statement_form 64) ≡ true
unfolding column optional_sign number_form literal case factor sum_sign later_term sum negation op comparison between sums member null_test exists negatable rest_form compared test_form negated conjuncts conjunction disjuncts condition alias distinctness direction order orders ordering item list derived table from from_items when_form whens_form otherwise results_form filter_form query_form statement_form counted
predictive-counted = refl

pub statement-begins : first statement_form ≡ word_class Select ∷ []
unfolding query_form statement_form
statement-begins = refl

pub statement-not-empty : optional statement_form ≡ false
unfolding query_form statement_form
statement-not-empty = refl

-- ---- what is read turn by turn

pub predictive-later_term : predictive later_term ≡ true
unfolding column optional_sign number_form literal case factor sum_sign later_term sum
predictive-later_term = refl

pub later_term-not-empty : optional later_term ≡ false
unfolding column optional_sign number_form literal case factor sum_sign later_term sum
later_term-not-empty = refl

pub predictive-sum : predictive sum ≡ true
unfolding column optional_sign number_form literal case factor sum_sign later_term sum
predictive-sum = refl

pub predictive-negated : predictive negated ≡ true
unfolding column optional_sign number_form literal case factor sum_sign later_term sum negation op comparison between sums member null_test exists negatable rest_form compared test_form negated conjuncts conjunction disjuncts condition
predictive-negated = refl

pub predictive-conjunction : predictive conjunction ≡ true
unfolding column optional_sign number_form literal case factor sum_sign later_term sum negation op comparison between sums member null_test exists negatable rest_form compared test_form negated conjuncts conjunction disjuncts condition
predictive-conjunction = refl

pub predictive-when : predictive when_form ≡ true
unfolding column optional_sign number_form literal case factor sum_sign later_term sum negation op comparison between sums member null_test exists negatable rest_form compared test_form negated conjuncts conjunction disjuncts condition when_form
predictive-when = refl

pub when-not-empty : optional when_form ≡ false
unfolding when_form
when-not-empty = refl

pub predictive-item : predictive item ≡ true
unfolding column optional_sign number_form literal case factor sum_sign later_term sum alias item
predictive-item = refl

pub predictive-from : predictive from ≡ true
unfolding alias table derived from
predictive-from = refl
