-- One token of look-ahead decides at each production.
use Rattle.std.proofs.Common.{◌≡◌, ℕ, Bool, true, false, List, [], ◌∷◌, refl}
use Rattle.grammar_forms.specs.Reading.{starts, continues, is_optional, is_predictive}
use Rattle.grammar_forms.proofs.Predictive.{AgreesAt}
use Rattle.prefsql_lexer.specs.declared.token.Token.{Token}
use Rattle.prefsql_lexer.specs.declared.token.Keyword.TheVariants.{Select}
use Rattle.token_forms.specs.Classes.{class, word_class}
use Rattle.query_grammar.specs.Rules.{Grammar, Rule, condition_rule, preference_rule}
use Rattle.token_forms.specs.Columns.{column, optional_sign, number_form, literal, literals, op}
use Rattle.query_grammar.specs.Sets.{set}
use Rattle.query_grammar.specs.Scalars.{level, distance, plain_scalar, scalar, between, scalars, member, null_test, comparison}
use Rattle.token_forms.specs.Phrases.{negation, from_items}
use Rattle.query_grammar.specs.ReadConditions.{negatable, rest_form, plain_test, test_form, negated, conjuncts, conjunction, disjuncts, condition}
use Rattle.query_grammar.specs.Sets.{mark, edge, sets, edges}
use Rattle.query_grammar.specs.ReadPreferences.{good_set, bad_set, otherwise, good_base, between_base, others, more_layers, sets_and_others, layers_form, other_form, graph_form, column_base, lowest, highest, any_base, primary, primaries, pareto, cascade, preference}
use Rattle.token_forms.specs.Phrases.{alias, from, ordering, distinctness}
use Rattle.query_grammar.specs.Items.{value, item, items, list, groups}
use Rattle.token_forms.specs.Columns.{direction, order, orders, columns}
use Rattle.query_grammar.specs.ReadStatements.{filter, only, prefer_form, statement_form}
use Rattle.script_forms.specs.Counted.{counted}
use Rattle.query_grammar.specs.Outcome.{rule_starts, rule_continues, right_side}

abbrev pub first : {A : Type 0} → Grammar A → List ℕ
first f = starts Token Rule class rule_starts rule_continues f

abbrev pub next : {A : Type 0} → Grammar A → List ℕ
next f = continues Token Rule class rule_starts rule_continues f

abbrev pub predictive : {A : Type 0} → Grammar A → Bool
predictive f = is_predictive Token Rule class rule_starts rule_continues f

pub agrees : (A : Type 0) (p : Rule A) → AgreesAt Token Rule class rule_starts rule_continues right_side A p
unfolding column optional_sign number_form literal literals set level distance plain_scalar scalar op negation between scalars member null_test negatable comparison rest_form plain_test test_form negated conjuncts conjunction disjuncts condition mark edge good_set bad_set otherwise good_base between_base sets others more_layers sets_and_others layers_form other_form edges graph_form column_base lowest highest any_base primary primaries pareto cascade preference
agrees A (condition_rule false) = record { decides = refl; not_empty = refl; starts_with = refl; goes_on_with = refl }
agrees A (condition_rule true) = record { decides = refl; not_empty = refl; starts_with = refl; goes_on_with = refl }
agrees A preference_rule = record { decides = refl; not_empty = refl; starts_with = refl; goes_on_with = refl }

pub predictive-scalar_form : (q : Bool) → predictive (scalar q) ≡ true
unfolding column optional_sign number_form literal literals set level distance plain_scalar scalar op negation between scalars member null_test negatable comparison rest_form plain_test test_form negated conjuncts conjunction disjuncts condition
predictive-scalar_form false = refl
predictive-scalar_form true = refl

pub predictive-negated : (q : Bool) → predictive (negated q) ≡ true
unfolding column optional_sign number_form literal literals set level distance plain_scalar scalar op negation between scalars member null_test negatable comparison rest_form plain_test test_form negated conjuncts conjunction disjuncts condition
predictive-negated false = refl
predictive-negated true = refl

pub predictive-conjunction : (q : Bool) → predictive (conjunction q) ≡ true
unfolding column optional_sign number_form literal literals set level distance plain_scalar scalar op negation between scalars member null_test negatable comparison rest_form plain_test test_form negated conjuncts conjunction disjuncts condition
predictive-conjunction false = refl
predictive-conjunction true = refl

pub predictive-edge : predictive edge ≡ true
unfolding column optional_sign number_form literal literals set level distance plain_scalar scalar op negation between scalars member null_test negatable comparison rest_form plain_test test_form negated conjuncts conjunction disjuncts condition mark edge good_set bad_set otherwise good_base between_base sets others more_layers sets_and_others layers_form other_form edges graph_form column_base lowest highest any_base primary primaries pareto cascade preference alias value item items list from from_items direction order orders columns filter groups only ordering prefer_form distinctness statement_form
predictive-edge = refl

pub predictive-primary : predictive primary ≡ true
unfolding column optional_sign number_form literal literals set level distance plain_scalar scalar op negation between scalars member null_test negatable comparison rest_form plain_test test_form negated conjuncts conjunction disjuncts condition mark edge good_set bad_set otherwise good_base between_base sets others more_layers sets_and_others layers_form other_form edges graph_form column_base lowest highest any_base primary primaries pareto cascade preference alias value item items list from from_items direction order orders columns filter groups only ordering prefer_form distinctness statement_form
predictive-primary = refl

pub predictive-pareto : predictive pareto ≡ true
unfolding column optional_sign number_form literal literals set level distance plain_scalar scalar op negation between scalars member null_test negatable comparison rest_form plain_test test_form negated conjuncts conjunction disjuncts condition mark edge good_set bad_set otherwise good_base between_base sets others more_layers sets_and_others layers_form other_form edges graph_form column_base lowest highest any_base primary primaries pareto cascade preference alias value item items list from from_items direction order orders columns filter groups only ordering prefer_form distinctness statement_form
predictive-pareto = refl

pub predictive-item : predictive item ≡ true
unfolding column optional_sign number_form literal literals set level distance plain_scalar scalar op negation between scalars member null_test negatable comparison rest_form plain_test test_form negated conjuncts conjunction disjuncts condition mark edge good_set bad_set otherwise good_base between_base sets others more_layers sets_and_others layers_form other_form edges graph_form column_base lowest highest any_base primary primaries pareto cascade preference alias value item items list from from_items direction order orders columns filter groups only ordering prefer_form distinctness statement_form
predictive-item = refl

pub predictive-counted : predictive (counted statement_form 64) ≡ true
unfolding column optional_sign number_form literal literals set level distance plain_scalar scalar op negation between scalars member null_test negatable comparison rest_form plain_test test_form negated conjuncts conjunction disjuncts condition mark edge good_set bad_set otherwise good_base between_base sets others more_layers sets_and_others layers_form other_form edges graph_form column_base lowest highest any_base primary primaries pareto cascade preference alias value item items list from from_items direction order orders columns filter groups only ordering prefer_form distinctness statement_form counted
predictive-counted = refl

pub predictive-set : predictive set ≡ true
unfolding optional_sign number_form literal literals set
predictive-set = refl

pub statement-begins : first statement_form ≡ word_class Select ∷ []
unfolding statement_form
statement-begins = refl

pub statement-not-empty : is_optional Token Rule class rule_starts rule_continues statement_form ≡ false
unfolding statement_form
statement-not-empty = refl
