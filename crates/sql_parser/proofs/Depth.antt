-- The grammar of SQL scripts keeps its parentheses, and CASE its END.
use Rattle.std.proofs.Common.{refl}
use Rattle.token_forms.specs.Columns.{column, optional_sign, number_form, literal, op, direction, order, orders}
use Rattle.token_forms.specs.Phrases.{alias, distinctness, negation, ordering, from as table}
use Rattle.script_forms.proofs.Language.{Keeps}
use Rattle.sql_text.specs.Grammar.{Rule, condition_rule, results_rule, query_rule, case, factor, sum_sign, later_term, sum, comparison, between, sums, member, null_test, exists, rest, test, neg, conj, cond, when, whens, results, item, list, derived, from, from_items, filter, query, statement, production}

pub production_keeps : (A : Type 0) (p : Rule A) → Keeps (production A p)
unfolding alias distinctness negation column optional_sign number_form literal op direction order orders ordering case factor sum_sign later_term sum comparison between sums member null_test exists rest test neg conj cond when whens results item list derived table from from_items filter query
production_keeps A condition_rule = (refl, refl)
production_keeps A results_rule = (refl, refl)
production_keeps A query_rule = (refl, refl)

pub statement_keeps : Keeps statement
unfolding alias distinctness negation column optional_sign number_form literal op direction order orders ordering case factor sum_sign later_term sum comparison between sums member null_test exists rest test neg conj cond when whens results item list derived table from from_items filter query statement
statement_keeps = (refl, refl)
