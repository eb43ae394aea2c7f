use Rattle.std.proofs.Common.{refl, sym}
use Rattle.std.proofs.lemmas.Result.{err_from_is_err_and}
use Rattle.token_forms.proofs.Turns.{pushed_more, pushed_less, nested_none, nested_some}
use Rattle.sql_text.specs.Grammar.{condition_rule, results_rule, query_rule, sum_sign, later_term, sum, sums, item, from, from_items}
use Rattle.sql_parser.specs.ReadGrammar.{negated, conjuncts, conjunction, disjuncts, when_form, items}
use Rattle.sql_parser.proofs.Predictive.{agrees, predictive-sum, predictive-negated, predictive-conjunction, predictive-item, predictive-from, predictive-later_term, later_term-not-empty, predictive-when, when-not-empty}
use Rattle.sql_parser.proofs.Plain.{plain_column, plain_literal}
use Rattle.sql_parser.proofs.Turns.{many_less, many_more, many_err, many_end}
use Rattle.sql_parser.proofs.Choices.{factor_column, factor_case, factor_literal, not_paren_exists, not_paren_compared, factor_column_err, factor_literal_err}
use Rattle.sql_parser.proofs.reader.Reader.+query.Goals as goal

pub sums-more-smaller : goal.sums-more-smaller
sums-more-smaller t c = pushed_less agrees c.args.self.depth _ sum predictive-sum _ _ c.sum-in-more.new.tokens c.more.found _ c.sum-in-more.result c.more-test.ensures.1 c.in_ok-found-2.ensures c.sum-in-more.ensures

pub sums-more-preserved : goal.sums-more-preserved
unfolding sums
sums-more-preserved t c = pushed_more agrees c.args.self.depth _ sum predictive-sum c.more.tokens c.eat_symbol.new.self c.sum-in-more.new.tokens c.more.found _ c.sum-in-more.result c.more.invariant c.more-test.ensures c.in_ok-found-2.ensures c.sum-in-more.ensures

pub conjuncts-more-smaller : goal.conjuncts-more-smaller
conjuncts-more-smaller t c = pushed_less agrees c.args.self.depth _ negated predictive-negated _ _ c.negated-in-more.new.tokens c.more.found _ c.negated-in-more.result c.more-test.ensures.1 c.in_ok-found-2.ensures c.negated-in-more.ensures

pub conjuncts-more-preserved : goal.conjuncts-more-preserved
unfolding conjuncts
conjuncts-more-preserved t c = pushed_more agrees c.args.self.depth _ negated predictive-negated c.more.tokens c.eat_word.new.self c.negated-in-more.new.tokens c.more.found _ c.negated-in-more.result c.more.invariant c.more-test.ensures c.in_ok-found-2.ensures c.negated-in-more.ensures

pub disjuncts-more-smaller : goal.disjuncts-more-smaller
disjuncts-more-smaller t c = pushed_less agrees c.args.self.depth _ conjunction predictive-conjunction _ _ c.conjunction-in-more.new.tokens c.more.found _ c.conjunction-in-more.result c.more-test.ensures.1 c.in_ok-found-2.ensures c.conjunction-in-more.ensures

pub disjuncts-more-preserved : goal.disjuncts-more-preserved
unfolding disjuncts
disjuncts-more-preserved t c = pushed_more agrees c.args.self.depth _ conjunction predictive-conjunction c.more.tokens c.eat_word.new.self c.conjunction-in-more.new.tokens c.more.found _ c.conjunction-in-more.result c.more.invariant c.more-test.ensures c.in_ok-found-2.ensures c.conjunction-in-more.ensures

pub items-more-smaller : goal.items-more-smaller
items-more-smaller t c = pushed_less agrees c.args.self.depth _ item predictive-item _ _ c.item-in-more.new.tokens c.more.found _ c.item-in-more.result c.more-test.ensures.1 c.in_ok-found-2.ensures c.item-in-more.ensures

pub items-more-preserved : goal.items-more-preserved
unfolding items
items-more-preserved t c = pushed_more agrees c.args.self.depth _ item predictive-item c.more.tokens c.eat_symbol.new.self c.item-in-more.new.tokens c.more.found _ c.item-in-more.result c.more.invariant c.more-test.ensures c.in_ok-found-2.ensures c.item-in-more.ensures

pub from_items-more-smaller : goal.from_items-more-smaller
from_items-more-smaller t c = pushed_less agrees c.args.self.depth _ from predictive-from _ _ c.from_item-in-more.new.tokens c.more.found _ c.from_item-in-more.result c.more-test.ensures.1 c.in_ok-found-2.ensures c.from_item-in-more.ensures

pub from_items-more-preserved : goal.from_items-more-preserved
unfolding from_items
from_items-more-preserved t c = pushed_more agrees c.args.self.depth _ from predictive-from c.more.tokens c.eat_symbol.new.self c.from_item-in-more.new.tokens c.more.found _ c.from_item-in-more.result c.more.invariant c.more-test.ensures c.in_ok-found-2.ensures c.from_item-in-more.ensures

pub nested_condition-returns-then-self-eq0 : goal.nested_condition-returns-then-self-eq0
nested_condition-returns-then-self-eq0 t c = nested_none agrees c.args.self.depth c.if-self-eq0.true condition_rule c.args.tokens.now

pub nested_condition-returns : goal.nested_condition-returns
nested_condition-returns t c = rw (nested_some agrees c.args.self.depth c.if-self-eq0.false condition_rule c.args.tokens.now) c.condition.ensures

pub nested_results-returns-then-self-eq0 : goal.nested_results-returns-then-self-eq0
nested_results-returns-then-self-eq0 t c = nested_none agrees c.args.self.depth c.if-self-eq0.true results_rule c.args.tokens.now

pub nested_results-returns : goal.nested_results-returns
nested_results-returns t c = rw (nested_some agrees c.args.self.depth c.if-self-eq0.false results_rule c.args.tokens.now) c.results.ensures

pub nested_query-returns-then-self-eq0 : goal.nested_query-returns-then-self-eq0
nested_query-returns-then-self-eq0 t c = nested_none agrees c.args.self.depth c.if-self-eq0.true query_rule c.args.tokens.now

pub nested_query-returns : goal.nested_query-returns
nested_query-returns t c = rw (nested_some agrees c.args.self.depth c.if-self-eq0.false query_rule c.args.tokens.now) c.query.ensures

pub whens-more-smaller : goal.whens-more-smaller
whens-more-smaller t c = many_less c.args.self.depth when_form predictive-when when-not-empty c.more.tokens c.when-in-more.new.tokens c.more.found _ c.when-in-more.result c.in_ok-found-2.ensures c.when-in-more.ensures

pub whens-more-preserved : goal.whens-more-preserved
unfolding when_form
whens-more-preserved t c = many_more c.args.self.depth when_form predictive-when when-not-empty c.more.tokens c.more.found c.more.invariant (sym c.more-test.ensures) c.when-in-more.new.tokens c.when-in-more.result c.when-in-more.ensures _ c.in_ok-found-2.ensures

pub whens-returns-in_err-found-2 : goal.whens-returns-in_err-found-2
unfolding when_form
whens-returns-in_err-found-2 t c =
    let p = err_from_is_err_and c.from_residual-in_err-found-2.result c.from_residual-in_err-found-2.ensures.1 in
    rw (p.1, p.2) (many_err c.args.self.depth when_form predictive-when when-not-empty c.more.tokens c.more.found c.more.invariant (sym c.more-test.ensures) c.when-in-more.new.tokens c.when-in-more.result c.when-in-more.ensures _ c.in_err-found-2.ensures)

pub whens-returns : goal.whens-returns
unfolding when_form
whens-returns t c = many_end c.args.self.depth when_form predictive-when when-not-empty c.more.tokens c.more.found c.more.invariant (sym c.more-test.ensures)

pub later_terms-more-smaller : goal.later_terms-more-smaller
later_terms-more-smaller t c = many_less c.args.self.depth later_term predictive-later_term later_term-not-empty c.more.tokens c.later_term.new.tokens c.more.found _ c.later_term.result c.in_ok-found.ensures c.later_term.ensures

pub later_terms-more-preserved : goal.later_terms-more-preserved
unfolding sum_sign later_term
later_terms-more-preserved t c = many_more c.args.self.depth later_term predictive-later_term later_term-not-empty c.more.tokens c.more.found c.more.invariant (sym c.more-test.ensures) c.later_term.new.tokens c.later_term.result c.later_term.ensures _ c.in_ok-found.ensures

pub later_terms-returns-in_err-found : goal.later_terms-returns-in_err-found
unfolding sum_sign later_term
later_terms-returns-in_err-found t c =
    let p = err_from_is_err_and c.from_residual.result c.from_residual.ensures.1 in
    rw (p.1, p.2) (many_err c.args.self.depth later_term predictive-later_term later_term-not-empty c.more.tokens c.more.found c.more.invariant (sym c.more-test.ensures) c.later_term.new.tokens c.later_term.result c.later_term.ensures _ c.in_err-found.ensures)

pub later_terms-returns : goal.later_terms-returns
unfolding sum_sign later_term
later_terms-returns t c = many_end c.args.self.depth later_term predictive-later_term later_term-not-empty c.more.tokens c.more.found c.more.invariant (sym c.more-test.ensures)

pub factor-returns-then-at_name : goal.factor-returns-then-at_name
factor-returns-then-at_name t c = rw (factor_column c.args.self.depth c.args.tokens.now (sym c.if-at_name.ensures), plain_column c.args.self.depth c.args.tokens.now, c.in_ok-column.ensures) refl

pub factor-returns-then-at_word : goal.factor-returns-then-at_word
factor-returns-then-at_word t c = rw (factor_case c.args.self.depth c.args.tokens.now (sym c.if-at_word.ensures)) c.case.ensures

pub factor-returns : goal.factor-returns
factor-returns t c = rw (factor_literal c.args.self.depth c.args.tokens.now (sym c.if-at_name.ensures) (sym c.if-at_word.ensures), plain_literal c.args.self.depth c.args.tokens.now, c.in_ok-literal.ensures) refl

pub factor-returns-in_err-column : goal.factor-returns-in_err-column
factor-returns-in_err-column t c =
    let p = err_from_is_err_and c.from_residual.result c.from_residual.ensures.1 in
    rw (p.1, p.2) (factor_column_err c.args.self.depth c.args.tokens.now c.column.new.self c.in_err-column.field-0.0 (sym c.if-at_name.ensures) c.in_err-column.ensures)

pub factor-returns-in_err-literal : goal.factor-returns-in_err-literal
factor-returns-in_err-literal t c =
    let p = err_from_is_err_and c.from_residual-in_err-literal.result c.from_residual-in_err-literal.ensures.1 in
    rw (p.1, p.2) (factor_literal_err c.args.self.depth c.args.tokens.now c.literal.new.self c.in_err-literal.field-0.0 (sym c.if-at_name.ensures) (sym c.if-at_word.ensures) c.in_err-literal.ensures)

pub test-returns-then-at_word : goal.test-returns-then-at_word
test-returns-then-at_word t c = rw (not_paren_exists c.args.self.depth c.args.tokens.now c.eat_symbol.new.self c.if-eat_symbol.ensures.1 (sym c.if-at_word.ensures)) c.exists.ensures

pub test-returns : goal.test-returns
test-returns t c = rw (not_paren_compared c.args.self.depth c.args.tokens.now c.eat_symbol.new.self c.if-eat_symbol.ensures (sym c.if-at_word.ensures)) c.compared.ensures
