use Rattle.query_grammar.specs.Rules.{condition_rule}
use Rattle.query_grammar.specs.ReadConditions.{negated, conjuncts, conjunction, disjuncts}
use Rattle.token_forms.proofs.Turns.{pushed_more, pushed_less, nested_none, nested_some}
use Rattle.query_grammar.proofs.Predictive.{agrees, predictive-negated, predictive-conjunction}
use Rattle.condition_reader.proofs.reader.ConditionReader.+condition.Goals as goal

pub conjuncts-more-smaller : goal.conjuncts-more-smaller
conjuncts-more-smaller t c = pushed_less agrees c.args.self.depth _ (negated c.args.self.qualities) (predictive-negated c.args.self.qualities) _ _ c.negated-in-more.new.tokens c.more.found _ c.negated-in-more.result c.more-test.ensures.1 c.in_ok-found-2.ensures c.negated-in-more.ensures

pub conjuncts-more-preserved : goal.conjuncts-more-preserved
unfolding conjuncts
conjuncts-more-preserved t c = pushed_more agrees c.args.self.depth _ (negated c.args.self.qualities) (predictive-negated c.args.self.qualities) c.more.tokens c.eat_word.new.self c.negated-in-more.new.tokens c.more.found _ c.negated-in-more.result c.more.invariant c.more-test.ensures c.in_ok-found-2.ensures c.negated-in-more.ensures

pub disjuncts-more-smaller : goal.disjuncts-more-smaller
disjuncts-more-smaller t c = pushed_less agrees c.args.self.depth _ (conjunction c.args.self.qualities) (predictive-conjunction c.args.self.qualities) _ _ c.conjunction-in-more.new.tokens c.more.found _ c.conjunction-in-more.result c.more-test.ensures.1 c.in_ok-found-2.ensures c.conjunction-in-more.ensures

pub disjuncts-more-preserved : goal.disjuncts-more-preserved
unfolding disjuncts
disjuncts-more-preserved t c = pushed_more agrees c.args.self.depth _ (conjunction c.args.self.qualities) (predictive-conjunction c.args.self.qualities) c.more.tokens c.eat_word.new.self c.conjunction-in-more.new.tokens c.more.found _ c.conjunction-in-more.result c.more.invariant c.more-test.ensures c.in_ok-found-2.ensures c.conjunction-in-more.ensures

pub nested_condition-returns-then-self-eq0 : goal.nested_condition-returns-then-self-eq0
nested_condition-returns-then-self-eq0 t c = nested_none agrees c.args.self.depth c.if-self-eq0.true (condition_rule c.args.self.qualities) c.args.tokens.now

pub nested_condition-returns : goal.nested_condition-returns
nested_condition-returns t c = rw (nested_some agrees c.args.self.depth c.if-self-eq0.false (condition_rule c.args.self.qualities) c.args.tokens.now) c.condition.ensures
