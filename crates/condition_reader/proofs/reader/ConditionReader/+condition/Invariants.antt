use Rattle.std.proofs.Common.{◌≡◌, ◌+◌, ◌*◌, length}
use Rattle.grammar_forms.specs.Form.{many}
use Rattle.token_forms.specs.Forms as forms
use Rattle.query_grammar.specs.ReadConditions as conditions
use Rattle.token_forms.specs.Forms.{◌⨟>◌}
use Rattle.prefsql_lexer.specs.declared.token.Keyword.TheVariants.{And, Or}
use Rattle.query_grammar.specs.Outcome.{outcome}
use Rattle.token_forms.specs.Reads.{with_front}
use Rattle.condition_reader.proofs.reader.ConditionReader.+condition.Given as goal

abbrev pub decreases-condition : goal.decreases-condition
decreases-condition l = 8 * l.self.depth + 7

abbrev pub decreases-disjuncts : goal.decreases-disjuncts
decreases-disjuncts l = 8 * l.self.depth + 6

abbrev pub decreases-conjunction : goal.decreases-conjunction
decreases-conjunction l = 8 * l.self.depth + 5

abbrev pub decreases-conjuncts : goal.decreases-conjuncts
decreases-conjuncts l = 8 * l.self.depth + 4

abbrev pub decreases-negated : goal.decreases-negated
decreases-negated l = 8 * l.self.depth + 3

abbrev pub decreases-test : goal.decreases-test
decreases-test l = 8 * l.self.depth + 2

abbrev pub decreases-plain_test : goal.decreases-plain_test
decreases-plain_test l = 8 * l.self.depth + 1

abbrev pub decreases-nested_condition : goal.decreases-nested_condition
decreases-nested_condition l = 8 * l.self.depth + 0

abbrev pub invariant-conjuncts-more : goal.invariant-conjuncts-more
invariant-conjuncts-more l = outcome l.self.depth (conditions.conjuncts l.self.qualities) l.fn.tokens ≡ with_front l.found (outcome l.self.depth (many (forms.word_only And ⨟> conditions.negated l.self.qualities)) l.tokens)

abbrev pub decreases-conjuncts-more : goal.decreases-conjuncts-more
decreases-conjuncts-more l = length l.tokens

abbrev pub invariant-disjuncts-more : goal.invariant-disjuncts-more
invariant-disjuncts-more l = outcome l.self.depth (conditions.disjuncts l.self.qualities) l.fn.tokens ≡ with_front l.found (outcome l.self.depth (many (forms.word_only Or ⨟> conditions.conjunction l.self.qualities)) l.tokens)

abbrev pub decreases-disjuncts-more : goal.decreases-disjuncts-more
decreases-disjuncts-more l = length l.tokens
