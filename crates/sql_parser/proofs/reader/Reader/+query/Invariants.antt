use Rattle.std.proofs.Common.{◌≡◌, ◌+◌, ◌*◌, length}
use Rattle.grammar_forms.specs.Form.{many}
use Rattle.prefsql_lexer.specs.declared.token.Keyword.TheVariants.{And, Or}
use Rattle.token_forms.specs.Forms as forms
use Rattle.token_forms.specs.Forms.{◌⨟>◌}
use Rattle.token_forms.specs.Reads.{with_front}
use Rattle.sql_text.specs.Grammar as grammar
use Rattle.sql_parser.specs.ReadGrammar as read_grammar
use Rattle.sql_parser.specs.Outcome.{outcome}
use Rattle.sql_parser.proofs.reader.Reader.+query.Given as goal

abbrev pub decreases-query : goal.decreases-query
decreases-query l = 40 * l.self.depth + 30

abbrev pub decreases-filter : goal.decreases-filter
decreases-filter l = 40 * l.self.depth + 29

abbrev pub decreases-select_list : goal.decreases-select_list
decreases-select_list l = 40 * l.self.depth + 28

abbrev pub decreases-from_items : goal.decreases-from_items
decreases-from_items l = 40 * l.self.depth + 28

abbrev pub decreases-results : goal.decreases-results
decreases-results l = 40 * l.self.depth + 30

abbrev pub decreases-items : goal.decreases-items
decreases-items l = 40 * l.self.depth + 27

abbrev pub decreases-from_item : goal.decreases-from_item
decreases-from_item l = 40 * l.self.depth + 27

abbrev pub decreases-whens : goal.decreases-whens
decreases-whens l = 40 * l.self.depth + 29

abbrev pub decreases-item : goal.decreases-item
decreases-item l = 40 * l.self.depth + 26

abbrev pub decreases-derived : goal.decreases-derived
decreases-derived l = 40 * l.self.depth + 26

abbrev pub decreases-when : goal.decreases-when
decreases-when l = 40 * l.self.depth + 28

abbrev pub decreases-otherwise : goal.decreases-otherwise
decreases-otherwise l = 40 * l.self.depth + 28

abbrev pub decreases-condition : goal.decreases-condition
decreases-condition l = 40 * l.self.depth + 27

abbrev pub decreases-disjuncts : goal.decreases-disjuncts
decreases-disjuncts l = 40 * l.self.depth + 26

abbrev pub decreases-conjunction : goal.decreases-conjunction
decreases-conjunction l = 40 * l.self.depth + 25

abbrev pub decreases-conjuncts : goal.decreases-conjuncts
decreases-conjuncts l = 40 * l.self.depth + 24

abbrev pub decreases-negated : goal.decreases-negated
decreases-negated l = 40 * l.self.depth + 23

abbrev pub decreases-test : goal.decreases-test
decreases-test l = 40 * l.self.depth + 22

abbrev pub decreases-compared : goal.decreases-compared
decreases-compared l = 40 * l.self.depth + 21

abbrev pub decreases-rest : goal.decreases-rest
decreases-rest l = 40 * l.self.depth + 20

abbrev pub decreases-negatable : goal.decreases-negatable
decreases-negatable l = 40 * l.self.depth + 19

abbrev pub decreases-member : goal.decreases-member
decreases-member l = 40 * l.self.depth + 17

abbrev pub decreases-between : goal.decreases-between
decreases-between l = 40 * l.self.depth + 16

abbrev pub decreases-comparison : goal.decreases-comparison
decreases-comparison l = 40 * l.self.depth + 16

abbrev pub decreases-sums_in_parens : goal.decreases-sums_in_parens
decreases-sums_in_parens l = 40 * l.self.depth + 16

abbrev pub decreases-exists : goal.decreases-exists
decreases-exists l = 40 * l.self.depth + 16

abbrev pub decreases-query_in_parens : goal.decreases-query_in_parens
decreases-query_in_parens l = 40 * l.self.depth + 15

abbrev pub decreases-sums : goal.decreases-sums
decreases-sums l = 40 * l.self.depth + 15

abbrev pub decreases-sum : goal.decreases-sum
decreases-sum l = 40 * l.self.depth + 14

abbrev pub decreases-later_terms : goal.decreases-later_terms
decreases-later_terms l = 40 * l.self.depth + 13

abbrev pub decreases-later_term : goal.decreases-later_term
decreases-later_term l = 40 * l.self.depth + 12

abbrev pub decreases-factor : goal.decreases-factor
decreases-factor l = 40 * l.self.depth + 11

abbrev pub decreases-case : goal.decreases-case
decreases-case l = 40 * l.self.depth + 10

abbrev pub decreases-nested_query : goal.decreases-nested_query
decreases-nested_query l = 40 * l.self.depth + 0

abbrev pub decreases-nested_condition : goal.decreases-nested_condition
decreases-nested_condition l = 40 * l.self.depth + 0

abbrev pub decreases-nested_results : goal.decreases-nested_results
decreases-nested_results l = 40 * l.self.depth + 0

abbrev pub invariant-later_terms-more : goal.invariant-later_terms-more
invariant-later_terms-more l =
    outcome l.self.depth read_grammar.later_terms l.fn.tokens
    ≡ with_front l.found (outcome l.self.depth (many grammar.later_term) l.tokens)

abbrev pub decreases-later_terms-more : goal.decreases-later_terms-more
decreases-later_terms-more l = length l.tokens

abbrev pub invariant-whens-more : goal.invariant-whens-more
invariant-whens-more l =
    outcome l.self.depth read_grammar.whens_form l.fn.tokens
    ≡ with_front l.found (outcome l.self.depth (many read_grammar.when_form) l.tokens)

abbrev pub decreases-whens-more : goal.decreases-whens-more
decreases-whens-more l = length l.tokens

abbrev pub invariant-sums-more : goal.invariant-sums-more
invariant-sums-more l =
    outcome l.self.depth grammar.sums l.fn.tokens
    ≡ with_front l.found (outcome l.self.depth (many (forms.comma ⨟> grammar.sum)) l.tokens)

abbrev pub decreases-sums-more : goal.decreases-sums-more
decreases-sums-more l = length l.tokens

abbrev pub invariant-conjuncts-more : goal.invariant-conjuncts-more
invariant-conjuncts-more l =
    outcome l.self.depth read_grammar.conjuncts l.fn.tokens
    ≡ with_front l.found (outcome l.self.depth (many (forms.word_only And ⨟> read_grammar.negated)) l.tokens)

abbrev pub decreases-conjuncts-more : goal.decreases-conjuncts-more
decreases-conjuncts-more l = length l.tokens

abbrev pub invariant-disjuncts-more : goal.invariant-disjuncts-more
invariant-disjuncts-more l =
    outcome l.self.depth read_grammar.disjuncts l.fn.tokens
    ≡ with_front l.found (outcome l.self.depth (many (forms.word_only Or ⨟> read_grammar.conjunction)) l.tokens)

abbrev pub decreases-disjuncts-more : goal.decreases-disjuncts-more
decreases-disjuncts-more l = length l.tokens

abbrev pub invariant-items-more : goal.invariant-items-more
invariant-items-more l =
    outcome l.self.depth read_grammar.items l.fn.tokens
    ≡ with_front l.found (outcome l.self.depth (many (forms.comma ⨟> grammar.item)) l.tokens)

abbrev pub decreases-items-more : goal.decreases-items-more
decreases-items-more l = length l.tokens

abbrev pub invariant-from_items-more : goal.invariant-from_items-more
invariant-from_items-more l =
    outcome l.self.depth grammar.from_items l.fn.tokens
    ≡ with_front l.found (outcome l.self.depth (many (forms.comma ⨟> grammar.from)) l.tokens)

abbrev pub decreases-from_items-more : goal.decreases-from_items-more
decreases-from_items-more l = length l.tokens
