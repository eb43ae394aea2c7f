-- The grammar of preference scripts keeps its parentheses.
use Rattle.std.proofs.Common.{true, false, refl}
use Rattle.token_forms.specs.Columns.{column, columns, optional_sign, number_form, literal, literals, op, direction, order, orders}
use Rattle.token_forms.specs.Phrases.{alias, from, distinctness, negation, ordering, from_items}
use Rattle.script_forms.proofs.Language.{Keeps}
use Rattle.query_grammar.specs.Rules.{Rule, condition_rule, preference_rule}
use Rattle.query_grammar.specs.Scalars.{level as level_form, distance, plain_scalar, scalar, scalars, comparison, between, member, null_test}
use Rattle.query_grammar.specs.Sets.{set, sets, edge, edges, mark}
use Rattle.query_grammar.specs.Items.{value, item, items, list, groups}
use Rattle.query_grammar.specs.Conditions.{rest, test, neg, conj, cond}
use Rattle.query_grammar.specs.Preferences.{good, bad, layers, other, graph, base, prim, par, pref}
use Rattle.query_grammar.specs.Statements.{prefer, statement, production}

pub production_keeps : (A : Type 0) (p : Rule A) → Keeps (production A p)
unfolding column columns optional_sign number_form literal literals op direction order orders level_form distance plain_scalar scalar scalars negation comparison between member null_test set sets edge edges mark alias value item items list from from_items distinctness groups ordering rest test neg conj cond good bad layers other graph base prim par pref prefer statement
production_keeps A (condition_rule false) = (refl, refl)
production_keeps A (condition_rule true) = (refl, refl)
production_keeps A preference_rule = (refl, refl)

pub statement_keeps : Keeps statement
unfolding column columns optional_sign number_form literal literals op direction order orders level_form distance plain_scalar scalar scalars negation comparison between member null_test set sets edge edges mark alias value item items list from from_items distinctness groups ordering rest test neg conj cond good bad layers other graph base prim par pref prefer statement
statement_keeps = (refl, refl)
