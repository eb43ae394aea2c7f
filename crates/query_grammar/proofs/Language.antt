-- Preference scripts as they are written are preference scripts as they are read.
use Rattle.script_forms.proofs.Language.{IsReadBy, SidesWithin}
use Rattle.query_grammar.specs.Rules.{condition_rule, preference_rule}
use Rattle.query_grammar.specs.Outcome.{rule_starts, rule_continues, right_side}
use Rattle.query_grammar.specs.ReadStatements.{statement_form}
use Rattle.query_grammar.specs.Statements.{statement, production}
use Rattle.query_grammar.proofs.Depth.{production_keeps, statement_keeps}
use Rattle.query_grammar.proofs.Predictive.{agrees, predictive-counted, statement-begins, statement-not-empty}
use Rattle.query_grammar.proofs.Written.{Same-cond, Same-pref, Same-statement}

rules_there : SidesWithin production right_side
rules_there R S none A (condition_rule q) = (Same-cond R S none q).there
rules_there R S none A preference_rule = (Same-pref R S none).there

rules_back : SidesWithin right_side production
rules_back R S none A (condition_rule q) = (Same-cond R S none q).back
rules_back R S none A preference_rule = (Same-pref R S none).back

pub language : IsReadBy production right_side rule_starts rule_continues statement statement_form
language = record { agrees = agrees; decides = predictive-counted; begins_with = statement-begins; not_empty = statement-not-empty; there = rules_there; back = rules_back; same = Same-statement; production_keeps = production_keeps; statement_keeps = statement_keeps }
