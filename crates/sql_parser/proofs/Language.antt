-- SQL scripts as they are written are SQL scripts as they are read.
use Rattle.script_forms.proofs.Language.{IsReadBy, SidesWithin}
use Rattle.sql_text.specs.Grammar.{condition_rule, results_rule, query_rule, statement, production}
use Rattle.sql_parser.specs.ReadGrammar.{statement_form}
use Rattle.sql_parser.specs.Outcome.{rule_starts, rule_continues, right_side}
use Rattle.sql_parser.proofs.Depth.{production_keeps, statement_keeps}
use Rattle.sql_parser.proofs.Predictive.{agrees, predictive-counted, statement-begins, statement-not-empty}
use Rattle.sql_parser.proofs.SameGrammar.{Same-cond, Same-results, Same-query, Same-statement}

rules_there : SidesWithin production right_side
rules_there R S none A condition_rule = (Same-cond R S none).there
rules_there R S none A results_rule = (Same-results R S none).there
rules_there R S none A query_rule = (Same-query R S none).there

rules_back : SidesWithin right_side production
rules_back R S none A condition_rule = (Same-cond R S none).back
rules_back R S none A results_rule = (Same-results R S none).back
rules_back R S none A query_rule = (Same-query R S none).back

pub language : IsReadBy production right_side rule_starts rule_continues statement statement_form
language = record {
  agrees = agrees;
  decides = predictive-counted;
  begins_with = statement-begins;
  not_empty = statement-not-empty;
  there = rules_there;
  back = rules_back;
  same = Same-statement;
  production_keeps = production_keeps;
  statement_keeps = statement_keeps;
}
