use Rattle.std.proofs.Common.{ap, ◌∙◌, sym}
use Rattle.std.proofs.lemmas.Bool.{both_ways}
use Rattle.script_forms.specs.Counted.{counted}
use Rattle.query_grammar.specs.ReadStatements.{statement_form}
use Rattle.query_grammar.specs.Outcome.{outcome}
use Rattle.query_grammar.proofs.Language.{language}
use Rattle.script_forms.proofs.Faults.{script_found, fault_inside, fault_behind}
use Rattle.query_parser.proofs.WellMadeStatements.{trees_well_made, trees_few}
use Rattle.query_parser.proofs.script.parse_script.Goals as goal

pub returns-in-Err-Fault-clause-fault : goal.returns-in-Err-Fault-clause-fault
returns-in-Err-Fault-clause-fault c =
    let e = rw c.in-Err-Fault.field-0-is at c.in-Err-Fault.ensures in
    fault_inside language 64 c.args.tokens.now c.requires.depth c.script.new.tokens c.args.end c.spot.result (ap (λ z. outcome 64 (counted statement_form 64) z) (sym c.new-cursor.ensures) ∙ e) c.spot.ensures.at c.spot.ensures.code

pub returns-then-is_at_end-clause-script : goal.returns-then-is_at_end-clause-script
returns-then-is_at_end-clause-script c =
    script_found language 64 c.args.tokens.now c.in-Ok.trees c.in-Ok.is_full c.script.new.tokens (ap (λ z. outcome 64 (counted statement_form 64) z) (sym c.new-cursor.ensures) ∙ c.in-Ok.ensures) (c.is_at_end.ensures.0 c.if-is_at_end.true)

pub returns-then-is_at_end-clause-well_made : goal.returns-then-is_at_end-clause-well_made
returns-then-is_at_end-clause-well_made c =
    let found = script_found language 64 c.args.tokens.now c.in-Ok.trees c.in-Ok.is_full c.script.new.tokens (ap (λ z. outcome 64 (counted statement_form 64) z) (sym c.new-cursor.ensures) ∙ c.in-Ok.ensures) (c.is_at_end.ensures.0 c.if-is_at_end.true) in
    trees_well_made c.args.tokens.now c.args.end c.in-Ok.trees c.ranges.end.fits c.requires found

pub returns-then-is_at_end-clause-few : goal.returns-then-is_at_end-clause-few
returns-then-is_at_end-clause-few c =
    let found = script_found language 64 c.args.tokens.now c.in-Ok.trees c.in-Ok.is_full c.script.new.tokens (ap (λ z. outcome 64 (counted statement_form 64) z) (sym c.new-cursor.ensures) ∙ c.in-Ok.ensures) (c.is_at_end.ensures.0 c.if-is_at_end.true) in
    trees_few c.args.tokens.now c.in-Ok.trees found

pub returns-else-is_at_end-clause-fault : goal.returns-else-is_at_end-clause-fault
returns-else-is_at_end-clause-fault c =
    fault_behind language 64 c.args.tokens.now c.requires.depth c.in-Ok.trees c.in-Ok.is_full c.script.new.tokens c.args.end c.spot-else-is_at_end.result (ap (λ z. outcome 64 (counted statement_form 64) z) (sym c.new-cursor.ensures) ∙ c.in-Ok.ensures)
    (λ n. both_ways c.is_at_end.result c.if-is_at_end.false (c.is_at_end.ensures.1 n)) c.spot-else-is_at_end.ensures.at c.spot-else-is_at_end.ensures.code
