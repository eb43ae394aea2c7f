use Rattle.std.proofs.Common.{ap, ◌∙◌, sym}
use Rattle.std.proofs.lemmas.Bool.{both_ways}
use Rattle.script_forms.specs.Counted.{counted}
use Rattle.script_forms.proofs.Faults.{script_found, fault_inside, fault_behind}
use Rattle.sql_parser.specs.ReadGrammar.{statement_form}
use Rattle.sql_parser.specs.Outcome.{outcome}
use Rattle.sql_parser.proofs.Language.{language}
use Rattle.sql_parser.proofs.Accepted.{from_language}
use Rattle.sql_parser.proofs.MadeTrees.{script_well_made}
use Rattle.sql_parser.proofs.script.parse_sql.Goals as goal

pub returns-in-Err-Fault-clause-fault : goal.returns-in-Err-Fault-clause-fault
returns-in-Err-Fault-clause-fault c =
    let e = rw c.in-Err-Fault.field-0-is at c.in-Err-Fault.ensures in
    fault_inside language 256 c.args.tokens.now c.requires.depth c.script.new.tokens c.args.end c.spot.result (ap (λ z. outcome 256 (counted statement_form 64) z) (sym c.new-cursor.ensures) ∙ e) c.spot.ensures.at c.spot.ensures.code

pub returns-then-is_at_end-clause-script : goal.returns-then-is_at_end-clause-script
returns-then-is_at_end-clause-script c =
    from_language c.args.tokens.now c.in-Ok.statements
    (script_found language 256 c.args.tokens.now c.in-Ok.statements c.in-Ok.is_full c.script.new.tokens (ap (λ z. outcome 256 (counted statement_form 64) z) (sym c.new-cursor.ensures) ∙ c.in-Ok.ensures) (c.is_at_end.ensures.0 c.if-is_at_end.true))

pub returns-then-is_at_end-clause-well_made : goal.returns-then-is_at_end-clause-well_made
returns-then-is_at_end-clause-well_made c =
    let found =
    script_found language 256 c.args.tokens.now c.in-Ok.statements c.in-Ok.is_full c.script.new.tokens (ap (λ z. outcome 256 (counted statement_form 64) z) (sym c.new-cursor.ensures) ∙ c.in-Ok.ensures) (c.is_at_end.ensures.0 c.if-is_at_end.true) in
    script_well_made 256 c.args.end c.args.tokens.now c.in-Ok.statements c.requires (from_language c.args.tokens.now c.in-Ok.statements found)

pub returns-else-is_at_end-clause-fault : goal.returns-else-is_at_end-clause-fault
returns-else-is_at_end-clause-fault c =
    fault_behind language 256 c.args.tokens.now c.requires.depth c.in-Ok.statements c.in-Ok.is_full c.script.new.tokens c.args.end c.spot-else-is_at_end.result (ap (λ z. outcome 256 (counted statement_form 64) z) (sym c.new-cursor.ensures) ∙ c.in-Ok.ensures)
    (λ n. both_ways c.is_at_end.result c.if-is_at_end.false (c.is_at_end.ensures.1 n)) c.spot-else-is_at_end.ensures.at c.spot-else-is_at_end.ensures.code
