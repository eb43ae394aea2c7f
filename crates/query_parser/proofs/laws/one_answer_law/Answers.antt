use Rattle.query_grammar.proofs.Language.{language}
use Rattle.script_forms.proofs.OneFault.{script_or_fault, fault_one, script_or_some_fault}
use Rattle.query_parser.proofs.laws.one_answer_law.Goals as goal

pub returns-clause-either : goal.returns-clause-either
returns-clause-either c = script_or_fault language 64

pub returns-clause-fault : goal.returns-clause-fault
returns-clause-fault c = fault_one language 64

pub returns-clause-answer : goal.returns-clause-answer
returns-clause-answer c = script_or_some_fault language 64
