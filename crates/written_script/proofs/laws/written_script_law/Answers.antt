use Rattle.written_script.proofs.WrittenAnswers.{script_answers, script_no_fault, script_reads}
use Rattle.written_script.proofs.laws.written_script_law.Goals as goal

pub returns : goal.returns
returns c = record {
  reads = λ tables others blocks are other. script_reads tables others other blocks are;
  no_fault = λ tables others blocks spot are other fault. script_no_fault tables others other blocks spot are fault;
  answers = λ tables others blocks queries are other reads. script_answers tables others other blocks queries are reads;
}
