use Rattle.sql_reader.proofs.OneReading.{reads_one, reads_or_fault, fault_of_one}
use Rattle.sql_reader.proofs.SomeReading.{reads_or_has_fault}
use Rattle.sql_reader.proofs.laws.one_reading_law.Goals as goal

pub returns-clause-queries : goal.returns-clause-queries
returns-clause-queries c = reads_one

pub returns-clause-either : goal.returns-clause-either
returns-clause-either c = reads_or_fault

pub returns-clause-fault : goal.returns-clause-fault
returns-clause-fault c = fault_of_one

pub returns-clause-answer : goal.returns-clause-answer
returns-clause-answer c = reads_or_has_fault
