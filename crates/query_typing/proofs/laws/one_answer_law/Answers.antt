use Rattle.query_typing.proofs.OneAnswer.{one_blocks, one_typing_fault, typing_apart}
use Rattle.query_typing.proofs.SomeAnswer.{queries_or_fault, some_queries, some_query}
use Rattle.query_typing.proofs.laws.one_answer_law.Goals as goal

pub returns-clause-queries : goal.returns-clause-queries
returns-clause-queries c = one_blocks

pub returns-clause-either : goal.returns-clause-either
returns-clause-either c = typing_apart

pub returns-clause-fault : goal.returns-clause-fault
returns-clause-fault c = one_typing_fault

pub returns-clause-statement : goal.returns-clause-statement
returns-clause-statement c = λ tables tree valid is met. some_query tables valid tree is met

pub returns-clause-script : goal.returns-clause-script
returns-clause-script c = λ tables trees valid are met. some_queries tables valid trees are met

pub returns-clause-answer : goal.returns-clause-answer
returns-clause-answer c = λ tables trees valid are. queries_or_fault tables valid trees are
