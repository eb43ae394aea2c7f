use Rattle.written_query_meaning.proofs.Clauses.{judges_candidates}
use Rattle.written_query_meaning.proofs.laws.judges_candidates.Goals as goal

pub returns : goal.returns
returns c = judges_candidates c.args.block.now c.args.term.now c.requires.valid c.requires.preferring
