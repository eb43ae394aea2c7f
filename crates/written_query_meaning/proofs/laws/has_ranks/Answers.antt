use Rattle.written_query_meaning.proofs.Clauses.{has_ranks}
use Rattle.written_query_meaning.proofs.laws.has_ranks.Goals as goal

pub returns : goal.returns
returns c = has_ranks c.args.block.now c.args.term.now c.requires.valid c.requires.preferring
