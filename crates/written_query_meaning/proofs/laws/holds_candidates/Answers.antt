use Rattle.written_query_meaning.proofs.Clauses.{holds_candidates}
use Rattle.written_query_meaning.proofs.laws.holds_candidates.Goals as goal

pub returns : goal.returns
returns c = holds_candidates c.args.block.now c.args.term.now c.requires.valid c.requires.preferring
