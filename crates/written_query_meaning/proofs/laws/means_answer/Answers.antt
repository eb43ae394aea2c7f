use Rattle.written_query_meaning.proofs.Whole.{means_answer}
use Rattle.written_query_meaning.proofs.laws.means_answer.Goals as goal

pub returns : goal.returns
returns c = means_answer c.args.block.now c.requires
