use Rattle.query_meaning.proofs.ValidLaws.{numbers_tell_leaves}
use Rattle.query_meaning.proofs.valid.numbers_tell_leaves.Goals as goal

pub returns : goal.returns
returns c = numbers_tell_leaves
