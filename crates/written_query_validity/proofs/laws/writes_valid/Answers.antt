use Rattle.written_query_validity.proofs.Validity.{written_valid}
use Rattle.written_query_validity.proofs.laws.writes_valid.Goals as goal

pub returns : goal.returns
returns c = record { valid = written_valid c.args.block.now c.requires }
