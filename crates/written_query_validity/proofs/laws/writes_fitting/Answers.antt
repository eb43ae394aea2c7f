use Rattle.written_query_validity.proofs.Fitting.{written_fits}
use Rattle.written_query_validity.proofs.laws.writes_fitting.Goals as goal

pub returns : goal.returns
returns c = record { fits = λ tables has. written_fits tables c.args.block.now has }
