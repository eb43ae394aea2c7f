use Rattle.sql_parser.specs.Faults.{max_nesting}
use Rattle.read_queries.proofs.Fitting.{read_fits}
use Rattle.read_queries.proofs.FormedStatements.{read_formed}
use Rattle.read_queries.proofs.laws.read_queries_law.Goals as goal

pub returns : goal.returns
returns c = record {
  formed = λ tables text queries set short is. read_formed tables set max_nesting text is.0 is.1 queries short is.2 is.3 is.4;
  fit = λ tables text queries is. read_fits tables max_nesting text is.0 is.1 queries is.2 is.3 is.4;
}
