use Rattle.std.proofs.Common.{subst, sym}
use Rattle.sql_tree.specs.Fits.{FitsTables}
use Rattle.prefsql_session.proofs.executing.executed.Goals as goal

pub execute-requires : goal.execute-requires
execute-requires c = record {
  formed = c.in_ok-query.ensures.valid.formed;
  fits = subst (FitsTables c.args.tables.now) (sym c.in_ok-query.ensures.written) (c.writes_fitting.ensures.fits c.args.tables.now c.requires.fits);
}
