use Rattle.sql_tree.proofs.TableTests.{fits_told}
use Rattle.sql_tree.proofs.tree.SqlQuery.fits.Goals as goal

pub returns : goal.returns
returns c = fits_told c.args.tables.now c.args.self.now c.query_fits.result c.query_fits.ensures
