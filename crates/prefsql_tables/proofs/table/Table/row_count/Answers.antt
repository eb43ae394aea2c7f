use Rattle.prefsql_tables.proofs.KeptLemmas.{count_is}
use Rattle.prefsql_tables.proofs.table.Table.row_count.Goals as goal

pub returns : goal.returns
returns c = rw (← c.self.view_is) (count_is c.self.inside.schema.columns c.self.inside.cells.items c.self.inside.row_count)
