use Rattle.sql_exec.proofs.AlikeColumns.{column_said}
use Rattle.sql_exec.proofs.alike.column_place.Goals as goal

pub returns-in-Column : goal.returns-in-Column
returns-in-Column c = column_said c.args.scalar.now c.in-Column.place c.in-Column.is
