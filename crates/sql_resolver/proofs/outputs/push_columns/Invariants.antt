use Rattle.std.proofs.Common.{◌≡◌, ◌++◌, drop, map}
use Rattle.sql_resolver.specs.Found.{found_output}
use Rattle.sql_resolver.specs.Reading.{columns_from}
use Rattle.sql_resolver.proofs.outputs.push_columns.Given as goal

abbrev pub invariant-loop-at : goal.invariant-loop-at
invariant-loop-at l =
    l.outputs.items ++ map found_output (columns_from l.item l.at (drop l.at l.columns))
    ≡ l.fn.outputs.items ++ map found_output (columns_from l.item 0 l.columns)
