use Rattle.std.proofs.Common.{◌≡◌, ◌++◌, drop, map}
use Rattle.sql_resolver.specs.Found.{found_output}
use Rattle.sql_resolver.specs.Reading.{all_columns}
use Rattle.sql_resolver.proofs.outputs.all_columns.Given as goal

abbrev pub invariant-loop-at : goal.invariant-loop-at
invariant-loop-at l =
    l.outputs.items ++ map found_output (all_columns l.at (drop l.at l.scope))
    ≡ map found_output (all_columns 0 l.scope)
