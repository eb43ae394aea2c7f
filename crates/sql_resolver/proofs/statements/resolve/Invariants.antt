use Rattle.std.proofs.Common.{◌≡◌, drop}
use Rattle.sql_resolver.specs.Statements.{script_reading}
use Rattle.sql_resolver.proofs.StatementLaws.{and_all}
use Rattle.sql_resolver.proofs.statements.resolve.Given as goal

abbrev pub invariant-loop-tree : goal.invariant-loop-tree
invariant-loop-tree l =
    and_all l.queries (script_reading l.tables (drop l.tree-index l.statements)) ≡ script_reading l.tables l.statements
