use Rattle.std.proofs.Common.{◌≡◌, take}
use Rattle.sql_exec.specs.Seen.{rows_seen}
use Rattle.sql_exec.proofs.scopes.copied.Given as goal

abbrev pub invariant-loop-row : goal.invariant-loop-row
invariant-loop-row l = rows_seen l.copies.items ≡ rows_seen (take l.row-index l.rows)
