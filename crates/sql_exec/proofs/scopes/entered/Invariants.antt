use Rattle.std.proofs.Common.{◌≡◌, ◌∷◌, take}
use Rattle.sql_exec.specs.Seen.{outer_seen, rows_seen}
use Rattle.sql_exec.proofs.scopes.entered.Given as goal

abbrev pub invariant-loop-scope : goal.invariant-loop-scope
invariant-loop-scope l = outer_seen l.scopes.items ≡ rows_seen l.own ∷ outer_seen (take l.scope-index l.outer)
