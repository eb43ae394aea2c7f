use Rattle.std.proofs.Common.{◌≡◌, map, take}
use Rattle.sql_exec.specs.Ready.{value}
use Rattle.sql_exec.specs.Seen.{scopes_seen}
use Rattle.sql_exec.proofs.gathering.projected.Given as goal

abbrev pub invariant-loop-item : goal.invariant-loop-item
invariant-loop-item l = l.cells ≡ map (λ item. value item (scopes_seen l.own l.outer)) (take l.item-index l.items)
