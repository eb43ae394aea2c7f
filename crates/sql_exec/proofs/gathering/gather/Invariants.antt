use Rattle.std.proofs.Common.{◌≡◌, ◌∷◌, ◌++◌, map, length, IfSome}
use Rattle.sql_exec.specs.Ready.{kept, row_of, steps_at}
use Rattle.sql_exec.specs.Seen.{outer_seen}
use Rattle.sql_exec.specs.Steps.{IsWalk, to_come}
use Rattle.sql_exec.specs.declared.ready.ReadySearch.{out-ReadySearch}
use Rattle.sql_exec.proofs.gathering.gather.Given as goal

abbrev pub invariant-loop-next : goal.invariant-loop-next
invariant-loop-next l = record {
  walk : IfSome l.next (IsWalk (length (out-ReadySearch l.search).steps));
  rows :
      let shown = map (λ scope. row_of l.items (scope ∷ outer_seen l.outer)) in
      shown (kept l.search (outer_seen l.outer)) ≡ l.rows ++ shown (to_come (steps_at (out-ReadySearch l.search).steps (outer_seen l.outer)) l.next);
}

abbrev pub decreases-loop-next : goal.decreases-loop-next
decreases-loop-next l = length (to_come (steps_at (out-ReadySearch l.search).steps (outer_seen l.outer)) l.next)
