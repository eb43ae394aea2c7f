use Rattle.std.proofs.Common.{◌≡◌, ◌∷◌, take}
use Rattle.sql_resolver.proofs.scope.within.Given as goal

abbrev pub invariant-loop-level : goal.invariant-loop-level
invariant-loop-level l = l.inner.items ≡ l.fn.items ∷ take l.level-index l.levels
