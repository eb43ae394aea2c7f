use Rattle.std.specs.HashSet.{contains}
use Rattle.std.specs.Str.{bytes_eq}
use denote.Ref.{Bor}
use Rattle.std.proofs.Common.{ℕ, List}
use Rattle.sql_resolver.proofs.RepeatLaws.{AreSeen}
use Rattle.sql_resolver.proofs.from.first_repeated.Given as goal

abbrev pub invariant-loop-from : goal.invariant-loop-from
invariant-loop-from l = AreSeen l.froms l.from-index l.fault (contains (λ (x y : Bor (List ℕ)). bytes_eq x.now y.now) l.names)
