use Rattle.std.proofs.Common.{◌≡◌, drop}
use Rattle.sql_resolver.specs.NamesMeant.{places_of}
use Rattle.sql_resolver.specs.Scope.{names_in}
use Rattle.sql_resolver.proofs.scope.meaning_of.Given as goal

abbrev pub invariant-loop-up : goal.invariant-loop-up
invariant-loop-up l =
    places_of l.name.first l.name.second l.up (names_in (drop l.up l.levels)) ≡ places_of l.name.first l.name.second 0 (names_in l.levels)
