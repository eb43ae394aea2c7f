-- What parsing answers where there are no trees.
use Rattle.std.specs.Prelude.{ℕ, List, ⊤}
use Rattle.prefsql_lexer.specs.declared.token.Token.{Token}
use Rattle.sql_parser.specs.Faults.{IsFault}
use Rattle.sql_parser.specs.declared.fault.ParseFault.{ParseFault}
use Rattle.sql_parser.specs.declared.fault.ParseFault.TheVariants.{Bad, Memory}

-- the first grammar fault of these tokens, unless memory ran out
abbrev pub SaysFault : List Token → ℕ → ParseFault → Type 0
SaysFault ts end (Bad spot) = IsFault ts end spot
SaysFault ts end Memory = ⊤
