-- Fronts of SQL scripts, and the place and code of the first grammar fault. These rules are this
-- project's own.
use Rattle.std.specs.Prelude.{ℕ, List}
use Rattle.prefsql_lexer.specs.declared.fault.Spot.{Spot}
use Rattle.prefsql_lexer.specs.declared.token.Token.{Token}
use Rattle.script_forms.specs.Scripts as script
use Rattle.sql_text.specs.Grammar.{statement, production}

-- how deep parentheses and CASE may nest in an SQL script
abbrev pub max_nesting : ℕ
max_nesting = 256

-- A front of a script keeps the limits of number and nesting, where a statement counts from its
-- first token on and what nests from its opening parenthesis or its CASE on. It is statements, each
-- with its semicolon, and then nothing or a front of one more: of one with a semicolon, or of the
-- last one.
abbrev pub IsScriptFront : List Token → Type 0
IsScriptFront ts = script.IsScriptFront production statement max_nesting ts

-- The code of a fault between the longest front and the tokens after it: E202 at the end, E203
-- where the next token would begin a statement too many, else E201.
abbrev pub IsCode : List Token → List Token → ℕ → Type 0
IsCode front rest code = script.IsCode production statement front rest code

-- The tokens are no script, and the fault stands at the end of the longest front with which they
-- begin.
abbrev pub IsFault : List Token → ℕ → Spot → Type 0
IsFault ts end spot = script.IsFault production statement max_nesting ts end spot
