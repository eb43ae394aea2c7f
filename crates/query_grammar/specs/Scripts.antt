-- Scripts of preference statements, and the place and code of the first grammar fault. These rules
-- are this project's own.
use Rattle.std.specs.Prelude.{ℕ, List}
use Rattle.prefsql_lexer.specs.declared.fault.Spot.{Spot}
use Rattle.prefsql_lexer.specs.declared.token.Token.{Token}
use Rattle.query_tree.specs.declared.query.QueryTree.{QueryTree}
use Rattle.script_forms.specs.Scripts as script
use Rattle.query_grammar.specs.Rules.{Grammar}
use Rattle.query_grammar.specs.Statements.{statement, production}

abbrev pub max_nesting : ℕ
max_nesting = 64

-- which tokens are a whole one of a form, with conditions and preferences in parentheses inside one
-- another at most n deep
abbrev pub IsWhole : ℕ → {A : Type 0} → Grammar A → List Token → A → Type 0
IsWhole n f ts v = script.IsWhole production n f ts v

-- The tokens are a script with these trees: at most 64 statements, however deep their parentheses
-- are.
abbrev pub IsScript : List Token → List QueryTree → Type 0
IsScript ts trees = script.IsScript production statement ts trees

-- A front of a script keeps the limits of number and nesting.
abbrev pub IsScriptFront : List Token → Type 0
IsScriptFront ts = script.IsScriptFront production statement max_nesting ts

-- the code of a fault between the longest front and the tokens after it
abbrev pub IsCode : List Token → List Token → ℕ → Type 0
IsCode front rest code = script.IsCode production statement front rest code

-- The tokens are no script, and the fault stands at the end of the longest front with which they
-- begin.
abbrev pub IsFault : List Token → ℕ → Spot → Type 0
IsFault ts end spot = script.IsFault production statement max_nesting ts end spot
