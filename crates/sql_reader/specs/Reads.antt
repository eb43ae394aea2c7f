-- Which texts read as which queries over a set of tables, and the first fault of the others. The
-- order of the stages is this project's own.
use Rattle.std.specs.Prelude.{◌≡◌, ℕ, ◌⊎◌, List, length, Ok, Err}
use Rattle.prefsql_lexer.specs.declared.fault.Spot.{Spot}
use Rattle.prefsql_lexer.specs.declared.token.Token.{Token}
use Rattle.prefsql_lexer.specs.Tokens.{IsTokens, IsFirstFault}
use Rattle.prefsql_tables.specs.Table.{Tables}
use Rattle.sql_tree.specs.declared.tree.SqlQuery.{SqlQuery}
use Rattle.sql_text.specs.declared.named.NamedStatement.{NamedStatement}
use Rattle.sql_text.specs.Scripts.{IsScript}
use Rattle.sql_parser.specs.Faults.{IsFault, max_nesting}
use Rattle.sql_resolver.specs.Statements.{script_reading}

-- the text has tokens, which are a script, whose statements mean these queries
abbrev pub ReadsAs : Tables → List ℕ → List SqlQuery → Type 0
ReadsAs tables text queries =
    (tokens : List Token) × (statements : List NamedStatement) × IsTokens max_nesting text tokens
    × IsScript tokens statements × (script_reading tables statements ≡ Ok queries)

-- The first fault: the text has a lexical fault; or its tokens have a grammar fault, which at their
-- end stands at the end of the text; or an obligation is false.
abbrev pub HasFirstFault : Tables → List ℕ → Spot → Type 0
HasFirstFault tables text spot =
    IsFirstFault max_nesting text spot
    ⊎ ((tokens : List Token) × IsTokens max_nesting text tokens × IsFault tokens (length text) spot)
    ⊎ ((tokens : List Token) × (statements : List NamedStatement)
    × IsTokens max_nesting text tokens × IsScript tokens statements
    × (script_reading tables statements ≡ Err spot))
