-- What a script comes to over the tables of a run. The order of its faults is this project's own.
use Rattle.std.specs.Prelude.{◌≡◌, ◌⊎◌, ◌≤◌, ◌<◌, ℕ, List, length}
use Rattle.prefsql_lexer.specs.Tokens.{IsFirstFault, IsTokens}
use Rattle.prefsql_lexer.specs.declared.fault.Spot.{Spot}
use Rattle.prefsql_lexer.specs.declared.token.Token.{Token}
use Rattle.prefsql_tables.specs.Table.{Tables}
use Rattle.query_grammar.specs.Scripts.{IsFault, IsScript}
use Rattle.query_meaning.specs.declared.block.Block.{Block}
use Rattle.query_tree.specs.declared.query.QueryTree.{QueryTree}
use Rattle.query_typing.specs.Typing.{AreTyped, IsFirstOfScript}
use Rattle.sql_reader.specs.Reads.{HasFirstFault, ReadsAs}
use Rattle.sql_tree.specs.declared.tree.SqlQuery.{SqlQuery}
use Rattle.prefsql_session.specs.declared.command.Task.{Task}
use Rattle.prefsql_session.specs.declared.command.Task.TheVariants.{Ask, Execute}
use Rattle.prefsql_session.specs.declared.work.Work.{Work}
use Rattle.prefsql_session.specs.declared.work.Work.TheVariants.{Queries, Statements}

-- the greatest number of bytes of a script
abbrev pub script_limit : Task → ℕ
script_limit (Ask wish) = 1048576
script_limit Execute = 268435456

-- a preference script is cut into tokens, these are parsed, and the trees are typed over the
-- tables: the first fault of the first part of this that has one
abbrev pub HasQueryFault : Tables → List ℕ → Spot → Type 0
HasQueryFault tables text spot =
    IsFirstFault 64 text spot
    ⊎ ((tokens : List Token) × IsTokens 64 text tokens
    × (IsFault tokens (length text) spot
    ⊎ ((trees : List QueryTree) × IsScript tokens trees × IsFirstOfScript tables trees spot)))

-- the queries that a preference script asks, with their names resolved
abbrev pub AsksFor : Tables → List ℕ → List Block → Type 0
AsksFor tables text blocks =
    (tokens : List Token) × (trees : List QueryTree) × IsTokens 64 text tokens
    × IsScript tokens trees × AreTyped tables trees blocks

-- the first fault of a script that is not too long
abbrev pub HasFault : Task → Tables → List ℕ → Spot → Type 0
HasFault (Ask wish) tables text spot = HasQueryFault tables text spot
HasFault Execute tables text spot = HasFirstFault tables text spot

-- what the script asks for
abbrev pub IsWork : Task → Tables → List ℕ → Work → Type 0
IsWork (Ask wish) tables text work =
    (blocks : List Block) × AsksFor tables text blocks × (work ≡ Statements wish tables blocks)
IsWork Execute tables text work =
    (queries : List SqlQuery) × ReadsAs tables text queries × (work ≡ Queries tables queries)

-- a script that is too long has its fault at the limit
pub record IsTooLong (task : Task) (text : List ℕ) (spot : Spot) : Type 0 where
  pub long : script_limit task < length text
  pub place : spot ≡ record { code = 106; at = script_limit task }

abbrev pub IsScriptFault : Task → Tables → List ℕ → Spot → Type 0
IsScriptFault task tables text spot =
    IsTooLong task text spot ⊎ ((length text ≤ script_limit task) × HasFault task tables text spot)

abbrev pub IsScriptWork : Task → Tables → List ℕ → Work → Type 0
IsScriptWork task tables text work =
    (length text ≤ script_limit task) × IsWork task tables text work
