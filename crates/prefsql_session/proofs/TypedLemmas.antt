-- Typed statements and the queries that an SQL text reads as have answers.
use Rattle.std.proofs.Common.{List, [], ◌∷◌, All}
use Rattle.std.proofs.lemmas.List.Elements.{All-nil, All-cons, All-head, All-tail}
use Rattle.prefsql_tables.specs.Table.{Tables}
use Rattle.query_meaning.specs.declared.block.Block.{Block}
use Rattle.query_tree.specs.declared.query.QueryTree.{QueryTree}
use Rattle.query_typing.specs.Typing.{AreTyped}
use Rattle.sql_tree.specs.Fits as sql
use Rattle.sql_tree.specs.WellFormed.{IsWellFormed}
use Rattle.sql_tree.specs.declared.tree.SqlQuery.{SqlQuery}
use Rattle.prefsql_session.specs.Texts.{AreAnswerable, AreExecutable, IsAnswerable, IsExecutable}

pub typed_answerable : (tables : Tables) (trees : List QueryTree) (blocks : List Block) → AreTyped tables trees blocks → AreAnswerable tables blocks
typed_answerable tables [] [] typed = All-nil (IsAnswerable tables)
typed_answerable tables [] (block ∷ blocks) typed = absurd typed
typed_answerable tables (tree ∷ trees) [] typed = absurd typed
typed_answerable tables (tree ∷ trees) (block ∷ blocks) typed =
    All-cons (IsAnswerable tables) block blocks (record { valid = typed.0.valid; fits = typed.0.fits }) (typed_answerable tables trees blocks typed.1)

pub read_executable : (tables : Tables) (queries : List SqlQuery) → All IsWellFormed queries → All (sql.FitsTables tables) queries → AreExecutable tables queries
read_executable tables [] formed fit = All-nil (IsExecutable tables)
read_executable tables (query ∷ queries) formed fit =
    All-cons (IsExecutable tables) query queries
    (record { formed = All-head IsWellFormed query queries formed; fits = All-head (sql.FitsTables tables) query queries fit })
    (read_executable tables queries (All-tail IsWellFormed query queries formed) (All-tail (sql.FitsTables tables) query queries fit))
