-- The names that a written query gives, and the places to which they belong. They are this
-- project's own.
use Rattle.std.specs.Prelude.{ℕ, List, ◌∷◌}
use Rattle.std.specs.Fmt.{decimal}
use Rattle.prefsql_tables.specs.declared.place.ColumnPlace.{ColumnPlace}
use Rattle.sql_tree.specs.declared.tree.SqlScalar.{SqlScalar, Column}

-- a capital letter and a number
abbrev pub lettered : ℕ → ℕ → List ℕ
lettered letter n = letter ∷ decimal n

-- T1, T2, ..: the FROM tables
abbrev pub table_name : ℕ → List ℕ
table_name = lettered 84

-- C1, C2, ..: the columns that are used
abbrev pub column_name : ℕ → List ℕ
column_name = lettered 67

-- L1, L2, ..: what the leaves rank by
abbrev pub rank_name : ℕ → List ℕ
rank_name = lettered 76

-- E1, E2, ..: the codes of EXPLICIT leaves
abbrev pub code_name : ℕ → List ℕ
code_name = lettered 69

-- A1 and A2: the candidates, and once more their rivals
abbrev pub candidates_name : List ℕ
candidates_name = lettered 65 1

abbrev pub rivals_name : List ℕ
rivals_name = lettered 65 2

-- X1: the one item of the query of rivals
abbrev pub rival_name : List ℕ
rival_name = lettered 88 1

-- a column of the tables, where they stand in FROM
abbrev pub of_tables : ColumnPlace → SqlScalar
of_tables place = Column (record { up = 0; item = place.table; column = place.column })

-- a column of the one FROM item of the query round it
abbrev pub column_up : ℕ → ℕ → SqlScalar
column_up up column = Column (record { up = up; item = 0; column = column })
