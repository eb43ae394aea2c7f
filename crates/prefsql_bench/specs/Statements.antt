-- The three statements of the bench, with their names resolved. They are this project's own.
use Rattle.std.specs.Prelude.{ℕ, pos, false, Some, List, [], ◌∷◌, map, codes}
use Rattle.prefsql_tables.specs.declared.place.ColumnPlace.{ColumnPlace}
use Rattle.base_prefs.specs.declared.edge.ValueSet.{ValueSet}
use Rattle.base_prefs.specs.declared.kind.Kind.{Kind}
use Rattle.base_prefs.specs.declared.kind.Kind.TheVariants.{Around, Highest, Lowest, PosNeg}
use Rattle.pref_terms.specs.declared.term.Term.{Term, Pareto, Prior}
use Rattle.pref_terms.specs.declared.term.Term as term
use Rattle.conditions.specs.declared.condition.Scalar.TheVariants as scalar
use Rattle.query_meaning.specs.declared.block.Block.{Block}
use Rattle.query_meaning.specs.declared.block.FromTable.{FromTable}
use Rattle.query_meaning.specs.declared.block.Output.{Output}
use Rattle.prefsql_bench.specs.BenchTable.{bench_columns, number_value}

-- the columns by their numbers
abbrev pub column_id : ℕ
column_id = 0

abbrev pub column_a : ℕ
column_a = 1

abbrev pub column_b : ℕ
column_b = 2

abbrev pub column_c : ℕ
column_c = 3

abbrev pub column_g : ℕ
column_g = 4

abbrev pub bench_place : ℕ → ColumnPlace
bench_place column = record { table = 0; column = column }

-- the leaf with this number on a column, REGULAR
abbrev pub bench_leaf : ℕ → ℕ → Kind → Term
bench_leaf number column kind =
    term.Leaf (record { number = number; place = bench_place column; base = kind; trivial = false })

abbrev pub number_set : List ℕ → ValueSet
number_set numbers = record { values = map number_value numbers }

abbrev pub from_bench : FromTable
from_bench = record { index = 0; name = codes "BENCH"; schema = record { columns = bench_columns } }

abbrev pub output_id : Output
output_id = record { name = codes "ID"; scalar = scalar.Column (bench_place column_id) }

-- SELECT ID FROM BENCH PREFERRING term GROUPING groups
abbrev pub bench_block : Term → List ColumnPlace → Block
bench_block term groups = record {
  distinct = false;
  output = output_id ∷ [];
  from = from_bench ∷ [];
  filter = [];
  term = Some term;
  groups = groups;
  only = [];
  order = [];
}

-- SELECT ID FROM BENCH PREFERRING LOWEST(A) AND LOWEST(B) AND HIGHEST(C)
abbrev pub first_block : Block
first_block =
    bench_block
    (Pareto (Pareto (bench_leaf 1 column_a Lowest) (bench_leaf 2 column_b Lowest))
    (bench_leaf 3 column_c Highest))
    []

-- SELECT ID FROM BENCH PREFERRING A AROUND 500 CASCADE LOWEST(B) GROUPING G
abbrev pub second_block : Block
second_block =
    bench_block (Prior (bench_leaf 1 column_a (Around (pos 500))) (bench_leaf 2 column_b Lowest))
    (bench_place column_g ∷ [])

-- SELECT ID FROM BENCH PREFERRING (G IN (3, 7) ELSE G <> 0) AND LOWEST(A)
abbrev pub third_block : Block
third_block =
    bench_block
    (Pareto (bench_leaf 1 column_g (PosNeg (number_set (3 ∷ 7 ∷ [])) (number_set (0 ∷ []))))
    (bench_leaf 2 column_a Lowest))
    []

-- in the order of the statements
abbrev pub bench_blocks : List Block
bench_blocks = first_block ∷ second_block ∷ third_block ∷ []
