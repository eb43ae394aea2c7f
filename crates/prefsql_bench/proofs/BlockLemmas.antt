-- The queries of the bench are valid.
use Rattle.std.proofs.Common.{◌≡◌, ℕ, zero, suc, ◌<◌, ◌≤◌, false, pos, List, [], ◌∷◌, ◌++◌, length, All, refl, sym, ◌∙◌, subst, arith, codes, lit<, lit≤}
use Rattle.std.specs.Prelude.{AllPairs, ◌≢◌}
use Rattle.std.specs.List.{HoldsAt}
use Rattle.std.specs.Str.{chars}
use Rattle.std.proofs.lemmas.Bool.{false≢true}
use Rattle.std.proofs.lemmas.List.Elements.{All-nil, All-cons}
use Rattle.prefsql_values.specs.Limits.{IsName, IsLiteralValue}
use Rattle.prefsql_values.specs.declared.value.Value.{Value}
use Rattle.prefsql_tables.specs.declared.place.ColumnPlace.{ColumnPlace}
use Rattle.prefsql_tables.specs.declared.place.SortKey.{SortKey}
use Rattle.prefsql_tables.specs.declared.schema.Column.{Column}
use Rattle.base_prefs.specs.Kind.{is_explicit}
use Rattle.base_prefs.specs.KindLimits.{IsSound}
use Rattle.base_prefs.specs.Rankable.{IsRankable}
use Rattle.base_prefs.specs.Sets.{IsGivenSet}
use Rattle.base_prefs.specs.declared.edge.ValueSet.{ValueSet}
use Rattle.base_prefs.specs.declared.kind.Kind.{Kind}
use Rattle.base_prefs.specs.declared.kind.Kind.TheVariants.{Around, Highest, Lowest, PosNeg}
use Rattle.base_prefs.proofs.SetLaws.{share_two, two_kept}
use Rattle.pref_terms.specs.declared.term.Leaf.{Leaf}
use Rattle.pref_terms.specs.declared.term.Term.{Term, Pareto, Prior}
use Rattle.pref_terms.specs.declared.term.Term as term
use Rattle.pref_terms.specs.Equations.{leaves_of-Leaf, leaves_of-Pareto, leaves_of-Prior}
use Rattle.pref_terms.specs.Terms.{leaves_of}
use Rattle.query_meaning.specs.BlockFits.{IsLeaf, IsPlace, IsScalar}
use Rattle.query_meaning.specs.Valid.{AreNumbered, IsFromTable, IsOfColumn, IsOutput, IsValidBlock, IsValidLeaf, named_values}
use Rattle.query_meaning.specs.declared.block.FromTable.{FromTable}
use Rattle.query_meaning.specs.declared.block.Output.{Output}
use Rattle.query_meaning.proofs.CondParts.{no_conjuncts}
use Rattle.prefsql_bench.specs.BenchTable.{bench_columns, number_value}
use Rattle.prefsql_bench.specs.Statements.{bench_block, bench_blocks, bench_place, column_a, column_b, column_c, column_g, first_block, from_bench, number_set, output_id, second_block, third_block}
use Rattle.prefsql_bench.proofs.NameLemmas.{bench_is_name, bench_is_schema}

abbrev from : List FromTable
from = from_bench ∷ []

-- ---- leaves

-- every column of the table can be ranked
rankable : (kind : Kind) (column : ℕ) → column < 5 → HoldsAt (λ (c : Column). IsRankable kind c.domain c.nullable) bench_columns column
rankable kind zero small d = record { no_null = refl; numbers = λ _. refl }
rankable kind (suc zero) small d = record { no_null = refl; numbers = λ _. refl }
rankable kind (suc (suc zero)) small d = record { no_null = refl; numbers = λ _. refl }
rankable kind (suc (suc (suc zero))) small d = record { no_null = refl; numbers = λ _. refl }
rankable kind (suc (suc (suc (suc zero)))) small d = record { no_null = refl; numbers = λ _. refl }
rankable kind (suc (suc (suc (suc (suc k))))) small d = absurd (omega arith)

record IsBenchLeaf (leaf : Leaf) : Type 0 where
  placed : IsLeaf from leaf
  valid : IsValidLeaf from leaf

abbrev leaf_on : ℕ → ℕ → Kind → Leaf
leaf_on number column kind = record { number = number; place = bench_place column; base = kind; trivial = false }

bench_leaf_is : (number column : ℕ) (kind : Kind) → column < 5 → is_explicit kind ≡ false → IsSound kind
    → All (IsOfColumn from (bench_place column)) (named_values kind) → IsBenchLeaf (leaf_on number column kind)
bench_leaf_is number column kind small weak sound values = record {
  placed = record {
    ranked = record { there = record { table = lit< tt; column = small }; rankable = rankable kind column small };
    trivial = λ is. absurd (false≢true (sym weak ∙ is));
  };
  valid = record { sound = sound; values = values };
}

-- ---- the block

id_is_name : IsName (codes "ID")
unfolding chars
id_is_name = record { not_empty = lit≤ tt; short = lit≤ tt }

module _ (term : Term) (groups : List ColumnPlace) (leaves : List Leaf) (of_term : leaves_of term ≡ leaves) where
  bench_block_valid : length leaves ≤ 8 → AreNumbered leaves → All IsBenchLeaf leaves → All (IsPlace from) groups → AllPairs ◌≢◌ groups → IsValidBlock (bench_block term groups)
  bench_block_valid few numbered are places differ = record {
    some_from = lit< tt;
    few_from = lit≤ tt;
    from = All-cons IsFromTable from_bench [] (record { name = bench_is_name; schema = bench_is_schema }) (All-nil IsFromTable);
    some_output = lit< tt;
    few_output = lit< tt;
    output = All-cons (IsOutput (leaves_of term)) output_id [] (record { name = id_is_name; scalar = tt }) (All-nil (IsOutput (leaves_of term)));
    places = record {
      output = All-cons (λ (output : Output). IsScalar from output.scalar) output_id [] (record { table = lit< tt; column = lit< tt }) (All-nil (λ (output : Output). IsScalar from output.scalar));
      filter = All-nil (IsScalar from);
      leaves = subst (All (IsLeaf from)) (sym of_term) (λ k d small. (are k d small).placed);
      groups = places;
      only = All-nil (IsScalar from);
    };
    few_leaves = subst (λ (ls : List Leaf). length ls ≤ 8) (sym of_term) few;
    numbered = subst AreNumbered (sym of_term) numbered;
    leaves = subst (All (IsValidLeaf from)) (sym of_term) (λ k d small. (are k d small).valid);
    filter = no_conjuncts from [];
    only = no_conjuncts from (leaves_of term);
    groups = differ;
    ungrouped = tt;
    order = All-nil (λ (key : SortKey). key.column < 1);
  }

no_groups : AllPairs (λ (a b : ColumnPlace). a ≢ b) []
no_groups i j d before small = absurd (omega arith)

one_group : (place : ColumnPlace) → AllPairs (λ (a b : ColumnPlace). a ≢ b) (place ∷ [])
one_group place i j d before small = absurd (omega arith)

-- ---- the three blocks

two_leaves : (p q : Leaf) → leaves_of (Pareto (term.Leaf p) (term.Leaf q)) ≡ p ∷ q ∷ []
two_leaves p q = leaves_of-Pareto (term.Leaf p) (term.Leaf q) ∙ (λ j. leaves_of-Leaf p j ++ leaves_of-Leaf q j)

three_leaves : (p q r : Leaf) → leaves_of (Pareto (Pareto (term.Leaf p) (term.Leaf q)) (term.Leaf r)) ≡ p ∷ q ∷ r ∷ []
three_leaves p q r = leaves_of-Pareto (Pareto (term.Leaf p) (term.Leaf q)) (term.Leaf r) ∙ (λ j. two_leaves p q j ++ leaves_of-Leaf r j)

cascade_leaves : (p q : Leaf) → leaves_of (Prior (term.Leaf p) (term.Leaf q)) ≡ p ∷ q ∷ []
cascade_leaves p q = leaves_of-Prior (term.Leaf p) (term.Leaf q) ∙ (λ j. leaves_of-Leaf p j ++ leaves_of-Leaf q j)

lowest_is : (number column : ℕ) → column < 5 → IsBenchLeaf (leaf_on number column Lowest)
lowest_is number column small = bench_leaf_is number column Lowest small refl tt (All-nil (IsOfColumn from (bench_place column)))

highest_is : (number column : ℕ) → column < 5 → IsBenchLeaf (leaf_on number column Highest)
highest_is number column small = bench_leaf_is number column Highest small refl tt (All-nil (IsOfColumn from (bench_place column)))

around_is : IsBenchLeaf (leaf_on 1 column_a (Around (pos 500)))
around_is =
    bench_leaf_is 1 column_a (Around (pos 500)) (lit< tt) refl (lit< tt)
    (All-cons (IsOfColumn from (bench_place column_a)) (number_value 500) [] refl (All-nil (IsOfColumn from (bench_place column_a))))

abbrev good : ValueSet
good = number_set (3 ∷ 7 ∷ [])

abbrev bad : ValueSet
bad = number_set (0 ∷ [])

good_given : IsGivenSet good
good_given = record {
  some = lit< tt;
  literal = All-cons IsLiteralValue (number_value 3) (number_value 7 ∷ []) (lit< tt)
      (All-cons IsLiteralValue (number_value 7) [] (lit< tt) (All-nil IsLiteralValue));
}

bad_given : IsGivenSet bad
bad_given = record { some = lit< tt; literal = All-cons IsLiteralValue (number_value 0) [] (lit< tt) (All-nil IsLiteralValue) }

groups_are : IsBenchLeaf (leaf_on 1 column_g (PosNeg good bad))
groups_are =
    let OfColumn : Value → Type 0 = IsOfColumn from (bench_place column_g) in
    bench_leaf_is 1 column_g (PosNeg good bad) (lit< tt) refl
    (two_kept good bad good_given bad_given (lit≤ tt) (λ both. false≢true ((share_two good bad).1 both)))
    (All-cons OfColumn (number_value 3) (number_value 7 ∷ number_value 0 ∷ []) refl
    (All-cons OfColumn (number_value 7) (number_value 0 ∷ []) refl
    (All-cons OfColumn (number_value 0) [] refl (All-nil OfColumn))))

two_are : (p q : Leaf) → IsBenchLeaf p → IsBenchLeaf q → All IsBenchLeaf (p ∷ q ∷ [])
two_are p q p_is q_is = All-cons IsBenchLeaf p (q ∷ []) p_is (All-cons IsBenchLeaf q [] q_is (All-nil IsBenchLeaf))

first_valid : IsValidBlock first_block
first_valid =
    let a = leaf_on 1 column_a Lowest in
    let b = leaf_on 2 column_b Lowest in
    let c = leaf_on 3 column_c Highest in
    bench_block_valid (Pareto (Pareto (term.Leaf a) (term.Leaf b)) (term.Leaf c)) [] (a ∷ b ∷ c ∷ []) (three_leaves a b c) (lit≤ tt) refl
    (All-cons IsBenchLeaf a (b ∷ c ∷ []) (lowest_is 1 column_a (lit< tt)) (two_are b c (lowest_is 2 column_b (lit< tt)) (highest_is 3 column_c (lit< tt))))
    (All-nil (IsPlace from)) no_groups

second_valid : IsValidBlock second_block
second_valid =
    let a = leaf_on 1 column_a (Around (pos 500)) in
    let b = leaf_on 2 column_b Lowest in
    let g = bench_place column_g in
    bench_block_valid (Prior (term.Leaf a) (term.Leaf b)) (g ∷ []) (a ∷ b ∷ []) (cascade_leaves a b) (lit≤ tt) refl
    (two_are a b around_is (lowest_is 2 column_b (lit< tt)))
    (All-cons (IsPlace from) g [] (record { table = lit< tt; column = lit< tt }) (All-nil (IsPlace from)))
    (one_group g)

third_valid : IsValidBlock third_block
third_valid =
    let g = leaf_on 1 column_g (PosNeg good bad) in
    let a = leaf_on 2 column_a Lowest in
    bench_block_valid (Pareto (term.Leaf g) (term.Leaf a)) [] (g ∷ a ∷ []) (two_leaves g a) (lit≤ tt) refl
    (two_are g a groups_are (lowest_is 2 column_a (lit< tt)))
    (All-nil (IsPlace from)) no_groups

pub blocks_valid : All IsValidBlock bench_blocks
blocks_valid =
    All-cons IsValidBlock first_block (second_block ∷ third_block ∷ []) first_valid
    (All-cons IsValidBlock second_block (third_block ∷ []) second_valid
    (All-cons IsValidBlock third_block [] third_valid (All-nil IsValidBlock)))
