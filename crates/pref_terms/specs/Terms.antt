-- Which of two combinations of rows is better by a term (Pareto, prioritised and dual preferences,
-- and preferences within groups: Kießling, VLDB 2002).
use Rattle.std.specs.Prelude.{ℕ, ℤ, neg_ℤ, Bool, List, [], ◌∷◌, ◌++◌, map}
use Rattle.std.specs.List.{list_all}
use Rattle.std.specs.Ordering.{on, int_cmp, eq_of_both, flip_args}
use Rattle.std.specs.Cmp.Lexicographic.{slice_cmp}
use Rattle.std.specs.declared.cmp.Ordering.{Ordering}
use Rattle.prefsql_values.specs.Value.{value_eq}
use Rattle.prefsql_tables.specs.declared.place.ColumnPlace.{ColumnPlace}
use Rattle.prefsql_tables.specs.declared.place.Combo.{Combo}
use Rattle.prefsql_tables.specs.Table.{Tables}
use Rattle.prefsql_tables.specs.Sight.{Sight, sight}
use Rattle.order_laws.specs.Combine.{pareto_better, prior_better}
use Rattle.base_prefs.specs.Kind.{better_of, same_of, key_of}
use Rattle.pref_terms.specs.declared.term.Leaf.{Leaf}
use Rattle.pref_terms.specs.declared.term.Term.{Term, fold-Term}
use Rattle.pref_terms.specs.declared.term.Term.TheOpen.{Term-F}

-- which of two combinations, by what they show, is better, and which are the same
pub record Order : Type 0 where
  pub better : Sight → Sight → Bool
  pub same : Sight → Sight → Bool

-- by a leaf: as its base preference ranks the two values of its column
abbrev pub leaf_order : Leaf → Order
leaf_order leaf = record {
  better = λ y x. better_of leaf.base (y leaf.place) (x leaf.place);
  same = λ y x. same_of leaf.base leaf.trivial (y leaf.place) (x leaf.place);
}

-- one level of a term, with the order of each part in its place: by a Pareto term a combination is
-- better where it is better by one part, and better or the same by the other; by a prioritised one
-- where it is better by the first, or the same by it and better by the second; by both two are the
-- same where they are the same by both parts; by a dual one it is better where the other is better
-- by the part, and the same where it is so by the part
abbrev pub order_step : Term-F Order → Order
order_step (Term-F.Leaf leaf) = leaf_order leaf
order_step (Term-F.Pareto p q) = record {
  better = pareto_better p.better p.same q.better q.same;
  same = eq_of_both p.same q.same;
}
order_step (Term-F.Prior p q) = record {
  better = prior_better p.better p.same q.better;
  same = eq_of_both p.same q.same;
}
order_step (Term-F.Dual p) = record { better = flip_args p.better; same = p.same }

-- the order of a term
abbrev pub order_of : Term → Order
order_of = fold-Term Order order_step

abbrev pub leaves_step : Term-F (List Leaf) → List Leaf
leaves_step (Term-F.Leaf leaf) = leaf ∷ []
leaves_step (Term-F.Pareto p q) = p ++ q
leaves_step (Term-F.Prior p q) = p ++ q
leaves_step (Term-F.Dual p) = p

-- the leaves of a term, as they are written
abbrev pub leaves_of : Term → List Leaf
leaves_of = fold-Term (List Leaf) leaves_step

abbrev pub keys_step : Sight → Term-F (List ℤ) → List ℤ
keys_step x (Term-F.Leaf leaf) = key_of leaf.base (x leaf.place) ∷ []
keys_step x (Term-F.Pareto p q) = p ++ q
keys_step x (Term-F.Prior p q) = p ++ q
keys_step x (Term-F.Dual p) = map neg_ℤ p

-- the keys of the leaves, in their order; each dual term changes the sign of those below it, so a
-- leaf under an odd number of them has its key's order reversed
abbrev pub keys_of : Term → Sight → List ℤ
keys_of term x = fold-Term (List ℤ) (keys_step x) term

-- how the keys compare: the first two that differ decide
abbrev pub key_order : Term → Sight → Sight → Ordering
key_order term = on (keys_of term) (slice_cmp int_cmp)

-- they are not distinct on every group column
abbrev pub is_same_group : List ColumnPlace → Sight → Sight → Bool
is_same_group groups y x = list_all (λ place. value_eq (y place) (x place)) groups

-- the order of a term within the groups: combinations of different groups are neither better nor
-- the same
abbrev pub grouped_order : List ColumnPlace → Term → Order
grouped_order groups term = record {
  better = eq_of_both (is_same_group groups) ((order_of term).better);
  same = eq_of_both (is_same_group groups) ((order_of term).same);
}

-- what a combination shows, of the FROM tables from position `first` on
abbrev pub shown : Tables → List ℕ → ℕ → Combo → Sight
shown tables from first combo = sight tables from first combo.rows
