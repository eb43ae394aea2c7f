-- What makes a combination better by a term, or the same: said by recursion on the term, with the
-- relation of each base preference at the leaves (Pareto, prioritised and dual preferences:
-- Kießling, VLDB 2002).
use Rattle.std.specs.Prelude.{◌⊎◌}
use Rattle.std.proofs.Common.{Decides}
use Rattle.prefsql_tables.specs.Sight.{Sight}
use Rattle.base_prefs.specs.Kind.{IsBetter, IsSame}
use Rattle.base_prefs.specs.KindLimits.{IsSound}
use Rattle.pref_terms.specs.Terms.{Order}
use Rattle.pref_terms.specs.declared.term.Leaf.{Leaf}
use Rattle.pref_terms.specs.declared.term.Term.{Term}
use Rattle.pref_terms.specs.declared.term.Term.TheOpen.{Term-F}
use Rattle.pref_terms.specs.declared.term.Term.TheFolds.{rec-Term}

-- what makes one combination better than another, and what makes them the same, by what they show
pub record Relation : Type 1 where
  pub better : Sight → Sight → Type 0
  pub same : Sight → Sight → Type 0

-- by a leaf: as its base preference relates the two values of its column
abbrev pub leaf_relation : Leaf → Relation
leaf_relation leaf = record {
  better = λ y x. IsBetter leaf.base (y leaf.place) (x leaf.place);
  same = λ y x. IsSame leaf.base leaf.trivial (y leaf.place) (x leaf.place);
}

-- by both parts alike: better by one part, and better or the same by the other
abbrev pub pareto_relation : Relation → Relation → Relation
pareto_relation p q = record {
  better = λ y x.
      (p.better y x × (q.better y x ⊎ q.same y x)) ⊎ ((p.better y x ⊎ p.same y x) × q.better y x);
  same = λ y x. p.same y x × q.same y x;
}

-- by the first part, or the same by it and better by the second
abbrev pub prior_relation : Relation → Relation → Relation
prior_relation p q = record {
  better = λ y x. p.better y x ⊎ (p.same y x × q.better y x);
  same = λ y x. p.same y x × q.same y x;
}

-- the relation turned round: what was better is worse
abbrev pub dual_relation : Relation → Relation
dual_relation p = record { better = λ y x. p.better x y; same = p.same }

abbrev pub relation_step : (X : Type 0) → (X → Term) → (X → Relation) → Term-F X → Relation
relation_step X whole relation (Term-F.Leaf leaf) = leaf_relation leaf
relation_step X whole relation (Term-F.Pareto p q) = pareto_relation (relation p) (relation q)
relation_step X whole relation (Term-F.Prior p q) = prior_relation (relation p) (relation q)
relation_step X whole relation (Term-F.Dual p) = dual_relation (relation p)

abbrev pub relation_of : Term → Relation
relation_of = rec-Term Relation relation_step

abbrev pub IsBetterByTerm : Term → Sight → Sight → Type 0
IsBetterByTerm term y x = (relation_of term).better y x

-- the base preference of the leaf keeps its limits, as each one does
abbrev pub IsSoundLeaf : Leaf → Type 0
IsSoundLeaf leaf = IsSound leaf.base

-- the tests of the order decide what the relation says
pub record IsDecidedBy (relation : Relation) (order : Order) : Type 0 where
  pub better : (y x : Sight) → Decides (order.better y x) (relation.better y x)
  pub same : (y x : Sight) → Decides (order.same y x) (relation.same y x)
