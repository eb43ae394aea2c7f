-- The conditions of a term, where it is known to be of a variant.
use Rattle.std.proofs.Common.{◌≡◌, Bool, true, false, not, List, [], ◌∷◌, refl, sym, ap, ◌∙◌}
use Rattle.prefsql_tables.specs.declared.place.ColumnPlace.{ColumnPlace}
use Rattle.pref_terms.specs.declared.term.Leaf.{Leaf}
use Rattle.pref_terms.specs.declared.term.Term.{Term, Pareto, Prior, Dual}
use Rattle.pref_terms.specs.declared.term.Term as term
use Rattle.sql_tree.specs.declared.tree.SqlCond.{And, Or}
use Rattle.rewritten_query.specs.Rankings.{Ranking, better_if, kind_better, leaf_ranking, lower_side, pareto_cond, prior_cond, ranking_of, upper_side}
use Rattle.rewritten_query.specs.Columns.{rank_column}
use Rattle.rewritten_query.proofs.RankingReads.{ranking_of-Leaf, better-Pareto, better-Prior, better-Dual, worse-Pareto, worse-Prior, worse-Dual, same-Pareto, same-Prior, same-Dual}

-- the sides of a leaf's condition, turned round or not
pub leaf_sides : (places : List ColumnPlace) (leaves : List Leaf) (leaf : Leaf) (turned : Bool)
    → kind_better (upper_side turned) (lower_side turned) leaf.base (rank_column places leaves leaf.number) ≡ better_if turned (leaf_ranking places leaves leaf)
leaf_sides places leaves leaf true = refl
leaf_sides places leaves leaf false = refl

module _ (places : List ColumnPlace) (leaves : List Leaf) (t : Term) where
  pub same_leaf : (leaf : Leaf) → t ≡ term.Leaf leaf → (leaf_ranking places leaves leaf).same ≡ (ranking_of places leaves t).same
  same_leaf leaf is = ap (λ (r : Ranking). r.same) (sym (ap (ranking_of places leaves) is ∙ ranking_of-Leaf places leaves leaf))

  pub same_pareto : (p q : Term) → t ≡ Pareto p q → And ((ranking_of places leaves p).same ∷ (ranking_of places leaves q).same ∷ []) ≡ (ranking_of places leaves t).same
  same_pareto p q is = sym (ap (λ s. (ranking_of places leaves s).same) is ∙ same-Pareto places leaves p q)

  pub same_prior : (p q : Term) → t ≡ Prior p q → And ((ranking_of places leaves p).same ∷ (ranking_of places leaves q).same ∷ []) ≡ (ranking_of places leaves t).same
  same_prior p q is = sym (ap (λ s. (ranking_of places leaves s).same) is ∙ same-Prior places leaves p q)

  pub same_dual : (p : Term) → t ≡ Dual p → (ranking_of places leaves p).same ≡ (ranking_of places leaves t).same
  same_dual p is = sym (ap (λ s. (ranking_of places leaves s).same) is ∙ same-Dual places leaves p)

  pub better_leaf : (turned : Bool) (leaf : Leaf) → t ≡ term.Leaf leaf → better_if turned (leaf_ranking places leaves leaf) ≡ better_if turned (ranking_of places leaves t)
  better_leaf turned leaf is = ap (better_if turned) (sym (ap (ranking_of places leaves) is ∙ ranking_of-Leaf places leaves leaf))

  pub better_pareto : (turned : Bool) (p q : Term) → t ≡ Pareto p q
      → pareto_cond (better_if turned (ranking_of places leaves p)) (ranking_of places leaves p).same (better_if turned (ranking_of places leaves q)) (ranking_of places leaves q).same
      ≡ better_if turned (ranking_of places leaves t)
  better_pareto false p q is = sym (ap (λ s. (ranking_of places leaves s).better) is ∙ better-Pareto places leaves p q)
  better_pareto true p q is = sym (ap (λ s. (ranking_of places leaves s).worse) is ∙ worse-Pareto places leaves p q)

  pub better_prior : (turned : Bool) (p q : Term) → t ≡ Prior p q
      → prior_cond (better_if turned (ranking_of places leaves p)) (ranking_of places leaves p).same (better_if turned (ranking_of places leaves q)) ≡ better_if turned (ranking_of places leaves t)
  better_prior false p q is = sym (ap (λ s. (ranking_of places leaves s).better) is ∙ better-Prior places leaves p q)
  better_prior true p q is = sym (ap (λ s. (ranking_of places leaves s).worse) is ∙ worse-Prior places leaves p q)

  pub better_dual : (turned : Bool) (p : Term) → t ≡ Dual p → better_if (not turned) (ranking_of places leaves p) ≡ better_if turned (ranking_of places leaves t)
  better_dual false p is = sym (ap (λ s. (ranking_of places leaves s).better) is ∙ better-Dual places leaves p)
  better_dual true p is = sym (ap (λ s. (ranking_of places leaves s).worse) is ∙ worse-Dual places leaves p)

pub ruleset same_reads = (same_leaf, same_pareto, same_prior)

pub ruleset better_reads = (better_leaf, better_pareto, better_prior)
