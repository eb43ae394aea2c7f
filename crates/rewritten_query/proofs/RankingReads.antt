-- The better and the same condition of a term, variant by variant.
use Rattle.std.proofs.Common.{◌≡◌, List, [], ◌∷◌, ap}
use Rattle.prefsql_tables.specs.declared.place.ColumnPlace.{ColumnPlace}
use Rattle.pref_terms.specs.declared.term.Leaf.{Leaf}
use Rattle.pref_terms.specs.declared.term.Term.{Term, Pareto, Prior, Dual}
use Rattle.pref_terms.specs.declared.term.Term as term
use Rattle.pref_terms.specs.Induction.{fold-Leaf, fold-Pareto, fold-Prior, fold-Dual}
use Rattle.sql_tree.specs.declared.tree.SqlCond.{And, Or}
use Rattle.rewritten_query.specs.Rankings.{Ranking, leaf_ranking, pareto_cond, prior_cond, ranking_of, ranking_step}

module _ (places : List ColumnPlace) (leaves : List Leaf) where
  pub ranking_of-Leaf : (leaf : Leaf) → ranking_of places leaves (term.Leaf leaf) ≡ leaf_ranking places leaves leaf
  unfolding ranking_of
  ranking_of-Leaf = fold-Leaf Ranking (ranking_step places leaves)

  pub better-Pareto : (p q : Term) → (ranking_of places leaves (Pareto p q)).better
      ≡ Or (And ((ranking_of places leaves p).better ∷ Or ((ranking_of places leaves q).better ∷ (ranking_of places leaves q).same ∷ []) ∷ []) ∷ And ((ranking_of places leaves p).same ∷ (ranking_of places leaves q).better ∷ []) ∷ [])
  unfolding ranking_of
  better-Pareto p q = ap (λ (r : Ranking). r.better) (fold-Pareto Ranking (ranking_step places leaves) p q)

  pub same-Pareto : (p q : Term) → (ranking_of places leaves (Pareto p q)).same ≡ And ((ranking_of places leaves p).same ∷ (ranking_of places leaves q).same ∷ [])
  unfolding ranking_of
  same-Pareto p q = ap (λ (r : Ranking). r.same) (fold-Pareto Ranking (ranking_step places leaves) p q)

  pub better-Prior : (p q : Term) → (ranking_of places leaves (Prior p q)).better
      ≡ Or ((ranking_of places leaves p).better ∷ And ((ranking_of places leaves p).same ∷ (ranking_of places leaves q).better ∷ []) ∷ [])
  unfolding ranking_of
  better-Prior p q = ap (λ (r : Ranking). r.better) (fold-Prior Ranking (ranking_step places leaves) p q)

  pub same-Prior : (p q : Term) → (ranking_of places leaves (Prior p q)).same ≡ And ((ranking_of places leaves p).same ∷ (ranking_of places leaves q).same ∷ [])
  unfolding ranking_of
  same-Prior p q = ap (λ (r : Ranking). r.same) (fold-Prior Ranking (ranking_step places leaves) p q)

  pub worse-Pareto : (p q : Term) → (ranking_of places leaves (Pareto p q)).worse
      ≡ pareto_cond (ranking_of places leaves p).worse (ranking_of places leaves p).same (ranking_of places leaves q).worse (ranking_of places leaves q).same
  unfolding ranking_of
  worse-Pareto p q = ap (λ (r : Ranking). r.worse) (fold-Pareto Ranking (ranking_step places leaves) p q)

  pub worse-Prior : (p q : Term) → (ranking_of places leaves (Prior p q)).worse
      ≡ prior_cond (ranking_of places leaves p).worse (ranking_of places leaves p).same (ranking_of places leaves q).worse
  unfolding ranking_of
  worse-Prior p q = ap (λ (r : Ranking). r.worse) (fold-Prior Ranking (ranking_step places leaves) p q)

  pub better-Dual : (p : Term) → (ranking_of places leaves (Dual p)).better ≡ (ranking_of places leaves p).worse
  unfolding ranking_of
  better-Dual p = ap (λ (r : Ranking). r.better) (fold-Dual Ranking (ranking_step places leaves) p)

  pub worse-Dual : (p : Term) → (ranking_of places leaves (Dual p)).worse ≡ (ranking_of places leaves p).better
  unfolding ranking_of
  worse-Dual p = ap (λ (r : Ranking). r.worse) (fold-Dual Ranking (ranking_step places leaves) p)

  pub same-Dual : (p : Term) → (ranking_of places leaves (Dual p)).same ≡ (ranking_of places leaves p).same
  unfolding ranking_of
  same-Dual p = ap (λ (r : Ranking). r.same) (fold-Dual Ranking (ranking_step places leaves) p)
