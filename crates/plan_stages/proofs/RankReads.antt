-- Whether a term is a single leaf that ranks all, variant by variant.
use Rattle.std.proofs.Common.{◌≡◌, Bool, false, not, ◌&&◌}
use Rattle.base_prefs.specs.Kind.{is_explicit}
use Rattle.pref_terms.specs.declared.term.Leaf.{Leaf}
use Rattle.pref_terms.specs.declared.term.Term.{Term, Pareto, Prior, Dual}
use Rattle.pref_terms.specs.declared.term.Term as term
use Rattle.pref_terms.specs.Induction.{fold-Leaf, fold-Pareto, fold-Prior, fold-Dual}
use Rattle.plan_stages.specs.Separation.{ranks_all, ranks_step}

pub ranks-Leaf : (leaf : Leaf) → ranks_all (term.Leaf leaf) ≡ (not leaf.trivial && not (is_explicit leaf.base))
ranks-Leaf = fold-Leaf Bool ranks_step

pub ranks-Pareto : (p q : Term) → ranks_all (Pareto p q) ≡ false
ranks-Pareto = fold-Pareto Bool ranks_step

pub ranks-Prior : (p q : Term) → ranks_all (Prior p q) ≡ false
ranks-Prior = fold-Prior Bool ranks_step

pub ranks-Dual : (p : Term) → ranks_all (Dual p) ≡ false
ranks-Dual = fold-Dual Bool ranks_step

pub ranks_all-Leaf : (t : Term) (leaf : Leaf) → t ≡ term.Leaf leaf → ranks_all t ≡ (not leaf.trivial && not (is_explicit leaf.base))
ranks_all-Leaf t leaf is = rw is (ranks-Leaf leaf)

pub ranks_all-Pareto : (t p q : Term) → t ≡ Pareto p q → ranks_all t ≡ false
ranks_all-Pareto t p q is = rw is (ranks-Pareto p q)

pub ranks_all-Prior : (t p q : Term) → t ≡ Prior p q → ranks_all t ≡ false
ranks_all-Prior t p q is = rw is (ranks-Prior p q)

pub ranks_all-Dual : (t p : Term) → t ≡ Dual p → ranks_all t ≡ false
ranks_all-Dual t p is = rw is (ranks-Dual p)

pub ruleset rank_reads = (ranks_all-Leaf, ranks_all-Pareto, ranks_all-Prior, ranks_all-Dual)
