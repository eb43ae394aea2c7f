-- What is left of a term over one table, and which of its leaves are closed. Both are this
-- project's own.
use Rattle.std.specs.Prelude.{ℕ, Bool, nat_eq, Option, Some, None, List, [], ◌∷◌, ◌++◌}
use Rattle.std.specs.Prelude.{if◌then◌else◌}
use Rattle.pref_terms.specs.declared.term.Leaf.{Leaf}
use Rattle.pref_terms.specs.declared.term.Term.{Term, Pareto, Prior, Dual, fold-Term}
use Rattle.pref_terms.specs.declared.term.Term as term
use Rattle.pref_terms.specs.declared.term.Term.TheOpen.{Term-F}
use Rattle.pref_terms.specs.Terms.{leaves_of}

-- whether the leaf stands on the table
abbrev pub is_on : ℕ → Leaf → Bool
is_on table leaf = nat_eq leaf.place.table table

-- two parts joined, or the one that is left
abbrev pub pareto_left : Option Term → Option Term → Option Term
pareto_left None q = q
pareto_left (Some p) None = Some p
pareto_left (Some p) (Some q) = Some (Pareto p q)

abbrev pub prior_left : Option Term → Option Term → Option Term
prior_left None q = q
prior_left (Some p) None = Some p
prior_left (Some p) (Some q) = Some (Prior p q)

-- what is left turned round, or nothing
abbrev pub dual_left : Option Term → Option Term
dual_left None = None
dual_left (Some p) = Some (Dual p)

abbrev pub restrict_step : ℕ → Term-F (Option Term) → Option Term
restrict_step table (Term-F.Leaf leaf) = if is_on table leaf then Some (term.Leaf leaf) else None
restrict_step table (Term-F.Pareto p q) = pareto_left p q
restrict_step table (Term-F.Prior p q) = prior_left p q
restrict_step table (Term-F.Dual p) = dual_left p

-- the term without the leaves of other tables: a constructor that loses one part becomes the other
-- part, and a dual term that loses its part is lost
abbrev pub restricted : ℕ → Term → Option Term
restricted table = fold-Term (Option Term) (restrict_step table)

-- the leaves that are left
abbrev pub leaves_left : Option Term → List Leaf
leaves_left None = []
leaves_left (Some t) = leaves_of t

abbrev pub closed_step : Term-F (List ℕ) → List ℕ
closed_step (Term-F.Leaf leaf) = leaf.number ∷ []
closed_step (Term-F.Pareto p q) = p ++ q
closed_step (Term-F.Prior p q) = p
closed_step (Term-F.Dual p) = []

-- the numbers of the leaves that are reached through Pareto nodes and first parts of prioritised
-- nodes alone
abbrev pub closed_numbers : Term → List ℕ
closed_numbers = fold-Term (List ℕ) closed_step
