-- The preferences by which the best are taken one after the other, in place of a cascade. That they
-- are taken apart is this project's own.
use Rattle.std.specs.Prelude.{Bool, false, not, ◌&&◌, List, [], ◌∷◌, if◌then◌else◌}
use Rattle.base_prefs.specs.Kind.{is_explicit}
use Rattle.pref_terms.specs.Cascades.{nested, parts_of}
use Rattle.pref_terms.specs.declared.term.Term.{Term, fold-Term}
use Rattle.pref_terms.specs.declared.term.Term.TheOpen.{Term-F}

-- a single REGULAR leaf of a weak kind
abbrev pub ranks_step : Term-F Bool → Bool
ranks_step (Term-F.Leaf leaf) = not leaf.trivial && not (is_explicit leaf.base)
ranks_step (Term-F.Pareto p q) = false
ranks_step (Term-F.Prior p q) = false
ranks_step (Term-F.Dual p) = false

abbrev pub ranks_all : Term → Bool
ranks_all = fold-Term Bool ranks_step

-- each of the first parts that ranks all, but not the last part, by itself; then the rest as one
-- term
abbrev pub separated : List Term → List Term
separated [] = []
separated (part ∷ []) = part ∷ []
separated (part ∷ next ∷ more) =
    if ranks_all part then part ∷ separated (next ∷ more)
    else nested part (next ∷ more) ∷ []

-- the terms by which the best are taken, one after the other
abbrev pub cascade_of : Term → List Term
cascade_of t = separated (parts_of t)
