-- The parts of a prioritised term, which come one before the other (prioritised preference:
-- Kießling, VLDB 2002). That they are taken apart is this project's own. A dual term is one part.
use Rattle.std.specs.Prelude.{List, [], ◌∷◌, ◌++◌}
use Rattle.pref_terms.specs.declared.term.Term.{Term, Pareto, Prior, Dual, fold-Term}
use Rattle.pref_terms.specs.declared.term.Term as term
use Rattle.pref_terms.specs.declared.term.Term.TheOpen.{Term-F}

-- a term and its parts: those of both sides of a prioritised node, else the term itself
pub record Opened : Type 0 where
  pub whole : Term
  pub parts : List Term

abbrev pub open_step : Term-F Opened → Opened
open_step (Term-F.Leaf leaf) = record { whole = term.Leaf leaf; parts = term.Leaf leaf ∷ [] }
open_step (Term-F.Pareto p q) =
    let whole = Pareto p.whole q.whole in record { whole = whole; parts = whole ∷ [] }
open_step (Term-F.Prior p q) =
    record { whole = Prior p.whole q.whole; parts = p.parts ++ q.parts }
open_step (Term-F.Dual p) = let whole = Dual p.whole in record { whole = whole; parts = whole ∷ [] }

abbrev pub opened : Term → Opened
opened = fold-Term Opened open_step

abbrev pub parts_of : Term → List Term
parts_of t = (opened t).parts

-- the parts one before the other, nested to the left
abbrev pub nested : Term → List Term → Term
nested first [] = first
nested first (part ∷ parts) = nested (Prior first part) parts
