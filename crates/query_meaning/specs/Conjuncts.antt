-- The conditions that AND joins at the top of a condition, and a list of such conditions as one
-- (ISO/IEC 9075:1992, search condition).
use Rattle.std.specs.Prelude.{List, [], ◌∷◌}
use Rattle.conditions.specs.declared.condition.Cond.{Cond, And, out-Cond}
use Rattle.conditions.specs.declared.condition.Cond.TheOpen.{Cond-F}

abbrev pub conjuncts_of : Cond-F Cond → Cond → List Cond
conjuncts_of (Cond-F.And parts) cond = parts
conjuncts_of _ cond = cond ∷ []

-- the parts of an AND, else the one condition
abbrev pub conjuncts : Cond → List Cond
conjuncts cond = conjuncts_of (out-Cond cond) cond

-- the one condition, else the AND of all
abbrev pub joined : List Cond → Cond
joined [] = And []
joined (cond ∷ []) = cond
joined (cond ∷ other ∷ more) = And (cond ∷ other ∷ more)
