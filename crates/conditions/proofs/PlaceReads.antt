-- The columns that a condition reads, variant by variant.
use Rattle.std.proofs.Common.{◌≡◌, Bool, List, [], ◌∷◌, ◌++◌, map, ap, ◌∙◌, append-nil}
use Rattle.std.specs.List.{flat_map}
use Rattle.std.proofs.lemmas.List.Folds.{flat_map-map}
use Rattle.prefsql_values.specs.declared.value.CompareOp.{CompareOp}
use Rattle.prefsql_tables.proofs.ProductLemmas.{flat_map-flat_map}
use Rattle.conditions.specs.declared.condition.Quality.{Quality}
use Rattle.conditions.specs.declared.condition.Scalar.{Scalar}
use Rattle.conditions.specs.declared.condition.Cond.{Cond, And, Or, Not}
use Rattle.conditions.specs.declared.condition.Cond as cond
use Rattle.conditions.specs.Meaning.{scalars_of}
use Rattle.conditions.proofs.CondReads.{scalars_of-And, scalars_of-Or, scalars_of-Not, scalars_of-Compare, scalars_of-Between, scalars_of-OneOf, scalars_of-IsNull, scalars_of-Top}
use Rattle.conditions.specs.Places.{read_by, scalar_places}

of_parts : (parts : List Cond) → flat_map scalar_places (flat_map (λ scalars. scalars) (map scalars_of parts)) ≡ flat_map read_by parts
of_parts parts = flat_map-flat_map scalar_places (λ scalars. scalars) (map scalars_of parts) ∙ flat_map-map (flat_map scalar_places) scalars_of parts

pub reads-And : (c : Cond) (parts : List Cond) → c ≡ And parts → read_by c ≡ flat_map read_by parts
reads-And c parts is = ap read_by is ∙ ap (flat_map scalar_places) (scalars_of-And parts) ∙ of_parts parts

pub reads-Or : (c : Cond) (parts : List Cond) → c ≡ Or parts → read_by c ≡ flat_map read_by parts
reads-Or c parts is = ap read_by is ∙ ap (flat_map scalar_places) (scalars_of-Or parts) ∙ of_parts parts

pub reads-Not : (c part : Cond) → c ≡ Not part → read_by c ≡ read_by part
reads-Not c part is = ap read_by is ∙ ap (flat_map scalar_places) (scalars_of-Not part)

pub reads-Compare : (c : Cond) (op : CompareOp) (a b : Scalar) → c ≡ cond.Compare op a b → read_by c ≡ scalar_places a ++ scalar_places b
reads-Compare c op a b is = ap read_by is ∙ ap (flat_map scalar_places) (scalars_of-Compare op a b) ∙ ap (λ more. scalar_places a ++ more) (append-nil (scalar_places b))

pub reads-Between : (c : Cond) (negate : Bool) (a low high : Scalar) → c ≡ cond.Between negate a low high → read_by c ≡ scalar_places a ++ (scalar_places low ++ scalar_places high)
reads-Between c negate a low high is = ap read_by is ∙ ap (flat_map scalar_places) (scalars_of-Between negate a low high) ∙ ap (λ more. scalar_places a ++ (scalar_places low ++ more)) (append-nil (scalar_places high))

pub reads-OneOf : (c : Cond) (negate : Bool) (a : Scalar) (list : List Scalar) → c ≡ cond.OneOf negate a list → read_by c ≡ scalar_places a ++ flat_map scalar_places list
reads-OneOf c negate a list is = ap read_by is ∙ ap (flat_map scalar_places) (scalars_of-OneOf negate a list)

pub reads-IsNull : (c : Cond) (negate : Bool) (a : Scalar) → c ≡ cond.IsNull negate a → read_by c ≡ scalar_places a
reads-IsNull c negate a is = ap read_by is ∙ ap (flat_map scalar_places) (scalars_of-IsNull negate a) ∙ append-nil (scalar_places a)

pub reads-Top : (c : Cond) (quality : Quality) → c ≡ cond.Top quality → read_by c ≡ quality.place ∷ []
reads-Top c quality is = ap read_by is ∙ ap (flat_map scalar_places) (scalars_of-Top quality)

pub ruleset place_reads = (reads-And, reads-Or, reads-Not, reads-Compare, reads-Between, reads-OneOf, reads-IsNull, reads-Top)
