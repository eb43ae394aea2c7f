-- The places that a tree holds, in the order in which its parts are written in the script. This
-- order is this project's own.
use Rattle.std.specs.Prelude.{ℕ, List, [], ◌∷◌, ◌++◌, map, Option, Some, None}
use Rattle.std.specs.List.{concat, flat_map}
use Rattle.query_tree.specs.declared.condition.ScalarTree.{ScalarTree}
use Rattle.query_tree.specs.declared.condition.ScalarTree.TheVariants as scalar
use Rattle.query_tree.specs.declared.condition.CondTree.{CondTree, fold-CondTree}
use Rattle.query_tree.specs.declared.condition.CondTree.TheOpen.{CondTree-F}
use Rattle.query_tree.specs.declared.preference.SetTree.{SetTree}
use Rattle.query_tree.specs.declared.preference.EdgeTree.{EdgeTree}
use Rattle.query_tree.specs.declared.preference.BaseForm.{BaseForm}
use Rattle.query_tree.specs.declared.preference.BaseForm.TheVariants as form
use Rattle.query_tree.specs.declared.preference.BaseTree.{BaseTree}
use Rattle.query_tree.specs.declared.preference.PrefTree.{PrefTree, fold-PrefTree}
use Rattle.query_tree.specs.declared.preference.PrefTree.TheOpen.{PrefTree-F}
use Rattle.query_tree.specs.declared.query.SelectTree.{SelectTree}
use Rattle.query_tree.specs.declared.query.SelectTree.TheVariants as select
use Rattle.query_tree.specs.declared.query.QueryTree.{QueryTree}

abbrev pub scalar_places : ScalarTree → List ℕ
scalar_places (scalar.Column name) = name.at ∷ []
scalar_places (scalar.Literal literal) = literal.at ∷ []
scalar_places (scalar.Level name word) = word ∷ name.at ∷ []
scalar_places (scalar.Distance name word) = word ∷ name.at ∷ []

-- one layer of a condition, with the places of each part in its place
abbrev pub cond_places_step : CondTree-F (List ℕ) → List ℕ
cond_places_step (CondTree-F.And parts) = concat parts
cond_places_step (CondTree-F.Or parts) = concat parts
cond_places_step (CondTree-F.Not part) = part
cond_places_step (CondTree-F.Compare op a b) = scalar_places a ++ scalar_places b
cond_places_step (CondTree-F.Between negated a low high) =
    scalar_places a ++ scalar_places low ++ scalar_places high
cond_places_step (CondTree-F.OneOf negated a list) = scalar_places a ++ flat_map scalar_places list
cond_places_step (CondTree-F.IsNull negated a) = scalar_places a
cond_places_step (CondTree-F.Top name) = name.at ∷ []

unfoldable pub cond_places : CondTree → List ℕ
cond_places = fold-CondTree (List ℕ) cond_places_step

abbrev pub set_places : SetTree → List ℕ
set_places set = map (λ literal. literal.at) set.literals

abbrev pub edge_places : EdgeTree → List ℕ
edge_places edge = edge.upper.at ∷ edge.lower.at ∷ []

abbrev pub form_places : BaseForm → List ℕ
form_places (form.Pos set) = set_places set
form_places (form.Neg set) = set_places set
form_places (form.PosPos first column second) = set_places first ++ column.at ∷ set_places second
form_places (form.PosNeg first column second) = set_places first ++ column.at ∷ set_places second
form_places (form.Layered before after) = flat_map set_places before ++ flat_map set_places after
form_places (form.Explicit edges) = flat_map edge_places edges
form_places (form.Around middle) = middle.at ∷ []
form_places (form.Between low high) = low.at ∷ high.at ∷ []
form_places form.Lowest = []
form_places form.Highest = []

abbrev pub base_places : BaseTree → List ℕ
base_places base = base.at ∷ base.column.at ∷ form_places base.form

abbrev pub pref_places_step : PrefTree-F (List ℕ) → List ℕ
pref_places_step (PrefTree-F.Base base) = base_places base
pref_places_step (PrefTree-F.Pareto parts) = concat parts
pref_places_step (PrefTree-F.Prior parts) = concat parts
pref_places_step (PrefTree-F.Dual part) = part

unfoldable pub pref_places : PrefTree → List ℕ
pref_places = fold-PrefTree (List ℕ) pref_places_step

abbrev pub select_places : SelectTree → List ℕ
select_places select.All = []
select_places (select.Items items) = flat_map (λ item. scalar_places item.value) items

-- the places of a part that is written, and none of one that is not
abbrev pub places_if : {A : Type 0} → (A → List ℕ) → Option A → List ℕ
places_if places None = []
places_if places (Some part) = places part

unfoldable pub query_places : QueryTree → List ℕ
query_places query =
    select_places query.select ++ flat_map (λ table. table.at ∷ table.name_at ∷ []) query.from
    ++ places_if cond_places query.filter
    ++ places_if pref_places query.prefer ++ map (λ column. column.at) query.groups
    ++ places_if cond_places query.only
    ++ map (λ item. item.at) query.order
