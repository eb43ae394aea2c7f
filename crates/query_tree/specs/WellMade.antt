-- What is true of each tree that the grammar builds from tokens. These bounds and shapes are this
-- project's own.
use Rattle.std.specs.Prelude.{◌≡◌, ◌<◌, ◌≤◌, ◌+◌, ◌^◌, ℕ, Bool, true, false, List, [], length, All}
use Rattle.std.specs.Prelude.{⊤, IfSome, IfNone, IsNone, IsTrue}
use Rattle.std.specs.List.Sorted.{IsNonDecreasing}
use Rattle.prefsql_values.specs.Limits.{IsName, IsLiteralValue, IsUnsignedShort}
use Rattle.query_tree.specs.declared.name.NameTree.{NameTree}
use Rattle.query_tree.specs.declared.name.LiteralTree.{LiteralTree}
use Rattle.query_tree.specs.declared.condition.ScalarTree.{ScalarTree}
use Rattle.query_tree.specs.declared.condition.ScalarTree.TheVariants as scalar
use Rattle.query_tree.specs.declared.condition.CondTree.{CondTree, And', Or', Not', Compare}
use Rattle.query_tree.specs.declared.condition.CondTree.{Between, OneOf, IsNull, Top}
use Rattle.query_tree.specs.declared.condition.CondTree.{Row_of-CondTree, end_of-CondTree}
use Rattle.query_tree.specs.declared.condition.CondTree.{more_of-CondTree}
use Rattle.query_tree.specs.declared.preference.SetTree.{SetTree}
use Rattle.query_tree.specs.declared.preference.EdgeTree.{EdgeTree}
use Rattle.query_tree.specs.declared.preference.BaseForm.{BaseForm}
use Rattle.query_tree.specs.declared.preference.BaseForm.TheVariants as form
use Rattle.query_tree.specs.declared.preference.BaseTree.{BaseTree}
use Rattle.query_tree.specs.declared.preference.PrefTree.{PrefTree, Base, Pareto', Prior', Dual'}
use Rattle.query_tree.specs.declared.preference.PrefTree.{Row_of-PrefTree, end_of-PrefTree}
use Rattle.query_tree.specs.declared.preference.PrefTree.{more_of-PrefTree}
use Rattle.query_tree.specs.declared.query.ItemTree.{ItemTree}
use Rattle.query_tree.specs.declared.query.SelectTree.{SelectTree}
use Rattle.query_tree.specs.declared.query.SelectTree.TheVariants as select
use Rattle.query_tree.specs.declared.query.FromTree.{FromTree}
use Rattle.query_tree.specs.declared.query.OrderName.{OrderName}
use Rattle.query_tree.specs.declared.query.OrderName.TheVariants as order
use Rattle.query_tree.specs.declared.query.OrderTree.{OrderTree}
use Rattle.query_tree.specs.declared.query.QueryTree.{QueryTree}
use Rattle.query_tree.specs.Nesting.{nesting}
use Rattle.query_tree.specs.Places.{query_places}

-- ---- lists

-- fewer than 2^32 parts
abbrev pub IsCountable : ℕ → Type 0
IsCountable count = count < 2 ^ 32

-- at least one part
abbrev pub IsFilled : ℕ → Type 0
IsFilled count = (0 < count) × (count < 2 ^ 32)

-- two or more parts
abbrev pub IsChain : ℕ → Type 0
IsChain count = (2 ≤ count) × (count < 2 ^ 32)

-- ---- names and literals

pub record IsColumn (name : NameTree) : Type 0 where
  pub first : IsName name.first
  pub second : IfSome name.second IsName

abbrev pub IsLiteral : LiteralTree → Type 0
IsLiteral literal = IsLiteralValue literal.value

-- ---- conditions

-- what a condition may speak of: of rows alone as in WHERE, or of qualities too as in BUT ONLY
abbrev pub IsScalar : Bool → ScalarTree → Type 0
IsScalar qualities (scalar.Column name) = IsColumn name
IsScalar qualities (scalar.Literal literal) = IsLiteral literal
IsScalar qualities (scalar.Level name word) = IsTrue qualities × IsColumn name
IsScalar qualities (scalar.Distance name word) = IsTrue qualities × IsColumn name

-- the number of parts
abbrev pub cond_count : {n : _} → Row_of-CondTree n → ℕ
cond_count end_of-CondTree = 0
cond_count (more_of-CondTree part rest) = 1 + cond_count rest

abbrev mutual
  pub IsCond : Bool → CondTree → Type 0
  IsCond qualities (And' _ parts) = IsChain (cond_count parts) × AreConds qualities parts
  IsCond qualities (Or' _ parts) = IsChain (cond_count parts) × AreConds qualities parts
  IsCond qualities (Not' _ part) = AreConds qualities part
  IsCond qualities (Compare op a b) = IsScalar qualities a × IsScalar qualities b
  IsCond qualities (Between negated a low high) = IsScalar qualities a × IsScalar qualities low
      × IsScalar qualities high
  IsCond qualities (OneOf negated a list) = IsScalar qualities a × IsFilled (length list)
      × All (IsScalar qualities) list
  IsCond qualities (IsNull negated a) = IsScalar qualities a
  IsCond qualities (Top name) = IsTrue qualities × IsColumn name

  -- the same of each part
  pub AreConds : {n : _} → Bool → Row_of-CondTree n → Type 0
  AreConds qualities end_of-CondTree = ⊤
  AreConds qualities (more_of-CondTree part rest) = IsCond qualities part × AreConds qualities rest

-- a condition that is well made and nests at most 64 deep
pub record IsCondition (qualities : Bool) (cond : CondTree) : Type 0 where
  pub parts : IsCond qualities cond
  pub nested : nesting cond ≤ 64

-- ---- preferences

abbrev pub IsSet : SetTree → Type 0
IsSet set = IsFilled (length set.literals) × All IsLiteral set.literals

abbrev pub AreSets : List SetTree → Type 0
AreSets sets = IsCountable (length sets) × All IsSet sets

abbrev pub IsEdge : EdgeTree → Type 0
IsEdge edge = IsLiteral edge.upper × IsLiteral edge.lower

abbrev pub IsForm : BaseForm → Type 0
IsForm (form.Pos set) = IsSet set
IsForm (form.Neg set) = IsSet set
IsForm (form.PosPos first column second) = IsSet first × IsColumn column × IsSet second
IsForm (form.PosNeg first column second) = IsSet first × IsColumn column × IsSet second
IsForm (form.Layered before after) = AreSets before × AreSets after
    × (0 < length before + length after)
IsForm (form.Explicit edges) = IsFilled (length edges) × All IsEdge edges
IsForm (form.Around middle) = IsLiteral middle
IsForm (form.Between low high) = IsLiteral low × IsLiteral high
IsForm form.Lowest = ⊤
IsForm form.Highest = ⊤

-- an explicit preference is trivial
abbrev pub KeepsTrivial : BaseForm → Bool → Type 0
KeepsTrivial (form.Explicit edges) trivial = IsTrue trivial
KeepsTrivial _ trivial = ⊤

pub record IsBase (base : BaseTree) : Type 0 where
  pub column : IsColumn base.column
  pub form : IsForm base.form
  pub trivial : KeepsTrivial base.form base.trivial

abbrev pub pref_count : {n : _} → Row_of-PrefTree n → ℕ
pref_count end_of-PrefTree = 0
pref_count (more_of-PrefTree part rest) = 1 + pref_count rest

abbrev mutual
  pub IsPref : PrefTree → Type 0
  IsPref (Base base) = IsBase base
  IsPref (Pareto' _ parts) = IsChain (pref_count parts) × ArePrefs parts
  IsPref (Prior' _ parts) = IsChain (pref_count parts) × ArePrefs parts
  IsPref (Dual' _ part) = ArePrefs part

  -- the same of each part
  pub ArePrefs : {n : _} → Row_of-PrefTree n → Type 0
  ArePrefs end_of-PrefTree = ⊤
  ArePrefs (more_of-PrefTree part rest) = IsPref part × ArePrefs rest

-- ---- statements

-- a column or a quality, and no literal
abbrev pub IsOutput : ScalarTree → Type 0
IsOutput (scalar.Column name) = IsColumn name
IsOutput (scalar.Literal literal) = ⊥
IsOutput (scalar.Level name word) = IsColumn name
IsOutput (scalar.Distance name word) = IsColumn name

pub record IsItem (item : ItemTree) : Type 0 where
  pub value : IsOutput item.value
  pub name : IfSome item.name IsName

abbrev pub IsSelect : SelectTree → Type 0
IsSelect select.All = ⊤
IsSelect (select.Items items) = IsFilled (length items) × All IsItem items

pub record IsFrom (table : FromTree) : Type 0 where
  pub table_name : IsName table.table
  pub name : IfSome table.name IsName

abbrev pub IsOrderName : OrderName → Type 0
IsOrderName (order.Name name) = IsName name
IsOrderName (order.Position n) = IsUnsignedShort n

abbrev pub IsOrder : OrderTree → Type 0
IsOrder item = IsOrderName item.key

pub record IsQuery (query : QueryTree) : Type 0 where
  pub items : IsSelect query.select
  pub tables : IsFilled (length query.from) × All IsFrom query.from
  pub condition : IfSome query.filter (IsCondition false)
  pub preference : IfSome query.prefer IsPref
  pub grouping : IsCountable (length query.groups) × All IsColumn query.groups
  pub only_condition : IfSome query.only (IsCondition true)
  pub sorting : IsCountable (length query.order) × All IsOrder query.order
  pub ungrouped : IfNone query.prefer ((query.groups ≡ []) × IsNone query.only)
  pub places : IsNonDecreasing (query_places query)

-- the list of trees is well made
abbrev pub AreWellMade : List QueryTree → Type 0
AreWellMade trees = All IsQuery trees
