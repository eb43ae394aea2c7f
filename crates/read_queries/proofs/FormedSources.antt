-- A FROM item that is read without a fault is well formed, and its columns are those that it shows.
use Rattle.std.proofs.Common.{◌≡◌, ◌≤◌, ◌<◌, ℕ, suc, Bool, true, false, not, ◌&&◌, ◌||◌, List, [], ◌∷◌, map, length, get_or, All, refl, sym, ap, subst, ◌∙◌, arith, Option, Some, None}
use Rattle.std.specs.List.{list_all, list_any}
use Rattle.std.specs.Str.{bytes_eq}
use Rattle.std.proofs.lemmas.Bool.{and_from, false≢true}
use Rattle.std.proofs.lemmas.Slice.Eq.{bytes_eq-Decides}
use Rattle.std.proofs.lemmas.List.{length-map}
use Rattle.std.proofs.lemmas.List.Elements.{All-nil, All-cons, All-head, All-tail}
use Rattle.prefsql_values.specs.declared.value.Domain.{Domain}
use Rattle.prefsql_values.specs.declared.value.Domain.TheVariants.{Integer, Chars}
use Rattle.prefsql_values.specs.Limits.{IsName}
use Rattle.prefsql_tables.specs.declared.schema.Column.{Column}
use Rattle.prefsql_tables.specs.Names.{names_of, table_place}
use Rattle.prefsql_tables.specs.Table.{Tables, no_table, columns_of}
use Rattle.prefsql_tables.specs.Valid.{IsSchema, IsTableSet}
use Rattle.query_tree.specs.declared.query.FromTree.{FromTree}
use Rattle.sql_tree.specs.Shown.{ShownColumn, domain_shape, table_columns}
use Rattle.sql_tree.specs.WellFormed.{JudgedSource, JudgedFrom, is_name, all_differ}
use Rattle.sql_tree.specs.declared.tree.SqlCond.TheViews as views
use Rattle.sql_tree.specs.declared.tree.SqlSource.{SqlSource, Table, Derived}
use Rattle.sql_tree.specs.declared.tree.SqlFrom.{SqlFrom}
use Rattle.sql_tree.specs.declared.tree.SqlTable.{SqlTable}
use Rattle.sql_text.specs.declared.named.NamedFrom.{NamedFrom}
use Rattle.sql_text.specs.declared.named.NamedFrom as named_from
use Rattle.sql_text.specs.declared.named.NamedQuery.{NamedQuery}
use Rattle.sql_resolver.specs.Scope.{ScopeItem, ScopeColumn}
use Rattle.sql_resolver.specs.Owed.{fault, fault_if}
use Rattle.sql_resolver.specs.Reading.{FromReading, from_reading, query_reading, table_column, table_reading, correlation, repeated}
use Rattle.read_queries.proofs.Kept.{Where, IsTableName}
use Rattle.read_queries.proofs.FaultsNone.{some_none, none_left, none_right, inner_none, not_owed}
use Rattle.read_queries.proofs.Fitting.{found_there}
use Rattle.read_queries.proofs.ColumnsMeant.{scope_column, scope_item}
use Rattle.read_queries.proofs.FormedConditions.{FormQuery}
use Rattle.read_queries.proofs.FormedOutputs.{HasName, ItemSeen, name_well}
use Rattle.read_queries.proofs.JudgedParts.{judged_query, judged_source, judged_from, judged_from_is, judged-Table, judged-Derived}
use Rattle.read_queries.proofs.Readings.{reading-Table, reading-Derived}

pub record FromFormed (r : FromReading) : Type 0 where
  pub well : (judged_from r.tree).well ≡ true
  pub item : r.item ≡ scope_item (judged_from r.tree).item
  pub seen : ItemSeen (judged_from r.tree).item

abbrev pub OfFrom : FromReading → Type 0
OfFrom r = r.faults ≡ [] → FromFormed r

from_formed : (name : List ℕ) (source : SqlSource) (j : JudgedSource) (columns : List ScopeColumn) (r : FromReading) → IsName name → judged_source source ≡ j → j.well ≡ true → columns ≡ map scope_column j.columns →
    1 ≤ length j.columns → All HasName j.columns → r.tree ≡ (let f : SqlFrom = record { name = name; source = source } in f) → r.item ≡ (let i : ScopeItem = record { name = name; columns = columns } in i) → FromFormed r
from_formed name source j columns r named is well same some names tree item =
    let J : JudgedSource → JudgedFrom = λ s. record { item = record { name = name; columns = s.columns }; well = is_name name && s.well } in
    let whole : judged_from r.tree ≡ J j = ap judged_from tree ∙ (judged_from_is (record { name = name; source = source }) ∙ ap J is) in
    record {
      well = ap (λ (f : JudgedFrom). f.well) whole ∙ and_from (is_name name) j.well (name_well name named) well;
      item = item ∙ (ap (λ cs. let i : ScopeItem = record { name = name; columns = cs } in i) same ∙ sym (ap (λ (f : JudgedFrom). scope_item f.item) whole));
      seen = subst ItemSeen (sym (ap (λ (f : JudgedFrom). f.item) whole)) (record { some = some; names = names });
    }

-- ---- tables

domain_kept : (d : Domain) → (domain_shape d).domain ≡ d
domain_kept Integer = refl
domain_kept Chars = refl

columns_same : (cs : List Column) → map table_column cs ≡ map scope_column (table_columns cs)
columns_same [] = refl
columns_same (c ∷ cs) =
    ap (λ d. let s : ScopeColumn = record { name = c.name; domain = Some d; bound = Some (domain_shape c.domain).bound } in s ∷ map table_column cs) (sym (domain_kept c.domain))
    ∙ ap (λ ss. let s : ScopeColumn = record { name = c.name; domain = Some (domain_shape c.domain).domain; bound = Some (domain_shape c.domain).bound } in s ∷ ss) (columns_same cs)

names_have : (cs : List Column) → All IsName (names_of cs) → All HasName (table_columns cs)
names_have [] all = All-nil HasName
names_have (c ∷ cs) all =
    All-cons HasName (record { name = c.name; shape = domain_shape c.domain }) (table_columns cs) (name_well c.name (All-head IsName c.name (names_of cs) all)) (names_have cs (All-tail IsName c.name (names_of cs) all))

names_well : (ns : List (List ℕ)) → All IsName ns → list_all is_name ns ≡ true
names_well [] all = refl
names_well (n ∷ ns) all = and_from (is_name n) (list_all is_name ns) (name_well n (All-head IsName n ns all)) (names_well ns (All-tail IsName n ns all))

not_equal : (a b : List ℕ) → (a ≡ b → ⊥) → bytes_eq a b ≡ false
not_equal a b differ = by (bytes_eq a b) (λ e. differ ((bytes_eq-Decides a b).0 e))
  where
    by : (t : Bool) → (t ≡ true → ⊥) → t ≡ false
    by true never = absurd (never refl)
    by false never = refl

or_false : (a b : Bool) → a ≡ false → b ≡ false → (a || b) ≡ false
or_false false false e f = refl
or_false true b e f = absurd (false≢true (sym e))
or_false false true e f = absurd (false≢true (sym f))

none_equal : (n : List ℕ) (ns : List (List ℕ)) → ((k : ℕ) → k < length ns → n ≡ get_or ns k [] → ⊥) → list_any (bytes_eq n) ns ≡ false
none_equal n [] differ = refl
none_equal n (m ∷ ns) differ =
    or_false (bytes_eq n m) (list_any (bytes_eq n) ns) (not_equal n m (λ e. differ 0 (omega arith) e)) (none_equal n ns (λ k lt e. differ (suc k) (omega (arith, lt)) e))

differ_well : (ns : List (List ℕ)) → ((i j : ℕ) → i < j → j < length ns → get_or ns i [] ≡ get_or ns j [] → ⊥) → all_differ ns ≡ true
differ_well [] differ = refl
differ_well (n ∷ ns) differ =
    and_from (not (list_any (bytes_eq n) ns)) (all_differ ns) (ap not (none_equal n ns (λ k lt e. differ 0 (suc k) (omega arith) (omega (arith, lt)) e)))
    (differ_well ns (λ i j lt in_ns e. differ (suc i) (suc j) (omega (arith, lt)) (omega (arith, in_ns)) e))

module _ (tables : Tables) where
  schema_of : IsTableSet tables → (index : ℕ) → index < length tables → IsSchema (columns_of tables index)
  schema_of set index lt = (set.all_valid index no_table lt).schema

  correlation_named : (t : FromTree) → IsTableName t → IsName (correlation t)
  correlation_named t is = by t.name is.name
    where
      by : (name : Option (List ℕ)) → Where IsName name → IsName (correlation (record { table = t.table; name = name; at = t.at; name_at = t.name_at }))
      by None w = is.table
      by (Some name) w = w

  place_formed : IsTableSet tables → (t : FromTree) → IsTableName t → (place : Option ℕ) → table_place tables t.table ≡ place → OfFrom (table_reading tables t place)
  place_formed set t named None is e = absurd (some_none (fault 301 t.at) [] e)
  place_formed set t named (Some index) is e =
      let columns = columns_of tables index in
      let s : SqlTable = record { index = index; name = t.table; schema = record { columns = columns } } in
      let there = (found_there tables t.table index is).there in
      let schema = schema_of set index there in
      let ns = names_of columns in
      let some = schema.not_empty in
      let enough : 1 ≤ length (table_columns columns) = omega (arith, some, length-map columns (λ (column : Column). let c : ShownColumn = record { name = column.name; shape = domain_shape column.domain } in c)) in
      from_formed (correlation t) (Table s) (record { columns = table_columns columns; well = is_name t.table && list_all is_name ns && all_differ ns }) (map table_column columns) (table_reading tables t (Some index)) (correlation_named t named)
      (ap judged_source (sym (views.rolls-Table s)) ∙ judged-Table s)
      (and_from (is_name t.table && list_all is_name ns) (all_differ ns) (and_from (is_name t.table) (list_all is_name ns) (name_well t.table named.table) (names_well ns schema.names)) (differ_well ns (λ i j lt in_ns. schema.differ i j [] lt in_ns)))
      (columns_same columns) enough (names_have columns schema.names) refl refl

  pub table_formed : IsTableSet tables → (t : FromTree) → IsTableName t → OfFrom (from_reading tables (named_from.Table t))
  table_formed set t named = subst OfFrom (sym (reading-Table tables t)) (place_formed set t named (table_place tables t.table) refl)

  -- ---- derived tables

  pub derived_formed : (q : NamedQuery) (name : List ℕ) (at : ℕ) → FormQuery tables q → IsName name → OfFrom (from_reading tables (named_from.Derived q name at))
  derived_formed q name at is named =
      let r = query_reading tables q [] in
      let j = judged_query r.tree [] in
      subst OfFrom (sym (reading-Derived tables q name at))
      (λ e.
      let of = is [] (inner_none r.at r.first e) in
      from_formed name (Derived r.tree) (record { columns = j.columns; well = j.well && not j.has_order }) r.columns _ named (ap judged_source (sym (views.rolls-Derived r.tree)) ∙ judged-Derived r.tree)
      (and_from j.well (not j.has_order) of.well (ap not of.plain)) of.columns of.some of.names refl refl)

-- ---- the names of the FROM items

abbrev names : List FromReading → List (List ℕ)
names rs = map (λ (r : FromReading). r.item.name) rs

record Apart (before : List (List ℕ)) (rs : List FromReading) : Type 0 where
  differ : all_differ (names rs) ≡ true
  new : All (λ (n : List ℕ). list_any (bytes_eq n) (names rs) ≡ false) before

left_false : (a b : Bool) → (a || b) ≡ false → a ≡ false
left_false false b e = refl
left_false true b e = absurd (false≢true (sym e))

right_false : (a b : Bool) → (a || b) ≡ false → b ≡ false
right_false false b e = e
right_false true b e = absurd (false≢true (sym e))

turned : (a b : List ℕ) → bytes_eq a b ≡ false → bytes_eq b a ≡ false
turned a b e = not_equal b a (λ same. false≢true (sym e ∙ (bytes_eq-Decides a b).1 (sym same)))

new_with : (m : List ℕ) (rs : List FromReading) (before : List (List ℕ)) → list_any (bytes_eq m) before ≡ false → All (λ (n : List ℕ). list_any (bytes_eq n) (names rs) ≡ false) before →
    All (λ (n : List ℕ). (bytes_eq n m || list_any (bytes_eq n) (names rs)) ≡ false) before
new_with m rs [] e all = All-nil (λ (n : List ℕ). (bytes_eq n m || list_any (bytes_eq n) (names rs)) ≡ false)
new_with m rs (b ∷ before) e all =
    let P : List ℕ → Type 0 = λ n. list_any (bytes_eq n) (names rs) ≡ false in
    All-cons (λ (n : List ℕ). (bytes_eq n m || list_any (bytes_eq n) (names rs)) ≡ false) b before
    (or_false (bytes_eq b m) (list_any (bytes_eq b) (names rs)) (turned m b (left_false (bytes_eq m b) (list_any (bytes_eq m) before) e)) (All-head P b before all))
    (new_with m rs before (right_false (bytes_eq m b) (list_any (bytes_eq m) before) e) (All-tail P b before all))

apart : (before : List (List ℕ)) (rs : List FromReading) → repeated before rs ≡ [] → Apart before rs
apart before [] e = record { differ = refl; new = none before }
  where
    none : (before : List (List ℕ)) → All (λ (n : List ℕ). list_any (bytes_eq n) (names []) ≡ false) before
    none [] = All-nil (λ (n : List ℕ). list_any (bytes_eq n) (names []) ≡ false)
    none (b ∷ before) = All-cons (λ (n : List ℕ). list_any (bytes_eq n) (names []) ≡ false) b before refl (none before)
apart before (r ∷ rs) e =
    let m = r.item.name in
    let here = fault_if (list_any (bytes_eq m) before) 302 r.name_at in
    let is = not_owed (list_any (bytes_eq m) before) 302 r.name_at (none_left here (repeated (m ∷ before) rs) e) in
    let rest = apart (m ∷ before) rs (none_right here (repeated (m ∷ before) rs) e) in
    let P : List ℕ → Type 0 = λ n. list_any (bytes_eq n) (names rs) ≡ false in
    record {
      differ = and_from (not (list_any (bytes_eq m) (names rs))) (all_differ (names rs)) (ap not (All-head P m before rest.new)) rest.differ;
      new = new_with m rs before is (All-tail P m before rest.new);
    }

pub names_differ : (rs : List FromReading) → repeated [] rs ≡ [] → all_differ (map (λ (r : FromReading). r.item.name) rs) ≡ true
names_differ rs e = (apart [] rs e).differ
