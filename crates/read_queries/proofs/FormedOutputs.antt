-- The output columns of a query that is read without a fault are well formed and have names.
use Rattle.std.proofs.Common.{◌≡◌, ◌≤◌, ◌<◌, ◌+◌, ◌^◌, ℕ, suc, true, false, ◌&&◌, List, [], ◌∷◌, ◌++◌, map, length, get_or, All, sym, ap, subst, ◌∙◌, arith, Option, Some, None}
use Rattle.std.specs.Prelude.{nat_le, nat_lt, codes}
use Rattle.std.specs.Fmt.{decimal}
use Rattle.std.specs.Str.{chars}
use Rattle.std.proofs.lemmas.Bool.{and_from, lt-ltb}
use Rattle.std.proofs.lemmas.Bool.Decides.{nat_tests}
use Rattle.std.proofs.lemmas.Fmt.{IsAscii-decimal, length-decimal-le}
use Rattle.std.proofs.lemmas.Str.{chars-IsAscii}
use Rattle.std.proofs.lemmas.Str.Ascii.{IsAscii-cons}
use Rattle.std.proofs.lemmas.List.Elements.{All-nil, All-cons, All-head, All-tail, All-append}
use Rattle.prefsql_values.specs.Limits.{IsName}
use Rattle.sql_tree.specs.Shown.{View, ShownItem, ShownColumn, number_shape, column_at as shown_at}
use Rattle.sql_tree.specs.WellFormed.{JudgedItem, JudgedScalar, is_name, is_in_range}
use Rattle.sql_tree.specs.declared.tree.SqlPlace.{SqlPlace}
use Rattle.sql_tree.specs.declared.tree.SqlCond.TheViews as views
use Rattle.sql_tree.specs.declared.tree.SqlScalar.{Column}
use Rattle.sql_tree.specs.declared.tree.SqlItem.{SqlItem}
use Rattle.sql_resolver.specs.Scope.{ScopeColumn}
use Rattle.sql_resolver.specs.Reading.{ScalarReading, ItemReading, OutputReading, output_name, output_of, outputs_from, column_output, columns_from, all_columns}
use Rattle.read_queries.proofs.Kept.{Where}
use Rattle.read_queries.proofs.ColumnsMeant.{scope_column, scope_item}
use Rattle.read_queries.proofs.FormedScalars.{ScalarFormed, OfScalar}
use Rattle.read_queries.proofs.JudgedParts.{judged_scalar, judged_item, judged-Column, judged_item_is}

-- ---- names

one_le : (n : ℕ) → 1 ≤ n → nat_le 1 n ≡ true
one_le n le = grind (arith, nat_tests)

most_le : (n : ℕ) → n ≤ 64 → nat_le n 64 ≡ true
most_le n le = grind (arith, nat_tests)

pub name_well : (text : List ℕ) → IsName text → is_name text ≡ true
name_well text is = and_from (nat_le 1 (length (chars text))) (nat_le (length (chars text)) 64) (one_le (length (chars text)) is.not_empty) (most_le (length (chars text)) is.short)

numbered : (at : ℕ) → at < 10 ^ 18 → IsName (codes "COL" ++ decimal at)
numbered at small =
    let wide : at < 2 ^ 64 = omega (arith, small) in
    let digits = length-decimal-le 18 at (omega arith) small wide in
    let whole = ap length (chars-IsAscii (67 ∷ (79 ∷ (76 ∷ decimal at))) (IsAscii-cons 67 (79 ∷ (76 ∷ decimal at)) (omega arith) (IsAscii-cons 79 (76 ∷ decimal at) (omega arith) (IsAscii-cons 76 (decimal at) (omega arith) (IsAscii-decimal at wide))))) in
    record { not_empty = omega (arith, whole); short = omega (arith, whole, digits) }

output_named : (name own : Option (List ℕ)) (at : ℕ) → Where IsName name → Where IsName own → at < 10 ^ 18 → IsName (output_name name own at)
output_named (Some name) own at is w small = is
output_named None (Some name) at is w small = w
output_named None None at is w small = numbered at small

-- ---- output columns

abbrev pub HasName : ShownColumn → Type 0
HasName column = is_name column.name ≡ true

pub record OutputFormed (view : View) (o : OutputReading) : Type 0 where
  pub well : (judged_item o.item view).well ≡ true
  pub column : o.column ≡ scope_column (judged_item o.item view).column
  pub name : HasName (judged_item o.item view).column

abbrev pub OfOutput : View → OutputReading → Type 0
OfOutput view o = o.faults ≡ [] → OutputFormed view o

output_formed : (view : View) (name : List ℕ) (r : ScalarReading) → IsName name → ScalarFormed view r →
    OutputFormed view (record { item = record { value = r.tree; name = name }; column = record { name = name; domain = r.domain; bound = r.bound }; faults = r.faults })
output_formed view name r named is =
    let item : SqlItem = record { value = r.tree; name = name } in
    let j = judged_scalar r.tree view in
    let same = judged_item_is item view in
    record {
      well = ap (λ (i : JudgedItem). i.well) same ∙ and_from (is_name name) j.well (name_well name named) is.well;
      column =
          ap (λ d. let c : ScopeColumn = record { name = name; domain = d; bound = r.bound } in c) is.domain
          ∙ (ap (λ b. let c : ScopeColumn = record { name = name; domain = Some j.shape.domain; bound = b } in c) is.bound ∙ sym (ap (λ (i : JudgedItem). scope_column i.column) same));
      name = ap (λ (i : JudgedItem). is_name i.column.name) same ∙ name_well name named;
    }

pub record ItemFormed (view : View) (r : ItemReading) : Type 0 where
  pub name : Where IsName r.name
  pub scalar : OfScalar view r.scalar

pub outputs_formed : (view : View) (at : ℕ) (rs : List ItemReading) → at + length rs ≤ 10 ^ 17 → All (ItemFormed view) rs → All (OfOutput view) (outputs_from at rs)
outputs_formed view at [] few all = All-nil (OfOutput view)
outputs_formed view at (r ∷ rs) few all =
    let is = All-head (ItemFormed view) r rs all in
    All-cons (OfOutput view) (output_of at r) (outputs_from (at + 1) rs)
    (λ e. let of = is.scalar e in output_formed view (output_name r.name r.scalar.own_name at) r.scalar (output_named r.name r.scalar.own_name at is.name of.own (omega (arith, few))) of)
    (outputs_formed view (at + 1) rs (omega (arith, few)) (All-tail (ItemFormed view) r rs all))

-- ---- all columns of the scope

pub record ItemSeen (item : ShownItem) : Type 0 where
  pub some : 1 ≤ length item.columns
  pub names : All HasName item.columns

abbrev none_shown : ShownColumn
none_shown = record { name = []; shape = number_shape }

abbrev none_item : ShownItem
none_item = record { name = []; columns = [] }

column_formed : (own : List ShownItem) (outer : View) (item at : ℕ) (c : ShownColumn) → item < length own → at < length (get_or own item none_item).columns → get_or (get_or own item none_item).columns at none_shown ≡ c → HasName c →
    OutputFormed (own ∷ outer) (column_output item at (scope_column c))
column_formed own outer item at c in_own in_item same named =
    let view : View = own ∷ outer in
    let p : SqlPlace = record { up = 0; item = item; column = at } in
    let whole : SqlItem = record { value = Column p; name = c.name } in
    let shape = (shown_at view p).shape in
    let here : judged_scalar (Column p) view ≡ record { shape = shape; well = is_in_range view p; is_sum = false } = ap (λ s. judged_scalar s view) (sym (views.rolls-Column p)) ∙ judged-Column p view in
    let is = judged_item_is whole view in
    let columns = (get_or own item none_item).columns in
    let first : 0 < length view = omega arith in
    let within : is_in_range view p ≡ true =
    and_from (nat_lt 0 (length view) && nat_lt item (length own)) (nat_lt at (length columns)) (and_from (nat_lt 0 (length view)) (nat_lt item (length own)) (lt-ltb 0 (length view) first) (lt-ltb item (length own) in_own)) (lt-ltb at (length columns) in_item) in
    record {
      well = ap (λ (i : JudgedItem). i.well) is ∙ and_from (is_name c.name) (judged_scalar (Column p) view).well named (ap (λ (j : JudgedScalar). j.well) here ∙ within);
      column =
          sym (ap (λ (i : JudgedItem). scope_column i.column) is
          ∙ (ap (λ (j : JudgedScalar). let s : ShownColumn = record { name = c.name; shape = j.shape } in scope_column s) here
          ∙ ap (λ (d : ShownColumn). let s : ShownColumn = record { name = c.name; shape = d.shape } in scope_column s) same));
      name = ap (λ (i : JudgedItem). is_name i.column.name) is ∙ named;
    }

columns_formed : (own : List ShownItem) (outer : View) (item at : ℕ) (cs : List ShownColumn) → item < length own → at + length cs ≤ length (get_or own item none_item).columns →
    ((k : ℕ) → k < length cs → get_or (get_or own item none_item).columns (at + k) none_shown ≡ get_or cs k none_shown) → All HasName cs → All (OfOutput (own ∷ outer)) (columns_from item at (map scope_column cs))
columns_formed own outer item at [] in_own fits same all = All-nil (OfOutput (own ∷ outer))
columns_formed own outer item at (c ∷ cs) in_own fits same all =
    let columns = (get_or own item none_item).columns in
    let first : get_or columns at none_shown ≡ c = ap (λ k. get_or columns k none_shown) (let z : at ≡ at + 0 = omega arith in z) ∙ same 0 (omega arith) in
    All-cons (OfOutput (own ∷ outer)) (column_output item at (scope_column c)) (columns_from item (at + 1) (map scope_column cs))
    (λ e. column_formed own outer item at c in_own (omega (arith, fits)) first (All-head HasName c cs all))
    (columns_formed own outer item (at + 1) cs in_own (omega (arith, fits))
    (λ k lt. ap (λ n. get_or columns n none_shown) (let z : at + 1 + k ≡ at + suc k = omega arith in z) ∙ same (suc k) (omega (arith, lt))) (All-tail HasName c cs all))

items_formed : (own : List ShownItem) (outer : View) (at : ℕ) (items : List ShownItem) → at + length items ≤ length own → ((k : ℕ) → k < length items → get_or own (at + k) none_item ≡ get_or items k none_item) → All ItemSeen items →
    All (OfOutput (own ∷ outer)) (all_columns at (map scope_item items))
items_formed own outer at [] fits same all = All-nil (OfOutput (own ∷ outer))
items_formed own outer at (i ∷ items) fits same all =
    let first : get_or own at none_item ≡ i = ap (λ k. get_or own k none_item) (let z : at ≡ at + 0 = omega arith in z) ∙ same 0 (omega arith) in
    let back = sym first in
    let here : All (OfOutput (own ∷ outer)) (columns_from at 0 (map scope_column i.columns)) =
    columns_formed own outer at 0 i.columns (omega (arith, fits)) (subst (λ (j : ShownItem). 0 + length i.columns ≤ length j.columns) back (omega arith))
    (λ k lt. ap (λ (j : ShownItem). get_or j.columns (0 + k) none_shown) first ∙ ap (λ n. get_or i.columns n none_shown) (let z : 0 + k ≡ k = omega arith in z)) (All-head ItemSeen i items all).names in
    All-append (OfOutput (own ∷ outer)) (columns_from at 0 (map scope_column i.columns)) (all_columns (at + 1) (map scope_item items)) here
    (items_formed own outer (at + 1) items (omega (arith, fits)) (λ k lt. ap (λ n. get_or own n none_item) (let z : at + 1 + k ≡ at + suc k = omega arith in z) ∙ same (suc k) (omega (arith, lt))) (All-tail ItemSeen i items all))

pub every_column_formed : (own : List ShownItem) (outer : View) → All ItemSeen own → All (OfOutput (own ∷ outer)) (all_columns 0 (map scope_item own))
every_column_formed own outer all = items_formed own outer 0 own (omega arith) (λ k lt. ap (λ n. get_or own n none_item) (let z : 0 + k ≡ k = omega arith in z)) all

-- of one item or more there is a column
pub some_column : (own : List ShownItem) → 1 ≤ length own → All ItemSeen own → 1 ≤ length (all_columns 0 (map scope_item own))
some_column [] some all = absurd (omega (arith, some))
some_column (i ∷ own) some all = first i.columns (All-head ItemSeen i own all).some
  where
    first : (cs : List ShownColumn) → 1 ≤ length cs → 1 ≤ length (columns_from 0 0 (map scope_column cs) ++ all_columns 1 (map scope_item own))
    first [] some = absurd (omega (arith, some))
    first (c ∷ cs) some = omega arith
