-- The rows of a well-formed query are the same with sums and signs in the range of a 128-bit number as without, over tables that it
-- fits.
use Rattle.std.proofs.Common.{◌≡◌, ℕ, zero, suc, Bool, true, false, not, ◌&&◌, Option, Some, None, List, [], ◌∷◌, map, cond, length, filter, leb, All, refl, sym, ap, ◌∙◌, subst}
use Rattle.std.specs.Prelude.{nat_lt, slice_index_or}
use Rattle.std.specs.List.{flat_map, list_all}
use Rattle.std.specs.Option.{option_map}
use Rattle.std.proofs.lemmas.Bool.{and_parts}
use Rattle.std.proofs.lemmas.List.Elements.{All-nil, All-cons, All-head, All-map, All-filter, All-weaker}
use Rattle.prefsql_values.specs.declared.value.Value.{Value}
use Rattle.prefsql_values.specs.declared.value.Value.TheVariants.{Null}
use Rattle.prefsql_values.specs.Truth.{is_true}
use Rattle.prefsql_tables.specs.declared.place.SortKey.{SortKey}
use Rattle.prefsql_tables.specs.declared.table.AnswerRow.{AnswerRow}
use Rattle.prefsql_tables.specs.Distinct.{each_once}
use Rattle.prefsql_tables.specs.Product.{product}
use Rattle.prefsql_tables.specs.Table.{Tables}
use Rattle.prefsql_tables.specs.Valid.{IsTableSet}
use Rattle.prefsql_tables.proofs.ListLemmas.{filter_on, map_on}
use Rattle.sql_tree.specs.declared.tree.SqlCond.{SqlCond, roll-SqlCond, map-SqlCond}
use Rattle.sql_tree.specs.declared.tree.SqlCond.TheOpen.{SqlCond-F, SqlScalar-F, SqlSource-F, SqlQuery-F}
use Rattle.sql_tree.specs.declared.tree.SqlCond.TheFolds.{ind-SqlQuery}
use Rattle.sql_tree.specs.declared.tree.SqlCond.TheViews.{rolls-And, rolls-Or, rolls-Not, rolls-Compare, rolls-Between, rolls-OneOf, rolls-IsNull, rolls-Exists, rolls-Column, rolls-Number, rolls-Chars, rolls-Sum, rolls-Case, rolls-Table, rolls-Derived}
use Rattle.sql_tree.specs.declared.tree.SqlScalar.{SqlScalar, roll-SqlScalar, map-SqlScalar}
use Rattle.sql_tree.specs.declared.tree.SqlTable.{SqlTable}
use Rattle.sql_tree.specs.declared.tree.SqlSource.{SqlSource, Table, Derived, roll-SqlSource, map-SqlSource}
use Rattle.sql_tree.specs.declared.tree.SqlFrom.{SqlFrom, roll-SqlFrom}
use Rattle.sql_tree.specs.declared.tree.SqlItem.{SqlItem, roll-SqlItem}
use Rattle.sql_tree.specs.declared.tree.SqlQuery.{SqlQuery, out-roll-SqlQuery, roll-SqlQuery, map-SqlQuery}
use Rattle.sql_tree.specs.declared.tree.SqlWhen.{SqlWhen, roll-SqlWhen}
use Rattle.sql_tree.specs.declared.tree.SumTerm.{SumTerm, roll-SumTerm}
use Rattle.sql_tree.specs.Fits.{FitsTables, IsTableOf, cond_tables, from_tables, if_written, item_tables, tables_of}
use Rattle.sql_tree.specs.Meaning.{Scope, Scopes, from_rows, is_kept, rows_in, source_rows, truth_in, value_in}
use Rattle.sql_tree.specs.Select.{select}
use Rattle.sql_tree.specs.Shown.{ShownItem, View}
use Rattle.sql_tree.specs.WellFormed.{IsWellFormed, JudgedFrom, JudgedItem, JudgedQuery, JudgedSource, all_differ, filter_well, is_name, judged_cond, judged_query, judged_scalar, own_view, query_step}
use Rattle.sql_tree.proofs.MeaningLemmas.{from_rows_is, source_rows-Table, source_rows-Derived, rows_in-select}
use Rattle.sql_exec.specs.Wrapping as wrapping
use Rattle.sql_exec.proofs.WrappingReads as reads
use Rattle.sql_exec.proofs.JudgedReads.{judged_from, judged_item, judged_source, judged_item_is, judged_from_is, judged_source-Table, judged_source-Derived, judged-select, layer}
use Rattle.sql_exec.proofs.Named as named
use Rattle.sql_tree.proofs.PartTables.{tables-Derived, tables-Table, tables-from}
use Rattle.sql_exec.proofs.Bounded.{IsWithin}
use Rattle.sql_exec.proofs.Fitted.{FitsItems, FitsRow, FitsView, entered, kept_fits, no_column, no_rows_fit, none_seen, product_fits, table_fits}
use Rattle.sql_exec.proofs.ExactParts as each_part

rows_at : {j k : JudgedSource} {u v : List AnswerRow} → j ≡ k → u ≡ v → All (FitsRow k.columns) v → All (FitsRow j.columns) u
rows_at {j = j} {k = k} {u = u} {v = v} is same fits = subst (λ (x : JudgedSource). All (FitsRow x.columns) u) (sym is) (subst (λ (rows : List AnswerRow). All (FitsRow k.columns) rows) (sym same) fits)

answers_at : {j k : JudgedQuery} {u v : List AnswerRow} → j ≡ k → u ≡ v → All (FitsRow k.columns) v → All (FitsRow j.columns) u
answers_at {j = j} {k = k} {u = u} {v = v} is same fits = subst (λ (x : JudgedQuery). All (FitsRow x.columns) u) (sym is) (subst (λ (rows : List AnswerRow). All (FitsRow k.columns) rows) (sym same) fits)

abbrev judged_items : View → List SqlItem → List JudgedItem
judged_items view items = map (λ (item : View → JudgedItem). item view) (map judged_item items)

-- what a query asks of its parts
record PartsWell (is : List SqlItem) (fs : List SqlFrom) (c : Option SqlCond) (view : View) : Type 0 where
  items : list_all (λ (item : JudgedItem). item.well) (judged_items view is) ≡ true
  froms : list_all (λ (f : JudgedFrom). f.well) (map judged_from fs) ≡ true
  filter : filter_well (option_map (judged_cond false) c) view ≡ true

parts_well : (d : Bool) (items : List SqlItem) (froms : List SqlFrom) (filter : Option SqlCond) (order : List SortKey) (round : View)
    → (query_step (layer (record { distinct = d; items = items; from = froms; filter = filter; order = order })) round).well ≡ true → PartsWell items froms filter (own_view (map judged_from froms) ∷ round)
parts_well distinct items froms filter order round e =
    let view : View = own_view (map judged_from froms) ∷ round in
    let js = judged_items view items in
    let a = leb 1 (length js) in
    let b = list_all (λ (item : JudgedItem). item.well) js in
    let c = leb 1 (length (map judged_from froms)) in
    let d = list_all (λ (f : JudgedFrom). f.well) (map judged_from froms) in
    let f = all_differ (map (λ (item : ShownItem). item.name) (own_view (map judged_from froms))) in
    let g = filter_well (option_map (judged_cond false) filter) view in
    let p1 = and_parts (a && b && c && d && f && g) (list_all (λ (key : SortKey). nat_lt key.column (length js)) order) e in
    let p2 = and_parts (a && b && c && d && f) g p1.0 in
    let p3 = and_parts (a && b && c && d) f p2.0 in
    let p4 = and_parts (a && b && c) d p3.0 in
    let p5 = and_parts (a && b) c p4.0 in
    let p6 = and_parts a b p5.0 in
    record { items = p6.1; froms = p4.1; filter = p2.1 }

-- the parts of a query
abbrev Parts : Type 0
Parts = SqlQuery-F SqlCond SqlScalar SqlSource SqlFrom SqlItem SqlQuery SqlWhen SumTerm

module _ (tables : Tables) (valid : IsTableSet tables) where
  abbrev There : SqlTable → Type 0
  There = IsTableOf tables

  abbrev PC : SqlCond → Type 0
  PC = each_part.PC tables valid

  abbrev C : Type 0
  C = (x : SqlCond) × PC x

  abbrev PS : SqlScalar → Type 0
  PS = each_part.PS tables valid

  abbrev S : Type 0
  S = (x : SqlScalar) × PS x

  abbrev PO : SqlSource → Type 0
  PO = each_part.PO tables valid

  abbrev O : Type 0
  O = (x : SqlSource) × PO x

  abbrev PF : SqlFrom → Type 0
  PF = each_part.PF tables valid

  abbrev F : Type 0
  F = (x : SqlFrom) × PF x

  abbrev PI : SqlItem → Type 0
  PI = each_part.PI tables valid

  abbrev I : Type 0
  I = (x : SqlItem) × PI x

  abbrev PQ : SqlQuery → Type 0
  PQ = each_part.PQ tables valid

  abbrev Q : Type 0
  Q = (x : SqlQuery) × PQ x

  abbrev PW : SqlWhen → Type 0
  PW = each_part.PW tables valid

  abbrev W : Type 0
  W = (x : SqlWhen) × PW x

  abbrev PT : SumTerm → Type 0
  PT = each_part.PT tables valid

  abbrev T : Type 0
  T = (x : SumTerm) × PT x

  -- ---- FROM items

  table_case : (t : SqlTable) → PO (Table t)
  table_case t well there = record {
    same = reads.source_rows-Table tables t ∙ sym (source_rows-Table tables t);
    fits = rows_at (judged_source-Table t) (source_rows-Table tables t) (table_fits tables t valid (All-head There t [] (subst (All There) (tables-Table t) there)));
  }

  derived_case : (q : Q) → PO (Derived q.0)
  derived_case q well there =
      let w = and_parts (judged_query false q.0 []).well (not (judged_query false q.0 []).has_order) (sym (ap (λ (k : JudgedSource). k.well) (judged_source-Derived q.0)) ∙ well) in
      let e = q.1 [] [] none_seen w.0 (subst (All There) (tables-Derived q.0) there) in
      record {
        same = reads.source_rows-Derived tables q.0 ∙ e.same ∙ sym (source_rows-Derived tables q.0);
        fits = rows_at (judged_source-Derived q.0) (source_rows-Derived tables q.0) e.fits;
      }

  record FromsExact (from : List SqlFrom) : Type 0 where
    same : map (wrapping.from_rows tables) from ≡ map (from_rows tables) from
    fits : All (FitsItems (own_view (map judged_from from))) (product (map (from_rows tables) from))

  from_fits : (f : SqlFrom) → All (FitsRow (judged_source f.source).columns) (source_rows tables f.source) → All (FitsRow (judged_from f).item.columns) (from_rows tables f)
  from_fits f fits =
      subst (λ (k : JudgedFrom). All (FitsRow k.item.columns) (from_rows tables f)) (sym (judged_from_is f))
      (subst (λ (rows : List AnswerRow). All (FitsRow (judged_source f.source).columns) rows) (sym (from_rows_is tables f)) fits)

  froms_exact : (fs : List F) → list_all (λ (f : JudgedFrom). f.well) (map judged_from (map (λ e. e.0) fs)) ≡ true → All There (flat_map from_tables (map (λ e. e.0) fs)) → FromsExact (map (λ e. e.0) fs)
  froms_exact [] well there = record { same = refl; fits = All-cons (FitsItems []) [] [] no_rows_fit (All-nil (FitsItems [])) }
  froms_exact (f ∷ fs) well there =
      let xs : List SqlFrom = map (λ e. e.0) fs in
      let p = and_parts (judged_from f.0).well (list_all (λ (f : JudgedFrom). f.well) (map judged_from xs)) well in
      let q = and_parts (is_name f.0.name) (judged_source f.0.source).well (sym (ap (λ (k : JudgedFrom). k.well) (judged_from_is f.0)) ∙ p.0) in
      let e = f.1 q.1 (subst (All There) (tables-from f.0) (named.left There (from_tables f.0) (flat_map from_tables xs) there)) in
      let first = reads.from_rows_is tables f.0 ∙ e.same ∙ sym (from_rows_is tables f.0) in
      let rest = froms_exact fs p.1 (named.right There (from_tables f.0) (flat_map from_tables xs) there) in
      record {
        same = (λ j. first j ∷ rest.same j);
        fits = product_fits (judged_from f.0).item (own_view (map judged_from xs)) (from_rows tables f.0) (product (map (from_rows tables) xs)) (from_fits f.0 e.fits) rest.fits;
      }

  -- ---- items and queries

  record ItemsExact (items : List SqlItem) (view : View) (scopes : Scopes) : Type 0 where
    same : map (λ (item : SqlItem). wrapping.value_in tables item.value scopes) items ≡ map (λ (item : SqlItem). value_in tables item.value scopes) items
    fits : (column : ℕ) → IsWithin (slice_index_or (map (λ (item : JudgedItem). item.column) (judged_items view items)) column no_column).shape.bound (slice_index_or (map (λ (item : SqlItem). value_in tables item.value scopes) items) column Null)

  items_exact : (view : View) (scopes : Scopes) → FitsView view scopes → (is : List I) → list_all (λ (item : JudgedItem). item.well) (judged_items view (map (λ e. e.0) is)) ≡ true → All There (flat_map item_tables (map (λ e. e.0) is))
      → ItemsExact (map (λ e. e.0) is) view scopes
  items_exact view scopes fits [] well there = record { same = refl; fits = (λ column. tt) }
  items_exact view scopes fits (i ∷ is) well there =
      let xs : List SqlItem = map (λ e. e.0) is in
      let p = and_parts (judged_item i.0 view).well (list_all (λ (item : JudgedItem). item.well) (judged_items view xs)) well in
      let q = and_parts (is_name i.0.name) (judged_scalar false i.0.value view).well (sym (ap (λ (k : JudgedItem). k.well) (judged_item_is i.0 view)) ∙ p.0) in
      let e = i.1 view scopes fits q.1 (named.item_there There i.0 (named.left There (item_tables i.0) (flat_map item_tables xs) there)) in
      let v = value_in tables i.0.value scopes in
      let first : IsWithin (judged_item i.0 view).column.shape.bound v = subst (λ (k : JudgedItem). IsWithin k.column.shape.bound v) (sym (judged_item_is i.0 view)) e.within in
      let rest = items_exact view scopes fits is p.1 (named.right There (item_tables i.0) (flat_map item_tables xs) there) in
      record { same = (λ j. e.same j ∷ rest.same j); fits = by_column i.0 xs view scopes first rest.fits }
    where
      by_column : (i : SqlItem) (xs : List SqlItem) (view : View) (scopes : Scopes) → IsWithin (judged_item i view).column.shape.bound (value_in tables i.value scopes)
          → FitsRow (map (λ (item : JudgedItem). item.column) (judged_items view xs)) (record { cells = map (λ (item : SqlItem). value_in tables item.value scopes) xs })
          → FitsRow (map (λ (item : JudgedItem). item.column) (judged_items view (i ∷ xs))) (record { cells = map (λ (item : SqlItem). value_in tables item.value scopes) (i ∷ xs) })
      by_column i xs view scopes first rest zero = first
      by_column i xs view scopes first rest (suc column) = rest column

  filter_exact : (view : View) (scopes : Scopes) → FitsView view scopes → (c : Option C) → filter_well (option_map (judged_cond false) (option_map (λ e. e.0) c)) view ≡ true → All There (if_written (option_map cond_tables (option_map (λ e. e.0) c)))
      → is_kept (option_map (wrapping.truth_in tables) (option_map (λ e. e.0) c)) scopes ≡ is_kept (option_map (truth_in tables) (option_map (λ e. e.0) c)) scopes
  filter_exact view scopes fits None well there = refl
  filter_exact view scopes fits (Some c) well there = ap is_true (c.1 view scopes fits well there)

  -- the tables of each part of a query are there
  record PartsThere (is : List SqlItem) (fs : List SqlFrom) (c : Option SqlCond) : Type 0 where
    items : All There (flat_map item_tables is)
    from : All There (flat_map from_tables fs)
    filter : All There (if_written (option_map cond_tables c))

  parts_there : (d : Bool) (items : List SqlItem) (from : List SqlFrom) (filter : Option SqlCond) (order : List SortKey) → All There (tables_of (select d items from filter order)) → PartsThere items from filter
  parts_there d items from filter order there =
      let q = select d items from filter order in
      let is = out-roll-SqlQuery (record { distinct = d; items = items; from = from; filter = filter; order = order }) in
      record {
        items = subst (λ (parts : Parts). All There (flat_map item_tables parts.items)) is (named.query_items There q there);
        from = subst (λ (parts : Parts). All There (flat_map from_tables parts.from)) is (named.query_from There q there);
        filter = subst (λ (parts : Parts). All There (if_written (option_map cond_tables parts.filter))) is (named.query_filter There q there);
      }

  abbrev row_at : List SqlItem → Scopes → AnswerRow
  row_at items scopes = record { cells = map (λ (item : SqlItem). value_in tables item.value scopes) items }

  abbrev wrapping_row_at : List SqlItem → Scopes → AnswerRow
  wrapping_row_at items scopes = record { cells = map (λ (item : SqlItem). wrapping.value_in tables item.value scopes) items }

  query_case : (d : Bool) (order : List SortKey) (c : Option C) (is : List I) (fs : List F) → PQ (select d (map (λ e. e.0) is) (map (λ e. e.0) fs) (option_map (λ e. e.0) c) order)
  query_case d order c is fs round scopes fits well there =
      let items : List SqlItem = map (λ e. e.0) is in
      let froms : List SqlFrom = map (λ e. e.0) fs in
      let filters : Option SqlCond = option_map (λ e. e.0) c in
      let own = own_view (map judged_from froms) in
      let view : View = own ∷ round in
      let judged : judged_query false (select d items froms filters order) round ≡ query_step (layer (record { distinct = d; items = items; from = froms; filter = filters; order = order })) round =
      λ j. judged-select d items froms filters order j round in
      let p = parts_well d items froms filters order round (sym (ap (λ (k : JudgedQuery). k.well) judged) ∙ well) in
      let t = parts_there d items froms filters order there in
      let f = froms_exact fs p.froms t.from in
      let scopes_of = product (map (from_rows tables) froms) in
      let columns = map (λ (item : JudgedItem). item.column) (judged_items view items) in
      let seen : (scope : Scope) → FitsItems own scope → FitsView view (scope ∷ scopes) = λ scope fit. entered own scope round scopes fit fits in
      let keeps : Scope → Bool = λ scope. is_kept (option_map (truth_in tables) filters) (scope ∷ scopes) in
      let wrapping_keeps : Scope → Bool = λ scope. is_kept (option_map (wrapping.truth_in tables) filters) (scope ∷ scopes) in
      let row : Scope → AnswerRow = λ scope. row_at items (scope ∷ scopes) in
      let wrapping_row : Scope → AnswerRow = λ scope. wrapping_row_at items (scope ∷ scopes) in
      let kept : filter wrapping_keeps scopes_of ≡ filter keeps scopes_of =
      filter_on wrapping_keeps keeps scopes_of
      (All-weaker (FitsItems own) (λ scope. wrapping_keeps scope ≡ keeps scope) (λ scope fit. filter_exact view (scope ∷ scopes) (seen scope fit) c p.filter t.filter) scopes_of f.fits) in
      let shown : map wrapping_row (filter keeps scopes_of) ≡ map row (filter keeps scopes_of) =
      map_on wrapping_row row (filter keeps scopes_of)
      (All-filter keeps (λ scope. wrapping_row scope ≡ row scope) scopes_of
      (All-weaker (FitsItems own) (λ scope. wrapping_row scope ≡ row scope) (λ scope fit. row_same (items_exact view (scope ∷ scopes) (seen scope fit) is p.items t.items).same) scopes_of f.fits)) in
      let rows : map wrapping_row (filter wrapping_keeps (product (map (wrapping.from_rows tables) froms))) ≡ map row (filter keeps scopes_of) =
      ap (λ each. map wrapping_row (filter wrapping_keeps (product each))) f.same ∙ ap (map wrapping_row) kept ∙ shown in
      let within : All (FitsRow columns) (map row (filter keeps scopes_of)) =
      All-map (FitsRow columns) row (filter keeps scopes_of)
      (All-filter keeps (λ scope. FitsRow columns (row scope)) scopes_of
      (All-weaker (FitsItems own) (λ scope. FitsRow columns (row scope)) (λ scope fit. (items_exact view (scope ∷ scopes) (seen scope fit) is p.items t.items).fits) scopes_of f.fits)) in
      record {
        same = reads.rows_in-select tables d items froms filters order scopes ∙ ap (λ all. cond d (each_once all) all) rows ∙ sym (rows_in-select tables d items froms filters order scopes);
        fits = answers_at judged (rows_in-select tables d items froms filters order scopes) (kept_fits d columns (map row (filter keeps scopes_of)) within);
      }
    where
      row_same : {u v : List Value} → u ≡ v → (let r : AnswerRow = record { cells = u } in r) ≡ (let r : AnswerRow = record { cells = v } in r)
      row_same same = λ j. record { cells = same j }

  -- ---- every query

  cond_any : (y : SqlCond-F C S O F I Q W T) → PC (roll-SqlCond (map-SqlCond C S O F I Q W T SqlCond SqlScalar SqlSource SqlFrom SqlItem SqlQuery SqlWhen SumTerm (λ e. e.0) (λ e. e.0) (λ e. e.0) (λ e. e.0) (λ e. e.0) (λ e. e.0) (λ e. e.0) (λ e. e.0) y))
  cond_any (SqlCond-F.And parts) = subst PC (sym (rolls-And (map (λ e. e.0) parts))) (each_part.and_case tables valid parts)
  cond_any (SqlCond-F.Or parts) = subst PC (sym (rolls-Or (map (λ e. e.0) parts))) (each_part.or_case tables valid parts)
  cond_any (SqlCond-F.Not part) = subst PC (sym (rolls-Not part.0)) (each_part.not_case tables valid part)
  cond_any (SqlCond-F.Compare op a b) = subst PC (sym (rolls-Compare op a.0 b.0)) (each_part.compare_case tables valid op a b)
  cond_any (SqlCond-F.Between negate a low high) = subst PC (sym (rolls-Between negate a.0 low.0 high.0)) (each_part.between_case tables valid negate a low high)
  cond_any (SqlCond-F.OneOf negate a list) = subst PC (sym (rolls-OneOf negate a.0 (map (λ e. e.0) list))) (each_part.member_case tables valid negate a list)
  cond_any (SqlCond-F.IsNull negate a) = subst PC (sym (rolls-IsNull negate a.0)) (each_part.null_case tables valid negate a)
  cond_any (SqlCond-F.Exists q) = subst PC (sym (rolls-Exists q.0)) (each_part.exists_case tables valid q)

  scalar_any : (y : SqlScalar-F C S O F I Q W T) → PS (roll-SqlScalar (map-SqlScalar C S O F I Q W T SqlCond SqlScalar SqlSource SqlFrom SqlItem SqlQuery SqlWhen SumTerm (λ e. e.0) (λ e. e.0) (λ e. e.0) (λ e. e.0) (λ e. e.0) (λ e. e.0) (λ e. e.0) (λ e. e.0) y))
  scalar_any (SqlScalar-F.Column place) = subst PS (sym (rolls-Column place)) (each_part.column_case tables valid place)
  scalar_any (SqlScalar-F.Number n) = subst PS (sym (rolls-Number n)) (each_part.number_case tables valid n)
  scalar_any (SqlScalar-F.Chars text) = subst PS (sym (rolls-Chars text)) (each_part.chars_case tables valid text)
  scalar_any (SqlScalar-F.Sum ts) = subst PS (sym (rolls-Sum (map (λ e. e.0) ts))) (each_part.sum_case tables valid ts)
  scalar_any (SqlScalar-F.Case ws last) = by_last last
    where
      by_last : (last : Option S) → PS (roll-SqlScalar (map-SqlScalar C S O F I Q W T SqlCond SqlScalar SqlSource SqlFrom SqlItem SqlQuery SqlWhen SumTerm (λ e. e.0) (λ e. e.0) (λ e. e.0) (λ e. e.0) (λ e. e.0) (λ e. e.0) (λ e. e.0) (λ e. e.0) (SqlScalar-F.Case ws last)))
      by_last None = subst PS (sym (rolls-Case (map (λ e. e.0) ws) None)) (each_part.choice_case tables valid ws None)
      by_last (Some v) = subst PS (sym (rolls-Case (map (λ e. e.0) ws) (Some v.0))) (each_part.choice_case tables valid ws (Some v))

  source_any : (y : SqlSource-F C S O F I Q W T) → PO (roll-SqlSource (map-SqlSource C S O F I Q W T SqlCond SqlScalar SqlSource SqlFrom SqlItem SqlQuery SqlWhen SumTerm (λ e. e.0) (λ e. e.0) (λ e. e.0) (λ e. e.0) (λ e. e.0) (λ e. e.0) (λ e. e.0) (λ e. e.0) y))
  source_any (SqlSource-F.Table t) = subst PO (sym (rolls-Table t)) (table_case t)
  source_any (SqlSource-F.Derived q) = subst PO (sym (rolls-Derived q.0)) (derived_case q)

  query_any : (y : SqlQuery-F C S O F I Q W T) → PQ (roll-SqlQuery (map-SqlQuery C S O F I Q W T SqlCond SqlScalar SqlSource SqlFrom SqlItem SqlQuery SqlWhen SumTerm (λ e. e.0) (λ e. e.0) (λ e. e.0) (λ e. e.0) (λ e. e.0) (λ e. e.0) (λ e. e.0) (λ e. e.0) y))
  query_any y = by_filter y.filter
    where
      by_filter : (c : Option C) → PQ (roll-SqlQuery (map-SqlQuery C S O F I Q W T SqlCond SqlScalar SqlSource SqlFrom SqlItem SqlQuery SqlWhen SumTerm (λ e. e.0) (λ e. e.0) (λ e. e.0) (λ e. e.0) (λ e. e.0) (λ e. e.0) (λ e. e.0) (λ e. e.0) (record { distinct = y.distinct; items = y.items; from = y.from; filter = c; order = y.order })))
      by_filter None = query_case y.distinct y.order None y.items y.from
      by_filter (Some c) = query_case y.distinct y.order (Some c) y.items y.from

  query_exact : (q : SqlQuery) → PQ q
  query_exact = ind-SqlQuery PC PS PO PF PI PQ PW PT
      (λ x y is. subst (λ z. PC (roll-SqlCond z)) is (cond_any y))
      (λ x y is. subst (λ z. PS (roll-SqlScalar z)) is (scalar_any y))
      (λ x y is. subst (λ z. PO (roll-SqlSource z)) is (source_any y))
      (λ x y is. subst (λ z. PF (roll-SqlFrom z)) is y.source.1)
      (λ x y is. subst (λ z. PI (roll-SqlItem z)) is y.value.1)
      (λ x y is. subst (λ z. PQ (roll-SqlQuery z)) is (query_any y))
      (λ x y is. subst (λ z. PW (roll-SqlWhen z)) is (record { cond = y.cond.1; value = y.value.1 }))
      (λ x y is. subst (λ z. PT (roll-SumTerm z)) is y.scalar.1)

  pub rows_exact : (query : SqlQuery) → IsWellFormed query → FitsTables tables query → wrapping.rows_in tables query [] ≡ rows_in tables query []
  rows_exact query formed fits = (query_exact query [] [] none_seen formed fits).same
