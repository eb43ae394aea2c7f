-- Rows that fit the columns that a query sees of them: each number is within the bound of its column.
use Rattle.std.proofs.Common.{ℕ, zero, suc, Bool, true, false, not, List, [], ◌∷◌, map, cond, filter, All, subst}
use Rattle.std.specs.Prelude.{slice_index_or}
use Rattle.std.specs.List.{flat_map}
use Rattle.std.proofs.lemmas.List.Elements.{All-nil, All-cons, All-head, All-tail, All-append, All-map, All-filter, All-weaker}
use Rattle.prefsql_values.specs.declared.value.Value.{Value}
use Rattle.prefsql_values.specs.declared.value.Value.TheVariants.{Null}
use Rattle.prefsql_tables.specs.declared.schema.Column.{Column}
use Rattle.prefsql_tables.specs.declared.table.AnswerRow.{AnswerRow}
use Rattle.prefsql_tables.specs.Distinct.{each_once, is_same_row}
use Rattle.prefsql_tables.specs.Table.{Tables, cell_in, columns_of, no_row, no_table, rows_of, table_at}
use Rattle.prefsql_tables.specs.Valid.{IsRow, IsTable, IsTableSet}
use Rattle.sql_tree.specs.declared.tree.SqlTable.{SqlTable}
use Rattle.sql_tree.specs.Fits.{IsTableOf}
use Rattle.sql_tree.specs.Meaning.{Scope, Scopes}
use Rattle.sql_tree.specs.Shown.{ShownColumn, ShownItem, View, items_at, number_shape, table_columns}
use Rattle.sql_exec.proofs.Bounded.{IsWithin, cell_within}

abbrev pub no_column : ShownColumn
no_column = record { name = []; shape = number_shape }

abbrev pub no_item : ShownItem
no_item = record { name = []; columns = [] }

abbrev pub FitsRow : List ShownColumn → AnswerRow → Type 0
FitsRow columns row = (column : ℕ) → IsWithin (slice_index_or columns column no_column).shape.bound (cell_in row column)

-- one row of each item
abbrev pub FitsItems : List ShownItem → Scope → Type 0
FitsItems items scope = (item : ℕ) → FitsRow (slice_index_or items item no_item).columns (slice_index_or scope item no_row)

abbrev pub FitsView : View → Scopes → Type 0
FitsView view scopes = (up : ℕ) → FitsItems (items_at view up) (slice_index_or scopes up [])

pub none_seen : FitsView [] []
none_seen up item column = tt

pub entered : (items : List ShownItem) (scope : Scope) (view : View) (scopes : Scopes) → FitsItems items scope → FitsView view scopes → FitsView (items ∷ view) (scope ∷ scopes)
entered items scope view scopes own round zero = own
entered items scope view scopes own round (suc up) = round up

pub no_rows_fit : FitsItems [] []
no_rows_fit item column = tt

pub one_more_fits : (item : ShownItem) (items : List ShownItem) (row : AnswerRow) (scope : Scope) → FitsRow item.columns row → FitsItems items scope → FitsItems (item ∷ items) (row ∷ scope)
one_more_fits item items row scope first rest zero = first
one_more_fits item items row scope first rest (suc place) = rest place

-- ---- rows of products, and rows without repetition

pub All-flat_map : {X Y : Type 0} (P : Y → Type 0) (f : X → List Y) (xs : List X) → All (λ x. All P (f x)) xs → All P (flat_map f xs)
All-flat_map P f [] all = All-nil P
All-flat_map P f (x ∷ xs) all =
    All-append P (f x) (flat_map f xs) (All-head (λ y. All P (f y)) x xs all) (All-flat_map P f xs (All-tail (λ y. All P (f y)) x xs all))

pub product_fits : (item : ShownItem) (items : List ShownItem) (rows : List AnswerRow) (scopes : List Scope) → All (FitsRow item.columns) rows → All (FitsItems items) scopes
    → All (FitsItems (item ∷ items)) (flat_map (λ row. map (λ rest. row ∷ rest) scopes) rows)
product_fits item items rows scopes first rest =
    All-flat_map (FitsItems (item ∷ items)) (λ row. map (λ more. row ∷ more) scopes) rows
    (All-weaker (FitsRow item.columns) (λ row. All (FitsItems (item ∷ items)) (map (λ more. row ∷ more) scopes))
    (λ row fits. All-map (FitsItems (item ∷ items)) (λ more. row ∷ more) scopes
    (All-weaker (FitsItems items) (λ more. FitsItems (item ∷ items) (row ∷ more)) (λ more fit. one_more_fits item items row more fits fit) scopes rest))
    rows first)

once_fits : (columns : List ShownColumn) (rows : List AnswerRow) → All (FitsRow columns) rows → All (FitsRow columns) (each_once rows)
once_fits columns [] all = all
once_fits columns (row ∷ rows) all =
    let P : AnswerRow → Type 0 = FitsRow columns in
    All-cons P row (filter (λ other. not (is_same_row row other)) (each_once rows)) (All-head P row rows all)
    (All-filter (λ other. not (is_same_row row other)) P (each_once rows) (once_fits columns rows (All-tail P row rows all)))

pub kept_fits : (distinct : Bool) (columns : List ShownColumn) (rows : List AnswerRow) → All (FitsRow columns) rows → All (FitsRow columns) (cond distinct (each_once rows) rows)
kept_fits true columns rows all = once_fits columns rows all
kept_fits false columns rows all = all

-- ---- rows of tables

stored_fits : (columns : List Column) (cells : List Value) → IsRow columns cells → (column : ℕ) → IsWithin (slice_index_or (table_columns columns) column no_column).shape.bound (slice_index_or cells column Null)
stored_fits [] [] valid place = tt
stored_fits [] (cell ∷ cells) valid place = absurd valid
stored_fits (column ∷ columns) [] valid place = absurd valid
stored_fits (column ∷ columns) (cell ∷ cells) valid zero = cell_within column cell valid.0
stored_fits (column ∷ columns) (cell ∷ cells) valid (suc place) = stored_fits columns cells valid.1 place

pub table_fits : (tables : Tables) (table : SqlTable) → IsTableSet tables → IsTableOf tables table → All (FitsRow (table_columns table.schema.columns)) (rows_of tables table.index)
table_fits tables table valid there =
    let stored : IsTable (table_at tables table.index).table = valid.all_valid table.index no_table there.there in
    subst (λ (columns : List Column). All (FitsRow (table_columns columns)) (rows_of tables table.index)) there.columns
    (All-weaker (λ (row : AnswerRow). IsRow (columns_of tables table.index) row.cells) (FitsRow (table_columns (columns_of tables table.index)))
    (λ (row : AnswerRow) fits. stored_fits (columns_of tables table.index) row.cells fits) (rows_of tables table.index) stored.rows)
