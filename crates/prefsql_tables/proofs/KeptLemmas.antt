-- Tables as they are kept.
use Rattle.std.proofs.Common.{◌≡◌, ℕ, zero, suc, ◌+◌, ◌≤◌, ◌<◌, List, [], ◌∷◌, ◌++◌, length, map, get_or, refl, sym, ap, subst, ◌∙◌, inr, arith, length-append}
use Rattle.std.specs.List.{range_with_len}
use Rattle.std.proofs.lemmas.List.{ext_get_or}
use Rattle.std.proofs.lemmas.List.FromFn.{get_or-map-range_with_len, length-map-range_with_len, map-range_with_len_more}
use Rattle.prefsql_values.specs.declared.value.Domain.{Domain}
use Rattle.prefsql_values.specs.declared.value.Value.{Value}
use Rattle.prefsql_values.specs.declared.value.Value.TheVariants.{Null, Num, Str}
use Rattle.prefsql_tables.specs.CellsData.{CellsData}
use Rattle.prefsql_tables.specs.KeptTable.{AdmitRow, HaveDomains, HaveRow, IsKept, KeepRows, cell_kept, column_domains, domains_of, no_cells, row_kept, table_kept, values_in}
use Rattle.prefsql_tables.specs.Table.{cell_in, no_row}
use Rattle.prefsql_tables.specs.Valid.{IsRow, IsTable}
use Rattle.prefsql_tables.specs.declared.schema.Column.{Column}
use Rattle.prefsql_tables.specs.declared.table.AnswerRow.{AnswerRow}
use Rattle.prefsql_tables.proofs.ValidLemmas.{All-push, length-IsRow}

-- functions that agree below n have the same first n values
map-range-same : {X : Type 0} (d : X) (f g : ℕ → X) (n : ℕ) → ((k : ℕ) → k < n → f k ≡ g k) → map f (range_with_len 0 n) ≡ map g (range_with_len 0 n)
map-range-same d f g n same =
    let longs : length (map f (range_with_len 0 n)) ≡ n = length-map-range_with_len f 0 n in
    ext_get_or d _ _ (longs ∙ sym (length-map-range_with_len g 0 n))
    (λ i small. let lt : i < n = rw longs at small in
    get_or-map-range_with_len f 0 n i i d lt (omega arith) ∙ same i lt ∙ sym (get_or-map-range_with_len g 0 n i i d lt (omega arith)))

-- the cells of a row, one by one
cells_are : (xs : List Value) → map (λ k. get_or xs k Null) (range_with_len 0 (length xs)) ≡ xs
cells_are xs =
    let longs : length (map (λ k. get_or xs k Null) (range_with_len 0 (length xs))) ≡ length xs = length-map-range_with_len (λ k. get_or xs k Null) 0 (length xs) in
    ext_get_or Null _ xs longs
    (λ i small. let lt : i < length xs = rw longs at small in
    get_or-map-range_with_len (λ k. get_or xs k Null) 0 (length xs) i i Null lt (omega arith))

pub count_is : (columns : List Column) (cells : List CellsData) (count : ℕ) → count ≡ length (table_kept columns cells count).rows
count_is columns cells count = sym (length-map-range_with_len (row_kept cells (length columns)) 0 count)

-- the cells of a table's rows are those that are kept
pub cell_is : (columns : List Column) (cells : List CellsData) (count row column : ℕ) → row < count → column < length columns
    → cell_in (get_or (table_kept columns cells count).rows row no_row) column ≡ cell_kept cells row column
cell_is columns cells count row column early there =
    ap (λ (r : AnswerRow). cell_in r column) (get_or-map-range_with_len (row_kept cells (length columns)) 0 count row row no_row early (omega arith))
    ∙ get_or-map-range_with_len (cell_kept cells row) 0 (length columns) column column Null there (omega arith)

-- where a column has values, it is there
pub column_there : (cells : List CellsData) (row column : ℕ) → row < length (values_in cells column) → column < length cells
column_there [] row column some = absurd (omega arith)
column_there (c ∷ cells) row zero some = omega arith
column_there (c ∷ cells) row (suc column) some = let more = column_there cells row column some in omega arith

pub values_are : (cells : List CellsData) (column : ℕ) (d : CellsData) → column < length cells → (get_or cells column d).values ≡ values_in cells column
values_are [] column d there = absurd (omega arith)
values_are (c ∷ cells) zero d there = refl
values_are (c ∷ cells) (suc column) d there = values_are cells column d (omega arith)

-- a cell of a table is kept
pub record IsThere (columns : List Column) (cells : List CellsData) (count row column : ℕ) : Type 0 where
  pub early : row < count
  pub in_columns : column < length columns
  pub in_cells : column < length cells
  pub in_column : row < length (values_in cells column)

pub cell_there : (columns : List Column) (cells : List CellsData) (count row column : ℕ) → IsKept columns cells count
    → row < length (table_kept columns cells count).rows → column < length columns → IsThere columns cells count row column
cell_there columns cells count row column kept early there =
    let longs : length (table_kept columns cells count).rows ≡ count = length-map-range_with_len (row_kept cells (length columns)) 0 count in
    let far : count ≤ length (values_in cells column) = kept.reach column there in
    let within : row < length (values_in cells column) = omega arith in
    record { early = omega arith; in_columns = there; in_cells = column_there cells row column within; in_column = within }

-- columns without cells
pub none_yet : (columns : List Column) (column : ℕ) → values_in (map no_cells columns) column ≡ []
none_yet [] column = refl
none_yet (c ∷ columns) zero = refl
none_yet (c ∷ columns) (suc column) = none_yet columns column

pub none_domains : (columns : List Column) → domains_of (map no_cells columns) ≡ column_domains columns
none_domains [] = refl
none_domains (c ∷ columns) = ap (λ (ds : List Domain). c.domain ∷ ds) (none_domains columns)

-- a valid row is one that the domains admit
pub admit_row : (columns : List Column) (values : List Value) → IsRow columns values → AdmitRow (column_domains columns) values
admit_row [] [] valid = tt
admit_row [] (value ∷ values) valid = absurd valid
admit_row (column ∷ columns) [] valid = absurd valid
admit_row (column ∷ columns) (Num n ∷ values) valid = (valid.0, admit_row columns values valid.1)
admit_row (column ∷ columns) (Str text ∷ values) valid = (valid.0, admit_row columns values valid.1)
admit_row (column ∷ columns) (Null ∷ values) valid = (tt, admit_row columns values valid.1)

-- the first rows are the same where their cells are
same_rows : (width : ℕ) (a b : List CellsData) (count : ℕ) → ((row column : ℕ) → row < count → cell_kept b row column ≡ cell_kept a row column)
    → map (row_kept b width) (range_with_len 0 count) ≡ map (row_kept a width) (range_with_len 0 count)
same_rows width a b count same =
    map-range-same no_row (row_kept b width) (row_kept a width) count
    (λ row early. ap (λ (values : List Value). record { cells = values }) (map-range-same Null (cell_kept b row) (cell_kept a row) width (λ column within. same row column early)))

-- the table is as it was
pub record IsAsBefore (columns : List Column) (a b : List CellsData) (count : ℕ) : Type 0 where
  pub kept : IsKept columns b count
  pub table : table_kept columns b count ≡ table_kept columns a count

as_before : (columns : List Column) (a b : List CellsData) (count : ℕ) → IsKept columns a count → HaveDomains b columns
    → ((row column : ℕ) → row < count → cell_kept b row column ≡ cell_kept a row column)
    → ((column : ℕ) → column < length columns → count ≤ length (values_in b column)) → IsAsBefore columns a b count
as_before columns a b count kept domains same reach =
    let table : table_kept columns b count ≡ table_kept columns a count = ap (λ (rows : List AnswerRow). record { columns = columns; rows = rows }) (same_rows (length columns) a b count same) in
    record { kept = record { table = subst IsTable (sym table) kept.table; domains = domains; reach = reach }; table = table }

-- the table has the row at its end
pub record HasMore (columns : List Column) (a b : List CellsData) (count : ℕ) (row : AnswerRow) : Type 0 where
  pub kept : IsKept columns b (count + 1)
  pub table : table_kept columns b (count + 1) ≡ record { columns = columns; rows = (table_kept columns a count).rows ++ row ∷ [] }

has_more : (columns : List Column) (a b : List CellsData) (count : ℕ) (row : AnswerRow) → IsKept columns a count → domains_of b ≡ column_domains columns
    → ((row column : ℕ) → row < count → cell_kept b row column ≡ cell_kept a row column)
    → HaveRow count row.cells b → IsRow columns row.cells → count < 100000 → HasMore columns a b count row
has_more columns a b count row kept domains same new valid room =
    let width = length columns in
    let wide : length row.cells ≡ length columns = length-IsRow columns row.cells valid in
    let longs : length (table_kept columns a count).rows ≡ count = length-map-range_with_len (row_kept a width) 0 count in
    let cells : map (cell_kept b count) (range_with_len 0 width) ≡ row.cells =
    map-range-same Null (cell_kept b count) (λ k. get_or row.cells k Null) width (λ column within. new.cells column (omega arith))
    ∙ ap (λ (n : ℕ). map (λ k. get_or row.cells k Null) (range_with_len 0 n)) (sym wide) ∙ cells_are row.cells in
    let rows : (table_kept columns b (count + 1)).rows ≡ (table_kept columns a count).rows ++ row ∷ [] =
    map-range_with_len_more (row_kept b width) 0 count count (omega arith)
    ∙ ap (λ (xs : List AnswerRow). xs ++ row_kept b width count ∷ []) (same_rows width a b count same)
    ∙ ap (λ (values : List Value). (table_kept columns a count).rows ++ record { cells = values } ∷ []) cells in
    let table : table_kept columns b (count + 1) ≡ record { columns = columns; rows = (table_kept columns a count).rows ++ row ∷ [] } = ap (λ (xs : List AnswerRow). record { columns = columns; rows = xs }) rows in
    let size : length ((table_kept columns a count).rows ++ row ∷ []) ≡ length (table_kept columns a count).rows + 1 = length-append (table_kept columns a count).rows (row ∷ []) in
    record {
      kept = record {
        table = subst IsTable (sym table) (record {
          schema = kept.table.schema;
          rows = All-push (λ (r : AnswerRow). IsRow columns r.cells) (table_kept columns a count).rows row kept.table.rows valid;
          few_rows = omega arith;
        });
        domains = inr domains;
        reach = λ column within. (let far : count < length (values_in b column) = new.reach column (omega arith) in omega arith);
      };
      table = table;
    }

-- the columns that are begun show the same cells, and keep the first rows when a row is put
begun_cells : (count : ℕ) (a begun b : List CellsData) → ((column : ℕ) → values_in begun column ≡ values_in a column) → KeepRows count begun b
    → (row column : ℕ) → row < count → cell_kept b row column ≡ cell_kept a row column
begun_cells count a begun b same keep row column early = keep.cells row column early ∙ ap (λ (xs : List Value). get_or xs row Null) (same column)

begun_reach : (columns : List Column) (count : ℕ) (a begun : List CellsData) → IsKept columns a count → ((column : ℕ) → values_in begun column ≡ values_in a column)
    → (column : ℕ) → column < length columns → count ≤ length (values_in begun column)
begun_reach columns count a begun kept same column within = rw (same column) (kept.reach column within)

pub values_reach : (columns : List Column) (count : ℕ) (a begun : List CellsData) (row : List Value) → IsKept columns a count → ((column : ℕ) → values_in begun column ≡ values_in a column) → IsRow columns row
    → (column : ℕ) → column < length row → count ≤ length (values_in begun column)
values_reach columns count a begun row kept same valid column within =
    let wide : length row ≡ length columns = length-IsRow columns row valid in
    begun_reach columns count a begun kept same column (omega arith)

pub row_stops : (columns : List Column) (count : ℕ) (a begun b : List CellsData) → IsKept columns a count → ((column : ℕ) → values_in begun column ≡ values_in a column)
    → domains_of begun ≡ column_domains columns → KeepRows count begun b → IsAsBefore columns a b count
row_stops columns count a begun b kept same domains keep =
    as_before columns a b count kept (inr (keep.domains ∙ domains)) (begun_cells count a begun b same keep)
    (λ column within. keep.reach column (begun_reach columns count a begun kept same column within))

pub row_adds : (columns : List Column) (count : ℕ) (a begun b : List CellsData) (row : AnswerRow) → IsKept columns a count → ((column : ℕ) → values_in begun column ≡ values_in a column)
    → domains_of begun ≡ column_domains columns → KeepRows count begun b → HaveRow count row.cells b → IsRow columns row.cells → count < 100000 → HasMore columns a b count row
row_adds columns count a begun b row kept same domains keep new valid room =
    has_more columns a b count row kept (keep.domains ∙ domains) (begun_cells count a begun b same keep) new valid room
