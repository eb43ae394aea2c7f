-- The columns of the FROM tables, and the used ones among them.
use Rattle.std.proofs.Common.{◌≡◌, ℕ, zero, suc, ◌+◌, ◌<◌, List, [], ◌∷◌, ◌++◌, length, get_or, map, All, Contains, refl, sym, ap, ◌∙◌, subst, arith, append_assoc, length-append}
use Rattle.std.specs.List.{list_any, range_with_len}
use Rattle.std.proofs.lemmas.List.{get_or_at, map-append, length-map}
use Rattle.std.proofs.lemmas.List.Elements.{All-nil, All-append, All-map, All-filter, Contains-append_left, Contains-append_right}
use Rattle.std.proofs.lemmas.List.FromFn.{get_or-range_with_len, get_or-map-range_with_len, length-map-range_with_len, length-range_with_len}
use Rattle.prefsql_tables.specs.declared.place.ColumnPlace.{ColumnPlace}
use Rattle.prefsql_tables.specs.declared.schema.Column.{Column}
use Rattle.prefsql_tables.proofs.MemberLemmas.{Contains-filter}
use Rattle.order_laws.proofs.Members.{any_from, among_from_Contains}
use Rattle.pref_terms.specs.declared.term.Term.{Term}
use Rattle.query_meaning.specs.declared.block.Block.{Block}
use Rattle.query_meaning.specs.declared.block.FromTable.{FromTable}
use Rattle.query_meaning.specs.BlockFits.{IsPlace, columns_from}
use Rattle.rewritten_query.specs.Columns.{all_places, mentioned, place_eq, used}
use Rattle.written_query_meaning.proofs.Cells.{place_eq-Decides}

abbrev table_columns : List FromTable → List (List Column)
table_columns = map (λ (t : FromTable). t.schema.columns)

-- each is a place of the tables
places_behind : (front from : List FromTable) → All (IsPlace (front ++ from)) (all_places (length front) from)
places_behind front [] = All-nil (IsPlace (front ++ []))
places_behind front (table ∷ from) =
    let whole = front ++ table ∷ from in
    let width = length table.schema.columns in
    let joins : (front ++ table ∷ []) ++ from ≡ whole = append_assoc front (table ∷ []) from in
    let longer : length (front ++ table ∷ []) ≡ length front + 1 = omega (arith, length-append front (table ∷ [])) in
    let size = length-append front (table ∷ from) in
    let columns : columns_from whole (length front) ≡ table.schema.columns =
    ap (λ (columns : List (List Column)). get_or columns (length front) []) (map-append (λ (t : FromTable). t.schema.columns) front (table ∷ from))
    ∙ get_or_at (table_columns front) table.schema.columns (table_columns from) [] (length front) (length-map front (λ (t : FromTable). t.schema.columns)) in
    All-append (IsPlace whole) (map (λ c. record { table = length front; column = c }) (range_with_len 0 width)) (all_places (length front + 1) from)
    (All-map (IsPlace whole) (λ c. record { table = length front; column = c }) (range_with_len 0 width)
    (λ k d small.
    let listed : get_or (range_with_len 0 width) k d ≡ 0 + k = get_or-range_with_len 0 width k d (omega (arith, small, length-range_with_len 0 width)) in
    record {
      table = omega (arith, size);
      column = subst (λ (columns : List Column). get_or (range_with_len 0 width) k d < length columns) (sym columns) (omega (arith, listed, small, length-range_with_len 0 width));
    }))
    (subst (λ n. All (IsPlace whole) (all_places n from)) longer (subst (λ all. All (IsPlace all) (all_places (length (front ++ table ∷ [])) from)) joins (places_behind (front ++ table ∷ []) from)))

pub places_there : (from : List FromTable) → All (IsPlace from) (all_places 0 from)
places_there from = places_behind [] from

-- and each place of the tables is among them
has_place : (from : List FromTable) (t k : ℕ) (p : ColumnPlace) → p.table ≡ t + k → k < length from → p.column < length (get_or (table_columns from) k []) → Contains (all_places t from) p
has_place [] t k p at small column = absurd (omega arith)
has_place (table ∷ from) t zero p at small column =
    let width = length table.schema.columns in
    let listing = map (λ c. let q : ColumnPlace = record { table = t; column = c } in q) (range_with_len 0 width) in
    let here : get_or listing p.column p ≡ record { table = t; column = p.column } = get_or-map-range_with_len (λ c. let q : ColumnPlace = record { table = t; column = c } in q) 0 width p.column p.column p column (omega arith) in
    let table_is : t ≡ p.table = omega (arith, at) in
    let same : record { table = t; column = p.column } ≡ p = λ j. record { table = table_is j; column = p.column } in
    Contains-append_left listing (all_places (t + 1) from) p
    (p.column, omega (arith, column, length-map-range_with_len (λ c. let q : ColumnPlace = record { table = t; column = c } in q) 0 width), here ∙ same)
has_place (table ∷ from) t (suc k) p at small column =
    Contains-append_right (map (λ c. record { table = t; column = c }) (range_with_len 0 (length table.schema.columns))) (all_places (t + 1) from) p
    (has_place from (t + 1) k p (omega (arith, at)) (omega arith) column)

module _ (block : Block) (term : Term) where
  pub used_there : All (IsPlace block.from) (used block term)
  used_there = All-filter (λ place. list_any (place_eq place) (mentioned block term)) (IsPlace block.from) (all_places 0 block.from) (places_there block.from)

  -- what is mentioned is used
  pub used_has : (p : ColumnPlace) → IsPlace block.from p → Contains (mentioned block term) p → Contains (used block term) p
  used_has p is there =
      Contains-filter (λ place. list_any (place_eq place) (mentioned block term)) (all_places 0 block.from) p
      (has_place block.from 0 p.table p (omega arith) is.table is.column)
      (any_from (place_eq p) (mentioned block term) p (among_from_Contains (mentioned block term) p there) ((place_eq-Decides p p).1 refl))
