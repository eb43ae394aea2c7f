-- The used columns, one table after another, and how many there are.
use Rattle.std.proofs.Common.{◌≡◌, ℕ, ◌+◌, ◌*◌, ◌<◌, ◌≤◌, Bool, List, [], ◌∷◌, ◌++◌, length, get_or, drop, map, filter, All, sym, ap, ◌∙◌, append_assoc, length-append, arith}
use Rattle.std.specs.List.{list_any, range_with_len}
use Rattle.std.proofs.lemmas.List.{drop_more}
use Rattle.std.proofs.lemmas.List.Elements.{All-head, All-tail, filter-append}
use Rattle.std.proofs.lemmas.List.FromFn.{length-map-range_with_len}
use Rattle.std.proofs.lemmas.List.Sums.{count_by-le-length, length-filter}
use Rattle.prefsql_tables.specs.declared.place.ColumnPlace.{ColumnPlace}
use Rattle.pref_terms.specs.declared.term.Term.{Term}
use Rattle.query_meaning.specs.declared.block.Block.{Block}
use Rattle.query_meaning.specs.declared.block.FromTable.{FromTable}
use Rattle.rewritten_query.specs.Columns.{all_places, mentioned, place_eq, used}

pub table_pushed : (from : List FromTable) (i : ℕ) (table : FromTable) (mentioned used new whole : List ColumnPlace) (n next width : ℕ) → i < length from → table ≡ get_or from i table → next ≡ n + 1
    → width ≡ length table.schema.columns
    → new ≡ used ++ filter (λ place. list_any (place_eq place) mentioned) (map (λ c. let place : ColumnPlace = record { table = n; column = c } in place) (range_with_len 0 width))
    → used ++ filter (λ place. list_any (place_eq place) mentioned) (all_places n (drop i from)) ≡ whole
    → new ++ filter (λ place. list_any (place_eq place) mentioned) (all_places next (drop (i + 1) from)) ≡ whole
table_pushed from i table mentioned used new whole n next width small at next_is width_is pushed so_far =
    let P : ColumnPlace → Bool = λ place. list_any (place_eq place) mentioned in
    let own : ℕ → List ColumnPlace = λ w. map (λ c. let place : ColumnPlace = record { table = n; column = c } in place) (range_with_len 0 w) in
    let rest = all_places (n + 1) (drop (i + 1) from) in
    (λ j. pushed j ++ filter P (all_places (next_is j) (drop (i + 1) from)))
    ∙ append_assoc used (filter P (own width)) (filter P rest)
    ∙ ap (λ ps. used ++ ps) (sym (filter-append P (own width) rest))
    ∙ (λ j. used ++ filter P (own ((width_is ∙ ap (λ (t : FromTable). length t.schema.columns) at) j) ++ rest))
    ∙ ap (λ tables. used ++ filter P (all_places n tables)) (sym (drop_more from i table small))
    ∙ so_far

places_few : (t : ℕ) (from : List FromTable) → All (λ (table : FromTable). length table.schema.columns ≤ 64) from → length (all_places t from) ≤ 64 * length from
places_few t [] all = omega arith
places_few t (table ∷ from) all =
    let own = length-map-range_with_len (λ c. let place : ColumnPlace = record { table = t; column = c } in place) 0 (length table.schema.columns) in
    let joined = length-append (map (λ c. let place : ColumnPlace = record { table = t; column = c } in place) (range_with_len 0 (length table.schema.columns))) (all_places (t + 1) from) in
    let here = All-head (λ (u : FromTable). length u.schema.columns ≤ 64) table from all in
    let more = places_few (t + 1) from (All-tail (λ (u : FromTable). length u.schema.columns ≤ 64) table from all) in
    omega (arith, own, joined, here, more)

pub used_few : (block : Block) (term : Term) → length block.from ≤ 8 → All (λ (table : FromTable). length table.schema.columns ≤ 64) block.from → length (used block term) ≤ 512
used_few block term tables columns =
    let P : ColumnPlace → Bool = λ place. list_any (place_eq place) (mentioned block term) in
    let few = places_few 0 block.from columns in
    omega (arith, few, tables, length-filter P (all_places 0 block.from), count_by-le-length P (all_places 0 block.from))
