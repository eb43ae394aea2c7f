-- The order of rows is total, and only equal rows tie in it.
use Rattle.std.proofs.Common.{◌≡◌, ℕ, zero, suc, ◌<◌, ◌≤◌, true, false, Decides, List, [], ◌∷◌, length, drop, refl, sym, ap, ◌∙◌, subst, arith}
use Rattle.std.specs.Cmp.{IsTotalOrder}
use Rattle.std.specs.Cmp.Lexicographic.{slice_cmp, lists_ties, pointwise_decides}
use Rattle.std.specs.Ordering.{ordering_then, on, is_eq}
use Rattle.std.specs.declared.cmp.Ordering.{Ordering}
use Rattle.std.specs.declared.cmp.Ordering.TheVariants.{Less, Equal, Greater}
use Rattle.std.proofs.lemmas.List.{drop_all}
use Rattle.std.proofs.lemmas.Cmp.{nat_cmp_total, on_total, then_total, back_total, lists_total}
use Rattle.prefsql_values.specs.declared.value.Value.{Value}
use Rattle.prefsql_values.specs.Value.{nulls_last}
use Rattle.prefsql_values.proofs.ValueEq.{value_eq-Decides}
use Rattle.prefsql_values.proofs.ValueOrder.{nulls_last_total, nulls_last_ties}
use Rattle.prefsql_tables.specs.RowOrder.{key_order, keys_order, columns_order, row_order}
use Rattle.prefsql_tables.specs.Table.{cell_in}
use Rattle.prefsql_tables.specs.declared.place.SortKey.{SortKey}
use Rattle.prefsql_tables.specs.declared.table.AnswerRow.{AnswerRow}

more_behind : {X : Type 0} (R : X → X → Ordering) (ys : List X) (n : ℕ) → n < length ys → slice_cmp R [] (drop n ys) ≡ Less
more_behind R [] n more = absurd (omega arith)
more_behind R (y ∷ ys) zero more = refl
more_behind R (y ∷ ys) (suc n) more = more_behind R ys n (omega arith)

-- a list that ends first is before
pub ends_first : {X : Type 0} (R : X → X → Ordering) (xs ys : List X) (n : ℕ) → length xs ≤ n → n < length ys → slice_cmp R (drop n xs) (drop n ys) ≡ Less
ends_first R xs ys n ended more = rw (drop_all n xs ended) (more_behind R ys n more)

column_total : (column : ℕ) → IsTotalOrder (on (λ (row : AnswerRow). cell_in row column) nulls_last)
column_total column = on_total (λ (row : AnswerRow). cell_in row column) nulls_last_total

key_total : (key : SortKey) → IsTotalOrder (key_order key)
key_total key = by_direction key.descending key.column
  where
    by_direction : (b : _) (column : ℕ) → IsTotalOrder (key_order (record { column = column; descending = b }))
    by_direction false column = column_total column
    by_direction true column =
        let back : (λ (x y : AnswerRow). nulls_last (cell_in y column) (cell_in x column)) ≡ key_order (record { column = column; descending = true })
        = λ i x y. nulls_last_total.antisymm (cell_in y column) (cell_in x column) i in
        subst IsTotalOrder back (back_total (column_total column))

keys_total : (keys : List SortKey) → IsTotalOrder (keys_order keys)
keys_total [] = on_total (λ (row : AnswerRow). 0) nat_cmp_total
keys_total (key ∷ keys) = then_total (key_total key) (keys_total keys)

columns_total : IsTotalOrder columns_order
columns_total = on_total (λ (row : AnswerRow). row.cells) (lists_total nulls_last_total)

pub row_order_total : (keys : List SortKey) → IsTotalOrder (row_order keys)
row_order_total keys = then_total (keys_total keys) columns_total

second_ties : (o p : Ordering) → ordering_then o p ≡ Equal → p ≡ Equal
second_ties Less p e = absurd (cc)
second_ties Equal p e = e
second_ties Greater p e = absurd (cc)

-- rows tie by all columns exactly where they are equal
pub columns_order_decides : (a b : AnswerRow) → Decides (is_eq (columns_order a b)) (a ≡ b)
columns_order_decides a b =
    let cells = pointwise_decides value_eq-Decides a.cells b.cells in
    let tie = lists_ties nulls_last nulls_last_ties a.cells b.cells in
    (λ e. ap (λ (values : List Value). let row : AnswerRow = record { cells = values } in row) (cells.0 (tie ∙ e)), λ same. sym tie ∙ cells.1 (ap (λ (row : AnswerRow). row.cells) same))

pub row_order_ties : (keys : List SortKey) (a b : AnswerRow) → row_order keys a b ≡ Equal → a ≡ b
row_order_ties keys a b e = (columns_order_decides a b).0 (ap is_eq (second_ties (keys_order keys a b) (columns_order a b) e))
