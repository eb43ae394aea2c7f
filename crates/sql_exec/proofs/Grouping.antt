-- Rows by their value, one row more.
use Rattle.std.proofs.Common.{◌≡◌, Bool, ℕ, true, false, cond, not, ◌&&◌, inl, inr, if◌then◌else◌, Some, None, List, [], ◌∷◌, ◌++◌, refl, sym, ap, ◌∙◌, append-nil}
use Rattle.std.specs.Ordering.{is_eq}
use Rattle.std.specs.declared.cmp.Ordering.{Ordering}
use Rattle.std.specs.declared.cmp.Ordering.TheVariants.{Less, Equal, Greater}
use Rattle.std.proofs.lemmas.Bool.{cases_Bool}
use Rattle.std.proofs.lemmas.List.Elements.{filter-append}
use Rattle.indexmap.specs.IndexMap.{IndexMap, Updates, UpdatesBy, get}
use Rattle.prefsql_tables.specs.Table.{cell_in}
use Rattle.prefsql_tables.specs.declared.table.AnswerRow.{AnswerRow}
use Rattle.prefsql_values.specs.Truth.{is_true}
use Rattle.prefsql_values.specs.Value.{admits, is_null, nulls_last, truth_of, value_eq}
use Rattle.prefsql_values.specs.declared.value.CompareOp.TheVariants.{Eq}
use Rattle.prefsql_values.specs.declared.value.Value.{Value}
use Rattle.prefsql_values.specs.declared.value.Value.TheVariants.{Num, Str, Null}
use Rattle.prefsql_values.proofs.ValueEq.{value_eq-Decides}
use Rattle.prefsql_values.proofs.ValueOrder.{nulls_last_ties}
use Rattle.sql_exec.specs.RowKeys.{are_equal, group_at, is_found, listed, same_rows}

told : (o : Ordering) → is_true (truth_of (admits Eq o)) ≡ is_eq o
told Less = refl
told Equal = refl
told Greater = refl

-- equal, and not NULL
pub are_equal_is : (a b : Value) → are_equal a b ≡ (not (is_null a) && value_eq a b)
are_equal_is (Num m) (Num n) = told (nulls_last (Num m) (Num n)) ∙ sym (nulls_last_ties (Num m) (Num n))
are_equal_is (Num m) (Str t) = refl
are_equal_is (Num m) Null = refl
are_equal_is (Str s) (Num n) = refl
are_equal_is (Str s) (Str t) = told (nulls_last (Str s) (Str t)) ∙ sym (nulls_last_ties (Str s) (Str t))
are_equal_is (Str s) Null = refl
are_equal_is Null (Num n) = refl
are_equal_is Null (Str t) = refl
are_equal_is Null Null = refl

abbrev Groups : Type 0 → Type 0
Groups S = IndexMap Value (List AnswerRow) S

module _ {S : Type 0} (m n o : Groups S) (c : Value) (group : List AnswerRow) (row : AnswerRow)
    (removed : UpdatesBy value_eq (value_eq c) m n None) (put : Updates value_eq n o c (Some group))
    (grown : group ≡ group_at m c ++ row ∷ []) where
  at_value : (v : Value) → get value_eq o v ≡ cond (value_eq c v) (Some group) (cond (value_eq c v) None (get value_eq m v))
  at_value v = put.0 v ∙ ap (λ more. cond (value_eq c v) (Some group) more) (removed.0 v)

  pub one_added : (v : Value) → group_at o v ≡ group_at m v ++ (if value_eq c v then row ∷ [] else [])
  one_added v =
      elim (cases_Bool (value_eq c v)) [
        | inl same ↦
            let is : c ≡ v = (value_eq-Decides c v).0 same in
            ap listed (at_value v ∙ ap (λ b. cond b (Some group) (cond b None (get value_eq m v))) same)
            ∙ grown
            ∙ ap (λ w. group_at m w ++ row ∷ []) is
            ∙ ap (λ b. group_at m v ++ (if b then row ∷ [] else [])) (sym same)
        | inr other ↦
            ap listed (at_value v ∙ ap (λ b. cond b (Some group) (cond b None (get value_eq m v))) other)
            ∙ sym (append-nil (group_at m v))
            ∙ ap (λ b. group_at m v ++ (if b then row ∷ [] else [])) (sym other)
      ]

-- one row more
pub row_more : (rows : List AnswerRow) (column : ℕ) (v : Value) (row : AnswerRow) → same_rows (rows ++ row ∷ []) column v ≡ same_rows rows column v ++ (if value_eq (cell_in row column) v then row ∷ [] else [])
row_more rows column v row = filter-append (λ r. value_eq (cell_in r column) v) rows (row ∷ [])

-- ---- when it is True that two values are equal, and when a value is found by another

unlike : (a b : Value) → value_eq a b ≡ false → are_equal a b ≡ false
unlike a b other = are_equal_is a b ∙ ap (λ c. not (is_null a) && c) other ∙ none (not (is_null a))
  where
    none : (c : Bool) → (c && false) ≡ false
    none true = refl
    none false = refl

pub found_equal : (a b : Value) → is_found false a b ≡ are_equal a b
found_equal a b =
    elim (cases_Bool (value_eq a b)) [
      | inl same ↦
          let e : a ≡ b = (value_eq-Decides a b).0 same in
          ap (λ (v : Value). not (is_null v) && value_eq a b) (sym e) ∙ sym (are_equal_is a b)
      | inr other ↦ ap (λ c. not (is_null b) && c) other ∙ none (not (is_null b)) ∙ sym (unlike a b other)
    ]
  where
    none : (c : Bool) → (c && false) ≡ false
    none true = refl
    none false = refl
