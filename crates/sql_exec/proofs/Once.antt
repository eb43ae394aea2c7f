-- Each row once, at its first place.
use Rattle.std.proofs.Common.{◌≡◌, Bool, true, false, not, ◌&&◌, ◌||◌, cond, List, [], ◌∷◌, ◌++◌, map, map-id, refl, sym, ap, ◌∙◌, inl, inr, append-nil, append_assoc}
use Rattle.std.specs.Cmp.{decided}
use Rattle.std.specs.List.{filter, list_any}
use Rattle.std.proofs.lemmas.Bool.{cases_Bool}
use Rattle.std.proofs.lemmas.List.Folds.{list_any-append}
use Rattle.indexmap.specs.IndexSet.{insert_all}
use Rattle.prefsql_tables.specs.declared.table.AnswerRow.{AnswerRow}
use Rattle.prefsql_tables.specs.Distinct.{is_same_row, each_once}
use Rattle.prefsql_tables.proofs.DistinctLemmas.{is_same_row-Decides}

abbrev is_in : List AnswerRow → AnswerRow → Bool
is_in kept row = list_any (is_same_row row) kept

-- the rows with others added one after the other, each if it is not there
abbrev adding : List AnswerRow → List AnswerRow → List AnswerRow
adding = insert_all is_same_row

abbrev is_other : AnswerRow → AnswerRow → Bool
is_other row other = not (is_same_row row other)

abbrev is_new : List AnswerRow → AnswerRow → Bool
is_new kept row = not (is_in kept row)

filter_by : (p q : AnswerRow → Bool) (row : AnswerRow) (rows : List AnswerRow) → filter p (filter q rows) ≡ filter (λ other. q other && p other) rows → (b : Bool)
    → filter p (cond b (row ∷ filter q rows) (filter q rows)) ≡ cond (b && p row) (row ∷ filter (λ other. q other && p other) rows) (filter (λ other. q other && p other) rows)
filter_by p q row rows rest true = ap (λ kept. cond (p row) (row ∷ kept) kept) rest
filter_by p q row rows rest false = rest

filter-filter : (p q : AnswerRow → Bool) (rows : List AnswerRow) → filter p (filter q rows) ≡ filter (λ other. q other && p other) rows
filter-filter p q [] = refl
filter-filter p q (row ∷ rows) = filter_by p q row rows (filter-filter p q rows) (q row)

-- a row that is there already
old_row : (kept : List AnswerRow) (row other : AnswerRow) → is_in kept row ≡ true → (is_other row other && is_new kept other) ≡ is_new kept other
old_row kept row other there =
    elim (cases_Bool (is_same_row row other)) [
      | inl same ↦
          let e : row ≡ other = (is_same_row-Decides row other).0 same in
          ap (λ b. not b && is_new kept other) same ∙ sym (ap (λ r. not (is_in kept r)) (sym e) ∙ ap not there)
      | inr different ↦ ap (λ b. not b && is_new kept other) different
    ]

new_pair : (a b : Bool) → (not b && not a) ≡ not (a || (b || false))
new_pair true true = refl
new_pair true false = refl
new_pair false true = refl
new_pair false false = refl

-- a row that is not there yet
new_row : (kept : List AnswerRow) (row other : AnswerRow) → (is_other row other && is_new kept other) ≡ is_new (kept ++ row ∷ []) other
new_row kept row other =
    ap (λ b. not b && is_new kept other) ((decided is_same_row is_same_row-Decides).symm row other)
    ∙ new_pair (is_in kept other) (is_same_row other row)
    ∙ ap not (sym (list_any-append (is_same_row other) kept (row ∷ [])))

adding_is : (kept rows : List AnswerRow) → adding kept rows ≡ kept ++ filter (is_new kept) (each_once rows)
adding_is kept [] = sym (append-nil kept)
adding_is kept (row ∷ rows) =
    elim (cases_Bool (is_in kept row)) [
      | inl there ↦
          ap (λ b. adding (cond b kept (kept ++ row ∷ [])) rows) there
          ∙ adding_is kept rows
          ∙ sym (λ j. kept ++ filter (λ other. old_row kept row other there j) (each_once rows))
          ∙ ap (λ rest. kept ++ rest) (sym (filter-filter (is_new kept) (is_other row) (each_once rows)))
          ∙ ap (λ b. kept ++ cond (not b) (row ∷ filter (is_new kept) (filter (is_other row) (each_once rows))) (filter (is_new kept) (filter (is_other row) (each_once rows)))) (sym there)
      | inr gone ↦
          ap (λ b. adding (cond b kept (kept ++ row ∷ [])) rows) gone
          ∙ adding_is (kept ++ row ∷ []) rows
          ∙ append_assoc kept (row ∷ []) (filter (is_new (kept ++ row ∷ [])) (each_once rows))
          ∙ sym (λ j. kept ++ row ∷ filter (λ other. new_row kept row other j) (each_once rows))
          ∙ ap (λ rest. kept ++ row ∷ rest) (sym (filter-filter (is_new kept) (is_other row) (each_once rows)))
          ∙ ap (λ b. kept ++ cond (not b) (row ∷ filter (is_new kept) (filter (is_other row) (each_once rows))) (filter (is_new kept) (filter (is_other row) (each_once rows)))) (sym gone)
    ]

all_new : (rows : List AnswerRow) → filter (is_new []) rows ≡ rows
all_new [] = refl
all_new (row ∷ rows) = ap (λ rest. row ∷ rest) (all_new rows)

-- added to none, they are there once each
adding_all : (rows : List AnswerRow) → adding [] rows ≡ each_once rows
adding_all rows = adding_is [] rows ∙ all_new (each_once rows)

-- put into an empty set and taken out again, they are there once each
pub once_taken : (rows keys kept taken : List AnswerRow) → keys ≡ map (λ row. row) rows → kept ≡ adding [] keys → taken ≡ map (λ row. row) kept → taken ≡ each_once rows
once_taken rows keys kept taken as_keys are_kept are_taken =
    are_taken ∙ map-id kept ∙ are_kept ∙ ap (adding []) (as_keys ∙ map-id rows) ∙ adding_all rows
