-- Rows without repetition.
use Rattle.std.proofs.Common.{◌≡◌, ◌≢◌, ⊎_elim, Bool, true, false, not, Decides, List, [], ◌∷◌, get_or, All, AllPairs, Contains, ap, subst, arith}
use Rattle.std.specs.Cmp.Lexicographic.{pointwise_decides}
use Rattle.std.specs.List.{filter}
use Rattle.std.proofs.lemmas.List.Elements.{filter_passes}
use Rattle.std.proofs.lemmas.List.Kept.{AllPairs-cons, AllPairs-filter}
use Rattle.prefsql_values.specs.declared.value.Value.{Value}
use Rattle.prefsql_values.proofs.ValueEq.{value_eq-Decides}
use Rattle.prefsql_tables.specs.Arranged.{HasEachOnce}
use Rattle.prefsql_tables.specs.Distinct.{is_same_row, each_once}
use Rattle.prefsql_tables.specs.declared.table.AnswerRow.{AnswerRow}
use Rattle.prefsql_tables.proofs.MemberLemmas.{at_head, in_tail, head_or_tail, Contains-filter, Contains-from_filter}

-- rows have the same values exactly where they are equal
pub is_same_row-Decides : (a b : AnswerRow) → Decides (is_same_row a b) (a ≡ b)
is_same_row-Decides a b =
    let cells = pointwise_decides value_eq-Decides a.cells b.cells in
    (λ e. ap (λ (values : List Value). let row : AnswerRow = record { cells = values } in row) (cells.0 e), λ same. cells.1 (ap (λ (row : AnswerRow). row.cells) same))

abbrev differs_from : AnswerRow → AnswerRow → Bool
differs_from row other = not (is_same_row row other)

all_differ : (row : AnswerRow) (rows : List AnswerRow) → All (λ (other : AnswerRow). row ≢ other) (filter (differs_from row) rows)
all_differ row rows k d small same =
    let passes : not (is_same_row row (get_or (filter (differs_from row) rows) k d)) ≡ true = filter_passes (differs_from row) rows k d small in
    let is : is_same_row row (get_or (filter (differs_from row) rows) k d) ≡ true = (is_same_row-Decides row _).1 same in
    cc

once_differ : (rows : List AnswerRow) → AllPairs (λ (a b : AnswerRow). a ≢ b) (each_once rows)
once_differ [] i j d before small = absurd (omega arith)
once_differ (row ∷ rows) i j d before small =
    AllPairs-cons (λ (a b : AnswerRow). a ≢ b) row (filter (differs_from row) (each_once rows)) (all_differ row (each_once rows))
    (AllPairs-filter (λ (a b : AnswerRow). a ≢ b) (differs_from row) (each_once rows) (once_differ rows)) i j d before small

still_there : (row : AnswerRow) (once : List AnswerRow) (z : AnswerRow) (b : Bool) → is_same_row row z ≡ b → Contains once z → Contains (row ∷ filter (differs_from row) once) z
still_there row once z true is c = subst (λ (w : AnswerRow). Contains (row ∷ filter (differs_from row) once) w) ((is_same_row-Decides row z).0 is) (at_head row _)
still_there row once z false is c = in_tail row (filter (differs_from row) once) z (Contains-filter (differs_from row) once z c (ap not is))

once_has : (rows : List AnswerRow) (z : AnswerRow) → Contains rows z → Contains (each_once rows) z
once_has [] z c = c
once_has (row ∷ rows) z c =
    ⊎_elim
    (λ (e : row ≡ z). subst (λ (w : AnswerRow). Contains (each_once (row ∷ rows)) w) e (at_head row _))
    (λ (tail : Contains rows z). still_there row (each_once rows) z (is_same_row row z) (λ i. is_same_row row z) (once_has rows z tail))
    (head_or_tail row rows z c)

once_from : (rows : List AnswerRow) (z : AnswerRow) → Contains (each_once rows) z → Contains rows z
once_from [] z c = c
once_from (row ∷ rows) z c =
    ⊎_elim
    (λ (e : row ≡ z). subst (λ (w : AnswerRow). Contains (row ∷ rows) w) e (at_head row rows))
    (λ (tail : Contains (filter (differs_from row) (each_once rows)) z). in_tail row rows z (once_from rows z (Contains-from_filter (differs_from row) (each_once rows) z tail)))
    (head_or_tail row (filter (differs_from row) (each_once rows)) z c)

-- each row that was given, and no row twice
pub each_once_kept : (rows : List AnswerRow) → HasEachOnce rows (each_once rows)
each_once_kept rows = record { members = λ row. (once_has rows row, once_from rows row); differ = once_differ rows }
