-- A pass over sorted rows that keeps each once, and the arrangement that comes of it.
use Rattle.std.proofs.Common.{◌≡◌, ◌≢◌, ◌-◌, ◌<◌, Bool, true, false, List, [], ◌∷◌, ◌++◌, length, get_or, Contains, sym, ap, ◌∙◌, append_assoc, append-nil}
use Rattle.std.specs.List.Sorted.{IsSorted, IsPermutation}
use Rattle.std.proofs.lemmas.List.{nil_from_length}
use Rattle.std.proofs.lemmas.List.Sorted.{Contains-permutation, IsPermutation-sym, IsPermutation-trans}
use Rattle.prefsql_values.proofs.OneSorted.{one_sorted}
use Rattle.prefsql_tables.specs.Arranged.{IsArranged, KeepsOrderedOnce}
use Rattle.prefsql_tables.specs.RowOrder.{row_order}
use Rattle.prefsql_tables.specs.declared.place.SortKey.{SortKey}
use Rattle.prefsql_tables.specs.declared.table.AnswerRow.{AnswerRow}
use Rattle.prefsql_tables.proofs.ArrangedLemmas.{IsOnce, none_once, once_there, once_new, passed_by, rising_sorted, rising_differs, one_list}
use Rattle.prefsql_tables.proofs.OrderLemmas.{row_order_total, row_order_ties}

-- those that are done, each once, and those that are left
pub record IsPass (all done left once : List AnswerRow) : Type 0 where
  pub whole : done ++ left ≡ all
  pub each : (keys : List SortKey) → IsSorted (row_order keys) all → IsOnce (row_order keys) done once

pub pass_begins : (all left : List AnswerRow) → left ≡ all → IsPass all [] left []
pass_begins all left is = record { whole = is; each = λ keys sorted. none_once (row_order keys) }

further : (all done left rest : List AnswerRow) (x : AnswerRow) → done ++ left ≡ all → left ≡ x ∷ rest → (done ++ x ∷ []) ++ rest ≡ all
further all done left rest x whole is = append_assoc done (x ∷ []) rest ∙ ap (λ (more : List AnswerRow). done ++ more) (sym is) ∙ whole

pub pass_there : (all done left rest once : List AnswerRow) (x : AnswerRow) → IsPass all done left once → left ≡ x ∷ rest → Contains once x → IsPass all (done ++ x ∷ []) rest once
pass_there all done left rest once x pass is there = record {
  whole = further all done left rest x pass.whole is;
  each = λ keys sorted. once_there (row_order keys) done once x (pass.each keys sorted) there;
}

pub pass_new : (all done left rest once : List AnswerRow) (x : AnswerRow) → IsPass all done left once → left ≡ x ∷ rest
    → ((d : AnswerRow) → 0 < length once → get_or once (length once - 1) d ≢ x) → IsPass all (done ++ x ∷ []) rest (once ++ x ∷ [])
pass_new all done left rest once x pass is differs = record {
  whole = further all done left rest x pass.whole is;
  each = λ keys sorted.
      let total = row_order_total keys in
      let all_is : all ≡ done ++ x ∷ rest = sym pass.whole ∙ ap (λ (more : List AnswerRow). done ++ more) is in
      once_new (row_order keys) total (row_order_ties keys) done once x (pass.each keys sorted) (passed_by (row_order keys) total (row_order_ties keys) all done x rest all_is sorted) differs;
}

pub pass_ends : (all done left once : List AnswerRow) → IsPass all done left once → length left ≡ 0 → KeepsOrderedOnce all once
pass_ends all done left once pass end keys sorted =
    let none : left ≡ [] = nil_from_length left end in
    let total = row_order_total keys in
    let all_is : done ≡ all = sym (append-nil done) ∙ ap (λ (more : List AnswerRow). done ++ more) (sym none) ∙ pass.whole in
    let so : IsOnce (row_order keys) all once = rw (← all_is) (pass.each keys sorted) in
    record {
      kept = record { members = so.members; differ = rising_differs (row_order keys) total (row_order_ties keys) once so.rising };
      sorted = rising_sorted (row_order keys) total (row_order_ties keys) once so.rising;
    }

-- what a sort and then a pass over it leave
pub arranged_once : (distinct : Bool) (keys : List SortKey) (given sorted once : List AnswerRow) → distinct ≡ true → IsPermutation given sorted → IsSorted (row_order keys) sorted
    → KeepsOrderedOnce sorted once → IsArranged distinct keys given once
arranged_once distinct keys given sorted once is moved up keeps =
    let arranged = keeps keys up in
    rw is record {
      kept = record {
        members = λ row. (
          (λ c. (arranged.kept.members row).0 (Contains-permutation given sorted row moved c)),
          (λ c. Contains-permutation sorted given row (IsPermutation-sym given sorted moved) ((arranged.kept.members row).1 c)),
        );
        differ = arranged.kept.differ;
      };
      sorted = arranged.sorted;
    }

-- there is at most one arrangement
pub one_arrangement : (distinct : Bool) (keys : List SortKey) (given xs ys : List AnswerRow) → IsArranged distinct keys given xs → IsArranged distinct keys given ys → xs ≡ ys
one_arrangement false keys given xs ys a b =
    one_sorted (row_order keys) (row_order_total keys) (row_order_ties keys) xs ys (IsPermutation-trans xs given ys (IsPermutation-sym given xs a.kept) b.kept) a.sorted b.sorted
one_arrangement true keys given xs ys a b =
    one_list (row_order keys) (row_order_total keys) (row_order_ties keys) xs ys a.sorted b.sorted a.kept.differ b.kept.differ
    (λ row c. (b.kept.members row).0 ((a.kept.members row).1 c)) (λ row c. (a.kept.members row).0 ((b.kept.members row).1 c))
