-- The rows of an answer have an arrangement, and it is the only one.
use Rattle.std.proofs.Common.{◌≡◌, ℕ, zero, suc, ◌+◌, ◌<◌, Bool, true, false, cond, List, [], ◌∷◌, length, get_or, ◌≢◌, AllPairs, sym, ap, subst, ◌∙◌, arith}
use Rattle.std.specs.List.Sorted.{IsSorted, IsPermutation}
use Rattle.std.specs.Ordering.{is_lt, ordering_reverse}
use Rattle.std.specs.declared.cmp.Ordering.{Ordering}
use Rattle.std.specs.declared.cmp.Ordering.TheVariants.{Less, Equal, Greater}
use Rattle.std.proofs.lemmas.List.Sorted.{Contains-permutation, IsPermutation-refl, IsPermutation-sym, IsPermutation-trans, IsPermutation-cons, IsPermutation-middle}
use Rattle.std.proofs.lemmas.Map.Made.{AllPairs-from_IsDistinct, IsDistinct-from_AllPairs}
use Rattle.indexmap.proofs.MapLemmas.{distinct_permutation}
use Rattle.prefsql_values.proofs.ValueEq.{equivalence_from_Decides}
use Rattle.prefsql_tables.specs.Arranged.{IsArranged}
use Rattle.prefsql_tables.specs.Arrangement.{placed, in_order, arranged, HasOneArrangement}
use Rattle.prefsql_tables.specs.Distinct.{is_same_row, each_once}
use Rattle.prefsql_tables.specs.RowOrder.{row_order}
use Rattle.prefsql_tables.specs.declared.place.SortKey.{SortKey}
use Rattle.prefsql_tables.specs.declared.table.AnswerRow.{AnswerRow}
use Rattle.prefsql_tables.proofs.DistinctLemmas.{is_same_row-Decides, each_once_kept}
use Rattle.prefsql_tables.proofs.OrderLemmas.{row_order_total}
use Rattle.prefsql_tables.proofs.PassLemmas.{one_arrangement}

module _ (keys : List SortKey) where
  abbrev lt : AnswerRow → AnswerRow → Bool
  lt a b = is_lt (row_order keys a b)

  not_both : (a b : AnswerRow) (o : Ordering) → row_order keys a b ≡ o → is_lt o ≡ true → lt b a ≡ false
  not_both a b Less e less = ap is_lt ((row_order_total keys).antisymm b a ∙ ap ordering_reverse e)
  not_both a b Equal e less = absurd (cc)
  not_both a b Greater e less = absurd (cc)

  -- the first item is not behind the second
  sorted_cons : (x : AnswerRow) (xs : List AnswerRow) → IsSorted (row_order keys) xs → ((d : AnswerRow) → 0 < length xs → lt (get_or xs 0 d) x ≡ false) → IsSorted (row_order keys) (x ∷ xs)
  sorted_cons x xs up first zero d low high = first d (omega arith)
  sorted_cons x xs up first (suc k) d low high = let e : suc k + 1 ≡ suc (k + 1) = omega arith in rw e (up k d (omega arith) (omega arith))

  sorted_tail : (x : AnswerRow) (xs : List AnswerRow) → IsSorted (row_order keys) (x ∷ xs) → IsSorted (row_order keys) xs
  sorted_tail x xs up k d low high =
      let e : suc k + 1 ≡ suc (k + 1) = omega arith in
      let P : ℕ → Type 0 = λ n. lt (get_or (x ∷ xs) n d) (get_or xs k d) ≡ false in
      subst P e (up (suc k) d (omega arith) (omega arith))

  -- what stands first after a row is placed
  first_of_placed : (row : AnswerRow) (xs : List AnswerRow) (y : AnswerRow) → lt row y ≡ false → ((d : AnswerRow) → 0 < length xs → lt (get_or xs 0 d) y ≡ false) → (d : AnswerRow) → lt (get_or (placed keys row xs) 0 d) y ≡ false
  first_of_placed row [] y at_row at_first d = at_row
  first_of_placed row (x ∷ xs) y at_row at_first d = by (lt x row)
    where
      by : (b : Bool) → lt (get_or (cond b (x ∷ placed keys row xs) (row ∷ x ∷ xs)) 0 d) y ≡ false
      by true = at_first d (omega arith)
      by false = at_row

  placed_sorted : (row : AnswerRow) (xs : List AnswerRow) → IsSorted (row_order keys) xs → IsSorted (row_order keys) (placed keys row xs)
  placed_sorted row [] up k d low high = absurd (omega arith)
  placed_sorted row (x ∷ xs) up k d low high = by_test row x xs up (placed_sorted row xs (sorted_tail x xs up)) (lt x row) (λ i. lt x row) k d low high
    where
      by_test : (row x : AnswerRow) (xs : List AnswerRow) → IsSorted (row_order keys) (x ∷ xs) → IsSorted (row_order keys) (placed keys row xs) → (b : Bool) → lt x row ≡ b
          → IsSorted (row_order keys) (cond b (x ∷ placed keys row xs) (row ∷ x ∷ xs))
      by_test row x xs up rest true e =
          sorted_cons x (placed keys row xs) rest
          (λ d some. first_of_placed row xs x (not_both x row (row_order keys x row) (λ i. row_order keys x row) e) (λ d' more. up 0 d' (omega arith) (omega arith)) d)
      by_test row x xs up rest false e = sorted_cons row (x ∷ xs) up (λ d some. e)

  placed_moved : (row : AnswerRow) (xs : List AnswerRow) → IsPermutation (row ∷ xs) (placed keys row xs)
  placed_moved row [] = IsPermutation-refl (row ∷ [])
  placed_moved row (x ∷ xs) = by_test (placed_moved row xs) (lt x row)
    where
      by_test : IsPermutation (row ∷ xs) (placed keys row xs) → (b : Bool) → IsPermutation (row ∷ x ∷ xs) (cond b (x ∷ placed keys row xs) (row ∷ x ∷ xs))
      by_test rest true = IsPermutation-trans (row ∷ x ∷ xs) (x ∷ row ∷ xs) (x ∷ placed keys row xs) (IsPermutation-middle (row ∷ []) x xs) (IsPermutation-cons x (row ∷ xs) (placed keys row xs) rest)
      by_test rest false = IsPermutation-refl (row ∷ x ∷ xs)

  order_sorted : (rows : List AnswerRow) → IsSorted (row_order keys) (in_order keys rows)
  order_sorted [] k d low high = absurd (omega arith)
  order_sorted (row ∷ rows) k d low high = placed_sorted row (in_order keys rows) (order_sorted rows) k d low high

  order_moved : (rows : List AnswerRow) → IsPermutation rows (in_order keys rows)
  order_moved [] = IsPermutation-refl []
  order_moved (row ∷ rows) = IsPermutation-trans (row ∷ rows) (row ∷ in_order keys rows) (placed keys row (in_order keys rows)) (IsPermutation-cons row rows (in_order keys rows) (order_moved rows)) (placed_moved row (in_order keys rows))

-- rows in another order differ as before
still_differ : (xs ys : List AnswerRow) → IsPermutation xs ys → AllPairs (λ (a b : AnswerRow). a ≢ b) xs → AllPairs (λ (a b : AnswerRow). a ≢ b) ys
still_differ xs ys moved differ =
    AllPairs-from_IsDistinct is_same_row-Decides ys
    (distinct_permutation (equivalence_from_Decides is_same_row is_same_row-Decides) xs ys moved (IsDistinct-from_AllPairs is_same_row-Decides xs differ))

-- the arrangement is one
pub arranged_is : (distinct : Bool) (keys : List SortKey) (given : List AnswerRow) → IsArranged distinct keys given (arranged distinct keys given)
unfolding arranged
arranged_is false keys given = record { kept = order_moved keys given; sorted = order_sorted keys given }
arranged_is true keys given =
    let moved = order_moved keys (each_once given) in
    let once = each_once_kept given in
    record {
      kept = record {
        members = λ row. (
          (λ c. Contains-permutation (each_once given) (in_order keys (each_once given)) row moved ((once.members row).0 c)),
          (λ c. (once.members row).1 (Contains-permutation (in_order keys (each_once given)) (each_once given) row (IsPermutation-sym (each_once given) (in_order keys (each_once given)) moved) c)),
        );
        differ = still_differ (each_once given) (in_order keys (each_once given)) moved once.differ;
      };
      sorted = order_sorted keys (each_once given);
    }

-- and the only one
pub arranged_only : (distinct : Bool) (keys : List SortKey) (given rows : List AnswerRow) → IsArranged distinct keys given rows → rows ≡ arranged distinct keys given
arranged_only distinct keys given rows is = one_arrangement distinct keys given rows (arranged distinct keys given) is (arranged_is distinct keys given)

pub has_one : HasOneArrangement
has_one distinct keys given rows = (arranged_only distinct keys given rows, λ same. subst (λ (list : List AnswerRow). IsArranged distinct keys given list) (sym same) (arranged_is distinct keys given))
