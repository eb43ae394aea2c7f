-- The rows that are kept of each part of a table are enough for a query over it and other tables.
use Rattle.std.proofs.Common.{◌≡◌, Bool, List, [], ◌∷◌, ◌++◌, length, get_or, map, filter, Contains, refl, sym, ap, ◌∙◌, subst, inl, inr, arith, append-nil}
use Rattle.std.specs.List.{flat_map}
use Rattle.std.specs.List.Sorted.{IsPermutation}
use Rattle.std.proofs.lemmas.List.{map-append}
use Rattle.std.proofs.lemmas.List.Elements.{Contains-append_right}
use Rattle.std.proofs.lemmas.List.Sorted.{Contains-permutation, IsPermutation-append, IsPermutation-refl, IsPermutation-sym, IsPermutation-trans}
use Rattle.prefsql_tables.specs.Product.{product}
use Rattle.prefsql_tables.specs.Table.{Tables, no_row, rows_of}
use Rattle.prefsql_tables.specs.declared.table.AnswerRow.{AnswerRow}
use Rattle.order_laws.specs.Best.{best}
use Rattle.order_laws.proofs.BestLaws.{best_among}
use Rattle.order_laws.proofs.Members.{Among, Contains_from_among, among_flat_map, among_flat_mapped, among_from_Contains, among_kept, among_map, among_mapped}
use Rattle.query_meaning.specs.declared.block.Block.{Block}
use Rattle.query_meaning.specs.declared.block.FromTable.{FromTable}
use Rattle.query_meaning.specs.Answers.{passes}
use Rattle.table_parts.specs.JoinParts.{AnswersByKeptParts, KeepsBestOfPart, KeptPart}
use Rattle.table_parts.specs.KeptChoices.{ArePartedLists, HasNoneOf, KeepsBestChoices, best_choices, choice_better}
use Rattle.table_parts.specs.KeptRows.{rows_from, rows_sight}
use Rattle.table_parts.proofs.EnoughChoices.{answers_kept_choices, best_of_fewer}
use Rattle.table_parts.proofs.EnoughRows.{middle_moved}

module _ {X : Type 0} where
  -- nothing is left out of any list
  abbrev none_of : List (List X) → List (List X)
  none_of = map (λ xs. [])

  all_kept : (lists : List (List X)) → ArePartedLists lists lists (none_of lists)
  all_kept [] = tt
  all_kept (xs ∷ lists) = (subst (IsPermutation xs) (sym (append-nil xs)) (IsPermutation-refl xs), all_kept lists)

  one_parted : (before : List (List X)) (xs kept left : List X) (behind : List (List X)) → IsPermutation xs (kept ++ left) → ArePartedLists (before ++ xs ∷ behind) (before ++ kept ∷ behind) (none_of before ++ left ∷ none_of behind)
  one_parted [] xs kept left behind parted = (parted, all_kept behind)
  one_parted (ys ∷ before) xs kept left behind parted = (subst (IsPermutation ys) (sym (append-nil ys)) (IsPermutation-refl ys), one_parted before xs kept left behind parted)

  nothing_there : (x : X) → Contains [] x → ⊥
  nothing_there x c = let small = c.1 in omega (arith, small)

  none_left : (lists : List (List X)) (choice : List X) → HasNoneOf (none_of lists) choice
  none_left [] choice = tt
  none_left (xs ∷ lists) [] = tt
  none_left (xs ∷ lists) (x ∷ choice) = (nothing_there x, none_left lists choice)

  -- a choice has nothing that was left out, where its item at the one place has not been
  none_at_place : (before : List (List X)) (left : List X) (behind : List (List X)) (d : X) (choice : List X) → (Contains left (get_or choice (length before) d) → ⊥) → HasNoneOf (none_of before ++ left ∷ none_of behind) choice
  none_at_place [] left behind d [] not_left = tt
  none_at_place [] left behind d (x ∷ choice) not_left = (not_left, none_left behind choice)
  none_at_place (ys ∷ before) left behind d [] not_left = tt
  none_at_place (ys ∷ before) left behind d (x ∷ choice) not_left = (nothing_there x, none_at_place before left behind d choice not_left)

  abbrev with_first : List (List X) → X → List (List X)
  with_first choices x = map (λ more. x ∷ more) choices

  -- a choice is one of fewer items where its item at the place is among them
  product_narrower : (before : List (List X)) (part whole : List X) (behind : List (List X)) (d : X) (choice : List X) → Among (product (before ++ whole ∷ behind)) choice → Among part (get_or choice (length before) d) → Among (product (before ++ part ∷ behind)) choice
  product_narrower [] part whole behind d choice a at =
      let x = among_flat_map (with_first (product behind)) whole choice a in
      let then = among_map (λ more. x.0 ∷ more) (product behind) choice x.2 in
      among_flat_mapped (with_first (product behind)) part x.0 choice (subst (λ c. Among part (get_or c 0 d)) (sym then.2) at) x.2
  product_narrower (ys ∷ before) part whole behind d choice a at =
      let x = among_flat_map (with_first (product (before ++ whole ∷ behind))) ys choice a in
      let then = among_map (λ more. x.0 ∷ more) (product (before ++ whole ∷ behind)) choice x.2 in
      let rest = product_narrower before part whole behind d then.0 then.1 (subst (λ c. Among part (get_or c (length (ys ∷ before)) d)) (sym then.2) at) in
      among_flat_mapped (with_first (product (before ++ part ∷ behind))) ys x.0 choice x.1
      (subst (Among (with_first (product (before ++ part ∷ behind)) x.0)) then.2 (among_mapped (λ more. x.0 ∷ more) (product (before ++ part ∷ behind)) then.0 rest))

abbrev part_rows : KeptPart → List AnswerRow
part_rows part = part.rows

abbrev part_kept : KeptPart → List AnswerRow
part_kept part = part.kept

abbrev part_left : KeptPart → List AnswerRow
part_left part = part.left_out

all_parted : (parts : List KeptPart) → ((part : KeptPart) → Among parts part → IsPermutation part.rows (part.kept ++ part.left_out)) → IsPermutation (flat_map part_rows parts) (flat_map part_kept parts ++ flat_map part_left parts)
all_parted [] each = IsPermutation-refl []
all_parted (part ∷ parts) each =
    IsPermutation-trans (part.rows ++ flat_map part_rows parts) ((part.kept ++ part.left_out) ++ (flat_map part_kept parts ++ flat_map part_left parts)) ((part.kept ++ flat_map part_kept parts) ++ (part.left_out ++ flat_map part_left parts))
    (IsPermutation-append part.rows (part.kept ++ part.left_out) (flat_map part_rows parts) (flat_map part_kept parts ++ flat_map part_left parts) (each part (inl refl)) (all_parted parts (λ other a. each other (inr a))))
    (middle_moved part.kept part.left_out (flat_map part_kept parts) (flat_map part_left parts))

module _ (block : Block) (before behind : List (List AnswerRow)) (parts : List KeptPart) (rows kept : List AnswerRow) (rows_are : rows ≡ flat_map part_rows parts) (kept_are : kept ≡ flat_map part_kept parts) (each : (part : KeptPart) → Contains parts part → KeepsBestOfPart block before behind part) where
  abbrev left : List AnswerRow
  left = flat_map part_left parts

  rows_parted : IsPermutation rows (kept ++ left)
  rows_parted =
      subst (λ l. IsPermutation l (kept ++ left)) (sym rows_are)
      (subst (λ l. IsPermutation (flat_map part_rows parts) (l ++ left)) (sym kept_are) (all_parted parts (λ part a. (each part (Contains_from_among parts part a)).parted)))

  not_left : (choice : List AnswerRow) → Contains (best_choices block (before ++ rows ∷ behind)) choice → Contains left (get_or choice (length before) no_row) → ⊥
  not_left choice is_best in_left =
      let row = get_or choice (length before) no_row in
      let of = among_flat_map part_left parts row (among_from_Contains left row in_left) in
      let part = of.0 in
      let keeps = each part (Contains_from_among parts part of.1) in
      let row_left = Contains_from_among part.left_out row of.2 in
      let row_there : Contains part.rows row =
      Contains-permutation (part.kept ++ part.left_out) part.rows row (IsPermutation-sym part.rows (part.kept ++ part.left_out) keeps.parted) (Contains-append_right part.kept part.left_out row row_left)
      in
      let passing : List AnswerRow → Bool = λ choice. passes block.filter (rows_sight choice) in
      let all = product (before ++ rows ∷ behind) in
      let better = choice_better block.term block.groups in
      let is_choice = (among_kept passing all choice ((best_among better (filter passing all) choice (among_from_Contains (best better (filter passing all)) choice is_best)).0)).0 in
      let of_part : Contains (product (before ++ part.rows ∷ behind)) choice =
      Contains_from_among (product (before ++ part.rows ∷ behind)) choice
      (product_narrower before part.rows rows behind no_row choice is_choice (among_from_Contains part.rows row row_there))
      in
      keeps.none_best choice
      (best_of_fewer block before part.rows rows behind choice
      (λ other there. Contains_from_among rows other (subst (λ l. Among l other) (sym rows_are) (among_flat_mapped part_rows parts part other of.1 (among_from_Contains part.rows other there))))
      of_part is_best)
      row_left

  keeps_choices : KeepsBestChoices block (before ++ rows ∷ behind) (before ++ kept ∷ behind)
  keeps_choices = record {
    left_out = none_of before ++ left ∷ none_of behind;
    parted = one_parted before rows kept left behind rows_parted;
    none_best = λ choice is_best. none_at_place before left behind no_row choice (not_left choice is_best);
  }

pub answers_kept_parts : AnswersByKeptParts
answers_kept_parts block before table behind parts whole kept places from is =
    let rows : Tables → List AnswerRow = λ tables. rows_of tables table.index in
    let of : (tables : Tables) → rows_from tables block.from ≡ rows_from tables before ++ rows tables ∷ rows_from tables behind =
    λ tables. (ap (rows_from tables) from ∙ map-append (λ (table : FromTable). rows_of tables table.index) before (table ∷ behind)) in
    let same : rows_from kept block.from ≡ rows_from whole before ++ rows kept ∷ rows_from whole behind =
    of kept ∙ (λ j. sym is.same_before j ++ rows kept ∷ sym is.same_behind j) in
    let keeps = keeps_choices block (rows_from whole before) (rows_from whole behind) parts (rows whole) (rows kept) is.rows is.kept_rows is.each in
    answers_kept_choices block whole kept places
    (subst (λ l. KeepsBestChoices block l (rows_from kept block.from)) (sym (of whole))
    (subst (λ l. KeepsBestChoices block (rows_from whole before ++ rows whole ∷ rows_from whole behind) l) (sym same) keeps))
