-- Over the best rows of a table, and any others of it, a query has the answer that it has over all.
use Rattle.std.proofs.Common.{◌≡◌, Bool, not, Option, Some, None, List, [], ◌∷◌, ◌++◌, get_or, map, filter, All, refl, sym, ap, ◌∙◌, subst, inl, ⊎_elim, append_assoc, append-nil}
use Rattle.std.specs.Prelude.{IfSome}
use Rattle.std.specs.List.Sorted.{IsPermutation}
use Rattle.std.specs.Ordering.{on}
use Rattle.std.proofs.lemmas.Bool.{false≢true}
use Rattle.std.proofs.lemmas.List.{map-append}
use Rattle.std.proofs.lemmas.List.Elements.{All-weaker, filter-append}
use Rattle.std.proofs.lemmas.List.Sorted.{IsPermutation-append_right, IsPermutation-map, IsPermutation-sym, Contains-permutation}
use Rattle.prefsql_tables.specs.Product.{product}
use Rattle.prefsql_tables.specs.Sight.{Sight}
use Rattle.prefsql_tables.specs.Table.{Tables, no_row, rows_of}
use Rattle.prefsql_tables.specs.declared.place.ColumnPlace.{ColumnPlace}
use Rattle.prefsql_tables.specs.declared.table.AnswerRow.{AnswerRow}
use Rattle.prefsql_tables.proofs.ListLemmas.{filter-map, list_any-map}
use Rattle.prefsql_tables.proofs.ProductLemmas.{product_of_one}
use Rattle.order_laws.specs.Best.{best, is_unbettered}
use Rattle.order_laws.specs.CombineLaws.{lawful_on}
use Rattle.order_laws.proofs.Grouped.{grouped_lawful}
use Rattle.order_laws.proofs.BestLaws.{IsOrderAmong, best_among, unbettered_from}
use Rattle.order_laws.proofs.Members.{Among, Contains_from_among, among_back, among_either, among_filter, among_from_Contains, among_front, among_kept, among_map, filter_same, filter_true}
use Rattle.order_laws.proofs.PartLaws.{best_held_is}
use Rattle.pref_terms.specs.BoundLaws.{same_group-equivalence}
use Rattle.pref_terms.specs.Fits.{IsTrivialIfExplicit}
use Rattle.pref_terms.specs.TermLaws.{term_lawful}
use Rattle.pref_terms.specs.Terms.{grouped_order, leaves_of}
use Rattle.pref_terms.specs.declared.term.Term.{Term}
use Rattle.query_meaning.specs.declared.block.Block.{Block}
use Rattle.query_meaning.specs.declared.block.Output.{Output}
use Rattle.query_meaning.specs.Answers.{output_row, passes}
use Rattle.query_meaning.specs.BlockFits.{HasPlaces, IsLeaf}
use Rattle.reordered_tables.proofs.ByRows.{Rows, best_of, outputs, shown_by, sources}
use Rattle.reordered_tables.proofs.OneAnswer.{answer_is, best_of_moved}
use Rattle.reordered_tables.proofs.Permutations.{arranged_moved, filter_moved, front_moved}
use Rattle.table_parts.specs.KeptRows.{AnswersByKeptRows, KeepsBestRows, best_table_rows, row_better}

-- ---- lists end to end

-- the middle two of four lists change places
pub middle_moved : {X : Type 0} (a b c d : List X) → IsPermutation ((a ++ b) ++ (c ++ d)) ((a ++ c) ++ (b ++ d))
middle_moved a b c d =
    subst (λ l. IsPermutation l ((a ++ c) ++ (b ++ d))) (sym (append_assoc a b (c ++ d)))
    (subst (λ l. IsPermutation (a ++ (b ++ (c ++ d))) l) (sym (append_assoc a c (b ++ d))) (IsPermutation-append_right a (b ++ (c ++ d)) (c ++ (b ++ d)) (front_moved b c d)))

-- ---- lists of which the rest has no best item

module _ {X : Type 0} where
  pub none_there : (xs : List X) → ((x : X) → Among xs x → ⊥) → xs ≡ []
  none_there [] none = refl
  none_there (x ∷ xs) none = absurd (none x (inl refl))

  best_front : (better : X → X → Bool) (front rest : List X) → IsOrderAmong better (front ++ rest) → ((x : X) → Among rest x → Among (best better (front ++ rest)) x → ⊥) → best better front ≡ best better (front ++ rest)
  best_front better front rest order none =
      let all = front ++ rest in
      let test = is_unbettered better all in
      let no_rest : filter test rest ≡ [] = none_there (filter test rest) (λ x a. let kept = among_kept test rest x a in none x kept.0 (among_filter test all x (among_back front rest x kept.0) kept.1)) in
      best_held_is better all front order (λ y a. among_front front rest y a)
      (λ y a. ⊎_elim (λ b. b) (λ b. absurd (none y b a)) (among_either front rest y ((best_among better all y a).0)))
      ∙ sym (filter-append test front rest ∙ ap (λ more. filter test front ++ more) no_rest ∙ append-nil (filter test front))

-- a preference within groups is a strict order, of whatever shows values
pub preference_order : {X : Type 0} (see : X → Sight) (term : Term) (groups : List ColumnPlace) → All IsTrivialIfExplicit (leaves_of term) → (xs : List X) → IsOrderAmong (on see ((grouped_order groups term).better)) xs
preference_order see term groups trivial xs =
    let laws = lawful_on see (grouped_lawful (same_group-equivalence groups) (term_lawful term trivial)) in
    record { irreflexive = λ x a. laws.irreflexive x; transitive = λ x y z a b c. laws.transitive x y z }

-- ---- choices of rows of which the rest has no best one

module _ (block : Block) (places : HasPlaces block) where
  abbrev pub found : List Rows → List Rows
  found = filter (λ rows. passes block.filter (shown_by rows))

  best_choices_front : (term : Option Term) → IfSome term (λ t. All (IsLeaf block.from) (leaves_of t)) → (front rest : List Rows)
      → ((r : Rows) → Among rest r → Among (best_of block term block.groups (front ++ rest)) r → ⊥) → best_of block term block.groups front ≡ best_of block term block.groups (front ++ rest)
  best_choices_front None leaves front rest none = sym (ap (λ more. front ++ more) (none_there rest (λ r a. none r a (among_back front rest r a))) ∙ append-nil front)
  best_choices_front (Some term) leaves front rest none =
      best_front (on shown_by ((grouped_order block.groups term).better)) front rest
      (preference_order shown_by term block.groups (All-weaker (IsLeaf block.from) IsTrivialIfExplicit (λ leaf is. is.trivial) (leaves_of term) leaves) (front ++ rest))
      none

  -- what all choices show is what some of them show, where no other one is best
  pub outputs_kept : (lists keeps : List (List AnswerRow)) (rest : List Rows) → IsPermutation (product lists) (product keeps ++ rest)
      → ((r : Rows) → Among rest r → Among (best_of block block.term block.groups (found (product lists))) r → ⊥)
      → IsPermutation (outputs block lists) (outputs block keeps)
  outputs_kept lists keeps rest parted none =
      let passing : Rows → Bool = λ rows. passes block.filter (shown_by rows) in
      let only : Rows → Bool = λ rows. passes block.only (shown_by rows) in
      let best_of_all : List Rows → List Rows = best_of block block.term block.groups in
      let all = found (product lists) in
      let front = found (product keeps) in
      let both = front ++ found rest in
      let moved : IsPermutation all both = subst (λ l. IsPermutation all l) (filter-append passing (product keeps) rest) (filter_moved passing (product lists) (product keeps ++ rest) parted) in
      let bests_moved : IsPermutation (best_of_all all) (best_of_all both) = best_of_moved block block.term block.groups all both moved in
      let same : best_of_all front ≡ best_of_all both =
      best_choices_front block.term places.leaves front (found rest)
      (λ r a b.
      none r ((among_kept passing rest r a).0)
      (among_from_Contains (best_of_all all) r
      (Contains-permutation (best_of_all both) (best_of_all all) r (IsPermutation-sym (best_of_all all) (best_of_all both) bests_moved) (Contains_from_among (best_of_all both) r b))))
      in
      IsPermutation-map (λ rows. output_row block (shown_by rows)) (filter only (best_of_all all)) (filter only (best_of_all front))
      (filter_moved only (best_of_all all) (best_of_all front) (subst (λ l. IsPermutation (best_of_all all) l) (sym same) bests_moved))

-- ---- rows of one table

abbrev pub single : AnswerRow → Rows
single row = row ∷ []

pub single_row : (x y : AnswerRow) → single x ≡ single y → x ≡ y
single_row x y same = ap (λ rows. get_or rows 0 no_row) same

module _ (block : Block) where
  best_singles : (term : Option Term) (groups : List ColumnPlace) (rows : List AnswerRow) → best_of block term groups (map single rows) ≡ map single (best (row_better term groups) rows)
  best_singles None groups rows =
      ap (map single) (sym (filter_true (is_unbettered (row_better None groups) rows) rows (λ x. unbettered_from (row_better None groups) rows x (λ y a h. false≢true h))))
  best_singles (Some term) groups rows =
      let better : Rows → Rows → Bool = on shown_by ((grouped_order groups term).better) in
      filter-map (is_unbettered better (map single rows)) single rows
      ∙ ap (map single)
      (filter_same (λ x. is_unbettered better (map single rows) (single x)) (is_unbettered (row_better (Some term) groups) rows) rows
      (λ x a. ap not (list_any-map (λ y. better y (single x)) single rows)))

  -- the best choices of one row are the best rows
  pub best_choices_are : (rows : List AnswerRow) → best_of block block.term block.groups (filter (λ choice. passes block.filter (shown_by choice)) (product (rows ∷ []))) ≡ map single (best_table_rows block rows)
  best_choices_are rows =
      let passing : Rows → Bool = λ choice. passes block.filter (shown_by choice) in
      ap (λ choices. best_of block block.term block.groups (filter passing choices)) (product_of_one rows)
      ∙ ap (best_of block block.term block.groups) (filter-map passing single rows)
      ∙ best_singles block.term block.groups (filter (λ row. passing (single row)) rows)

  kept_outputs : HasPlaces block → (rows kept : List AnswerRow) → KeepsBestRows block rows kept → IsPermutation (outputs block (rows ∷ [])) (outputs block (kept ∷ []))
  kept_outputs places rows kept keeps =
      let left = keeps.left_out in
      let rest = map single left in
      let parted : IsPermutation (product (rows ∷ [])) (product (kept ∷ []) ++ rest) =
      subst (λ l. IsPermutation l (product (kept ∷ []) ++ rest)) (sym (product_of_one rows))
      (subst (λ l. IsPermutation (map single rows) (l ++ rest)) (sym (product_of_one kept))
      (subst (λ l. IsPermutation (map single rows) l) (map-append single kept left) (IsPermutation-map single rows (kept ++ left) keeps.parted)))
      in
      outputs_kept block places (rows ∷ []) (kept ∷ []) rest parted
      (λ r a b.
      let of = among_map single left r a in
      let is = among_map single (best_table_rows block rows) r (subst (λ choices. Among choices r) (best_choices_are rows) b) in
      keeps.none_best of.0 (Contains_from_among left of.0 of.1)
      (Contains_from_among (best_table_rows block rows) of.0 (subst (Among (best_table_rows block rows)) (single_row is.0 of.0 (is.2 ∙ sym of.2)) is.1)))

pub answers_kept : AnswersByKeptRows
answers_kept block table whole kept places one keeps =
    let rows : Tables → List AnswerRow = λ tables. rows_of tables table.index in
    let of : (tables : Tables) → sources tables block.from ≡ rows tables ∷ [] = λ tables. ap (sources tables) one in
    let moved : IsPermutation (outputs block (sources whole block.from)) (outputs block (sources kept block.from)) =
    subst (λ l. IsPermutation (outputs block l) (outputs block (sources kept block.from))) (sym (of whole))
    (subst (λ l. IsPermutation (outputs block (rows whole ∷ [])) (outputs block l)) (sym (of kept)) (kept_outputs block places (rows whole) (rows kept) keeps))
    in
    answer_is kept block places
    ∙ sym (λ j. record { names = map (λ (output : Output). output.name) block.output; rows = arranged_moved block.distinct block.order (outputs block (sources whole block.from)) (outputs block (sources kept block.from)) moved j })
    ∙ sym (answer_is whole block places)
