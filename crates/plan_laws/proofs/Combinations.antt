-- Combinations of rows: which there are, one table more, and what they show.
use Rattle.std.proofs.Common.{◌≡◌, ℕ, zero, suc, ◌-◌, ◌<◌, List, [], ◌∷◌, ◌++◌, length, get_or, map, take, set, refl, sym, ap, ◌∙◌, inl, inr, subst, arith, append-nil}
use Rattle.std.specs.List.{flat_map, range_with_len}
use Rattle.std.proofs.Math.ListN.{get_or-append}
use Rattle.std.proofs.Math.Seq.{get_or-append_seam, take-suc}
use Rattle.std.proofs.lemmas.List.{map-append}
use Rattle.std.proofs.lemmas.Simd.{map-map}
use Rattle.prefsql_tables.specs.Combos.{combos_of}
use Rattle.prefsql_tables.specs.Product.{product}
use Rattle.prefsql_tables.specs.Table.{Tables, cell_at}
use Rattle.prefsql_tables.specs.declared.place.ColumnPlace.{ColumnPlace}
use Rattle.prefsql_tables.specs.declared.place.Combo.{Combo}
use Rattle.order_laws.proofs.Members.{Among, among_flat_map, among_flat_mapped, among_map, among_mapped, among_range, range_among}
use Rattle.plan_algebra.specs.Meaning.{pairs_of, seen_from, single_rows}
use Rattle.prefsql_tables.proofs.ProductLemmas.{map-flat_map, product-more}
use Rattle.query_meaning.proofs.ChoiceLemmas.{length-choice}
use Rattle.std.proofs.lemmas.List.Folds.{flat_map-map}
use Rattle.query_meaning.specs.Answers.{indexes_of}
use Rattle.query_meaning.specs.Choices.{IsChoice}
use Rattle.query_meaning.specs.declared.block.Block.{Block}

abbrev pub of_rows : List ℕ → Combo
of_rows rows = record { rows = rows }

abbrev pub single : ℕ → Combo
single row = record { rows = row ∷ [] }

abbrev pub pair : Combo → Combo → Combo
pair p q = record { rows = p.rows ++ q.rows }

-- the row of one table of a combination from the first table on
abbrev pub row_at : Combo → ℕ → Combo
row_at c t = record { rows = get_or c.rows t 0 ∷ [] }

-- ---- which combinations there are

pub choice_among : (limits rows : List ℕ) → IsChoice limits rows → Among (combos_of limits) rows
choice_among [] [] chosen = inl refl
choice_among [] (row ∷ rows) chosen = absurd chosen
choice_among (limit ∷ limits) [] chosen = absurd chosen
choice_among (limit ∷ limits) (row ∷ rows) chosen =
    let small = chosen.0 in
    among_flat_mapped (λ x. map (λ rest. x ∷ rest) (combos_of limits)) (range_with_len 0 limit) row (row ∷ rows)
    (range_among 0 limit row (omega arith) (omega (arith, small)))
    (among_mapped (λ rest. row ∷ rest) (combos_of limits) rows (choice_among limits rows chosen.1))

pub among_choice : (limits rows : List ℕ) → Among (combos_of limits) rows → IsChoice limits rows
among_choice [] rows (inl e) = subst (IsChoice []) e tt
among_choice [] rows (inr a) = absurd a
among_choice (limit ∷ limits) rows a =
    let found = among_flat_map (λ x. map (λ rest. x ∷ rest) (combos_of limits)) (range_with_len 0 limit) rows a in
    let rest = among_map (λ more. found.0 ∷ more) (combos_of limits) rows found.2 in
    let small = (among_range 0 limit found.0 found.1).1 in
    subst (IsChoice (limit ∷ limits)) rest.2 (omega (arith, small), among_choice limits rest.0 rest.1)

-- with another row of one table
pub choice_set : (limits rows : List ℕ) (t row : ℕ) → IsChoice limits rows → row < get_or limits t 0 → IsChoice limits (set rows t row)
choice_set [] [] t row chosen small = absurd (omega arith)
choice_set [] (r ∷ rows) t row chosen small = absurd chosen
choice_set (limit ∷ limits) [] t row chosen small = absurd chosen
choice_set (limit ∷ limits) (r ∷ rows) zero row chosen small = (small, chosen.1)
choice_set (limit ∷ limits) (r ∷ rows) (suc t) row chosen small = (chosen.0, choice_set limits rows t row chosen.1 small)

-- ---- one table more

abbrev pub combos_upto : List ℕ → ℕ → List Combo
combos_upto counts k = map of_rows (combos_of (take k counts))

pub combos_more : (counts : List ℕ) (k : ℕ) → k < length counts → combos_upto counts (suc k) ≡ pairs_of (combos_upto counts k) (single_rows (get_or counts k 0))
combos_more counts k small =
    let n = get_or counts k 0 in
    let fronts = combos_of (take k counts) in
    let rows = range_with_len 0 n in
    ap (λ limits. map of_rows (combos_of limits)) (take-suc counts k 0 small)
    ∙ ap (λ lists. map of_rows (product lists)) (map-append (range_with_len 0) (take k counts) (n ∷ []))
    ∙ ap (map of_rows) (product-more (map (range_with_len 0) (take k counts)) rows)
    ∙ map-flat_map of_rows (λ front. map (λ y. front ++ y ∷ []) rows) fronts
    ∙ (λ j. flat_map (λ front. (map-map of_rows (λ y. front ++ y ∷ []) rows ∙ sym (map-map (pair (of_rows front)) single rows)) j) fronts)
    ∙ sym (flat_map-map (λ p. map (pair p) (map single rows)) of_rows fronts)

pub upto_length : (counts : List ℕ) (k : ℕ) (c : Combo) → Among (combos_upto counts k) c → length c.rows ≡ length (take k counts)
upto_length counts k c a =
    let found = among_map of_rows (combos_of (take k counts)) c a in
    subst (λ (d : Combo). length d.rows ≡ length (take k counts)) found.2 (length-choice (take k counts) found.0 (among_choice (take k counts) found.0 found.1))

map_itself : (f : Combo → Combo) (xs : List Combo) → ((x : Combo) → f x ≡ x) → map f xs ≡ xs
map_itself f [] h = refl
map_itself f (x ∷ xs) h = ap (λ y. y ∷ map f xs) (h x) ∙ ap (λ ys. x ∷ ys) (map_itself f xs h)

-- beside the empty combination
pub pairs_alone : (qs : List Combo) → pairs_of (of_rows [] ∷ []) qs ≡ qs
pairs_alone qs = append-nil (map (pair (of_rows [])) qs) ∙ map_itself (pair (of_rows [])) qs (λ q. refl)

-- ---- what they show

module _ (tables : Tables) (block : Block) where
  pub seen_left : (p q : Combo) (place : ColumnPlace) → place.table < length p.rows → seen_from tables block 0 (pair p q) place ≡ seen_from tables block 0 p place
  seen_left p q place small =
      ap (λ row. cell_at tables (get_or (indexes_of block.from) place.table 0) row place.column)
      (get_or-append p.rows q.rows 0 (place.table - 0) (omega (arith, small)))

  -- a row by itself shows what the combination shows of its table
  pub seen_row : (c : Combo) (t : ℕ) (place : ColumnPlace) → place.table ≡ t → seen_from tables block t (row_at c t) place ≡ seen_from tables block 0 c place
  seen_row c t place is =
      let first : place.table - t ≡ 0 = omega (arith, is) in
      let there : place.table - 0 ≡ t = omega (arith, is) in
      ap (λ row. cell_at tables (get_or (indexes_of block.from) place.table 0) row place.column)
      (ap (λ k. get_or (get_or c.rows t 0 ∷ []) k 0) first ∙ sym (ap (λ k. get_or c.rows k 0) there))

pub row_at_left : (p q : Combo) (t : ℕ) → t < length p.rows → row_at (pair p q) t ≡ row_at p t
row_at_left p q t small = ap single (get_or-append p.rows q.rows 0 t small)

pub row_at_last : (p : Combo) (row k : ℕ) → length p.rows ≡ k → row_at (pair p (single row)) k ≡ single row
row_at_last p row k is = ap single (ap (λ i. get_or (p.rows ++ row ∷ []) i 0) (sym is) ∙ get_or-append_seam p.rows row [] 0)
