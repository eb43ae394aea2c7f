-- What a block asks of a combination can be asked of it, and its candidates and best rows are choices of rows.
use Rattle.std.proofs.Common.{◌≡◌, ℕ, zero, suc, ◌+◌, ◌<◌, ◌≤◌, Option, Some, None, List, [], ◌∷◌, length, get_or, map, All, sym, ap, ◌∙◌, subst, arith}
use Rattle.std.specs.Prelude.{IfSome}
use Rattle.std.specs.List.{flat_map, range_with_len}
use Rattle.std.specs.Ordering.{on}
use Rattle.std.proofs.lemmas.List.Elements.{All-nil, All-cons, All-weaker, All-append, All-map, All-filter}
use Rattle.prefsql_tables.specs.Combos.{combos_of}
use Rattle.prefsql_tables.specs.Sight.{Sight}
use Rattle.prefsql_tables.specs.Table.{Tables}
use Rattle.prefsql_tables.specs.declared.place.ColumnPlace.{ColumnPlace}
use Rattle.prefsql_tables.specs.declared.place.Combo.{Combo}
use Rattle.order_laws.specs.Best.{best}
use Rattle.pref_terms.specs.declared.term.Term.{Term}
use Rattle.pref_terms.specs.Fits.{TermFits}
use Rattle.pref_terms.specs.Terms.{grouped_order, leaves_of, shown}
use Rattle.conditions.specs.declared.condition.Cond.{Cond}
use Rattle.conditions.specs.declared.condition.Scalar.{Scalar}
use Rattle.conditions.specs.Fits.{CondFits, ScalarFits}
use Rattle.conditions.specs.Meaning.{scalars_of}
use Rattle.query_meaning.specs.declared.asking.Asked.{Asked}
use Rattle.query_meaning.specs.declared.block.Block.{Block}
use Rattle.query_meaning.specs.Answers.{best_by, best_rows, candidates, combinations, kept_rows, passes, row_counts, seen}
use Rattle.query_meaning.specs.Asking.{IsAsked, IsRowChoice, shows}
use Rattle.query_meaning.specs.BlockFits.{IsLeaf, IsScalar}
use Rattle.query_meaning.specs.Choices.{IsChoice}
use Rattle.query_meaning.proofs.ChoiceLemmas.{scalar_fits, conds_fit, term_fits}

-- what holds of each item of a list holds of the one that a loop has
pub at_item : {X : Type 0} (P : X → Type 0) (xs : List X) (i : ℕ) (x : X) → All P xs → i < length xs → x ≡ get_or xs i x → P x
at_item P xs i x all within is = subst P (sym is) (all i x within)

-- with a first row below the limit
chosen_ranged : (limit : ℕ) (limits : List ℕ) → All (IsChoice limits) (combos_of limits) → (a n : ℕ) → a + n ≤ limit
    → All (IsChoice (limit ∷ limits)) (flat_map (λ row. map (λ rest. row ∷ rest) (combos_of limits)) (range_with_len a n))
chosen_ranged limit limits all a zero within = All-nil _
chosen_ranged limit limits all a (suc n) within =
    All-append (IsChoice (limit ∷ limits)) (map (λ rest. a ∷ rest) (combos_of limits)) (flat_map (λ row. map (λ rest. row ∷ rest) (combos_of limits)) (range_with_len (a + 1) n))
    (All-map (IsChoice (limit ∷ limits)) (λ rest. a ∷ rest) (combos_of limits)
    (All-weaker (IsChoice limits) (λ rest. IsChoice (limit ∷ limits) (a ∷ rest)) (λ rest chosen. (omega arith, chosen)) (combos_of limits) all))
    (chosen_ranged limit limits all (a + 1) n (omega arith))

pub combos_chosen : (limits : List ℕ) → All (IsChoice limits) (combos_of limits)
combos_chosen [] = All-cons (IsChoice []) [] [] tt (All-nil _)
combos_chosen (limit ∷ limits) = chosen_ranged limit limits (combos_chosen limits) 0 limit (omega arith)

best_among : (P : Combo → Type 0) (term : Option Term) (groups : List ColumnPlace) (see : Combo → Sight) (combos : List Combo) → All P combos → All P (best_by term groups see combos)
best_among P None groups see combos all = all
best_among P (Some term) groups see combos all = All-filter _ P combos all

-- what a block speaks of has a row of each of its tables
module _ (tables : Tables) (block : Block) where
  abbrev pub IsChosen : Combo → Type 0
  IsChosen combo = IsChoice (row_counts tables block.from) combo.rows

  pub combinations_chosen : All (λ combo. IsChoice (row_counts tables block.from) combo.rows) (combinations tables block.from)
  combinations_chosen =
      let counts = row_counts tables block.from in
      All-map IsChosen (λ rows. record { rows = rows }) (combos_of counts) (combos_chosen counts)

  pub candidates_chosen : All (λ combo. IsChoice (row_counts tables block.from) combo.rows) (candidates tables block)
  candidates_chosen = All-filter (λ combo. passes block.filter (seen tables block combo)) IsChosen (combinations tables block.from) combinations_chosen

  pub best_rows_chosen : All (λ combo. IsChoice (row_counts tables block.from) combo.rows) (best_rows tables block)
  best_rows_chosen = best_among IsChosen block.term block.groups (seen tables block) (candidates tables block) candidates_chosen

  pub kept_rows_chosen : All (λ combo. IsChoice (row_counts tables block.from) combo.rows) (kept_rows tables block)
  kept_rows_chosen = All-filter (λ combo. passes block.only (seen tables block combo)) IsChosen (best_rows tables block) best_rows_chosen

module _ (asked : Asked) (is : IsAsked asked) (combo : Combo) (chosen : IsRowChoice asked combo) where
  pub conds_asked : (conds : List Cond) → All (IsScalar asked.block.now.from) (flat_map scalars_of conds) → All (CondFits asked.tables.now asked.from.now 0 combo.rows) conds
  conds_asked conds places =
      subst (λ (indexes : List ℕ). All (CondFits asked.tables.now indexes 0 combo.rows) conds) (sym is.from)
      (conds_fit asked.tables.now asked.block.now.from is.fits combo.rows chosen conds places)

  pub scalar_asked : (s : Scalar) → IsScalar asked.block.now.from s → ScalarFits asked.tables.now asked.from.now 0 combo.rows s
  scalar_asked s place =
      subst (λ (indexes : List ℕ). ScalarFits asked.tables.now indexes 0 combo.rows s) (sym is.from)
      (scalar_fits asked.tables.now asked.block.now.from is.fits combo.rows chosen s place)

  pub term_asked : (term : Term) → All (IsLeaf asked.block.now.from) (leaves_of term) → TermFits asked.tables.now asked.from.now 0 combo.rows term asked.block.now.groups
  term_asked term leaves =
      subst (λ (indexes : List ℕ). TermFits asked.tables.now indexes 0 combo.rows term asked.block.now.groups) (sym is.from)
      (term_fits asked.tables.now asked.block.now.from is.fits combo.rows chosen term asked.block.now.groups leaves is.places.groups)

module _ (asked : Asked) (is : IsAsked asked) (term : Term) (term_is : asked.block.now.term ≡ Some term) (groups : List ColumnPlace) (groups_are : groups ≡ asked.block.now.groups) (combos : List Combo) (given : combos ≡ candidates asked.tables.now asked.block.now) where
  -- the term judges each candidate
  pub candidates_fit : All (λ combo. TermFits asked.tables.now asked.from.now 0 combo.rows term groups) combos
  candidates_fit =
      let leaves : All (IsLeaf asked.block.now.from) (leaves_of term) = subst (λ t. IfSome t (λ u. All (IsLeaf asked.block.now.from) (leaves_of u))) term_is is.places.leaves in
      subst (λ places. All (λ combo. TermFits asked.tables.now asked.from.now 0 combo.rows term places) combos) (sym groups_are)
      (subst (All (λ (combo : Combo). TermFits asked.tables.now asked.from.now 0 combo.rows term asked.block.now.groups)) (sym given)
      (All-weaker (IsRowChoice asked) (λ combo. TermFits asked.tables.now asked.from.now 0 combo.rows term asked.block.now.groups) (λ combo chosen. term_asked asked is combo chosen term leaves) (candidates asked.tables.now asked.block.now) (candidates_chosen asked.tables.now asked.block.now)))

  -- the best of them by the term are the best rows
  pub best_are_rows : best (on (shown asked.tables.now asked.from.now 0) ((grouped_order groups term).better)) combos ≡ best_rows asked.tables.now asked.block.now
  best_are_rows =
      (λ j. best (on (shown asked.tables.now (is.from j) 0) ((grouped_order (groups_are j) term).better)) (given j))
      ∙ ap (λ t. best_by t asked.block.now.groups (shows asked) (candidates asked.tables.now asked.block.now)) (sym term_is)
