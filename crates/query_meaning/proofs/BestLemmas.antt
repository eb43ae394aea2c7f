-- The best rows of a block are the candidates that no candidate of their group is better than.
use Rattle.std.proofs.Common.{◌↔◌, Bool, Option, Some, None, List, Contains, Decides}
use Rattle.std.specs.Ordering.{on}
use Rattle.std.proofs.lemmas.Bool.{and_parts, and_from}
use Rattle.std.proofs.lemmas.List.Sums.{AllPass-from_list_all, list_all-from_AllPass}
use Rattle.prefsql_values.specs.Value.{value_eq}
use Rattle.prefsql_values.proofs.ValueEq.{value_eq-Decides}
use Rattle.prefsql_tables.specs.Sight.{Sight}
use Rattle.prefsql_tables.specs.declared.place.ColumnPlace.{ColumnPlace}
use Rattle.prefsql_tables.specs.declared.place.Combo.{Combo}
use Rattle.order_laws.proofs.BestLaws.{best_items}
use Rattle.pref_terms.specs.declared.term.Term.{Term}
use Rattle.pref_terms.specs.Terms.{order_of, is_same_group, grouped_order}
use Rattle.pref_terms.proofs.BetterLaws.{term_decided}
use Rattle.query_meaning.specs.Answers.{best_by, candidates, seen}
use Rattle.query_meaning.specs.BestRows.{HasBestRows, IsOfGroup, IsBetterBy, IsSoundPreference}

-- being of one group is decided by the test of equal values
same_group-Decides : (groups : List ColumnPlace) (y x : Sight) → Decides (is_same_group groups y x) (IsOfGroup groups y x)
same_group-Decides groups y x =
    let test : ColumnPlace → Bool = λ place. value_eq (y place) (x place) in (
      λ h k d small. (value_eq-Decides _ _).0 (AllPass-from_list_all test groups h k d small),
      λ all. list_all-from_AllPass test groups (λ k d small. (value_eq-Decides _ _).1 (all k d small)),
    )

module _ (term : Option Term) (groups : List ColumnPlace) (see : Combo → Sight) (combos : List Combo) (x : Combo) where
  abbrev IsUnbettered : Type 0
  IsUnbettered = (y : Combo) → Contains combos y → IsOfGroup groups (see y) (see x) → IsBetterBy term (see y) (see x) → ⊥

best_by_rows : (term : Option Term) (groups : List ColumnPlace) (see : Combo → Sight) (combos : List Combo) (x : Combo) → IsSoundPreference term
    → Contains (best_by term groups see combos) x ↔ (Contains combos x × IsUnbettered term groups see combos x)
best_by_rows None groups see combos x sound = (λ c. (c, λ y there same better. better), λ w. w.0)
best_by_rows (Some term) groups see combos x sound =
    let better = on see ((grouped_order groups term).better) in
    let is = best_items better combos x in
    let decided = term_decided term sound in (
      λ c. let w = is.0 c in (
        w.0,
        λ y there same is_better.
            w.1 y there (and_from (is_same_group groups (see y) (see x)) ((order_of term).better (see y) (see x))
            ((same_group-Decides groups (see y) (see x)).1 same) ((decided.better (see y) (see x)).1 is_better)),
      ),
      λ w. is.1 (
        w.0,
        λ y there h.
            let both = and_parts (is_same_group groups (see y) (see x)) ((order_of term).better (see y) (see x)) h in
            w.1 y there ((same_group-Decides groups (see y) (see x)).0 both.0) ((decided.better (see y) (see x)).0 both.1),
      ),
    )

pub best_rows_are_best : HasBestRows
best_rows_are_best tables block x sound =
    let is = best_by_rows block.term block.groups (seen tables block) (candidates tables block) x sound in
    (λ c. let w = is.0 c in record { candidate = w.0; unbettered = w.1 }, λ best. is.1 (best.candidate, best.unbettered))
