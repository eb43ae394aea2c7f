-- A term over combinations of rows, within groups, keeps the laws of a preference.
use Rattle.std.proofs.Common.{ℕ, Bool, List, [], ◌∷◌, All, refl}
use Rattle.std.specs.Cmp.{IsEquivalence}
use Rattle.std.specs.Ordering.{on}
use Rattle.std.specs.declared.cmp.Ordering.{Ordering}
use Rattle.std.proofs.lemmas.Cmp.{on_equiv, and_equiv}
use Rattle.std.proofs.lemmas.List.Elements.{All-weaker}
use Rattle.prefsql_values.proofs.ValueEq.{value_eq-equivalence}
use Rattle.prefsql_tables.specs.declared.place.ColumnPlace.{ColumnPlace}
use Rattle.prefsql_tables.specs.declared.place.Combo.{Combo}
use Rattle.prefsql_tables.specs.Table.{Tables}
use Rattle.prefsql_tables.specs.Sight.{Sight}
use Rattle.order_laws.specs.Lawful.{IsLawful, IsLawfulWhere}
use Rattle.order_laws.specs.CombineLaws.{lawful_on}
use Rattle.order_laws.proofs.Grouped.{grouped_lawful}
use Rattle.pref_terms.specs.declared.term.Term.{Term}
use Rattle.pref_terms.specs.Terms.{leaves_of, key_order, is_same_group, grouped_order, shown}
use Rattle.pref_terms.specs.Fits.{LeafFits, TermFits, IsTrivialIfExplicit}
use Rattle.pref_terms.specs.TermLaws.{term_lawful}

-- where the laws hold as soon as there is an item, they hold
lawful_given : {X : Type 0} {better same : X → X → Bool} {key_cmp : X → X → Ordering}
    → (X → IsLawful better same key_cmp) → IsLawful better same key_cmp
lawful_given given = record {
  irreflexive = λ x. (given x).irreflexive x;
  transitive = λ x y z. (given x).transitive x y z;
  equivalence = record {
    refl = λ x. (given x).equivalence.refl x;
    symm = λ x y. (given x).equivalence.symm x y;
    congr = λ x y z. (given x).equivalence.congr x y z;
  };
  same_better = λ x y z. (given x).same_better x y z;
  better_same = λ x y z. (given x).better_same x y z;
  apart = λ x y. (given x).apart x y;
  better_key = λ x y. (given x).better_key x y;
  same_key = λ x y. (given x).same_key x y;
  keys = record {
    antisymm = λ x y. (given x).keys.antisymm x y;
    trans = λ x y z. (given x).keys.trans x y z;
    congr = λ x y z. (given x).keys.congr x y z;
  };
}

-- being of one group is an equivalence
pub same_group-equivalence : (groups : List ColumnPlace) → IsEquivalence (is_same_group groups)
same_group-equivalence [] = record { refl = λ x. refl; symm = λ x y. refl; congr = λ x y z h. refl }
same_group-equivalence (place ∷ groups) =
    and_equiv (on_equiv (λ (x : Sight). x place) value_eq-equivalence)
    (same_group-equivalence groups)

module _ (tables : Tables) (from : List ℕ) (first : ℕ) (term : Term)
    (groups : List ColumnPlace) where
  abbrev IsValid : Combo → Type 0
  IsValid combo = TermFits tables from first combo.rows term groups

  all_trivial : (combo : Combo) → IsValid combo → All IsTrivialIfExplicit (leaves_of term)
  all_trivial combo fits =
      All-weaker (LeafFits tables from first combo.rows) IsTrivialIfExplicit (λ leaf leaf_fits.
      leaf_fits.trivial) (leaves_of term) fits.leaves.each

  pub bound_lawful : IsLawfulWhere IsValid
      (on (shown tables from first) ((grouped_order groups term).better))
      (on (shown tables from first) ((grouped_order groups term).same))
      (on (shown tables from first) (key_order term))
  bound_lawful = record {
    among_valid = lawful_given (λ v. lawful_on
        (λ (w : (combo : Combo) × IsValid combo). shown tables from first w.0)
        (grouped_lawful (same_group-equivalence groups) (term_lawful term (all_trivial v.0 v.1))));
  }
