-- What is better than a combination for which a condition on a closed leaf or on group columns holds, passes it too.
use Rattle.std.proofs.Common.{◌≡◌, ℕ, Bool, true, false, nat_eq, ◌&&◌, ◌||◌, Option, Some, None, List, [], ◌∷◌, refl, sym, ap, ◌∙◌, inl, inr, ⊎_elim, subst, eqb-true}
use Rattle.std.proofs.lemmas.Bool.{and_parts, both_ways, or_cases}
use Rattle.prefsql_values.specs.declared.value.CompareOp.{CompareOp}
use Rattle.prefsql_values.specs.declared.value.Value.{Value}
use Rattle.prefsql_values.specs.Truth.{is_true}
use Rattle.prefsql_values.specs.Value.{comparison, value_eq}
use Rattle.prefsql_values.proofs.ValueEq.{value_eq-Decides}
use Rattle.prefsql_tables.specs.Sight.{Sight}
use Rattle.prefsql_tables.specs.declared.place.ColumnPlace.{ColumnPlace}
use Rattle.base_prefs.specs.Kind.{better_of, distance_of, key_of, level_of, same_of}
use Rattle.base_prefs.specs.RankedLaws.{lawful_of}
use Rattle.order_laws.proofs.Members.{Among, all_at, among_flat_map, any_found}
use Rattle.pref_terms.specs.declared.term.Leaf.{Leaf}
use Rattle.pref_terms.specs.declared.term.Term.{Term}
use Rattle.pref_terms.specs.Fits.{IsTrivialIfExplicit}
use Rattle.pref_terms.specs.Parts.{closed_numbers}
use Rattle.pref_terms.specs.Terms.{is_same_group, leaf_order, leaves_of, order_of}
use Rattle.pref_terms.proofs.ClosedLeaves.{closed_leaf, is_weakly}
use Rattle.conditions.specs.declared.condition.Cond.{Cond, And, Or, Not}
use Rattle.conditions.specs.declared.condition.Cond as cond
use Rattle.conditions.specs.declared.condition.Quality.{Quality}
use Rattle.conditions.specs.declared.condition.Scalar.{Scalar}
use Rattle.conditions.specs.declared.condition.Scalar.TheVariants as scalar
use Rattle.conditions.specs.Meaning.{is_best, scalar_value, scalars_of, truth}
use Rattle.conditions.specs.Places.{read_by, scalar_places}
use Rattle.conditions.proofs.CondInduction.{cond_induction_among}
use Rattle.conditions.proofs.CondReads.{scalars_of-Compare, scalars_of-Top, truth-Compare, truth-Top}
use Rattle.conditions.proofs.ReadLaws.{Agree, truth_same}
use Rattle.query_meaning.specs.Valid.{IsQualityOf}
use Rattle.plan_algebra.specs.Meaning.{is_true_at}
use Rattle.plan_stages.specs.Sinking.{is_bound, is_closed, is_group_scalar, is_of_groups, is_place, is_quality_of, is_upper, sinks}
use Rattle.plan_stages.proofs.SinkReads.{closed-And, closed-Or, closed-Not, closed-Compare, closed-Between, closed-OneOf, closed-IsNull, closed-Top}
use Rattle.plan_laws.proofs.Bounds.{IsNoGreater, best_up, quality_is_key, quality_up, true_test}

module _ (y x : Sight) where
  -- weakly better by a leaf, with a key that is no greater
  weak_key : (leaf : Leaf) → IsTrivialIfExplicit leaf → is_weakly (leaf_order leaf) y x ≡ true → IsNoGreater (key_of leaf.base (y leaf.place)) (key_of leaf.base (x leaf.place))
  weak_key leaf trivial h =
      let laws = lawful_of leaf.base leaf.trivial trivial in
      ⊎_elim (λ better. inl (laws.better_key (y leaf.place) (x leaf.place) better)) (λ same. inr (laws.same_key (y leaf.place) (x leaf.place) same))
      (or_cases (better_of leaf.base (y leaf.place) (x leaf.place)) (same_of leaf.base leaf.trivial (y leaf.place) (x leaf.place)) h)

-- the quality is that of each of the term's leaves that has its number
pub record QualityTold (t : Term) (quality : Quality) : Type 0 where
  pub told : (leaf : Leaf) → Among (leaves_of t) leaf → quality.leaf ≡ leaf.number → IsQualityOf quality leaf

abbrev pub ScalarTold : Term → Scalar → Type 0
ScalarTold t (scalar.Column place) = Unit {0}
ScalarTold t (scalar.Literal value) = Unit {0}
ScalarTold t (scalar.Quality quality) = QualityTold t quality

module _ (t : Term) (trivial : (leaf : Leaf) → Among (leaves_of t) leaf → IsTrivialIfExplicit leaf) (y x : Sight) (weak : is_weakly (order_of t) y x ≡ true) where
  -- by the quality of a closed leaf the key is no greater
  quality_key : (quality : Quality) → QualityTold t quality → is_quality_of (closed_numbers t) quality ≡ true → IsNoGreater (key_of quality.base (y quality.place)) (key_of quality.base (x quality.place))
  quality_key quality of closed =
      let found = any_found (nat_eq quality.leaf) (closed_numbers t) closed in
      let number : quality.leaf ≡ found.0 = eqb-true quality.leaf found.0 found.2 in
      let leaf = closed_leaf y x t found.0 found.1 in
      let is = of.told leaf.leaf leaf.there (number ∙ sym leaf.is) in
      let by_leaf = weak_key y x leaf.leaf (trivial leaf.leaf leaf.there) (leaf.weak weak) in
      subst (λ base. IsNoGreater (key_of base (y quality.place)) (key_of base (x quality.place))) (sym is.base)
      (subst (λ (place : ColumnPlace). IsNoGreater (key_of leaf.leaf.base (y place)) (key_of leaf.leaf.base (x place))) (sym is.place) by_leaf)

  abbrev GoesUp : Cond → Type 0
  GoesUp c = ((s : Scalar) → Among (scalars_of c) s → ScalarTold t s) → is_closed t c ≡ true → is_true (truth x c) ≡ true → is_true (truth y c) ≡ true

  never : (c : Cond) → is_closed t c ≡ false → GoesUp c
  never c none there closed h = absurd (both_ways (is_closed t c) none closed)

  bounded : (op : CompareOp) → is_upper op ≡ true → (a b : Scalar) → ScalarTold t a → is_bound (closed_numbers t) a b ≡ true
      → is_true (comparison op (scalar_value x a) (scalar_value x b)) ≡ true → is_true (comparison op (scalar_value y a) (scalar_value y b)) ≡ true
  bounded op upper (scalar.Quality quality) (scalar.Literal value) of closed h =
      let is = quality_is_key quality.base in
      ap (λ v. is_true (comparison op v value)) (is.1 (y quality.place))
      ∙ quality_up op upper is.0 (key_of quality.base (y quality.place)) (key_of quality.base (x quality.place)) value (quality_key quality of closed)
      (sym (ap (λ v. is_true (comparison op v value)) (is.1 (x quality.place))) ∙ h)
  bounded op upper (scalar.Quality quality) (scalar.Column place) of closed h = absurd (both_ways false refl closed)
  bounded op upper (scalar.Quality quality) (scalar.Quality other) of closed h = absurd (both_ways false refl closed)
  bounded op upper (scalar.Column place) b of closed h = absurd (both_ways false refl closed)
  bounded op upper (scalar.Literal value) b of closed h = absurd (both_ways false refl closed)

  compare_up : (op : CompareOp) (a b : Scalar) → GoesUp (cond.Compare op a b)
  compare_up op a b there closed h =
      let c = cond.Compare op a b in
      let both = and_parts (is_upper op) (is_bound (closed_numbers t) a b) (sym (closed-Compare t op a b) ∙ closed) in
      let of = there a (subst (λ (ss : List Scalar). Among ss a) (sym (scalars_of-Compare op a b)) (inl refl)) in
      ap is_true (truth-Compare y c op a b refl)
      ∙ bounded op both.0 a b of both.1 (sym (ap is_true (truth-Compare x c op a b refl)) ∙ h)

  top_up : (quality : Quality) → GoesUp (cond.Top quality)
  top_up quality there closed h =
      let c = cond.Top quality in
      let of = there (scalar.Quality quality) (subst (λ (ss : List Scalar). Among ss (scalar.Quality quality)) (sym (scalars_of-Top quality)) (inl refl)) in
      let key = quality_key quality of (sym (closed-Top t quality) ∙ closed) in
      let best_x = sym (true_test (is_best (level_of quality.base (x quality.place)) (distance_of quality.base (x quality.place)))) ∙ sym (ap is_true (truth-Top x c quality refl)) ∙ h in
      ap is_true (truth-Top y c quality refl)
      ∙ true_test (is_best (level_of quality.base (y quality.place)) (distance_of quality.base (y quality.place)))
      ∙ best_up quality.base (x quality.place) (y quality.place) key best_x

  closed_up : (c : Cond) → GoesUp c
  closed_up = cond_induction_among GoesUp
      (λ parts each. never (And parts) (closed-And t parts))
      (λ parts each. never (Or parts) (closed-Or t parts))
      (λ part up. never (Not part) (closed-Not t part))
      compare_up
      (λ negate a low high. never (cond.Between negate a low high) (closed-Between t negate a low high))
      (λ negate a list. never (cond.OneOf negate a list) (closed-OneOf t negate a list))
      (λ negate a. never (cond.IsNull negate a) (closed-IsNull t negate a))
      top_up

-- ---- group columns

pub place_is : (a b : ColumnPlace) → is_place a b ≡ true → a ≡ b
place_is a b h =
    let both = and_parts (nat_eq a.table b.table) (nat_eq a.column b.column) h in
    let table : a.table ≡ b.table = eqb-true a.table b.table both.0 in
    let column : a.column ≡ b.column = eqb-true a.column b.column both.1 in
    λ j. record { table = table j; column = column j }

module _ (groups : List ColumnPlace) (y x : Sight) (same : is_same_group groups y x ≡ true) where
  -- of one group they show the same in the group columns
  pub group_agrees : Agree y x groups
  group_agrees = record { at = λ p there. (value_eq-Decides (y p) (x p)).0 (all_at (λ place. value_eq (y place) (x place)) groups p same there) }

  grouped_scalar : (s : Scalar) → is_group_scalar groups s ≡ true → Agree y x (scalar_places s)
  grouped_scalar (scalar.Column place) is = record {
    at = λ p there. ⊎_elim (λ e.
        let found = any_found (is_place place) groups is in
        let at_place : y place ≡ x place = subst (λ (g : ColumnPlace). y g ≡ x g) (sym (place_is place found.0 found.2)) (group_agrees.at found.0 found.1) in
        subst (λ (g : ColumnPlace). y g ≡ x g) e at_place) (λ none. absurd none) there;
  }
  grouped_scalar (scalar.Literal value) is = record { at = λ p there. absurd there }
  grouped_scalar (scalar.Quality quality) is = absurd (both_ways false refl is)

  grouped_agrees : (c : Cond) → is_of_groups groups c ≡ true → Agree y x (read_by c)
  unfolding is_of_groups
  grouped_agrees c is = record {
    at = λ p reads.
        let found = among_flat_map scalar_places (scalars_of c) p reads in
        (grouped_scalar found.0 (all_at (is_group_scalar groups) (scalars_of c) found.0 is found.1)).at p found.2;
  }

  group_up : (c : Cond) → is_of_groups groups c ≡ true → is_true (truth x c) ≡ true → is_true (truth y c) ≡ true
  group_up c is h = ap is_true (truth_same y x c (grouped_agrees c is)) ∙ h

-- what is better than a combination that a sinking condition keeps is kept by it
pub sinks_up : (t : Term) → ((leaf : Leaf) → Among (leaves_of t) leaf → IsTrivialIfExplicit leaf) → (groups : List ColumnPlace) (y x : Sight) → is_same_group groups y x ≡ true → is_weakly (order_of t) y x ≡ true
    → (c : Option Cond) → ((cond : Cond) → c ≡ Some cond → (s : Scalar) → Among (scalars_of cond) s → ScalarTold t s) → sinks (Some t) groups c ≡ true → is_true_at x c ≡ true → is_true_at y c ≡ true
sinks_up t trivial groups y x same weak None there sinks_ h = absurd (both_ways false refl h)
sinks_up t trivial groups y x same weak (Some c) there sinks_ h =
    ⊎_elim (λ closed. closed_up t trivial y x weak c (there c refl) closed h) (λ of_groups. group_up groups y x same c of_groups h)
    (or_cases (is_closed t c) (is_of_groups groups c) sinks_)
