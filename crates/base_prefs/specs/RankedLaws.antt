-- A base preference keeps the laws.
use Rattle.std.proofs.Common.{◌≡◌, ◌<◌, arith, ℤ, Bool, true, false, if◌then◌else◌, refl, sym, ap}
use Rattle.std.proofs.Common.{◌∙◌}
use Rattle.std.specs.Ordering.{on, is_lt, is_eq, int_cmp}
use Rattle.std.specs.declared.cmp.Ordering.{Ordering}
use Rattle.std.specs.declared.cmp.Ordering.TheVariants.{Less, Equal, Greater}
use Rattle.std.proofs.lemmas.Bool.{both_ways}
use Rattle.std.proofs.lemmas.Cmp.{int_cmp_total, tied_itself, eq_by_cmp_equiv, on_equiv}
use Rattle.prefsql_values.specs.declared.value.Value.{Value}
use Rattle.prefsql_values.specs.Value.{value_eq}
use Rattle.prefsql_values.proofs.ValueEq.{value_eq-Decides, value_eq-equivalence}
use Rattle.order_laws.specs.Lawful.{IsLawful, IsLawfulWhere, item}
use Rattle.order_laws.specs.ByKey.{lawful_by_key}
use Rattle.order_laws.specs.CombineLaws.{lawful_on}
use Rattle.base_prefs.specs.declared.kind.Kind.{Kind}
use Rattle.base_prefs.specs.declared.kind.Kind.TheVariants.{Explicit}
use Rattle.base_prefs.specs.Kind.{better_of, same_of, key_of, key_order, is_explicit, IsJudged}
use Rattle.base_prefs.specs.ExplicitLaws.{explicit_lawful}

-- which values a preference judges: with an EXPLICIT one the same is equality
abbrev pub IsRanked : Kind → Bool → Value → Type 0
IsRanked kind trivial v = (is_explicit kind ≡ true → trivial ≡ true) × IsJudged kind v

is_eq-true : (o : Ordering) → is_eq o ≡ true → o ≡ Equal
is_eq-true Less h = absurd (cc)
is_eq-true Equal h = refl
is_eq-true Greater h = absurd (cc)

by_key : (key : Value → ℤ) (trivial : Bool)
    → IsLawful (λ y x. is_lt (int_cmp (key y) (key x))) (λ x y. if trivial then value_eq x y
    else is_eq (int_cmp (key x) (key y))) (on key int_cmp)
by_key key true =
    lawful_by_key key int_cmp_total value_eq-equivalence
    (λ x y h. ap (λ v. int_cmp (key x) (key v)) (sym ((value_eq-Decides x y).0 h))
    ∙ tied_itself int_cmp_total (key x))
by_key key false =
    lawful_by_key key int_cmp_total (on_equiv key (eq_by_cmp_equiv int_cmp_total)) (λ x y h.
    is_eq-true (int_cmp (key x) (key y)) h)

-- of no item all holds
of_none : {X : Type 0} {better same : X → X → Bool} {key_cmp : X → X → Ordering} → (X → ⊥)
    → IsLawful better same key_cmp
of_none none = record {
  irreflexive = λ x. absurd (none x);
  transitive = λ x y z h k. absurd (none x);
  equivalence = record {
    refl = λ x. absurd (none x);
    symm = λ x y. absurd (none x);
    congr = λ x y z h. absurd (none x);
  };
  same_better = λ x y z h k. absurd (none x);
  better_same = λ x y z h k. absurd (none x);
  apart = λ x y h. absurd (none x);
  better_key = λ x y h. absurd (none x);
  same_key = λ x y h. absurd (none x);
  keys = record {
    antisymm = λ x y. absurd (none x);
    trans = λ x y z h k. absurd (none x);
    congr = λ x y z h. absurd (none x);
  };
}

-- of all values: an EXPLICIT preference keeps the laws where the same values are the equal ones,
-- each other kind always
pub lawful_of : (kind : Kind) (trivial : Bool) → (is_explicit kind ≡ true → trivial ≡ true)
    → IsLawful (better_of kind) (same_of kind trivial) (key_order kind)
lawful_of (Explicit g) true needed = explicit_lawful g.edges g.acyclic
lawful_of (Explicit g) false needed = absurd (both_ways false refl (needed refl))
lawful_of kind trivial needed = by_key (key_of kind) trivial

pub ranked_lawful : (kind : Kind) (trivial : Bool)
    → IsLawfulWhere (IsRanked kind trivial) (better_of kind) (same_of kind trivial) (key_order kind)
ranked_lawful (Explicit g) true =
    record {
      among_valid = lawful_on (item {valid = IsRanked (Explicit g) true})
          (lawful_of (Explicit g) true (λ h. refl));
    }
ranked_lawful (Explicit g) false =
    record { among_valid = of_none (λ x. both_ways false refl (x.1.0 refl)) }
ranked_lawful kind trivial =
    record {
      among_valid = lawful_on (item {valid = IsRanked kind trivial})
          (by_key (key_of kind) trivial);
    }

pub one_positive : 0 < 1
one_positive = omega arith
