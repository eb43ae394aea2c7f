-- A preference that goes by a key alone: a weak order (Kießling, VLDB 2002).
use Rattle.std.specs.Prelude.{◌≡◌, Bool, true}
use Rattle.std.specs.Cmp.{IsTotalOrder, IsEquivalence}
use Rattle.std.specs.Ordering.{on, is_lt, is_eq}
use Rattle.std.specs.declared.cmp.Ordering.{Ordering}
use Rattle.std.specs.declared.cmp.Ordering.TheVariants.{Less, Equal, Greater}
use Rattle.std.proofs.Common.{sym, ◌∙◌, ap, refl}
use Rattle.std.proofs.lemmas.Bool.{false_from_ne_true}
use Rattle.std.proofs.lemmas.Cmp.{on_total, on_equiv, eq_by_cmp_equiv, tied_itself, alike_right}
use Rattle.order_laws.specs.Lawful.{IsLawful, IsLawfulWhere, item}
use Rattle.order_laws.specs.CombineLaws.{lawful_on}

is_lt-true : (o : Ordering) → is_lt o ≡ true → o ≡ Less
is_lt-true Less h = refl
is_lt-true Equal h = absurd (cc)
is_lt-true Greater h = absurd (cc)

-- where a smaller key is better, and the same items have equal keys, the laws hold
pub lawful_by_key : {X K : Type 0} (key : X → K) {cmp : K → K → Ordering} → IsTotalOrder cmp
    → {same : X → X → Bool} → IsEquivalence same
    → ((x y : X) → same x y ≡ true → cmp (key x) (key y) ≡ Equal)
    → IsLawful (λ x y. is_lt (cmp (key x) (key y))) same (on key cmp)
lawful_by_key {X} {K} key {cmp} total {same} equivalence tied = record {
  irreflexive = λ x. ap is_lt (tied_itself total (key x));
  transitive = λ x y z xy yz.
      ap is_lt (total.trans (key x) (key y) (key z) (is_lt-true _ xy) (is_lt-true _ yz));
  equivalence = equivalence;
  same_better = λ x y z xy yz. ap is_lt (total.congr (key x) (key y) (key z) (tied x y xy)) ∙ yz;
  better_same = λ x y z xy yz.
      ap is_lt (sym (alike_right total (key y) (key z) (key x) (tied y z yz))) ∙ xy;
  apart = λ x y xy. false_from_ne_true (same x y) (λ h. let equal = tied x y h in
      let less = is_lt-true (cmp (key x) (key y)) xy in cc);
  better_key = λ x y xy. is_lt-true (cmp (key x) (key y)) xy;
  same_key = tied;
  keys = on_total key total;
}

is_eq-true : (o : Ordering) → is_eq o ≡ true → o ≡ Equal
is_eq-true Less h = absurd (cc)
is_eq-true Equal h = refl
is_eq-true Greater h = absurd (cc)

-- where a smaller key is better, and items of equal keys are the same, the laws hold of whatever
-- items are valid
pub lawful_by_key_alone : {X K : Type 0} (valid : X → Type 0) (key : X → K) {cmp : K → K → Ordering}
    → IsTotalOrder cmp
    → IsLawfulWhere valid (λ x y. is_lt (cmp (key x) (key y))) (λ x y. is_eq (cmp (key x) (key y)))
    (on key cmp)
lawful_by_key_alone {X} {K} valid key {cmp} total = record {
  among_valid = lawful_on (item {valid = valid})
      (lawful_by_key key total (on_equiv key (eq_by_cmp_equiv total))
      (λ x y. is_eq-true (cmp (key x) (key y))));
}
