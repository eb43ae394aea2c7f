-- Each constructor of preferences keeps the laws of its parts. (These proofs stand in specs/ since
-- the laws of an `impl` cite them.)
use Rattle.std.specs.Prelude.{◌≡◌, ℕ, ◌+◌, ◌<◌, Bool, true, ◌&&◌, ◌||◌, refl}
use Rattle.std.specs.Ordering.{on, ordering_then, then_cmp, flip_args, eq_of_both}
use Rattle.std.specs.declared.cmp.Ordering.{Ordering}
use Rattle.std.specs.declared.cmp.Ordering.TheVariants.{Less, Equal, Greater}
use Rattle.std.proofs.Common.{◌∙◌, ⊎_elim, arith}
use Rattle.std.proofs.lemmas.Bool.{or_cases, or_from, or_left, or_right, and_from, and_parts}
use Rattle.std.proofs.lemmas.Bool.{and_left, and_right}
use Rattle.std.proofs.lemmas.Cmp.{on_total, on_equiv, then_total, back_total, and_equiv}
use Rattle.order_laws.specs.Lawful.{IsLawful, IsLawfulWhere, Valid}
use Rattle.order_laws.specs.Combine.{pareto_better, prior_better}

then_less : (o p : Ordering) → o ≡ Less → ordering_then o p ≡ Less
then_less Less p h = refl
then_less Equal p h = absurd (cc)
then_less Greater p h = h

then_equal : (o p : Ordering) → o ≡ Equal → ordering_then o p ≡ p
then_equal Less p h = absurd (cc)
then_equal Equal p h = refl
then_equal Greater p h = absurd (cc)

-- the laws along a function to the items
pub lawful_on : {X Y : Type 0} (f : Y → X) {better same : X → X → Bool} {key_cmp : X → X → Ordering}
    → IsLawful better same key_cmp → IsLawful (on f better) (on f same) (on f key_cmp)
lawful_on f laws = record {
  irreflexive = λ x. laws.irreflexive (f x);
  transitive = λ x y z. laws.transitive (f x) (f y) (f z);
  equivalence = on_equiv f laws.equivalence;
  same_better = λ x y z. laws.same_better (f x) (f y) (f z);
  better_same = λ x y z. laws.better_same (f x) (f y) (f z);
  apart = λ x y. laws.apart (f x) (f y);
  better_key = λ x y. laws.better_key (f x) (f y);
  same_key = λ x y. laws.same_key (f x) (f y);
  keys = on_total f laws.keys;
}

-- turned round, a preference keeps the laws
pub flip_lawful : {X : Type 0} {better same : X → X → Bool} {key_cmp : X → X → Ordering}
    → IsLawful better same key_cmp → IsLawful (flip_args better) same (flip_args key_cmp)
flip_lawful {X} {better} {same} {key_cmp} laws = record {
  irreflexive = laws.irreflexive;
  transitive = λ x y z xy yz. laws.transitive z y x yz xy;
  equivalence = laws.equivalence;
  same_better = λ x y z xy yz. laws.better_same z y x yz (laws.equivalence.symm y x ∙ xy);
  better_same = λ x y z xy yz. laws.same_better z y x (laws.equivalence.symm z y ∙ yz) xy;
  apart = λ x y xy. laws.equivalence.symm x y ∙ laws.apart y x xy;
  better_key = λ x y xy. laws.better_key y x xy;
  same_key = λ x y xy. laws.same_key y x (laws.equivalence.symm y x ∙ xy);
  keys = back_total laws.keys;
}

module _ {X : Type 0} {better same : X → X → Bool} {key_cmp : X → X → Ordering}
    (laws : IsLawful better same key_cmp) where
  weak : X → X → Bool
  weak x y = better x y || same x y

  better_weak : (x y z : X) → better x y ≡ true → (better y z || same y z) ≡ true
      → better x z ≡ true
  better_weak x y z xy yz =
      ⊎_elim (λ h. laws.transitive x y z xy h) (λ h. laws.better_same x y z xy h) (or_cases _ _ yz)

  weak_better : (x y z : X) → (better x y || same x y) ≡ true → better y z ≡ true
      → better x z ≡ true
  weak_better x y z xy yz =
      ⊎_elim (λ h. laws.transitive x y z h yz) (λ h. laws.same_better x y z h yz) (or_cases _ _ xy)

  same_along : (x y z : X) → same x y ≡ true → same y z ≡ true → same x z ≡ true
  same_along x y z xy yz = laws.equivalence.congr x y z xy ∙ yz

  weak_weak : (x y z : X) → (better x y || same x y) ≡ true → (better y z || same y z) ≡ true
      → (better x z || same x z) ≡ true
  weak_weak x y z xy yz =
      ⊎_elim (λ h. or_left _ _ (better_weak x y z h yz))
      (λ h. ⊎_elim (λ k. or_left _ _ (laws.same_better x y z h k))
      (λ k. or_right _ _ (same_along x y z h k)) (or_cases _ _ yz))
      (or_cases _ _ xy)

module _ {X : Type 0} {b s : X → X → Bool} {k : X → X → Ordering} {c t : X → X → Bool}
    {l : X → X → Ordering} (first : IsLawful b s k) (second : IsLawful c t l) where
  -- the second part decides where the first says the same
  then_second_less : (x y : X) → s x y ≡ true → c x y ≡ true → then_cmp k l x y ≡ Less
  then_second_less x y sxy cxy = then_equal _ _ (first.same_key x y sxy) ∙ second.better_key x y cxy

  both_same_key : (x y : X) → (s x y && t x y) ≡ true → then_cmp k l x y ≡ Equal
  both_same_key x y h = then_equal _ _ (first.same_key x y ((and_parts _ _ h).0))
      ∙ second.same_key x y ((and_parts _ _ h).1)

  pareto_cases : {G : Type 0} (x y : X) → pareto_better b s c t x y ≡ true
      → (b x y ≡ true → (c x y || t x y) ≡ true → G) → ((b x y || s x y) ≡ true → c x y ≡ true → G)
      → G
  pareto_cases x y h left right =
      ⊎_elim (λ p. left ((and_parts _ _ p).0) ((and_parts _ _ p).1)) (λ p.
      right ((and_parts _ _ p).0) ((and_parts _ _ p).1))
      (or_cases (b x y && (c x y || t x y)) ((b x y || s x y) && c x y) h)

  pareto_left : (x y : X) → b x y ≡ true → (c x y || t x y) ≡ true
      → pareto_better b s c t x y ≡ true
  pareto_left x y p q =
      or_left (b x y && (c x y || t x y)) ((b x y || s x y) && c x y) (and_from _ _ p q)

  pareto_right : (x y : X) → (b x y || s x y) ≡ true → c x y ≡ true
      → pareto_better b s c t x y ≡ true
  pareto_right x y p q =
      or_right (b x y && (c x y || t x y)) ((b x y || s x y) && c x y) (and_from _ _ p q)

  pareto_transitive : (x y z : X) → pareto_better b s c t x y ≡ true
      → pareto_better b s c t y z ≡ true → pareto_better b s c t x z ≡ true
  pareto_transitive x y z xy yz =
      pareto_cases x y xy
      (λ p q. pareto_cases y z yz
      (λ p' q'. pareto_left x z (first.transitive x y z p p') (weak_weak second x y z q q'))
      (λ p' q'. pareto_left x z (better_weak first x y z p p')
      (or_left _ _ (weak_better second x y z q q'))))
      (λ p q. pareto_cases y z yz
      (λ p' q'. pareto_right x z (or_left _ _ (weak_better first x y z p p'))
      (better_weak second x y z q q'))
      (λ p' q'. pareto_right x z (weak_weak first x y z p p') (second.transitive x y z q q')))

  pareto_same_better : (x y z : X) → (s x y && t x y) ≡ true → pareto_better b s c t y z ≡ true
      → pareto_better b s c t x z ≡ true
  pareto_same_better x y z xy yz =
      let sxy = ((and_parts _ _ xy).0) in
      let txy = ((and_parts _ _ xy).1) in
      pareto_cases y z yz
      (λ p q. pareto_left x z (first.same_better x y z sxy p)
      (weak_weak second x y z (or_right _ _ txy) q))
      (λ p q. pareto_right x z (weak_weak first x y z (or_right _ _ sxy) p)
      (second.same_better x y z txy q))

  pareto_better_same : (x y z : X) → pareto_better b s c t x y ≡ true → (s y z && t y z) ≡ true
      → pareto_better b s c t x z ≡ true
  pareto_better_same x y z xy yz =
      let syz = ((and_parts _ _ yz).0) in
      let tyz = ((and_parts _ _ yz).1) in
      pareto_cases x y xy
      (λ p q. pareto_left x z (first.better_same x y z p syz)
      (weak_weak second x y z q (or_right _ _ tyz)))
      (λ p q. pareto_right x z (weak_weak first x y z p (or_right _ _ syz))
      (second.better_same x y z q tyz))

  pareto_key : (x y : X) → pareto_better b s c t x y ≡ true → then_cmp k l x y ≡ Less
  pareto_key x y xy =
      pareto_cases x y xy
      (λ p q. then_less _ _ (first.better_key x y p))
      (λ p q. ⊎_elim (λ h. then_less _ _ (first.better_key x y h))
      (λ h. then_second_less x y h q) (or_cases _ _ p))

  -- a pair of parts keeps the laws
  pub pareto_lawful : IsLawful (pareto_better b s c t) (eq_of_both s t) (then_cmp k l)
  pareto_lawful = record {
    irreflexive = λ x. or_from (b x x && (c x x || t x x)) ((b x x || s x x)
        && c x x) (and_left _ _ (first.irreflexive x)) (and_right _ _ (second.irreflexive x));
    transitive = pareto_transitive;
    equivalence = and_equiv first.equivalence second.equivalence;
    same_better = pareto_same_better;
    better_same = pareto_better_same;
    apart = λ x y xy. pareto_cases x y xy (λ p q. and_left (s x y) (t x y) (first.apart x y p))
        (λ p q. and_right (s x y) (t x y) (second.apart x y q));
    better_key = pareto_key;
    same_key = both_same_key;
    keys = then_total first.keys second.keys;
  }

  prior_cases : {G : Type 0} (x y : X) → prior_better b s c x y ≡ true → (b x y ≡ true → G)
      → (s x y ≡ true → c x y ≡ true → G) → G
  prior_cases x y h left right =
      ⊎_elim left (λ p. right ((and_parts _ _ p).0) ((and_parts _ _ p).1))
      (or_cases (b x y) (s x y && c x y) h)

  prior_second : (x y : X) → s x y ≡ true → c x y ≡ true → prior_better b s c x y ≡ true
  prior_second x y p q = or_right (b x y) (s x y && c x y) (and_from _ _ p q)

  prior_first : (x y : X) → b x y ≡ true → prior_better b s c x y ≡ true
  prior_first x y p = or_left (b x y) (s x y && c x y) p

  prior_transitive : (x y z : X) → prior_better b s c x y ≡ true → prior_better b s c y z ≡ true
      → prior_better b s c x z ≡ true
  prior_transitive x y z xy yz =
      prior_cases x y xy
      (λ p. prior_first x z (prior_cases y z yz (λ q. first.transitive x y z p q)
      (λ q r. first.better_same x y z p q)))
      (λ p r. prior_cases y z yz
      (λ q. prior_first x z (first.same_better x y z p q))
      (λ q r'. prior_second x z (same_along first x y z p q) (second.transitive x y z r r')))

  -- one part before another keeps the laws
  pub prior_lawful : IsLawful (prior_better b s c) (eq_of_both s t) (then_cmp k l)
  prior_lawful = record {
    irreflexive = λ x. or_from (b x x) (s x x && c x x) (first.irreflexive x)
        (and_right _ _ (second.irreflexive x));
    transitive = prior_transitive;
    equivalence = and_equiv first.equivalence second.equivalence;
    same_better = λ x y z xy yz.
        let sxy = ((and_parts _ _ xy).0) in
        prior_cases y z yz
        (λ p. prior_first x z (first.same_better x y z sxy p))
        (λ p q. prior_second x z (same_along first x y z sxy p)
        (second.same_better x y z ((and_parts _ _ xy).1) q));
    better_same = λ x y z xy yz.
        let syz = ((and_parts _ _ yz).0) in
        prior_cases x y xy
        (λ p. prior_first x z (first.better_same x y z p syz))
        (λ p q. prior_second x z (same_along first x y z p syz)
        (second.better_same x y z q ((and_parts _ _ yz).1)));
    apart = λ x y xy.
        prior_cases x y xy (λ p. and_left (s x y) (t x y) (first.apart x y p)) (λ p q.
        and_right (s x y) (t x y) (second.apart x y q));
    better_key = λ x y xy. prior_cases x y xy (λ p. then_less _ _ (first.better_key x y p))
        (then_second_less x y);
    same_key = both_same_key;
    keys = then_total first.keys second.keys;
  }

module _ {X : Type 0} {v w : X → Type 0} where
  abbrev to_first : Valid (λ x. v x × w x) → Valid v
  to_first x = (x.0, x.1.0)

  abbrev to_second : Valid (λ x. v x × w x) → Valid w
  to_second x = (x.0, x.1.1)

pub flip_lawful_where : {X : Type 0} {valid : X → Type 0} {better same : X → X → Bool} {key_cmp : X
    → X → Ordering} → IsLawfulWhere valid better same key_cmp
    → IsLawfulWhere valid (flip_args better) same (flip_args key_cmp)
flip_lawful_where laws = record { among_valid = flip_lawful laws.among_valid }

module _ {X : Type 0} {v w : X → Type 0} {b s : X → X → Bool} {k : X → X → Ordering}
    {c t : X → X → Bool} {l : X → X → Ordering} where
  -- the same of the items that are valid for both parts
  pub pareto_lawful_where : IsLawfulWhere v b s k → IsLawfulWhere w c t l
      → IsLawfulWhere (λ x. v x × w x) (pareto_better b s c t) (eq_of_both s t) (then_cmp k l)
  pareto_lawful_where first second =
      record {
        among_valid = pareto_lawful (lawful_on to_first first.among_valid)
            (lawful_on to_second second.among_valid);
      }

  pub prior_lawful_where : IsLawfulWhere v b s k → IsLawfulWhere w c t l
      → IsLawfulWhere (λ x. v x × w x) (prior_better b s c) (eq_of_both s t) (then_cmp k l)
  prior_lawful_where first second =
      record {
        among_valid = prior_lawful (lawful_on to_first first.among_valid)
            (lawful_on to_second second.among_valid);
      }

pub sum_positive : (m n : ℕ) → 0 < m → 0 < m + n
sum_positive m n h = omega arith

pub one_positive : 0 < 1
one_positive = omega arith
