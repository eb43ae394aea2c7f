-- Where two combinations differ in one table alone, the part of a term that stands on the table decides as the term does.
use Rattle.std.proofs.Common.{◌≡◌, ℕ, Bool, true, false, ◌&&◌, ◌||◌, if◌then◌else◌, Option, Some, None, List, refl, sym, ap, ◌∙◌, inl, subst}
use Rattle.std.specs.Ordering.{is_eq}
use Rattle.std.proofs.lemmas.Bool.{and_from, and_parts, or_left, or_right}
use Rattle.std.proofs.lemmas.Cmp.{int_cmp_total, tied_itself}
use Rattle.prefsql_values.specs.declared.value.Value.{Value}
use Rattle.prefsql_values.proofs.ValueEq.{value_eq-equivalence}
use Rattle.prefsql_tables.specs.Sight.{Sight}
use Rattle.order_laws.proofs.Members.{Among, among_back, among_front}
use Rattle.base_prefs.specs.Kind.{key_of, same_of}
use Rattle.base_prefs.specs.declared.kind.Kind.{Kind}
use Rattle.pref_terms.specs.declared.term.Leaf.{Leaf}
use Rattle.pref_terms.specs.declared.term.Term.{Term, Pareto, Prior, Dual}
use Rattle.pref_terms.specs.declared.term.Term as term
use Rattle.pref_terms.specs.Equations.{leaves_of-Leaf, leaves_of-Pareto, leaves_of-Prior, leaves_of-Dual, order_of-Leaf, order_of-Pareto, order_of-Prior, order_of-Dual}
use Rattle.pref_terms.specs.Induction.{term_induction}
use Rattle.pref_terms.specs.Parts.{is_on, pareto_left, prior_left, dual_left, restricted}
use Rattle.pref_terms.specs.Terms.{Order, leaves_of, order_of}
use Rattle.pref_terms.proofs.PartReads.{left-Leaf, left-Pareto, left-Prior, left-Dual}

same_itself : (kind : Kind) (trivial : Bool) (v : Value) → same_of kind trivial v v ≡ true
same_itself kind true v = value_eq-equivalence.refl v
same_itself kind false v = ap is_eq (tied_itself int_cmp_total (key_of kind v))

module _ (table : ℕ) (y x : Sight) where
  -- the leaves of other tables show the same
  pub record SameElsewhere (leaves : List Leaf) : Type 0 where
    pub at : (leaf : Leaf) → Among leaves leaf → is_on table leaf ≡ false → y leaf.place ≡ x leaf.place

  -- what is better by what is left is better by the term, and the same where it is the same
  abbrev pub Lifts : Option Term → Term → Type 0
  Lifts None t = (order_of t).same y x ≡ true
  Lifts (Some left) t = ((order_of left).better y x ≡ true → (order_of t).better y x ≡ true) × ((order_of left).same y x ≡ true → (order_of t).same y x ≡ true)

  module _ (p q : Term) where
    abbrev pb : Bool
    pb = (order_of p).better y x

    abbrev ps : Bool
    ps = (order_of p).same y x

    abbrev qb : Bool
    qb = (order_of q).better y x

    abbrev qs : Bool
    qs = (order_of q).same y x

    pareto_same_of : ps ≡ true → qs ≡ true → (order_of (Pareto p q)).same y x ≡ true
    pareto_same_of h k = ap (λ (o : Order). o.same y x) (order_of-Pareto p q) ∙ and_from ps qs h k

    prior_same_of : ps ≡ true → qs ≡ true → (order_of (Prior p q)).same y x ≡ true
    prior_same_of h k = ap (λ (o : Order). o.same y x) (order_of-Prior p q) ∙ and_from ps qs h k

    pareto_first : pb ≡ true → (qb || qs) ≡ true → (order_of (Pareto p q)).better y x ≡ true
    pareto_first h k = ap (λ (o : Order). o.better y x) (order_of-Pareto p q) ∙ or_left (pb && (qb || qs)) ((pb || ps) && qb) (and_from pb (qb || qs) h k)

    pareto_second : (pb || ps) ≡ true → qb ≡ true → (order_of (Pareto p q)).better y x ≡ true
    pareto_second h k = ap (λ (o : Order). o.better y x) (order_of-Pareto p q) ∙ or_right (pb && (qb || qs)) ((pb || ps) && qb) (and_from (pb || ps) qb h k)

    prior_first : pb ≡ true → (order_of (Prior p q)).better y x ≡ true
    prior_first h = ap (λ (o : Order). o.better y x) (order_of-Prior p q) ∙ or_left pb (ps && qb) h

    prior_second : ps ≡ true → qb ≡ true → (order_of (Prior p q)).better y x ≡ true
    prior_second h k = ap (λ (o : Order). o.better y x) (order_of-Prior p q) ∙ or_right pb (ps && qb) (and_from ps qb h k)

    pareto_cases : (order_of (Pareto p q)).better y x ≡ true → ((pb && (qb || qs)) || ((pb || ps) && qb)) ≡ true
    pareto_cases h = sym (ap (λ (o : Order). o.better y x) (order_of-Pareto p q)) ∙ h

    prior_cases : (order_of (Prior p q)).better y x ≡ true → (pb || (ps && qb)) ≡ true
    prior_cases h = sym (ap (λ (o : Order). o.better y x) (order_of-Prior p q)) ∙ h

    pareto_same_cases : (order_of (Pareto p q)).same y x ≡ true → (ps ≡ true) × (qs ≡ true)
    pareto_same_cases h = and_parts ps qs (sym (ap (λ (o : Order). o.same y x) (order_of-Pareto p q)) ∙ h)

    prior_same_cases : (order_of (Prior p q)).same y x ≡ true → (ps ≡ true) × (qs ≡ true)
    prior_same_cases h = and_parts ps qs (sym (ap (λ (o : Order). o.same y x) (order_of-Prior p q)) ∙ h)

  weaker : (b s c t : Bool) → (b ≡ true → c ≡ true) → (s ≡ true → t ≡ true) → (b || s) ≡ true → (c || t) ≡ true
  weaker true s c t h k is = or_left c t (h refl)
  weaker false true c t h k is = or_right c t (k refl)
  weaker false false c t h k is = absurd (cc)

  pareto_both : (a b c d : Bool) (G : Type 0) → (a ≡ true → b ≡ true → G) → (c ≡ true → d ≡ true → G) → ((a && b) || (c && d)) ≡ true → G
  pareto_both true true c d G h k is = h refl refl
  pareto_both true false true true G h k is = k refl refl
  pareto_both true false true false G h k is = absurd (cc)
  pareto_both true false false d G h k is = absurd (cc)
  pareto_both false b true true G h k is = k refl refl
  pareto_both false b true false G h k is = absurd (cc)
  pareto_both false b false d G h k is = absurd (cc)

  prior_both : (a b c : Bool) (G : Type 0) → (a ≡ true → G) → (b ≡ true → c ≡ true → G) → (a || (b && c)) ≡ true → G
  prior_both true b c G h k is = h refl
  prior_both false true true G h k is = k refl refl
  prior_both false true false G h k is = absurd (cc)
  prior_both false false c G h k is = absurd (cc)

  pareto_lifts : (p q : Term) (left right : Option Term) → Lifts left p → Lifts right q → Lifts (pareto_left left right) (Pareto p q)
  pareto_lifts p q None None first second = pareto_same_of p q first second
  pareto_lifts p q None (Some r) first second = (
    λ h. pareto_second p q (or_right (pb p q) (ps p q) first) (second.0 h),
    λ h. pareto_same_of p q first (second.1 h),
  )
  pareto_lifts p q (Some l) None first second = (
    λ h. pareto_first p q (first.0 h) (or_right (qb p q) (qs p q) second),
    λ h. pareto_same_of p q (first.1 h) second,
  )
  pareto_lifts p q (Some l) (Some r) first second = (
    λ h. pareto_both (pb l r) (qb l r || qs l r) (pb l r || ps l r) (qb l r) ((order_of (Pareto p q)).better y x ≡ true)
        (λ b c. pareto_first p q (first.0 b) (weaker (qb l r) (qs l r) (qb p q) (qs p q) second.0 second.1 c))
        (λ b c. pareto_second p q (weaker (pb l r) (ps l r) (pb p q) (ps p q) first.0 first.1 b) (second.0 c))
        (pareto_cases l r h),
    λ h. let both = pareto_same_cases l r h in pareto_same_of p q (first.1 both.0) (second.1 both.1),
  )

  prior_lifts : (p q : Term) (left right : Option Term) → Lifts left p → Lifts right q → Lifts (prior_left left right) (Prior p q)
  prior_lifts p q None None first second = prior_same_of p q first second
  prior_lifts p q None (Some r) first second = (λ h. prior_second p q first (second.0 h), λ h. prior_same_of p q first (second.1 h))
  prior_lifts p q (Some l) None first second = (λ h. prior_first p q (first.0 h), λ h. prior_same_of p q (first.1 h) second)
  prior_lifts p q (Some l) (Some r) first second = (
    λ h. prior_both (pb l r) (ps l r) (qb l r) ((order_of (Prior p q)).better y x ≡ true)
        (λ b. prior_first p q (first.0 b))
        (λ b c. prior_second p q (first.1 b) (second.0 c))
        (prior_cases l r h),
    λ h. let both = prior_same_cases l r h in prior_same_of p q (first.1 both.0) (second.1 both.1),
  )

  abbrev pub IsLifted : Term → Type 0
  IsLifted t = SameElsewhere (leaves_of t) → Lifts (restricted table t) t

  leaf_if : (b : Bool) (leaf : Leaf) → is_on table leaf ≡ b → SameElsewhere (leaves_of (term.Leaf leaf)) → Lifts (if b then Some (term.Leaf leaf) else None) (term.Leaf leaf)
  leaf_if true leaf on same = (λ h. h, λ h. h)
  leaf_if false leaf on same =
      let there = subst (λ (ls : List Leaf). Among ls leaf) (sym (leaves_of-Leaf leaf)) (inl refl) in
      ap (λ (o : Order). o.same y x) (order_of-Leaf leaf)
      ∙ ap (λ v. same_of leaf.base leaf.trivial v (x leaf.place)) (same.at leaf there on)
      ∙ same_itself leaf.base leaf.trivial (x leaf.place)

  pareto_lifted : (p q : Term) → IsLifted p → IsLifted q → IsLifted (Pareto p q)
  pareto_lifted p q first second same =
      subst (λ left. Lifts left (Pareto p q)) (sym (left-Pareto table (Pareto p q) p q refl))
      (pareto_lifts p q (restricted table p) (restricted table q)
      (first (record { at = λ leaf there. same.at leaf (subst (λ (ls : List Leaf). Among ls leaf) (sym (leaves_of-Pareto p q)) (among_front (leaves_of p) (leaves_of q) leaf there)) }))
      (second (record { at = λ leaf there. same.at leaf (subst (λ (ls : List Leaf). Among ls leaf) (sym (leaves_of-Pareto p q)) (among_back (leaves_of p) (leaves_of q) leaf there)) })))

  prior_lifted : (p q : Term) → IsLifted p → IsLifted q → IsLifted (Prior p q)
  prior_lifted p q first second same =
      subst (λ left. Lifts left (Prior p q)) (sym (left-Prior table (Prior p q) p q refl))
      (prior_lifts p q (restricted table p) (restricted table q)
      (first (record { at = λ leaf there. same.at leaf (subst (λ (ls : List Leaf). Among ls leaf) (sym (leaves_of-Prior p q)) (among_front (leaves_of p) (leaves_of q) leaf there)) }))
      (second (record { at = λ leaf there. same.at leaf (subst (λ (ls : List Leaf). Among ls leaf) (sym (leaves_of-Prior p q)) (among_back (leaves_of p) (leaves_of q) leaf there)) })))

  leaf_lifted : (leaf : Leaf) → IsLifted (term.Leaf leaf)
  leaf_lifted leaf same = subst (λ left. Lifts left (term.Leaf leaf)) (sym (left-Leaf table (term.Leaf leaf) leaf refl)) (leaf_if (is_on table leaf) leaf refl same)

module _ (table : ℕ) where
  -- turned round, what is left decides the other way round
  dual_lifts : (y x : Sight) (p : Term) (left : Option Term) → Lifts table y x left p → Lifts table x y left p → Lifts table y x (dual_left left) (Dual p)
  dual_lifts y x p None straight turned = ap (λ (o : Order). o.same y x) (order_of-Dual p) ∙ straight
  dual_lifts y x p (Some left) straight turned = (
    λ h. ap (λ (o : Order). o.better y x) (order_of-Dual p) ∙ turned.0 (sym (ap (λ (o : Order). o.better y x) (order_of-Dual left)) ∙ h),
    λ h. ap (λ (o : Order). o.same y x) (order_of-Dual p) ∙ straight.1 (sym (ap (λ (o : Order). o.same y x) (order_of-Dual left)) ∙ h),
  )

  abbrev IsAlwaysLifted : Term → Type 0
  IsAlwaysLifted t = (y x : Sight) → IsLifted table y x t

  dual_lifted : (p : Term) → IsAlwaysLifted p → IsAlwaysLifted (Dual p)
  dual_lifted p inner y x same =
      let below : SameElsewhere table y x (leaves_of p) = subst (SameElsewhere table y x) (leaves_of-Dual p) same in
      subst (λ left. Lifts table y x left (Dual p)) (sym (left-Dual table (Dual p) p refl))
      (dual_lifts y x p (restricted table p) (inner y x below) (inner x y (record { at = λ leaf there off. sym (below.at leaf there off) })))

  always_lifted : (t : Term) → IsAlwaysLifted t
  always_lifted = term_induction IsAlwaysLifted
      (λ leaf y x. leaf_lifted table y x leaf)
      (λ p q first second y x. pareto_lifted table y x p q (first y x) (second y x))
      (λ p q first second y x. prior_lifted table y x p q (first y x) (second y x))
      dual_lifted

module _ (table : ℕ) (y x : Sight) where
  pub lifted : (t : Term) → IsLifted table y x t
  lifted t = always_lifted table t y x

  -- better by what is left of the term on the table is better by the term
  pub left_better : (t left : Term) → SameElsewhere table y x (leaves_of t) → restricted table t ≡ Some left → (order_of left).better y x ≡ true → (order_of t).better y x ≡ true
  left_better t left same is = (subst (λ o. Lifts table y x o t) is (lifted t same)).0
