-- How two rows stand by each leaf that is asked decides which is better by the term.
use Rattle.std.proofs.Common.{◌≡◌, ℕ, zero, suc, ◌+◌, ◌-◌, ◌<◌, ◌≤◌, nat_lt, ℤ, neg_ℤ, Bool, true, false, ◌&&◌, ◌||◌, if◌then◌else◌, List, [], ◌∷◌, ◌++◌, length, length-append, map, append-nil, append_assoc, drop, get_or, refl, sym, ap, ◌∙◌, inl, inr, ◌⊎◌, subst, arith}
use Rattle.std.specs.Ordering.{is_gt, is_lt}
use Rattle.std.specs.declared.cmp.Ordering.{Ordering}
use Rattle.std.proofs.lemmas.Bool.{cases_Bool, false≢true}
use Rattle.std.proofs.lemmas.List.{length-map, map-append}
use Rattle.prefsql_tables.specs.Sight.{Sight}
use Rattle.base_prefs.specs.Kind.{key_of}
use Rattle.pref_terms.specs.declared.term.Leaf.{Leaf}
use Rattle.pref_terms.specs.declared.term.Term.{Term, Pareto, Prior, Dual}
use Rattle.pref_terms.specs.declared.term.Term as term
use Rattle.pref_terms.specs.declared.term.Term.TheOpen.{Term-F}
use Rattle.pref_terms.specs.Equations.{leaves_of-Leaf, leaves_of-Pareto, leaves_of-Prior, leaves_of-Dual, length-keys_of, order_of-Leaf, order_of-Pareto, order_of-Prior, order_of-Dual}
use Rattle.pref_terms.specs.Equations as equations
use Rattle.pref_terms.proofs.Standings.{same_turned}
use Rattle.pref_terms.specs.Induction.{fold-Leaf, fold-Pareto, fold-Prior, fold-Dual, term_induction}
use Rattle.pref_terms.specs.Terms.{Order, keys_of, leaf_order, leaves_of, order_of, order_step}
use Rattle.plan_groups.specs.Jumps.{Shape, is_better_by, jumps_of, outcomes, shape_of, shape_step}
use Rattle.plan_groups.specs.Outcomes.{leaf_outcome, outcome_by, standings, standings_step, stands}
use Rattle.plan_groups.specs.declared.jumps.Jump.{Jump}
use Rattle.plan_groups.specs.declared.jumps.RankedLeaf.{RankedLeaf}

shape_of-Leaf : (leaf : Leaf) → shape_of (term.Leaf leaf) ≡ shape_step (Term-F.Leaf leaf)
shape_of-Leaf = fold-Leaf Shape shape_step

shape_of-Pareto : (p q : Term) → shape_of (Pareto p q) ≡ shape_step (Term-F.Pareto (shape_of p) (shape_of q))
shape_of-Pareto = fold-Pareto Shape shape_step

shape_of-Prior : (p q : Term) → shape_of (Prior p q) ≡ shape_step (Term-F.Prior (shape_of p) (shape_of q))
shape_of-Prior = fold-Prior Shape shape_step

shape_of-Dual : (p : Term) → shape_of (Dual p) ≡ shape_of p
shape_of-Dual = fold-Dual Shape shape_step

-- what is kept of a term, variant by variant
pub width-Leaf : (t : Term) (leaf : Leaf) → t ≡ term.Leaf leaf → (shape_of t).width ≡ 1
width-Leaf t leaf is = ap (λ (s : Shape). s.width) (ap shape_of is ∙ shape_of-Leaf leaf)

pub width-Pareto : (t p q : Term) → t ≡ Pareto p q → (shape_of t).width ≡ (shape_of p).width + (shape_of q).width
width-Pareto t p q is = ap (λ (s : Shape). s.width) (ap shape_of is ∙ shape_of-Pareto p q)

pub width-Prior : (t p q : Term) → t ≡ Prior p q → (shape_of t).width ≡ (shape_of p).width + (shape_of q).width
width-Prior t p q is = ap (λ (s : Shape). s.width) (ap shape_of is ∙ shape_of-Prior p q)

pub width-Dual : (t p : Term) → t ≡ Dual p → (shape_of t).width ≡ (shape_of p).width
width-Dual t p is = ap (λ (s : Shape). s.width) (ap shape_of is ∙ shape_of-Dual p)

pub jumps-Leaf : (t : Term) (leaf : Leaf) → t ≡ term.Leaf leaf → (at start skip : ℕ) → (shape_of t).jumps at start skip ≡ record { start = start; skip = skip } ∷ []
jumps-Leaf t leaf is at start skip = ap (λ (s : Shape). s.jumps at start skip) (ap shape_of is ∙ shape_of-Leaf leaf)

pub jumps-Pareto : (t p q : Term) → t ≡ Pareto p q → (at start skip : ℕ)
    → (shape_of t).jumps at start skip ≡ (shape_of p).jumps at 0 0 ++ (shape_of q).jumps (at + (shape_of p).width) start skip
jumps-Pareto t p q is at start skip = ap (λ (s : Shape). s.jumps at start skip) (ap shape_of is ∙ shape_of-Pareto p q)

pub jumps-Prior : (t p q : Term) → t ≡ Prior p q → (at start skip : ℕ)
    → (shape_of t).jumps at start skip ≡ (shape_of p).jumps at at ((shape_of q).width + skip) ++ (shape_of q).jumps (at + (shape_of p).width) start skip
jumps-Prior t p q is at start skip = ap (λ (s : Shape). s.jumps at start skip) (ap shape_of is ∙ shape_of-Prior p q)

pub jumps-Dual : (t p : Term) → t ≡ Dual p → (at start skip : ℕ) → (shape_of t).jumps at start skip ≡ (shape_of p).jumps at start skip
jumps-Dual t p is at start skip = ap (λ (s : Shape). s.jumps at start skip) (ap shape_of is ∙ shape_of-Dual p)

pub ruleset shape_reads = (width-Leaf, width-Pareto, width-Prior, width-Dual)

-- the keys of a term, variant by variant
pub keys_of-Leaf : (t : Term) (leaf : Leaf) → t ≡ term.Leaf leaf → (x : Sight) → keys_of t x ≡ key_of leaf.base (x leaf.place) ∷ []
keys_of-Leaf t leaf is x = ap (λ (u : Term). keys_of u x) is ∙ equations.keys_of-Leaf x leaf

pub keys_of-Pareto : (t p q : Term) → t ≡ Pareto p q → (x : Sight) → keys_of t x ≡ keys_of p x ++ keys_of q x
keys_of-Pareto t p q is x = ap (λ (u : Term). keys_of u x) is ∙ equations.keys_of-Pareto x p q

pub keys_of-Prior : (t p q : Term) → t ≡ Prior p q → (x : Sight) → keys_of t x ≡ keys_of p x ++ keys_of q x
keys_of-Prior t p q is x = ap (λ (u : Term). keys_of u x) is ∙ equations.keys_of-Prior x p q

pub keys_of-Dual : (t p : Term) → t ≡ Dual p → (x : Sight) → keys_of t x ≡ map neg_ℤ (keys_of p x)
keys_of-Dual t p is x = ap (λ (u : Term). keys_of u x) is ∙ equations.keys_of-Dual x p

-- the standings of a term, variant by variant
pub standings-Leaf : (t : Term) (leaf : Leaf) → t ≡ term.Leaf leaf → (y x : Sight) → standings t y x ≡ stands y x leaf ∷ []
standings-Leaf t leaf is y x = ap (λ (u : Term). standings u y x) is ∙ (λ j. fold-Leaf (Sight → Sight → List Ordering) standings_step leaf j y x)

pub standings-Pareto : (t p q : Term) → t ≡ Pareto p q → (y x : Sight) → standings t y x ≡ standings p y x ++ standings q y x
standings-Pareto t p q is y x = ap (λ (u : Term). standings u y x) is ∙ (λ j. fold-Pareto (Sight → Sight → List Ordering) standings_step p q j y x)

pub standings-Prior : (t p q : Term) → t ≡ Prior p q → (y x : Sight) → standings t y x ≡ standings p y x ++ standings q y x
standings-Prior t p q is y x = ap (λ (u : Term). standings u y x) is ∙ (λ j. fold-Prior (Sight → Sight → List Ordering) standings_step p q j y x)

pub standings-Dual : (t p : Term) → t ≡ Dual p → (y x : Sight) → standings t y x ≡ standings p x y
standings-Dual t p is y x = ap (λ (u : Term). standings u y x) is ∙ (λ j. fold-Dual (Sight → Sight → List Ordering) standings_step p j y x)

-- a term has a key, a standing and a jump for each leaf
pub keys_length : (t : Term) (x : Sight) → length (keys_of t x) ≡ length (leaves_of t)
keys_length t x = length-keys_of x t

abbrev IsWide : Term → Type 0
IsWide t = (shape_of t).width ≡ length (leaves_of t)

pub width_is : (t : Term) → IsWide t
width_is = term_induction IsWide
    (λ leaf. width-Leaf (term.Leaf leaf) leaf refl ∙ sym (ap length (leaves_of-Leaf leaf)))
    (λ p q first second.
    width-Pareto (Pareto p q) p q refl ∙ (λ j. first j + second j) ∙ sym (length-append (leaves_of p) (leaves_of q)) ∙ sym (ap length (leaves_of-Pareto p q)))
    (λ p q first second.
    width-Prior (Prior p q) p q refl ∙ (λ j. first j + second j) ∙ sym (length-append (leaves_of p) (leaves_of q)) ∙ sym (ap length (leaves_of-Prior p q)))
    (λ p inner. width-Dual (Dual p) p refl ∙ inner ∙ sym (ap length (leaves_of-Dual p)))

abbrev IsLong : Term → Type 0
IsLong t = (at start skip : ℕ) → length ((shape_of t).jumps at start skip) ≡ (shape_of t).width

pub jumps_length : (t : Term) → IsLong t
jumps_length = term_induction IsLong
    (λ leaf at start skip. ap length (jumps-Leaf (term.Leaf leaf) leaf refl at start skip) ∙ sym (width-Leaf (term.Leaf leaf) leaf refl))
    (λ p q first second at start skip.
    ap length (jumps-Pareto (Pareto p q) p q refl at start skip)
    ∙ length-append ((shape_of p).jumps at 0 0) ((shape_of q).jumps (at + (shape_of p).width) start skip)
    ∙ (λ j. first at 0 0 j + second (at + (shape_of p).width) start skip j) ∙ sym (width-Pareto (Pareto p q) p q refl))
    (λ p q first second at start skip.
    ap length (jumps-Prior (Prior p q) p q refl at start skip)
    ∙ length-append ((shape_of p).jumps at at ((shape_of q).width + skip)) ((shape_of q).jumps (at + (shape_of p).width) start skip)
    ∙ (λ j. first at at ((shape_of q).width + skip) j + second (at + (shape_of p).width) start skip j) ∙ sym (width-Prior (Prior p q) p q refl))
    (λ p inner at start skip. ap length (jumps-Dual (Dual p) p refl at start skip) ∙ inner at start skip ∙ sym (width-Dual (Dual p) p refl))

abbrev IsStanding : Term → Type 0
IsStanding t = (y x : Sight) → length (standings t y x) ≡ (shape_of t).width

standings_length : (t : Term) → IsStanding t
standings_length = term_induction IsStanding
    (λ leaf y x. ap length (standings-Leaf (term.Leaf leaf) leaf refl y x) ∙ sym (width-Leaf (term.Leaf leaf) leaf refl))
    (λ p q first second y x.
    ap length (standings-Pareto (Pareto p q) p q refl y x) ∙ length-append (standings p y x) (standings q y x)
    ∙ (λ j. first y x j + second y x j) ∙ sym (width-Pareto (Pareto p q) p q refl))
    (λ p q first second y x.
    ap length (standings-Prior (Prior p q) p q refl y x) ∙ length-append (standings p y x) (standings q y x)
    ∙ (λ j. first y x j + second y x j) ∙ sym (width-Prior (Prior p q) p q refl))
    (λ p inner y x. ap length (standings-Dual (Dual p) p refl y x) ∙ inner x y ∙ sym (width-Dual (Dual p) p refl))

-- where the row is better by a leaf of the part, what is behind it is passed over
jumped : (start skip l : ℕ) → (start < l) ⊎ (skip ≡ 0) → (if nat_lt start l then skip else 0) ≡ skip
jumped start skip l (inl less) =
    elim (cases_Bool (nat_lt start l)) [ inl h ↦ rw h refl | inr h ↦ absurd (grind (arith, h, less)) ]
jumped start skip l (inr none) =
    elim (cases_Bool (nat_lt start l)) [ inl h ↦ rw h refl | inr h ↦ rw h (sym none) ]

not_jumped : (start skip l : ℕ) → l ≤ start → (if nat_lt start l then skip else 0) ≡ 0
not_jumped start skip l before =
    elim (cases_Bool (nat_lt start l)) [ inl h ↦ absurd (grind (arith, h, before)) | inr h ↦ rw h refl ]

-- leaves that are passed over
passed : (js : List Jump) (os : List Ordering) → length js ≡ length os → (at last skip : ℕ) (ks : List Jump) (ps : List Ordering)
    → is_better_by at last (length js + skip) (js ++ ks) (os ++ ps) ≡ is_better_by (at + length js) last skip ks ps
passed [] [] same at last skip ks ps =
    let e : 0 + skip ≡ skip = omega arith in
    let f : at ≡ at + 0 = omega arith in
    λ j. is_better_by (f j) last (e j) ks ps
passed [] (o ∷ os) same at last skip ks ps = absurd (omega (arith, same))
passed (j ∷ js) [] same at last skip ks ps = absurd (omega (arith, same))
passed (j ∷ js) (o ∷ os) same at last skip ks ps =
    let e : suc (length js) + skip ≡ suc (length js + skip) = omega arith in
    let f : at + 1 + length js ≡ at + suc (length js) = omega arith in
    ap (λ n. is_better_by at last n (j ∷ js ++ ks) (o ∷ os ++ ps)) e
    ∙ passed js os (omega (arith, same)) (at + 1) last skip ks ps
    ∙ ap (λ n. is_better_by n last skip ks ps) f

-- what a part of so many leaves comes to, from the leaf at `at` on: the rest is asked with the last leaf by which the row is better
record Asked (b s : Bool) (w at last start skip : ℕ) (js : List Jump) (os : List Ordering) (r : Bool) : Type 0 where
  better : b ≡ true → (l : ℕ) × (at < l) × (l ≤ at + w) × (r ≡ is_better_by (at + w) l skip js os)
  same : b ≡ false → s ≡ true → r ≡ is_better_by (at + w) last (if nat_lt start last then skip else 0) js os
  other : b ≡ false → s ≡ false → r ≡ false

asked_leaf : (b s : Bool) (at last start skip : ℕ) (js : List Jump) (os : List Ordering) → (start ≤ at) ⊎ (skip ≡ 0)
    → Asked b s 1 at last start skip js os (is_better_by at last 0 (record { start = start; skip = skip } ∷ js) (outcome_by b s ∷ os))
asked_leaf true s at last start skip js os begun = record {
  better = λ h. (at + 1, omega arith, omega arith, ap (λ k. is_better_by (at + 1) (at + 1) k js os) (jumped start skip (at + 1) (within begun)));
  same = λ h k. absurd (false≢true (sym h));
  other = λ h k. absurd (false≢true (sym h));
}
  where
    within : (start ≤ at) ⊎ (skip ≡ 0) → (start < at + 1) ⊎ (skip ≡ 0)
    within (inl h) = inl (omega (arith, h))
    within (inr h) = inr h
asked_leaf false true at last start skip js os begun = record { better = λ h. absurd (false≢true h); same = λ h k. refl; other = λ h k. absurd (false≢true (sym k)) }
asked_leaf false false at last start skip js os begun = record { better = λ h. absurd (false≢true h); same = λ h k. absurd (false≢true k); other = λ h k. refl }

module _ (wp wq at last start skip : ℕ) (before : last ≤ at) (begun : (start ≤ at) ⊎ (skip ≡ 0))
    (js ks : List Jump) (os ps : List Ordering) (r : Bool) where
  further : (l k : ℕ) → is_better_by (at + wp + wq) l k js os ≡ is_better_by (at + (wp + wq)) l k js os
  further l k = let e : at + wp + wq ≡ at + (wp + wq) = omega arith in ap (λ n. is_better_by n l k js os) e

  begun_before : (l : ℕ) → at < l → (start < l) ⊎ (skip ≡ 0)
  begun_before l more = by begun
    where
      by : (start ≤ at) ⊎ (skip ≡ 0) → (start < l) ⊎ (skip ≡ 0)
      by (inl h) = inl (omega (arith, h, more))
      by (inr h) = inr h

  -- both parts count alike
  asked_pareto : (pb ps_ qb qs : Bool) → Asked pb ps_ wp at last 0 0 ks ps r
      → ((l : ℕ) → l ≤ at + wp → Asked qb qs wq (at + wp) l start skip js os (is_better_by (at + wp) l 0 ks ps))
      → Asked ((pb && (qb || qs)) || ((pb || ps_) && qb)) (ps_ && qs) (wp + wq) at last start skip js os r
  asked_pareto true s true qs first second = record {
    better = λ h.
        let f = first.better refl in
        let g = (second f.0 f.2).better refl in
        (g.0, omega (arith, f.1, g.1), omega (arith, g.2), f.3 ∙ g.3 ∙ further g.0 skip);
    same = λ h k. absurd (false≢true (sym h));
    other = λ h k. absurd (false≢true (sym h));
  }
  asked_pareto true s false true first second = record {
    better = λ h.
        let f = first.better refl in (
          f.0,
          f.1,
          omega (arith, f.2),
          f.3 ∙ (second f.0 f.2).same refl refl ∙ ap (λ k. is_better_by (at + wp + wq) f.0 k js os) (jumped start skip f.0 (begun_before f.0 f.1)) ∙ further f.0 skip,
        );
    same = λ h k. absurd (false≢true (sym h));
    other = λ h k. absurd (false≢true (sym h));
  }
  asked_pareto true true false false first second = record {
    better = λ h. absurd (false≢true h);
    same = λ h k. absurd (false≢true k);
    other = λ h k. let f = first.better refl in f.3 ∙ (second f.0 f.2).other refl refl;
  }
  asked_pareto true false false false first second = record {
    better = λ h. absurd (false≢true h);
    same = λ h k. absurd (false≢true k);
    other = λ h k. let f = first.better refl in f.3 ∙ (second f.0 f.2).other refl refl;
  }
  asked_pareto false true true qs first second = record {
    better = λ h.
        let f = first.same refl refl ∙ ap (λ k. is_better_by (at + wp) last k ks ps) (jumped 0 0 last (inr refl)) in
        let g = (second last (omega (arith, before))).better refl in
        (g.0, omega (arith, g.1), omega (arith, g.2), f ∙ g.3 ∙ further g.0 skip);
    same = λ h k. absurd (false≢true (sym h));
    other = λ h k. absurd (false≢true (sym h));
  }
  asked_pareto false true false true first second = record {
    better = λ h. absurd (false≢true h);
    same = λ h k.
        first.same refl refl ∙ ap (λ n. is_better_by (at + wp) last n ks ps) (jumped 0 0 last (inr refl))
        ∙ (second last (omega (arith, before))).same refl refl ∙ further last (if nat_lt start last then skip else 0);
    other = λ h k. absurd (false≢true (sym k));
  }
  asked_pareto false true false false first second = record {
    better = λ h. absurd (false≢true h);
    same = λ h k. absurd (false≢true k);
    other = λ h k.
        first.same refl refl ∙ ap (λ n. is_better_by (at + wp) last n ks ps) (jumped 0 0 last (inr refl))
        ∙ (second last (omega (arith, before))).other refl refl;
  }
  asked_pareto false false qb qs first second = record {
    better = λ h. absurd (false≢true h);
    same = λ h k. absurd (false≢true k);
    other = λ h k. first.other refl refl;
  }

  -- the first part counts more
  asked_prior : (pb ps_ qb qs : Bool) → Asked pb ps_ wp at last at (wq + skip) ks ps r
      → ((l : ℕ) → is_better_by (at + wp) l (wq + skip) ks ps ≡ is_better_by (at + wp + wq) l skip js os)
      → ((l : ℕ) → l ≤ at + wp → Asked qb qs wq (at + wp) l start skip js os (is_better_by (at + wp) l 0 ks ps))
      → Asked (pb || (ps_ && qb)) (ps_ && qs) (wp + wq) at last start skip js os r
  asked_prior true s qb qs first over second = record {
    better = λ h. let f = first.better refl in (f.0, f.1, omega (arith, f.2), f.3 ∙ over f.0 ∙ further f.0 skip);
    same = λ h k. absurd (false≢true (sym h));
    other = λ h k. absurd (false≢true (sym h));
  }
  asked_prior false true true qs first over second = record {
    better = λ h.
        let f = first.same refl refl ∙ ap (λ k. is_better_by (at + wp) last k ks ps) (not_jumped at (wq + skip) last before) in
        let g = (second last (omega (arith, before))).better refl in
        (g.0, omega (arith, g.1), omega (arith, g.2), f ∙ g.3 ∙ further g.0 skip);
    same = λ h k. absurd (false≢true (sym h));
    other = λ h k. absurd (false≢true (sym h));
  }
  asked_prior false true false true first over second = record {
    better = λ h. absurd (false≢true h);
    same = λ h k.
        first.same refl refl ∙ ap (λ n. is_better_by (at + wp) last n ks ps) (not_jumped at (wq + skip) last before)
        ∙ (second last (omega (arith, before))).same refl refl ∙ further last (if nat_lt start last then skip else 0);
    other = λ h k. absurd (false≢true (sym k));
  }
  asked_prior false true false false first over second = record {
    better = λ h. absurd (false≢true h);
    same = λ h k. absurd (false≢true k);
    other = λ h k.
        first.same refl refl ∙ ap (λ n. is_better_by (at + wp) last n ks ps) (not_jumped at (wq + skip) last before)
        ∙ (second last (omega (arith, before))).other refl refl;
  }
  asked_prior false false qb qs first over second = record {
    better = λ h. absurd (false≢true h);
    same = λ h k. absurd (false≢true k);
    other = λ h k. first.other refl refl;
  }

module _ (y x : Sight) where
  abbrev Comes : Order → Shape → List Ordering → (at last start skip : ℕ) → List Jump → List Ordering → Type 0
  Comes o shape stood at last start skip js os =
      Asked (o.better y x) (o.same y x) shape.width at last start skip js os (is_better_by at last 0 (shape.jumps at start skip ++ js) (stood ++ os))

  abbrev Decides : Term → Type 0
  Decides t = (at last start skip : ℕ) → last ≤ at → (start ≤ at) ⊎ (skip ≡ 0) → (js : List Jump) (os : List Ordering)
      → Comes (order_of t) (shape_of t) (standings t y x) at last start skip js os

  -- said of what a term is made of, it is said of the term
  told : (t : Term) (o : Order) (shape : Shape) (stood : List Ordering) → order_of t ≡ o → shape_of t ≡ shape → standings t y x ≡ stood
      → (at last start skip : ℕ) (js : List Jump) (os : List Ordering) → Comes o shape stood at last start skip js os
      → Comes (order_of t) (shape_of t) (standings t y x) at last start skip js os
  told t o shape stood o_is shape_is stood_is at last start skip js os comes =
      subst (λ (u : Order). Comes u (shape_of t) (standings t y x) at last start skip js os) (sym o_is)
      (subst (λ (s : Shape). Comes o s (standings t y x) at last start skip js os) (sym shape_is)
      (subst (λ (st : List Ordering). Comes o shape st at last start skip js os) (sym stood_is) comes))

  decides_leaf : (leaf : Leaf) → Decides (term.Leaf leaf)
  decides_leaf leaf at last start skip before begun js os =
      told (term.Leaf leaf) (leaf_order leaf) (shape_step (Term-F.Leaf leaf)) (stands y x leaf ∷ []) (order_of-Leaf leaf) (shape_of-Leaf leaf) (standings-Leaf (term.Leaf leaf) leaf refl y x)
      at last start skip js os (asked_leaf ((leaf_order leaf).better y x) ((leaf_order leaf).same y x) at last start skip js os begun)

  decides_pareto : (p q : Term) → Decides p → Decides q → Decides (Pareto p q)
  decides_pareto p q first second at last start skip before begun js os =
      let t = Pareto p q in
      let wp = (shape_of p).width in
      let wq = (shape_of q).width in
      let jp = (shape_of p).jumps at 0 0 in
      let jq = (shape_of q).jumps (at + wp) start skip in
      let sp = standings p y x in
      let sq = standings q y x in
      let o = order_step (Term-F.Pareto (order_of p) (order_of q)) in
      told t o (shape_step (Term-F.Pareto (shape_of p) (shape_of q))) (sp ++ sq) (order_of-Pareto p q) (shape_of-Pareto p q) (standings-Pareto t p q refl y x)
      at last start skip js os
      (subst (λ r. Asked (o.better y x) (o.same y x) (wp + wq) at last start skip js os r)
      (λ j. is_better_by at last 0 (sym (append_assoc jp jq js) j) (sym (append_assoc sp sq os) j))
      (asked_pareto wp wq at last start skip before begun js (jq ++ js) os (sq ++ os) (is_better_by at last 0 (jp ++ (jq ++ js)) (sp ++ (sq ++ os)))
      ((order_of p).better y x) ((order_of p).same y x) ((order_of q).better y x) ((order_of q).same y x)
      (first at last 0 0 before (inr refl) (jq ++ js) (sq ++ os))
      (λ l few. second (at + wp) l start skip few (later begun) js os)))
    where
      later : (start ≤ at) ⊎ (skip ≡ 0) → (start ≤ at + (shape_of p).width) ⊎ (skip ≡ 0)
      later (inl h) = inl (omega (arith, h))
      later (inr h) = inr h

  decides_prior : (p q : Term) → Decides p → Decides q → Decides (Prior p q)
  decides_prior p q first second at last start skip before begun js os =
      let t = Prior p q in
      let wp = (shape_of p).width in
      let wq = (shape_of q).width in
      let jp = (shape_of p).jumps at at (wq + skip) in
      let jq = (shape_of q).jumps (at + wp) start skip in
      let sp = standings p y x in
      let sq = standings q y x in
      let o = order_step (Term-F.Prior (order_of p) (order_of q)) in
      let long : length jq ≡ wq = jumps_length q (at + wp) start skip in
      told t o (shape_step (Term-F.Prior (shape_of p) (shape_of q))) (sp ++ sq) (order_of-Prior p q) (shape_of-Prior p q) (standings-Prior t p q refl y x)
      at last start skip js os
      (subst (λ r. Asked (o.better y x) (o.same y x) (wp + wq) at last start skip js os r)
      (λ j. is_better_by at last 0 (sym (append_assoc jp jq js) j) (sym (append_assoc sp sq os) j))
      (asked_prior wp wq at last start skip before begun js (jq ++ js) os (sq ++ os) (is_better_by at last 0 (jp ++ (jq ++ js)) (sp ++ (sq ++ os)))
      ((order_of p).better y x) ((order_of p).same y x) ((order_of q).better y x) ((order_of q).same y x)
      (first at last at (wq + skip) before (inl (omega arith)) (jq ++ js) (sq ++ os))
      (λ l.
      ap (λ n. is_better_by (at + wp) l (n + skip) (jq ++ js) (sq ++ os)) (sym long)
      ∙ passed jq sq (long ∙ sym (standings_length q y x)) (at + wp) l skip js os
      ∙ ap (λ n. is_better_by (at + wp + n) l skip js os) long)
      (λ l few. second (at + wp) l start skip few (later begun) js os)))
    where
      later : (start ≤ at) ⊎ (skip ≡ 0) → (start ≤ at + (shape_of p).width) ⊎ (skip ≡ 0)
      later (inl h) = inl (omega (arith, h))
      later (inr h) = inr h

  decides_dual : (p : Term)
      → ((at last start skip : ℕ) → last ≤ at → (start ≤ at) ⊎ (skip ≡ 0) → (js : List Jump) (os : List Ordering)
      → Asked ((order_of p).better x y) ((order_of p).same x y) (shape_of p).width at last start skip js os (is_better_by at last 0 ((shape_of p).jumps at start skip ++ js) (standings p x y ++ os)))
      → Decides (Dual p)
  decides_dual p inner at last start skip before begun js os =
      told (Dual p) (order_step (Term-F.Dual (order_of p))) (shape_of p) (standings p x y) (order_of-Dual p) (shape_of-Dual p) (standings-Dual (Dual p) p refl y x)
      at last start skip js os
      (subst (λ s. Asked ((order_of p).better x y) s (shape_of p).width at last start skip js os (is_better_by at last 0 ((shape_of p).jumps at start skip ++ js) (standings p x y ++ os)))
      (same_turned p x y) (inner at last start skip before begun js os))

-- below a dual term both change their sides, so it is said of both pairs
abbrev AlwaysDecides : Term → Type 0
AlwaysDecides t = (y x : Sight) → Decides y x t

decides : (t : Term) → AlwaysDecides t
decides = term_induction AlwaysDecides
    (λ leaf y x. decides_leaf y x leaf)
    (λ p q first second y x. decides_pareto y x p q (first y x) (second y x))
    (λ p q first second y x. decides_prior y x p q (first y x) (second y x))
    (λ p inner y x. decides_dual y x p (inner x y))

settled : (b s : Bool) (w : ℕ) (r : Bool) → Asked b s w 0 0 0 0 [] [] r → r ≡ b
settled true s w r asked = let f = asked.better refl in let some : nat_lt 0 f.0 ≡ true = grind (arith, f.1) in f.3 ∙ some
settled false true w r asked = asked.same refl refl
settled false false w r asked = asked.other refl refl

-- how two stand by each leaf decides which is better
pub leaves_decide : (y x : Sight) (t : Term) → is_better_by 0 0 0 ((shape_of t).jumps 0 0 0) (standings t y x) ≡ (order_of t).better y x
leaves_decide y x t =
    (λ j. is_better_by 0 0 0 (sym (append-nil ((shape_of t).jumps 0 0 0)) j) (sym (append-nil (standings t y x)) j))
    ∙ settled ((order_of t).better y x) ((order_of t).same y x) (shape_of t).width _ (decides t y x 0 0 0 0 (omega arith) (inr refl) [] [])

module _ (a b : ℕ) where
  -- the first of the leaves that are left
  pub next_leaf : (m last skip : ℕ) (ls : List RankedLeaf) (xs ys : List ℤ) (n : ℕ) (leaf : RankedLeaf) (d : ℤ) → n < length ls → length xs ≡ length ls → length ys ≡ length ls
      → leaf ≡ get_or ls n leaf
      → is_better_by m last skip (jumps_of (drop n ls)) (outcomes (drop n ls) (drop n xs) (drop n ys) a b)
      ≡ is_better_by m last skip (leaf.jump ∷ jumps_of (drop (n + 1) ls)) (leaf_outcome leaf.test (get_or xs n d) (get_or ys n d) a b ∷ outcomes (drop (n + 1) ls) (drop (n + 1) xs) (drop (n + 1) ys) a b)
  next_leaf m last skip [] xs ys n leaf d within first second is = absurd (omega arith)
  next_leaf m last skip (l ∷ ls) [] ys n leaf d within first second is = absurd (omega (arith, first))
  next_leaf m last skip (l ∷ ls) (x ∷ xs) [] n leaf d within first second is = absurd (omega (arith, second))
  next_leaf m last skip (l ∷ ls) (x ∷ xs) (y ∷ ys) zero leaf d within first second is =
      λ j. is_better_by m last skip ((sym is j).jump ∷ jumps_of ls) (leaf_outcome (sym is j).test x y a b ∷ outcomes ls xs ys a b)
  next_leaf m last skip (l ∷ ls) (x ∷ xs) (y ∷ ys) (suc n) leaf d within first second is =
      let e : suc n + 1 ≡ suc (n + 1) = omega arith in
      next_leaf m last skip ls xs ys n leaf d (omega arith) (omega (arith, first)) (omega (arith, second)) is
      ∙ (λ j. is_better_by m last skip (leaf.jump ∷ jumps_of (drop (sym e j) (l ∷ ls))) (leaf_outcome leaf.test (get_or xs n d) (get_or ys n d) a b ∷ outcomes (drop (sym e j) (l ∷ ls)) (drop (sym e j) (x ∷ xs)) (drop (sym e j) (y ∷ ys)) a b))

-- a leaf that is asked and does not end it
pub step_on : (at last : ℕ) (jump : Jump) (js : List Jump) (o : Ordering) (os : List Ordering) → is_gt o ≡ false
    → is_better_by at last 0 (jump ∷ js) (o ∷ os)
    ≡ is_better_by (at + 1) (if is_lt o then at + 1 else last) (if nat_lt jump.start (if is_lt o then at + 1 else last) then jump.skip else 0) js os
step_on at last jump js o os not_behind = rw not_behind refl

-- a leaf that is asked and ends it
pub step_ends : (at last : ℕ) (jump : Jump) (js : List Jump) (o : Ordering) (os : List Ordering) → is_gt o ≡ true → is_better_by at last 0 (jump ∷ js) (o ∷ os) ≡ false
step_ends at last jump js o os behind = rw behind refl

-- a leaf that is passed over
pub step_past : (at last skip : ℕ) (jump : Jump) (js : List Jump) (o : Ordering) (os : List Ordering) → 0 < skip
    → is_better_by at last skip (jump ∷ js) (o ∷ os) ≡ is_better_by (at + 1) last (skip - 1) js os
step_past at last zero jump js o os some = absurd (omega arith)
step_past at last (suc skip) jump js o os some =
    let e : skip ≡ suc skip - 1 = omega arith in ap (λ n. is_better_by (at + 1) last n js os) e

-- no leaf is passed over before one was asked
pub one_asked : (at skip : ℕ) → 0 < skip → (at ≡ 0 → skip ≡ 0) → 0 < at
one_asked zero skip some none = absurd (omega (arith, some, none refl))
one_asked (suc at) skip some none = omega arith
