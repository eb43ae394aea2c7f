-- What is better by a term, or the same, is better or the same by each of its closed leaves.
use Rattle.std.proofs.Common.{◌≡◌, ℕ, Bool, true, false, ◌&&◌, ◌||◌, List, refl, sym, ap, ◌∙◌, inl, inr, ⊎_elim, subst}
use Rattle.std.proofs.lemmas.Bool.{both_ways}
use Rattle.prefsql_tables.specs.Sight.{Sight}
use Rattle.order_laws.proofs.Members.{Among, among_back, among_either, among_front}
use Rattle.pref_terms.specs.declared.term.Leaf.{Leaf}
use Rattle.pref_terms.specs.declared.term.Term.{Term, Pareto, Prior, Dual}
use Rattle.pref_terms.specs.declared.term.Term as term
use Rattle.pref_terms.specs.Equations.{leaves_of-Leaf, leaves_of-Pareto, leaves_of-Prior, order_of-Leaf, order_of-Pareto, order_of-Prior}
use Rattle.pref_terms.specs.Induction.{term_induction}
use Rattle.pref_terms.specs.Parts.{closed_numbers}
use Rattle.pref_terms.specs.Terms.{Order, leaf_order, leaves_of, order_of}
use Rattle.pref_terms.proofs.PartReads.{closed-Leaf, closed-Pareto, closed-Prior, closed-Dual}

-- better or the same
abbrev pub is_weakly : Order → Sight → Sight → Bool
is_weakly order y x = order.better y x || order.same y x

pareto_weak : (b s c t : Bool) → (((b && (c || t)) || ((b || s) && c)) || (s && t)) ≡ true → ((b || s) ≡ true) × ((c || t) ≡ true)
pareto_weak true s true t h = (refl, refl)
pareto_weak true s false true h = (refl, refl)
pareto_weak true true false false h = absurd (both_ways false refl h)
pareto_weak true false false false h = absurd (both_ways false refl h)
pareto_weak false true true t h = (refl, refl)
pareto_weak false true false true h = (refl, refl)
pareto_weak false true false false h = absurd (both_ways false refl h)
pareto_weak false false c t h = absurd (both_ways false refl h)

prior_weak : (b s c t : Bool) → ((b || (s && c)) || (s && t)) ≡ true → (b || s) ≡ true
prior_weak true s c t h = refl
prior_weak false true c t h = refl
prior_weak false false c t h = absurd (both_ways false refl h)

module _ (y x : Sight) where
  -- the closed leaf with the number, and that what is weakly better by the term is so by it
  pub record ClosedLeaf (t : Term) (number : ℕ) : Type 0 where
    pub leaf : Leaf
    pub there : Among (leaves_of t) leaf
    pub is : leaf.number ≡ number
    pub weak : is_weakly (order_of t) y x ≡ true → is_weakly (leaf_order leaf) y x ≡ true

  abbrev pub HasClosed : Term → Type 0
  HasClosed t = (number : ℕ) → Among (closed_numbers t) number → ClosedLeaf t number

  at_leaf : (leaf : Leaf) → HasClosed (term.Leaf leaf)
  at_leaf leaf number closed =
      let is = subst (λ (ns : List ℕ). Among ns number) (closed-Leaf (term.Leaf leaf) leaf refl) closed in
      record {
        leaf = leaf;
        there = subst (λ (ls : List Leaf). Among ls leaf) (sym (leaves_of-Leaf leaf)) (inl refl);
        is = ⊎_elim (λ e. e) (λ none. absurd none) is;
        weak = λ h. sym (ap (λ (o : Order). is_weakly o y x) (order_of-Leaf leaf)) ∙ h;
      }

  pareto_is : (p q : Term) → is_weakly (order_of (Pareto p q)) y x ≡ true → (is_weakly (order_of p) y x ≡ true) × (is_weakly (order_of q) y x ≡ true)
  pareto_is p q h =
      pareto_weak ((order_of p).better y x) ((order_of p).same y x) ((order_of q).better y x) ((order_of q).same y x)
      (sym (ap (λ (o : Order). is_weakly o y x) (order_of-Pareto p q)) ∙ h)

  prior_is : (p q : Term) → is_weakly (order_of (Prior p q)) y x ≡ true → is_weakly (order_of p) y x ≡ true
  prior_is p q h =
      prior_weak ((order_of p).better y x) ((order_of p).same y x) ((order_of q).better y x) ((order_of q).same y x)
      (sym (ap (λ (o : Order). is_weakly o y x) (order_of-Prior p q)) ∙ h)

  at_pareto : (p q : Term) → HasClosed p → HasClosed q → HasClosed (Pareto p q)
  at_pareto p q first second number closed =
      elim (among_either (closed_numbers p) (closed_numbers q) number (subst (λ (ns : List ℕ). Among ns number) (closed-Pareto (Pareto p q) p q refl) closed)) [
        | inl a ↦
            let found = first number a in
            record {
              leaf = found.leaf;
              there = subst (λ (ls : List Leaf). Among ls found.leaf) (sym (leaves_of-Pareto p q)) (among_front (leaves_of p) (leaves_of q) found.leaf found.there);
              is = found.is;
              weak = λ h. found.weak (pareto_is p q h).0;
            }
        | inr a ↦
            let found = second number a in
            record {
              leaf = found.leaf;
              there = subst (λ (ls : List Leaf). Among ls found.leaf) (sym (leaves_of-Pareto p q)) (among_back (leaves_of p) (leaves_of q) found.leaf found.there);
              is = found.is;
              weak = λ h. found.weak (pareto_is p q h).1;
            }
      ]

  at_prior : (p q : Term) → HasClosed p → HasClosed q → HasClosed (Prior p q)
  at_prior p q first second number closed =
      let found = first number (subst (λ (ns : List ℕ). Among ns number) (closed-Prior (Prior p q) p q refl) closed) in
      record {
        leaf = found.leaf;
        there = subst (λ (ls : List Leaf). Among ls found.leaf) (sym (leaves_of-Prior p q)) (among_front (leaves_of p) (leaves_of q) found.leaf found.there);
        is = found.is;
        weak = λ h. found.weak (prior_is p q h);
      }

  -- no leaf under a dual term is closed
  at_dual : (p : Term) → HasClosed p → HasClosed (Dual p)
  at_dual p inner number closed =
      absurd (subst (λ (ns : List ℕ). Among ns number) (closed-Dual (Dual p) p refl) closed)

  pub closed_leaf : (t : Term) → HasClosed t
  closed_leaf = term_induction HasClosed at_leaf at_pareto at_prior at_dual
