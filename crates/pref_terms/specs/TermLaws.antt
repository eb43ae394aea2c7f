-- Every term keeps the laws of a preference, where its EXPLICIT leaves are trivial.
use Rattle.std.proofs.Common.{◌≡◌, ◌<◌, Bool, List, [], ◌∷◌, ◌++◌, length, length-append, All}
use Rattle.std.proofs.Common.{subst, sym, ◌∙◌, arith}
use Rattle.std.specs.Cmp.{IsTotalOrder}
use Rattle.std.specs.declared.cmp.Ordering.{Ordering}
use Rattle.std.proofs.lemmas.Cmp.{on_total, lists_total, int_cmp_total}
use Rattle.std.proofs.lemmas.List.Elements.{All-nil, All-cons, All-head, All-tail}
use Rattle.prefsql_tables.specs.Sight.{Sight}
use Rattle.order_laws.specs.Lawful.{IsLawful}
use Rattle.order_laws.specs.CombineLaws.{flip_lawful, lawful_on, pareto_lawful, prior_lawful}
use Rattle.base_prefs.specs.RankedLaws.{lawful_of}
use Rattle.pref_terms.specs.declared.term.Leaf.{Leaf}
use Rattle.pref_terms.specs.declared.term.Term.{Term, Pareto, Prior, Dual}
use Rattle.pref_terms.specs.declared.term.Term as term
use Rattle.pref_terms.specs.Terms.{Order, order_of, leaves_of, keys_of, key_order}
use Rattle.pref_terms.specs.Fits.{IsTrivialIfExplicit}
use Rattle.pref_terms.specs.Induction.{term_induction}
use Rattle.pref_terms.specs.Equations.{order_of-Leaf, order_of-Pareto, order_of-Prior, order_of-Dual}
use Rattle.pref_terms.specs.Equations.{leaves_of-Leaf, leaves_of-Pareto, leaves_of-Prior, leaves_of-Dual}
use Rattle.pref_terms.specs.Equations.{key_order-Leaf, key_order-Pareto, key_order-Prior, key_order-Dual}

-- the laws hold with keys that compare alike
rekeyed : {X : Type 0} {better same : X → X → Bool} {k l : X → X → Ordering}
    → IsLawful better same k → IsTotalOrder l → ((x y : X) → l x y ≡ k x y) → IsLawful better same l
rekeyed laws total alike = record {
  irreflexive = laws.irreflexive;
  transitive = laws.transitive;
  equivalence = laws.equivalence;
  same_better = laws.same_better;
  better_same = laws.better_same;
  apart = laws.apart;
  better_key = λ x y h. alike x y ∙ laws.better_key x y h;
  same_key = λ x y h. alike x y ∙ laws.same_key x y h;
  keys = total;
}

module _ {X : Type 0} (P : X → Type 0) where
  -- what holds of each item of two lists joined holds of each item of both
  pub All-first : (xs ys : List X) → All P (xs ++ ys) → All P xs
  All-first [] ys h = All-nil P
  All-first (x ∷ xs) ys h =
      All-cons P x xs (All-head P x (xs ++ ys) h) (All-first xs ys (All-tail P x (xs ++ ys) h))

  pub All-second : (xs ys : List X) → All P (xs ++ ys) → All P ys
  All-second [] ys h = h
  All-second (x ∷ xs) ys h = All-second xs ys (All-tail P x (xs ++ ys) h)

keys_total : (t : Term) → IsTotalOrder (key_order t)
keys_total t = on_total (keys_of t) (lists_total int_cmp_total)

abbrev IsTermLawful : Term → Type 0
IsTermLawful t = All IsTrivialIfExplicit (leaves_of t)
    → IsLawful ((order_of t).better) ((order_of t).same) (key_order t)

leaf_lawful : (leaf : Leaf) → IsTermLawful (term.Leaf leaf)
leaf_lawful leaf all =
    let trivial = All-head IsTrivialIfExplicit leaf []
    (subst (All IsTrivialIfExplicit) (leaves_of-Leaf leaf) all) in
    subst (λ (order : Order). IsLawful order.better order.same (key_order (term.Leaf leaf)))
    (sym (order_of-Leaf leaf))
    (rekeyed (lawful_on (λ (x : Sight). x leaf.place) (lawful_of leaf.base leaf.trivial trivial))
    (keys_total (term.Leaf leaf)) (key_order-Leaf leaf))

pareto_term_lawful : (p q : Term) → IsTermLawful p → IsTermLawful q → IsTermLawful (Pareto p q)
pareto_term_lawful p q first second all =
    let both = subst (All IsTrivialIfExplicit) (leaves_of-Pareto p q) all in
    let laws = pareto_lawful
    (first (All-first IsTrivialIfExplicit (leaves_of p) (leaves_of q) both))
    (second (All-second IsTrivialIfExplicit (leaves_of p) (leaves_of q) both)) in
    subst (λ (order : Order). IsLawful order.better order.same (key_order (Pareto p q)))
    (sym (order_of-Pareto p q))
    (rekeyed laws (keys_total (Pareto p q)) (key_order-Pareto p q))

prior_term_lawful : (p q : Term) → IsTermLawful p → IsTermLawful q → IsTermLawful (Prior p q)
prior_term_lawful p q first second all =
    let both = subst (All IsTrivialIfExplicit) (leaves_of-Prior p q) all in
    let laws = prior_lawful (first (All-first IsTrivialIfExplicit (leaves_of p) (leaves_of q) both))
    (second (All-second IsTrivialIfExplicit (leaves_of p) (leaves_of q) both)) in
    subst (λ (order : Order). IsLawful order.better order.same (key_order (Prior p q)))
    (sym (order_of-Prior p q))
    (rekeyed laws (keys_total (Prior p q)) (key_order-Prior p q))

dual_term_lawful : (p : Term) → IsTermLawful p → IsTermLawful (Dual p)
dual_term_lawful p inner all =
    let laws = flip_lawful (inner (subst (All IsTrivialIfExplicit) (leaves_of-Dual p) all)) in
    subst (λ (order : Order). IsLawful order.better order.same (key_order (Dual p)))
    (sym (order_of-Dual p))
    (rekeyed laws (keys_total (Dual p)) (key_order-Dual p))

pub term_lawful : (t : Term) → All IsTrivialIfExplicit (leaves_of t)
    → IsLawful ((order_of t).better) ((order_of t).same) (key_order t)
term_lawful =
    term_induction IsTermLawful leaf_lawful pareto_term_lawful prior_term_lawful dual_term_lawful

-- a term has a leaf
pub some_leaf : (t : Term) → 0 < length (leaves_of t)
some_leaf = term_induction (λ t. 0 < length (leaves_of t))
    (λ leaf. rw (leaves_of-Leaf leaf) (omega arith))
    (λ p q first second.
    rw (leaves_of-Pareto p q) (omega (arith, first, length-append (leaves_of p) (leaves_of q))))
    (λ p q first second.
    rw (leaves_of-Prior p q) (omega (arith, first, length-append (leaves_of p) (leaves_of q))))
    (λ p inner. rw (leaves_of-Dual p) inner)
