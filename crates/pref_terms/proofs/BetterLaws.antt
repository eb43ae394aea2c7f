-- The order that is computed for a term decides its relation.
use Rattle.std.proofs.Common.{◌≡◌, ℤ, ◌<ℤ◌, Bool, true, false, [], All, Decides, refl, sym, ap, ◌∙◌, subst, arith}
use Rattle.std.specs.Ordering.{is_eq, int_cmp, MatchOrdering}
use Rattle.std.specs.declared.cmp.Ordering.{Ordering}
use Rattle.std.specs.declared.cmp.Ordering.TheVariants.{Less, Equal, Greater}
use Rattle.std.proofs.lemmas.Bool.{false≢true}
use Rattle.std.proofs.lemmas.Bool.Decides.{Decides-and, Decides-or}
use Rattle.std.proofs.lemmas.Cmp.{int_ranked}
use Rattle.std.proofs.lemmas.Int.{ints}
use Rattle.std.proofs.lemmas.List.Elements.{All-append, All-cons, All-head, All-nil}
use Rattle.prefsql_values.specs.declared.value.Value.{Value}
use Rattle.prefsql_values.proofs.ValueEq.{value_eq-Decides}
use Rattle.base_prefs.specs.declared.kind.Kind.{Kind}
use Rattle.base_prefs.specs.Kind.{IsSame, key_of, same_of}
use Rattle.base_prefs.specs.KindLimits.{IsSound}
use Rattle.base_prefs.proofs.KindMeaning.{better_of-Decides}
use Rattle.pref_terms.specs.declared.term.Leaf.{Leaf}
use Rattle.pref_terms.specs.declared.term.Term.{Term, Pareto, Prior, Dual}
use Rattle.pref_terms.specs.declared.term.Term as term
use Rattle.pref_terms.specs.declared.term.Term.TheOpen.{Term-F}
use Rattle.pref_terms.specs.declared.term.Term.TheFolds.{rec-roll-Term}
use Rattle.pref_terms.specs.declared.term.Term.TheViews.{rolls-Leaf, rolls-Pareto, rolls-Prior, rolls-Dual}
use Rattle.pref_terms.specs.Betters.{IsDecidedBy, IsSoundLeaf, Relation, dual_relation, leaf_relation, pareto_relation, prior_relation, relation_of, relation_step}
use Rattle.pref_terms.specs.Equations.{leaves_of-Leaf, leaves_of-Pareto, leaves_of-Prior, leaves_of-Dual, order_of-Leaf, order_of-Pareto, order_of-Prior, order_of-Dual}
use Rattle.pref_terms.specs.Induction.{term_induction}
use Rattle.pref_terms.specs.TermLaws.{All-first, All-second}
use Rattle.pref_terms.specs.Terms.{Order, leaf_order, leaves_of, order_of, order_step}

natural : (X : Type 0) (whole : X → Term) (relation : Term → Relation) (layer : Term-F X)
    → relation_step X whole (λ x. relation (whole x)) layer ≡ relation_step Term (λ t. t) relation (term.map-Term X Term whole layer)
natural X whole relation (Term-F.Leaf leaf) = refl
natural X whole relation (Term-F.Pareto p q) = refl
natural X whole relation (Term-F.Prior p q) = refl
natural X whole relation (Term-F.Dual p) = refl

pub relation_of-Leaf : (leaf : Leaf) → relation_of (term.Leaf leaf) ≡ leaf_relation leaf
relation_of-Leaf leaf = ap relation_of (sym (rolls-Leaf leaf)) ∙ rec-roll-Term Relation relation_step natural (Term-F.Leaf leaf)

pub relation_of-Pareto : (p q : Term) → relation_of (Pareto p q) ≡ pareto_relation (relation_of p) (relation_of q)
relation_of-Pareto p q = ap relation_of (sym (rolls-Pareto p q)) ∙ rec-roll-Term Relation relation_step natural (Term-F.Pareto p q)

pub relation_of-Prior : (p q : Term) → relation_of (Prior p q) ≡ prior_relation (relation_of p) (relation_of q)
relation_of-Prior p q = ap relation_of (sym (rolls-Prior p q)) ∙ rec-roll-Term Relation relation_step natural (Term-F.Prior p q)

pub relation_of-Dual : (p : Term) → relation_of (Dual p) ≡ dual_relation (relation_of p)
relation_of-Dual p = ap relation_of (sym (rolls-Dual p)) ∙ rec-roll-Term Relation relation_step natural (Term-F.Dual p)

equal_cases : (a b : ℤ) (o : Ordering) → MatchOrdering o (a <ℤ b) (a ≡ b) (b <ℤ a) → Decides (is_eq o) (a ≡ b)
equal_cases a b Less m = (λ h. absurd (false≢true h), λ h. absurd (omega (arith, ints, h, m)))
equal_cases a b Equal m = (λ h. m, λ h. refl)
equal_cases a b Greater m = (λ h. absurd (false≢true h), λ h. absurd (omega (arith, ints, h, m)))

same_of-Decides : (kind : Kind) (trivial : Bool) (y x : Value) → Decides (same_of kind trivial y x) (IsSame kind trivial y x)
same_of-Decides kind true y x = value_eq-Decides y x
same_of-Decides kind false y x = equal_cases (key_of kind y) (key_of kind x) (int_cmp (key_of kind y) (key_of kind x)) (int_ranked (key_of kind y) (key_of kind x) (int_cmp (key_of kind y) (key_of kind x)) refl)

abbrev pub IsTermDecided : Term → Type 0
IsTermDecided t = All IsSoundLeaf (leaves_of t) → IsDecidedBy (relation_of t) (order_of t)

decided_along : (t : Term) (r : Relation) (o : Order) → relation_of t ≡ r → order_of t ≡ o → IsDecidedBy r o → IsDecidedBy (relation_of t) (order_of t)
decided_along t r o r_is o_is decided =
    subst (λ (q : Relation). IsDecidedBy q (order_of t)) (sym r_is) (subst (λ (p : Order). IsDecidedBy r p) (sym o_is) decided)

leaf_decided : (leaf : Leaf) → IsTermDecided (term.Leaf leaf)
leaf_decided leaf sound =
    let own : IsSound leaf.base = All-head IsSoundLeaf leaf [] (subst (All IsSoundLeaf) (leaves_of-Leaf leaf) sound) in
    decided_along (term.Leaf leaf) (leaf_relation leaf) (leaf_order leaf) (relation_of-Leaf leaf) (order_of-Leaf leaf) (record {
      better = λ y x. better_of-Decides leaf.base own (y leaf.place) (x leaf.place);
      same = λ y x. same_of-Decides leaf.base leaf.trivial (y leaf.place) (x leaf.place);
    })

pareto_decided : (p q : Term) → IsTermDecided p → IsTermDecided q → IsTermDecided (Pareto p q)
pareto_decided p q first second sound =
    let both = subst (All IsSoundLeaf) (leaves_of-Pareto p q) sound in
    let f = first (All-first IsSoundLeaf (leaves_of p) (leaves_of q) both) in
    let g = second (All-second IsSoundLeaf (leaves_of p) (leaves_of q) both) in
    decided_along (Pareto p q) (pareto_relation (relation_of p) (relation_of q)) (order_step (Term-F.Pareto (order_of p) (order_of q))) (relation_of-Pareto p q) (order_of-Pareto p q) (record {
      better = λ y x.
          Decides-or _ _ (Decides-and _ _ (f.better y x) (Decides-or _ _ (g.better y x) (g.same y x)))
          (Decides-and _ _ (Decides-or _ _ (f.better y x) (f.same y x)) (g.better y x));
      same = λ y x. Decides-and _ _ (f.same y x) (g.same y x);
    })

prior_decided : (p q : Term) → IsTermDecided p → IsTermDecided q → IsTermDecided (Prior p q)
prior_decided p q first second sound =
    let both = subst (All IsSoundLeaf) (leaves_of-Prior p q) sound in
    let f = first (All-first IsSoundLeaf (leaves_of p) (leaves_of q) both) in
    let g = second (All-second IsSoundLeaf (leaves_of p) (leaves_of q) both) in
    decided_along (Prior p q) (prior_relation (relation_of p) (relation_of q)) (order_step (Term-F.Prior (order_of p) (order_of q))) (relation_of-Prior p q) (order_of-Prior p q) (record {
      better = λ y x. Decides-or _ _ (f.better y x) (Decides-and _ _ (f.same y x) (g.better y x));
      same = λ y x. Decides-and _ _ (f.same y x) (g.same y x);
    })

dual_decided : (p : Term) → IsTermDecided p → IsTermDecided (Dual p)
dual_decided p inner sound =
    let f = inner (subst (All IsSoundLeaf) (leaves_of-Dual p) sound) in
    decided_along (Dual p) (dual_relation (relation_of p)) (order_step (Term-F.Dual (order_of p))) (relation_of-Dual p) (order_of-Dual p) (record {
      better = λ y x. f.better x y;
      same = λ y x. f.same y x;
    })

-- the order of a term decides its relation
pub term_decided : (t : Term) → IsTermDecided t
term_decided = term_induction IsTermDecided leaf_decided pareto_decided prior_decided dual_decided

-- the leaves of both parts are the leaves of a term
pub sound-Leaf : (t : Term) (leaf : Leaf) → t ≡ term.Leaf leaf → IsSoundLeaf leaf → All IsSoundLeaf (leaves_of t)
sound-Leaf t leaf is sound = rw (is, leaves_of-Leaf leaf) (All-cons IsSoundLeaf leaf [] sound (All-nil IsSoundLeaf))

pub sound-Pareto : (t p q : Term) → t ≡ Pareto p q → All IsSoundLeaf (leaves_of p) → All IsSoundLeaf (leaves_of q) → All IsSoundLeaf (leaves_of t)
sound-Pareto t p q is first second = rw (is, leaves_of-Pareto p q) (All-append IsSoundLeaf (leaves_of p) (leaves_of q) first second)

pub sound-Prior : (t p q : Term) → t ≡ Prior p q → All IsSoundLeaf (leaves_of p) → All IsSoundLeaf (leaves_of q) → All IsSoundLeaf (leaves_of t)
sound-Prior t p q is first second = rw (is, leaves_of-Prior p q) (All-append IsSoundLeaf (leaves_of p) (leaves_of q) first second)

pub sound-Dual : (t p : Term) → t ≡ Dual p → All IsSoundLeaf (leaves_of p) → All IsSoundLeaf (leaves_of t)
sound-Dual t p is inner = rw (is, leaves_of-Dual p) inner

pub ruleset sounds = (sound-Leaf, sound-Pareto, sound-Prior, sound-Dual)
