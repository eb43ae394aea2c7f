-- A term reads the columns of its leaves alone.
use Rattle.std.proofs.Common.{◌≡◌, ◌&&◌, ◌||◌, List, ◌++◌, refl, sym, ap, ◌∙◌, inl, subst}
use Rattle.prefsql_tables.specs.Sight.{Sight}
use Rattle.order_laws.proofs.Members.{Among, among_front, among_back}
use Rattle.base_prefs.specs.Kind.{better_of, same_of}
use Rattle.pref_terms.specs.declared.term.Leaf.{Leaf}
use Rattle.pref_terms.specs.declared.term.Term.{Term, Pareto, Prior, Dual}
use Rattle.pref_terms.specs.declared.term.Term as term
use Rattle.pref_terms.specs.Terms.{Order, leaves_of, order_of}
use Rattle.pref_terms.specs.Equations.{leaves_of-Leaf, leaves_of-Pareto, leaves_of-Prior, leaves_of-Dual, order_of-Leaf, order_of-Pareto, order_of-Prior, order_of-Dual}
use Rattle.pref_terms.specs.Induction.{term_induction}

-- both show the same in the columns of the leaves
pub record LeavesAgree (a b : Sight) (leaves : List Leaf) : Type 0 where
  pub at : (leaf : Leaf) → Among leaves leaf → a leaf.place ≡ b leaf.place

pub first_leaves : (a b : Sight) (ls ms : List Leaf) → LeavesAgree a b (ls ++ ms) → LeavesAgree a b ls
first_leaves a b ls ms same = record { at = λ leaf there. same.at leaf (among_front ls ms leaf there) }

pub second_leaves : (a b : Sight) (ls ms : List Leaf) → LeavesAgree a b (ls ++ ms) → LeavesAgree a b ms
second_leaves a b ls ms same = record { at = λ leaf there. same.at leaf (among_back ls ms leaf there) }

module _ (y x v u : Sight) where
  pub record OneStanding (t : Term) : Type 0 where
    pub better : (order_of t).better y x ≡ (order_of t).better v u
    pub same : (order_of t).same y x ≡ (order_of t).same v u

  abbrev ReadsLeaves : Term → Type 0
  ReadsLeaves t = LeavesAgree y v (leaves_of t) → LeavesAgree x u (leaves_of t) → OneStanding t

  leaf_alone : (leaf : Leaf) → ReadsLeaves (term.Leaf leaf)
  leaf_alone leaf ys xs =
      let there = subst (λ (ls : List Leaf). Among ls leaf) (sym (leaves_of-Leaf leaf)) (inl refl) in
      let first = ys.at leaf there in
      let second = xs.at leaf there in
      record {
        better = ap (λ (o : Order). o.better y x) (order_of-Leaf leaf)
            ∙ ap (λ w. better_of leaf.base w (x leaf.place)) first ∙ ap (λ w. better_of leaf.base (v leaf.place) w) second
            ∙ sym (ap (λ (o : Order). o.better v u) (order_of-Leaf leaf));
        same = ap (λ (o : Order). o.same y x) (order_of-Leaf leaf)
            ∙ ap (λ w. same_of leaf.base leaf.trivial w (x leaf.place)) first ∙ ap (λ w. same_of leaf.base leaf.trivial (v leaf.place) w) second
            ∙ sym (ap (λ (o : Order). o.same v u) (order_of-Leaf leaf));
      }

  both_alone : (p q : Term) → ReadsLeaves p → ReadsLeaves q → LeavesAgree y v (leaves_of p ++ leaves_of q) → LeavesAgree x u (leaves_of p ++ leaves_of q) → OneStanding p × OneStanding q
  both_alone p q first second ys xs = (
    first (first_leaves y v (leaves_of p) (leaves_of q) ys) (first_leaves x u (leaves_of p) (leaves_of q) xs),
    second (second_leaves y v (leaves_of p) (leaves_of q) ys) (second_leaves x u (leaves_of p) (leaves_of q) xs),
  )

  pareto_alone : (p q : Term) → ReadsLeaves p → ReadsLeaves q → ReadsLeaves (Pareto p q)
  pareto_alone p q first second ys xs =
      let both = both_alone p q first second (subst (LeavesAgree y v) (leaves_of-Pareto p q) ys) (subst (LeavesAgree x u) (leaves_of-Pareto p q) xs) in
      let f = both.0 in
      let g = both.1 in
      record {
        better = ap (λ (o : Order). o.better y x) (order_of-Pareto p q)
            ∙ (λ j. (f.better j && (g.better j || g.same j)) || ((f.better j || f.same j) && g.better j))
            ∙ sym (ap (λ (o : Order). o.better v u) (order_of-Pareto p q));
        same = ap (λ (o : Order). o.same y x) (order_of-Pareto p q) ∙ (λ j. f.same j && g.same j) ∙ sym (ap (λ (o : Order). o.same v u) (order_of-Pareto p q));
      }

  prior_alone : (p q : Term) → ReadsLeaves p → ReadsLeaves q → ReadsLeaves (Prior p q)
  prior_alone p q first second ys xs =
      let both = both_alone p q first second (subst (LeavesAgree y v) (leaves_of-Prior p q) ys) (subst (LeavesAgree x u) (leaves_of-Prior p q) xs) in
      let f = both.0 in
      let g = both.1 in
      record {
        better = ap (λ (o : Order). o.better y x) (order_of-Prior p q)
            ∙ (λ j. f.better j || (f.same j && g.better j))
            ∙ sym (ap (λ (o : Order). o.better v u) (order_of-Prior p q));
        same = ap (λ (o : Order). o.same y x) (order_of-Prior p q) ∙ (λ j. f.same j && g.same j) ∙ sym (ap (λ (o : Order). o.same v u) (order_of-Prior p q));
      }

  dual_alone : (p : Term) → OneStanding p → (order_of p).better x y ≡ (order_of p).better u v → OneStanding (Dual p)
  dual_alone p inner turned = record {
    better = ap (λ (o : Order). o.better y x) (order_of-Dual p) ∙ turned ∙ sym (ap (λ (o : Order). o.better v u) (order_of-Dual p));
    same = ap (λ (o : Order). o.same y x) (order_of-Dual p) ∙ inner.same ∙ sym (ap (λ (o : Order). o.same v u) (order_of-Dual p));
  }

abbrev AlwaysReadsLeaves : Term → Type 0
AlwaysReadsLeaves t = (y x v u : Sight) → ReadsLeaves y x v u t

always_reads : (t : Term) → AlwaysReadsLeaves t
always_reads = term_induction AlwaysReadsLeaves
    (λ leaf y x v u. leaf_alone y x v u leaf)
    (λ p q first second y x v u. pareto_alone y x v u p q (first y x v u) (second y x v u))
    (λ p q first second y x v u. prior_alone y x v u p q (first y x v u) (second y x v u))
    (λ p inner y x v u ys xs.
    let below_y = subst (LeavesAgree y v) (leaves_of-Dual p) ys in
    let below_x = subst (LeavesAgree x u) (leaves_of-Dual p) xs in
    dual_alone y x v u p (inner y x v u below_y below_x) ((inner x y u v below_x below_y).better))

-- where two pairs of combinations show the same in the columns of the leaves, a term ranks them alike
pub standing_same : (y x v u : Sight) (t : Term) → ReadsLeaves y x v u t
standing_same y x v u t = always_reads t y x v u
