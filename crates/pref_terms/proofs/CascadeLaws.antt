-- A term ranks as the chain of its parts, one before the other.
use Rattle.std.proofs.Common.{◌≡◌, Bool, true, false, ◌&&◌, ◌||◌, List, [], ◌∷◌, ◌++◌, refl, sym, ap, ◌∙◌, subst}
use Rattle.std.specs.Ordering.{eq_of_both}
use Rattle.prefsql_tables.specs.Sight.{Sight}
use Rattle.order_laws.specs.Combine.{prior_better}
use Rattle.pref_terms.specs.declared.term.Leaf.{Leaf}
use Rattle.pref_terms.specs.declared.term.Term.{Term, Pareto, Prior, Dual}
use Rattle.pref_terms.specs.declared.term.Term as term
use Rattle.pref_terms.specs.Cascades.{Opened, nested, open_step, opened, parts_of}
use Rattle.pref_terms.specs.Equations.{order_of-Prior}
use Rattle.pref_terms.specs.Induction.{fold-Leaf, fold-Pareto, fold-Prior, fold-Dual, term_induction}
use Rattle.pref_terms.specs.Terms.{Order, order_of}

abbrev pub none_first : Order
none_first = record { better = λ y x. false; same = λ y x. true }

-- one order before another
abbrev pub before : Order → Order → Order
before p q = record { better = prior_better p.better p.same q.better; same = eq_of_both p.same q.same }

abbrev pub chain : List Term → Order
chain [] = none_first
chain (part ∷ parts) = before (order_of part) (chain parts)

-- two orders that rank alike
pub record Alike (p q : Order) : Type 0 where
  pub better : (y x : Sight) → p.better y x ≡ q.better y x
  pub same : (y x : Sight) → p.same y x ≡ q.same y x

pub alike_itself : (p : Order) → Alike p p
alike_itself p = record { better = λ y x. refl; same = λ y x. refl }

pub alike_back : (p q : Order) → Alike p q → Alike q p
alike_back p q is = record { better = λ y x. sym (is.better y x); same = λ y x. sym (is.same y x) }

pub alike_on : (p q r : Order) → Alike p q → Alike q r → Alike p r
alike_on p q r first second = record { better = λ y x. first.better y x ∙ second.better y x; same = λ y x. first.same y x ∙ second.same y x }

pub alike_before : (p q r s : Order) → Alike p q → Alike r s → Alike (before p r) (before q s)
alike_before p q r s first second = record {
  better = λ y x. λ j. first.better y x j || (first.same y x j && second.better y x j);
  same = λ y x. λ j. first.same y x j && second.same y x j;
}

or_and : (b s c t d : Bool) → ((b || (s && c)) || ((s && t) && d)) ≡ (b || (s && (c || (t && d))))
or_and true s c t d = refl
or_and false true c t d = refl
or_and false false c t d = refl

and_and : (a b c : Bool) → ((a && b) && c) ≡ (a && (b && c))
and_and true b c = refl
and_and false b c = refl

-- which of three comes first is the same however they are joined
pub before_before : (p q r : Order) → Alike (before (before p q) r) (before p (before q r))
before_before p q r = record {
  better = λ y x. or_and (p.better y x) (p.same y x) (q.better y x) (q.same y x) (r.better y x);
  same = λ y x. and_and (p.same y x) (q.same y x) (r.same y x);
}

or_and_false : (b s : Bool) → (b || (s && false)) ≡ b
or_and_false true s = refl
or_and_false false true = refl
or_and_false false false = refl

and_true : (s : Bool) → (s && true) ≡ s
and_true true = refl
and_true false = refl

pub chain_one : (t : Term) → Alike (order_of t) (chain (t ∷ []))
chain_one t = record {
  better = λ y x. sym (or_and_false ((order_of t).better y x) ((order_of t).same y x));
  same = λ y x. sym (and_true ((order_of t).same y x));
}

pub chain_append : (ps qs : List Term) → Alike (chain (ps ++ qs)) (before (chain ps) (chain qs))
chain_append [] qs = alike_itself (chain qs)
chain_append (p ∷ ps) qs =
    alike_on _ _ _ (alike_before (order_of p) (order_of p) (chain (ps ++ qs)) (before (chain ps) (chain qs)) (alike_itself (order_of p)) (chain_append ps qs))
    (alike_back _ _ (before_before (order_of p) (chain ps) (chain qs)))

pub prior_is_before : (p q : Term) → Alike (order_of (Prior p q)) (before (order_of p) (order_of q))
prior_is_before p q = record {
  better = λ y x. ap (λ (o : Order). o.better y x) (order_of-Prior p q);
  same = λ y x. ap (λ (o : Order). o.same y x) (order_of-Prior p q);
}

pub opened-Leaf : (leaf : Leaf) → opened (term.Leaf leaf) ≡ record { whole = term.Leaf leaf; parts = term.Leaf leaf ∷ [] }
opened-Leaf = fold-Leaf Opened open_step

pub opened-Pareto : (p q : Term) → opened (Pareto p q) ≡ record { whole = Pareto (opened p).whole (opened q).whole; parts = Pareto (opened p).whole (opened q).whole ∷ [] }
opened-Pareto = fold-Pareto Opened open_step

pub opened-Prior : (p q : Term) → opened (Prior p q) ≡ record { whole = Prior (opened p).whole (opened q).whole; parts = (opened p).parts ++ (opened q).parts }
opened-Prior = fold-Prior Opened open_step

pub opened-Dual : (p : Term) → opened (Dual p) ≡ record { whole = Dual (opened p).whole; parts = Dual (opened p).whole ∷ [] }
opened-Dual = fold-Dual Opened open_step

pub whole_is : (t : Term) → (opened t).whole ≡ t
whole_is = term_induction (λ t. (opened t).whole ≡ t)
    (λ leaf. ap (λ (o : Opened). o.whole) (opened-Leaf leaf))
    (λ p q first second. ap (λ (o : Opened). o.whole) (opened-Pareto p q) ∙ (λ j. Pareto (first j) (second j)))
    (λ p q first second. ap (λ (o : Opened). o.whole) (opened-Prior p q) ∙ (λ j. Prior (first j) (second j)))
    (λ p inner. ap (λ (o : Opened). o.whole) (opened-Dual p) ∙ (λ j. Dual (inner j)))

pub parts-Leaf : (leaf : Leaf) → parts_of (term.Leaf leaf) ≡ term.Leaf leaf ∷ []
parts-Leaf leaf = ap (λ (o : Opened). o.parts) (opened-Leaf leaf)

pub parts-Pareto : (p q : Term) → parts_of (Pareto p q) ≡ Pareto p q ∷ []
parts-Pareto p q = ap (λ (o : Opened). o.parts) (opened-Pareto p q) ∙ (λ j. Pareto (whole_is p j) (whole_is q j) ∷ [])

pub parts-Prior : (p q : Term) → parts_of (Prior p q) ≡ parts_of p ++ parts_of q
parts-Prior p q = ap (λ (o : Opened). o.parts) (opened-Prior p q)

pub parts-Dual : (p : Term) → parts_of (Dual p) ≡ Dual p ∷ []
parts-Dual p = ap (λ (o : Opened). o.parts) (opened-Dual p) ∙ (λ j. Dual (whole_is p j) ∷ [])

-- a term ranks as the chain of its parts
pub parts_rank : (t : Term) → Alike (order_of t) (chain (parts_of t))
parts_rank = term_induction (λ t. Alike (order_of t) (chain (parts_of t)))
    (λ leaf. subst (λ parts. Alike (order_of (term.Leaf leaf)) (chain parts)) (sym (parts-Leaf leaf)) (chain_one (term.Leaf leaf)))
    (λ p q first second. subst (λ parts. Alike (order_of (Pareto p q)) (chain parts)) (sym (parts-Pareto p q)) (chain_one (Pareto p q)))
    (λ p q first second.
    subst (λ parts. Alike (order_of (Prior p q)) (chain parts)) (sym (parts-Prior p q))
    (alike_on _ _ _ (prior_is_before p q)
    (alike_on _ _ _ (alike_before (order_of p) (chain (parts_of p)) (order_of q) (chain (parts_of q)) first second)
    (alike_back _ _ (chain_append (parts_of p) (parts_of q))))))
    (λ p inner. subst (λ parts. Alike (order_of (Dual p)) (chain parts)) (sym (parts-Dual p)) (chain_one (Dual p)))

-- and so does what is nested from them
pub nested_ranks : (first : Term) (parts : List Term) → Alike (order_of (nested first parts)) (chain (first ∷ parts))
nested_ranks first [] = chain_one first
nested_ranks first (part ∷ parts) =
    alike_on _ _ _ (nested_ranks (Prior first part) parts)
    (alike_on _ _ _ (alike_before (order_of (Prior first part)) (before (order_of first) (order_of part)) (chain parts) (chain parts) (prior_is_before first part) (alike_itself (chain parts)))
    (before_before (order_of first) (order_of part) (chain parts)))

-- a term has a part
pub some_part : (t : Term) → (part : Term) × (more : List Term) × (parts_of t ≡ part ∷ more)
some_part = term_induction (λ t. (part : Term) × (more : List Term) × (parts_of t ≡ part ∷ more))
    (λ leaf. (term.Leaf leaf, [], parts-Leaf leaf))
    (λ p q first second. (Pareto p q, [], parts-Pareto p q))
    (λ p q first second. (first.0, first.1 ++ parts_of q, parts-Prior p q ∙ ap (λ ps. ps ++ parts_of q) first.2))
    (λ p inner. (Dual p, [], parts-Dual p))

-- the parts of a term that is known to be this variant
pub parts_of-Leaf : (t : Term) (leaf : Leaf) → t ≡ term.Leaf leaf → parts_of t ≡ t ∷ []
parts_of-Leaf t leaf is = rw is (parts-Leaf leaf)

pub parts_of-Pareto : (t p q : Term) → t ≡ Pareto p q → parts_of t ≡ t ∷ []
parts_of-Pareto t p q is = rw is (parts-Pareto p q)

pub parts_of-Prior : (t p q : Term) → t ≡ Prior p q → parts_of t ≡ parts_of p ++ parts_of q
parts_of-Prior t p q is = rw is (parts-Prior p q)

pub parts_of-Dual : (t p : Term) → t ≡ Dual p → parts_of t ≡ t ∷ []
parts_of-Dual t p is = rw is (parts-Dual p)

pub ruleset part_reads = (parts_of-Leaf, parts_of-Pareto, parts_of-Prior, parts_of-Dual)
