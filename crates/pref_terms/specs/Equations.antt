-- The order, the leaves and the keys of a term, variant by variant.
use Rattle.std.proofs.Common.{◌≡◌, ℤ, neg_ℤ, ◌+◌, List, [], ◌∷◌, ◌++◌, length, map, refl, sym, ap, ◌∙◌}
use Rattle.std.proofs.Common.{length-append}
use Rattle.std.specs.Ordering.{ordering_then, int_cmp}
use Rattle.std.proofs.lemmas.List.{length-map}
use Rattle.std.specs.Cmp.Lexicographic.{slice_cmp}
use Rattle.std.specs.Ordering.{flip_args}
use Rattle.prefsql_tables.specs.Sight.{Sight}
use Rattle.base_prefs.specs.Kind as base
use Rattle.pref_terms.specs.declared.term.Leaf.{Leaf}
use Rattle.pref_terms.specs.declared.term.Term.{Term, Pareto, Prior, Dual}
use Rattle.pref_terms.specs.declared.term.Term as term
use Rattle.pref_terms.specs.declared.term.Term.TheOpen.{Term-F}
use Rattle.pref_terms.specs.Terms.{Order, order_step, order_of, leaves_step, leaves_of, leaf_order}
use Rattle.pref_terms.specs.Terms.{keys_step, keys_of, key_order}
use Rattle.pref_terms.specs.Induction.{fold-Leaf, fold-Pareto, fold-Prior, fold-Dual, term_induction}
use Rattle.pref_terms.specs.KeyLists.{then_Equal, slice_cmp-append, slice_cmp-neg}

pub order_of-Leaf : (leaf : Leaf) → order_of (term.Leaf leaf) ≡ leaf_order leaf
order_of-Leaf = fold-Leaf Order order_step

pub order_of-Pareto : (p q : Term)
    → order_of (Pareto p q) ≡ order_step (Term-F.Pareto (order_of p) (order_of q))
order_of-Pareto = fold-Pareto Order order_step

pub order_of-Prior : (p q : Term)
    → order_of (Prior p q) ≡ order_step (Term-F.Prior (order_of p) (order_of q))
order_of-Prior = fold-Prior Order order_step

pub order_of-Dual : (p : Term) → order_of (Dual p) ≡ order_step (Term-F.Dual (order_of p))
order_of-Dual = fold-Dual Order order_step

pub leaves_of-Leaf : (leaf : Leaf) → leaves_of (term.Leaf leaf) ≡ leaf ∷ []
leaves_of-Leaf = fold-Leaf (List Leaf) leaves_step

pub leaves_of-Pareto : (p q : Term) → leaves_of (Pareto p q) ≡ leaves_of p ++ leaves_of q
leaves_of-Pareto = fold-Pareto (List Leaf) leaves_step

pub leaves_of-Prior : (p q : Term) → leaves_of (Prior p q) ≡ leaves_of p ++ leaves_of q
leaves_of-Prior = fold-Prior (List Leaf) leaves_step

pub leaves_of-Dual : (p : Term) → leaves_of (Dual p) ≡ leaves_of p
leaves_of-Dual = fold-Dual (List Leaf) leaves_step

-- the key of a leaf
abbrev pub leaf_key : Sight → Leaf → ℤ
leaf_key x leaf = base.key_of leaf.base (x leaf.place)

module _ (x : Sight) where
  pub keys_of-Leaf : (leaf : Leaf) → keys_of (term.Leaf leaf) x ≡ leaf_key x leaf ∷ []
  keys_of-Leaf = fold-Leaf (List ℤ) (keys_step x)

  pub keys_of-Pareto : (p q : Term) → keys_of (Pareto p q) x ≡ keys_of p x ++ keys_of q x
  keys_of-Pareto = fold-Pareto (List ℤ) (keys_step x)

  pub keys_of-Prior : (p q : Term) → keys_of (Prior p q) x ≡ keys_of p x ++ keys_of q x
  keys_of-Prior = fold-Prior (List ℤ) (keys_step x)

  pub keys_of-Dual : (p : Term) → keys_of (Dual p) x ≡ map neg_ℤ (keys_of p x)
  keys_of-Dual = fold-Dual (List ℤ) (keys_step x)

  -- a key for each leaf
  pub length-keys_of : (t : Term) → length (keys_of t x) ≡ length (leaves_of t)
  length-keys_of = term_induction (λ t. length (keys_of t x) ≡ length (leaves_of t))
      (λ leaf. ap length (keys_of-Leaf leaf) ∙ sym (ap length (leaves_of-Leaf leaf)))
      (λ p q first second. ap length (keys_of-Pareto p q) ∙ length-append (keys_of p x) (keys_of q x)
      ∙ (λ j. first j + second j) ∙ sym (length-append (leaves_of p) (leaves_of q))
      ∙ sym (ap length (leaves_of-Pareto p q)))
      (λ p q first second. ap length (keys_of-Prior p q) ∙ length-append (keys_of p x) (keys_of q x)
      ∙ (λ j. first j + second j) ∙ sym (length-append (leaves_of p) (leaves_of q))
      ∙ sym (ap length (leaves_of-Prior p q)))
      (λ p inner. ap length (keys_of-Dual p) ∙ length-map (keys_of p x) neg_ℤ ∙ inner
      ∙ sym (ap length (leaves_of-Dual p)))

-- of one term there are as many keys of each combination
pub as_many_keys : (t : Term) (y x : Sight) → length (keys_of t y) ≡ length (keys_of t x)
as_many_keys t y x = length-keys_of y t ∙ sym (length-keys_of x t)

-- a leaf's keys compare as its base preference compares them
pub key_order-Leaf : (leaf : Leaf) (y x : Sight)
    → key_order (term.Leaf leaf) y x ≡ base.key_order leaf.base (y leaf.place) (x leaf.place)
key_order-Leaf leaf y x =
    (λ j. slice_cmp int_cmp (keys_of-Leaf y leaf j) (keys_of-Leaf x leaf j))
    ∙ then_Equal (int_cmp (leaf_key y leaf) (leaf_key x leaf))

-- the first part's keys decide, and where they are equal the second's
pub key_order-Pareto : (p q : Term) (y x : Sight)
    → key_order (Pareto p q) y x ≡ ordering_then (key_order p y x) (key_order q y x)
key_order-Pareto p q y x =
    (λ j. slice_cmp int_cmp (keys_of-Pareto y p q j) (keys_of-Pareto x p q j))
    ∙ slice_cmp-append (keys_of p y) (keys_of p x) (keys_of q y) (keys_of q x) (as_many_keys p y x)

pub key_order-Prior : (p q : Term) (y x : Sight)
    → key_order (Prior p q) y x ≡ ordering_then (key_order p y x) (key_order q y x)
key_order-Prior p q y x =
    (λ j. slice_cmp int_cmp (keys_of-Prior y p q j) (keys_of-Prior x p q j))
    ∙ slice_cmp-append (keys_of p y) (keys_of p x) (keys_of q y) (keys_of q x) (as_many_keys p y x)

-- a dual term's keys compare the other way round
pub key_order-Dual : (p : Term) (y x : Sight) → key_order (Dual p) y x ≡ key_order p x y
key_order-Dual p y x =
    (λ j. slice_cmp int_cmp (keys_of-Dual y p j) (keys_of-Dual x p j))
    ∙ slice_cmp-neg (keys_of p y) (keys_of p x) (as_many_keys p y x)
