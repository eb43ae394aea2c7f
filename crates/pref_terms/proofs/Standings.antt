-- How a combination stands by a term, from how it stands by the parts.
use Rattle.std.proofs.Common.{◌≡◌, ℕ, ◌+◌, Bool, true, false, ◌&&◌, ◌||◌, List, [], length, length-append, All, refl, sym, ap, ◌∙◌, subst}
use Rattle.std.specs.Ordering.{ordering_then}
use Rattle.std.specs.declared.cmp.Ordering.{Ordering}
use Rattle.std.specs.declared.cmp.Ordering.TheVariants.{Less, Equal, Greater}
use Rattle.std.proofs.lemmas.List.Elements.{All-head}
use Rattle.std.proofs.lemmas.Cmp.{int_cmp_total, eq_by_cmp_equiv}
use Rattle.prefsql_values.specs.declared.value.Value.{Value}
use Rattle.prefsql_values.proofs.ValueEq.{value_eq-equivalence}
use Rattle.prefsql_tables.specs.Sight.{Sight}
use Rattle.base_prefs.specs.Kind as base
use Rattle.base_prefs.specs.Kind.{key_of, same_of}
use Rattle.base_prefs.specs.declared.kind.Kind.{Kind}
use Rattle.pref_terms.specs.declared.ranking.Standing.{Standing}
use Rattle.pref_terms.specs.declared.ranking.Standing.TheVariants.{Better, Same, Other}
use Rattle.pref_terms.specs.declared.term.Leaf.{Leaf}
use Rattle.pref_terms.specs.declared.term.Term.{Term, Pareto, Prior, Dual}
use Rattle.pref_terms.specs.declared.term.Term as term
use Rattle.prefsql_tables.specs.Table.{Tables}
use Rattle.pref_terms.specs.Fits.{LeafFits, LeavesFit}
use Rattle.pref_terms.specs.Standing.{standing_by, standing_of}
use Rattle.pref_terms.specs.Terms.{Order, order_of, leaf_order, leaves_of, key_order}
use Rattle.pref_terms.specs.Equations.{order_of-Leaf, order_of-Pareto, order_of-Prior, order_of-Dual, leaves_of-Leaf, leaves_of-Pareto, leaves_of-Prior, leaves_of-Dual, key_order-Leaf, key_order-Pareto, key_order-Prior, key_order-Dual}
use Rattle.pref_terms.specs.Induction.{term_induction}
use Rattle.pref_terms.specs.TermLaws.{All-first, All-second}

abbrev pub by_pareto : Standing → Standing → Standing
by_pareto Better Better = Better
by_pareto Better Same = Better
by_pareto Better Other = Other
by_pareto Same s = s
by_pareto Other s = Other

abbrev pub by_prior : Standing → Standing → Standing
by_prior Better s = Better
by_prior Same s = s
by_prior Other s = Other

told_by_pareto : (b s c t : Bool) → standing_by ((b && (c || t)) || ((b || s) && c)) (s && t) ≡ by_pareto (standing_by b s) (standing_by c t)
told_by_pareto true true true t = refl
told_by_pareto true true false true = refl
told_by_pareto true true false false = refl
told_by_pareto true false true t = refl
told_by_pareto true false false true = refl
told_by_pareto true false false false = refl
told_by_pareto false true true t = refl
told_by_pareto false true false true = refl
told_by_pareto false true false false = refl
told_by_pareto false false c t = refl

told_by_prior : (b s c t : Bool) → standing_by (b || (s && c)) (s && t) ≡ by_prior (standing_by b s) (standing_by c t)
told_by_prior true s c t = refl
told_by_prior false true true t = refl
told_by_prior false true false true = refl
told_by_prior false true false false = refl
told_by_prior false false c t = refl

module _ (y x : Sight) where
  pub standing-Leaf : (t : Term) (leaf : Leaf) → t ≡ term.Leaf leaf → standing_of (order_of t) y x ≡ standing_of (leaf_order leaf) y x
  standing-Leaf t leaf is = ap (λ order. standing_of order y x) (ap order_of is ∙ order_of-Leaf leaf)

  pub standing-Pareto : (t p q : Term) → t ≡ Pareto p q → standing_of (order_of t) y x ≡ by_pareto (standing_of (order_of p) y x) (standing_of (order_of q) y x)
  standing-Pareto t p q is =
      ap (λ order. standing_of order y x) (ap order_of is ∙ order_of-Pareto p q)
      ∙ told_by_pareto ((order_of p).better y x) ((order_of p).same y x) ((order_of q).better y x) ((order_of q).same y x)

  pub standing-Prior : (t p q : Term) → t ≡ Prior p q → standing_of (order_of t) y x ≡ by_prior (standing_of (order_of p) y x) (standing_of (order_of q) y x)
  standing-Prior t p q is =
      ap (λ order. standing_of order y x) (ap order_of is ∙ order_of-Prior p q)
      ∙ told_by_prior ((order_of p).better y x) ((order_of p).same y x) ((order_of q).better y x) ((order_of q).same y x)

-- the same whichever comes first
same_of-turned : (kind : Kind) (trivial : Bool) (v w : Value) → same_of kind trivial v w ≡ same_of kind trivial w v
same_of-turned kind true v w = value_eq-equivalence.symm v w
same_of-turned kind false v w = (eq_by_cmp_equiv int_cmp_total).symm (key_of kind v) (key_of kind w)

abbrev IsTurnedSame : Term → Type 0
IsTurnedSame t = (y x : Sight) → (order_of t).same y x ≡ (order_of t).same x y

pub same_turned : (t : Term) → IsTurnedSame t
same_turned = term_induction IsTurnedSame
    (λ leaf y x.
    ap (λ (o : Order). o.same y x) (order_of-Leaf leaf) ∙ same_of-turned leaf.base leaf.trivial (y leaf.place) (x leaf.place)
    ∙ sym (ap (λ (o : Order). o.same x y) (order_of-Leaf leaf)))
    (λ p q first second y x.
    ap (λ (o : Order). o.same y x) (order_of-Pareto p q) ∙ (λ j. first y x j && second y x j)
    ∙ sym (ap (λ (o : Order). o.same x y) (order_of-Pareto p q)))
    (λ p q first second y x.
    ap (λ (o : Order). o.same y x) (order_of-Prior p q) ∙ (λ j. first y x j && second y x j)
    ∙ sym (ap (λ (o : Order). o.same x y) (order_of-Prior p q)))
    (λ p inner y x.
    ap (λ (o : Order). o.same y x) (order_of-Dual p) ∙ inner y x
    ∙ sym (ap (λ (o : Order). o.same x y) (order_of-Dual p)))

-- by a dual term it stands as the other stands to it by the part
pub standing-Dual : (y x : Sight) (t p : Term) → t ≡ Dual p → standing_of (order_of t) y x ≡ standing_of (order_of p) x y
standing-Dual y x t p is =
    ap (λ order. standing_of order y x) (ap order_of is ∙ order_of-Dual p)
    ∙ ap (standing_by ((order_of p).better x y)) (same_turned p y x)

-- where a term fits, each part fits
module _ (tables : Tables) (from : List ℕ) (first : ℕ) (rows : List ℕ) where
  abbrev Fits : Leaf → Type 0
  Fits = LeafFits tables from first rows

  pub LeavesFit-Leaf : (t : Term) (leaf : Leaf) → t ≡ term.Leaf leaf → LeavesFit tables from first rows t → LeafFits tables from first rows leaf
  LeavesFit-Leaf t leaf is fits = All-head Fits leaf [] (subst (All Fits) (ap leaves_of is ∙ leaves_of-Leaf leaf) fits.each)

  pub LeavesFit-Pareto_first : (t p q : Term) → t ≡ Pareto p q → LeavesFit tables from first rows t → LeavesFit tables from first rows p
  LeavesFit-Pareto_first t p q is fits = record { each = All-first Fits (leaves_of p) (leaves_of q) (subst (All Fits) (ap leaves_of is ∙ leaves_of-Pareto p q) fits.each) }

  pub LeavesFit-Pareto_second : (t p q : Term) → t ≡ Pareto p q → LeavesFit tables from first rows t → LeavesFit tables from first rows q
  LeavesFit-Pareto_second t p q is fits = record { each = All-second Fits (leaves_of p) (leaves_of q) (subst (All Fits) (ap leaves_of is ∙ leaves_of-Pareto p q) fits.each) }

  pub LeavesFit-Prior_first : (t p q : Term) → t ≡ Prior p q → LeavesFit tables from first rows t → LeavesFit tables from first rows p
  LeavesFit-Prior_first t p q is fits = record { each = All-first Fits (leaves_of p) (leaves_of q) (subst (All Fits) (ap leaves_of is ∙ leaves_of-Prior p q) fits.each) }

  pub LeavesFit-Prior_second : (t p q : Term) → t ≡ Prior p q → LeavesFit tables from first rows t → LeavesFit tables from first rows q
  LeavesFit-Prior_second t p q is fits = record { each = All-second Fits (leaves_of p) (leaves_of q) (subst (All Fits) (ap leaves_of is ∙ leaves_of-Prior p q) fits.each) }

  pub LeavesFit-Dual : (t p : Term) → t ≡ Dual p → LeavesFit tables from first rows t → LeavesFit tables from first rows p
  LeavesFit-Dual t p is fits = record { each = subst (All Fits) (ap leaves_of is ∙ leaves_of-Dual p) fits.each }

-- a term has the leaves of its parts
pub width-Leaf : (t : Term) (leaf : Leaf) → t ≡ term.Leaf leaf → length (leaves_of t) ≡ 1
width-Leaf t leaf is = ap length (ap leaves_of is ∙ leaves_of-Leaf leaf)

pub width-Pareto : (t p q : Term) → t ≡ Pareto p q → length (leaves_of t) ≡ length (leaves_of p) + length (leaves_of q)
width-Pareto t p q is = ap length (ap leaves_of is ∙ leaves_of-Pareto p q) ∙ length-append (leaves_of p) (leaves_of q)

pub width-Prior : (t p q : Term) → t ≡ Prior p q → length (leaves_of t) ≡ length (leaves_of p) + length (leaves_of q)
width-Prior t p q is = ap length (ap leaves_of is ∙ leaves_of-Prior p q) ∙ length-append (leaves_of p) (leaves_of q)

pub width-Dual : (t p : Term) → t ≡ Dual p → length (leaves_of t) ≡ length (leaves_of p)
width-Dual t p is = ap length (ap leaves_of is ∙ leaves_of-Dual p)

-- the same by each part
pub same-Leaf : (t : Term) (leaf : Leaf) → t ≡ term.Leaf leaf → (y x : Sight) → (order_of t).same y x ≡ (leaf_order leaf).same y x
same-Leaf t leaf is y x = ap (λ (order : Order). order.same y x) (ap order_of is ∙ order_of-Leaf leaf)

pub same-Pareto : (t p q : Term) → t ≡ Pareto p q → (y x : Sight) → (order_of t).same y x ≡ ((order_of p).same y x && (order_of q).same y x)
same-Pareto t p q is y x = ap (λ (order : Order). order.same y x) (ap order_of is ∙ order_of-Pareto p q)

pub same-Prior : (t p q : Term) → t ≡ Prior p q → (y x : Sight) → (order_of t).same y x ≡ ((order_of p).same y x && (order_of q).same y x)
same-Prior t p q is y x = ap (λ (order : Order). order.same y x) (ap order_of is ∙ order_of-Prior p q)

pub same-Dual : (t p : Term) → t ≡ Dual p → (y x : Sight) → (order_of t).same y x ≡ (order_of p).same y x
same-Dual t p is y x = ap (λ (order : Order). order.same y x) (ap order_of is ∙ order_of-Dual p)

-- the keys of the first part, and then of the second
pub keys-Leaf : (t : Term) (leaf : Leaf) → t ≡ term.Leaf leaf → (y x : Sight) → key_order t y x ≡ base.key_order leaf.base (y leaf.place) (x leaf.place)
keys-Leaf t leaf is y x = ap (λ u. key_order u y x) is ∙ key_order-Leaf leaf y x

pub keys-Pareto : (t p q : Term) → t ≡ Pareto p q → (y x : Sight) → key_order t y x ≡ ordering_then (key_order p y x) (key_order q y x)
keys-Pareto t p q is y x = ap (λ u. key_order u y x) is ∙ key_order-Pareto p q y x

pub keys-Prior : (t p q : Term) → t ≡ Prior p q → (y x : Sight) → key_order t y x ≡ ordering_then (key_order p y x) (key_order q y x)
keys-Prior t p q is y x = ap (λ u. key_order u y x) is ∙ key_order-Prior p q y x

pub keys-Dual : (t p : Term) → t ≡ Dual p → (y x : Sight) → key_order t y x ≡ key_order p x y
keys-Dual t p is y x = ap (λ u. key_order u y x) is ∙ key_order-Dual p y x

-- the first keys decide where they differ, and else the second ones
pub first_decides : (o p : Ordering) → (o ≡ Equal → ⊥) → o ≡ ordering_then o p
first_decides Less p differ = refl
first_decides Equal p differ = absurd (differ refl)
first_decides Greater p differ = refl

pub second_decides : (o p : Ordering) → o ≡ Equal → p ≡ ordering_then o p
second_decides o p equal = rw equal refl

pub ruleset standings = (standing-Leaf, standing-Pareto, standing-Prior, standing-Dual, same-Leaf, same-Pareto, same-Prior, same-Dual, keys-Leaf, keys-Pareto, keys-Prior, keys-Dual, width-Leaf, width-Pareto, width-Prior, width-Dual)
