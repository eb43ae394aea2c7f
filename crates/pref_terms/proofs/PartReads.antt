-- What is left of a term, variant by variant, and which leaves that keeps.
use Rattle.std.proofs.Common.{◌≡◌, ◌≢◌, ◌↔◌, ℕ, Bool, true, false, nat_eq, cond, ◌||◌, if◌then◌else◌, Option, Some, None, List, [], ◌∷◌, ◌++◌, length, filter, All, Contains, IsNone, refl, sym, ap, ◌∙◌, subst, arith, append-nil, inl, inr}
use Rattle.std.specs.Prelude.{IsTrue}
use Rattle.std.specs.List.{list_any}
use Rattle.std.proofs.lemmas.List.Elements.{filter-append, All-nil, All-cons, All-head, All-tail}
use Rattle.std.proofs.lemmas.List.Folds.{list_any-append}
use Rattle.std.proofs.lemmas.Map.Views.{Contains-from_any, list_any-from_Contains}
use Rattle.std.specs.Cmp.{nat_eq_equiv}
use Rattle.std.proofs.lemmas.Bool.{cases_Bool}
use Rattle.pref_terms.specs.declared.term.Leaf.{Leaf}
use Rattle.pref_terms.specs.declared.term.Term.{Term, Pareto, Prior, Dual}
use Rattle.pref_terms.specs.declared.term.Term as term
use Rattle.pref_terms.specs.Induction.{fold-Leaf, fold-Pareto, fold-Prior, fold-Dual, term_induction}
use Rattle.pref_terms.specs.Equations.{leaves_of-Leaf, leaves_of-Pareto, leaves_of-Prior, leaves_of-Dual}
use Rattle.pref_terms.specs.TermLaws.{some_leaf}
use Rattle.pref_terms.specs.Terms.{leaves_of}
use Rattle.pref_terms.specs.Parts.{is_on, pareto_left, prior_left, dual_left, restrict_step, restricted, leaves_left, closed_step, closed_numbers}

module _ (table : ℕ) where
  pub left-Leaf : (t : Term) (leaf : Leaf) → t ≡ term.Leaf leaf → restricted table t ≡ (if is_on table leaf then Some (term.Leaf leaf) else None)
  left-Leaf t leaf is = ap (restricted table) is ∙ fold-Leaf (Option Term) (restrict_step table) leaf

  pub left-Pareto : (t p q : Term) → t ≡ Pareto p q → restricted table t ≡ pareto_left (restricted table p) (restricted table q)
  left-Pareto t p q is = ap (restricted table) is ∙ fold-Pareto (Option Term) (restrict_step table) p q

  pub left-Prior : (t p q : Term) → t ≡ Prior p q → restricted table t ≡ prior_left (restricted table p) (restricted table q)
  left-Prior t p q is = ap (restricted table) is ∙ fold-Prior (Option Term) (restrict_step table) p q

  pub left-Dual : (t p : Term) → t ≡ Dual p → restricted table t ≡ dual_left (restricted table p)
  left-Dual t p is = ap (restricted table) is ∙ fold-Dual (Option Term) (restrict_step table) p

pub ruleset lefts = (left-Leaf, left-Pareto, left-Prior, left-Dual)

leaves-pareto_left : (p q : Option Term) → leaves_left (pareto_left p q) ≡ leaves_left p ++ leaves_left q
leaves-pareto_left None q = refl
leaves-pareto_left (Some p) None = sym (append-nil (leaves_of p))
leaves-pareto_left (Some p) (Some q) = leaves_of-Pareto p q

leaves-prior_left : (p q : Option Term) → leaves_left (prior_left p q) ≡ leaves_left p ++ leaves_left q
leaves-prior_left None q = refl
leaves-prior_left (Some p) None = sym (append-nil (leaves_of p))
leaves-prior_left (Some p) (Some q) = leaves_of-Prior p q

leaves-dual_left : (p : Option Term) → leaves_left (dual_left p) ≡ leaves_left p
leaves-dual_left None = refl
leaves-dual_left (Some p) = leaves_of-Dual p

leaves-if : (b : Bool) (leaf : Leaf) → leaves_left (if b then Some (term.Leaf leaf) else None) ≡ cond b (leaf ∷ []) []
leaves-if true leaf = leaves_of-Leaf leaf
leaves-if false leaf = refl

module _ (table : ℕ) where
  abbrev KeepsItsLeaves : Term → Type 0
  KeepsItsLeaves t = leaves_left (restricted table t) ≡ filter (is_on table) (leaves_of t)

  -- the leaves of the table are left, in their order
  pub leaves-restricted : (t : Term) → leaves_left (restricted table t) ≡ filter (is_on table) (leaves_of t)
  leaves-restricted = term_induction KeepsItsLeaves
      (λ leaf. ap leaves_left (left-Leaf table (term.Leaf leaf) leaf refl) ∙ leaves-if (is_on table leaf) leaf ∙ sym (ap (filter (is_on table)) (leaves_of-Leaf leaf)))
      (λ p q first second.
      ap leaves_left (left-Pareto table (Pareto p q) p q refl) ∙ leaves-pareto_left (restricted table p) (restricted table q)
      ∙ rw (first, second) (sym (filter-append (is_on table) (leaves_of p) (leaves_of q)))
      ∙ sym (ap (filter (is_on table)) (leaves_of-Pareto p q)))
      (λ p q first second.
      ap leaves_left (left-Prior table (Prior p q) p q refl) ∙ leaves-prior_left (restricted table p) (restricted table q)
      ∙ rw (first, second) (sym (filter-append (is_on table) (leaves_of p) (leaves_of q)))
      ∙ sym (ap (filter (is_on table)) (leaves_of-Prior p q)))
      (λ p inner.
      ap leaves_left (left-Dual table (Dual p) p refl) ∙ leaves-dual_left (restricted table p) ∙ inner
      ∙ sym (ap (filter (is_on table)) (leaves_of-Dual p)))

  abbrev IsElsewhere : Leaf → Type 0
  IsElsewhere leaf = leaf.place.table ≢ table

  nowhere : (leaves : List Leaf) → filter (is_on table) leaves ≡ [] → All IsElsewhere leaves
  nowhere [] is = All-nil IsElsewhere
  nowhere (leaf ∷ leaves) is =
      elim (cases_Bool (is_on table leaf)) [
        | inl here ↦ absurd (let some : leaf ∷ filter (is_on table) leaves ≡ [] = (rw here at is) in cc)
        | inr there ↦ All-cons IsElsewhere leaf leaves (λ same. grind (arith, there, same)) (nowhere leaves (rw there at is))
      ]

  all_elsewhere : (leaves : List Leaf) → All IsElsewhere leaves → filter (is_on table) leaves ≡ []
  all_elsewhere [] all = refl
  all_elsewhere (leaf ∷ leaves) all =
      elim (cases_Bool (is_on table leaf)) [
        | inl here ↦ absurd (All-head IsElsewhere leaf leaves all (grind (arith, here)))
        | inr there ↦ rw there (all_elsewhere leaves (All-tail IsElsewhere leaf leaves all))
      ]

  none_left : (left : Option Term) → leaves_left left ≡ [] → IsNone left
  none_left None is = refl
  none_left (Some t) is = absurd (let none : length (leaves_of t) ≡ 0 = ap length is in omega (arith, some_leaf t))

  none_leaves : (left : Option Term) → IsNone left → leaves_left left ≡ []
  none_leaves None none = refl
  none_leaves (Some t) none = absurd (cc)

  -- none is left exactly where no leaf stands on the table
  pub IsNone-restricted : (t : Term) → IsNone (restricted table t) ↔ All IsElsewhere (leaves_of t)
  IsNone-restricted t = (
    λ none. nowhere (leaves_of t) (sym (leaves-restricted t) ∙ none_leaves (restricted table t) none),
    λ all. none_left (restricted table t) (leaves-restricted t ∙ all_elsewhere (leaves_of t) all),
  )

-- what is left, told of a value that is what is left
pub leaves-left : (table : ℕ) (t : Term) (left : Option Term) → left ≡ restricted table t → leaves_left left ≡ filter (is_on table) (leaves_of t)
leaves-left table t left is = ap leaves_left is ∙ leaves-restricted table t

pub none-left : (table : ℕ) (t : Term) (left : Option Term) → left ≡ restricted table t → IsNone left ↔ All (λ (leaf : Leaf). leaf.place.table ≢ table) (leaves_of t)
none-left table t left is = subst (λ o. IsNone o ↔ All (λ (leaf : Leaf). leaf.place.table ≢ table) (leaves_of t)) (sym is) (IsNone-restricted table t)

pub closed-Leaf : (t : Term) (leaf : Leaf) → t ≡ term.Leaf leaf → closed_numbers t ≡ leaf.number ∷ []
closed-Leaf t leaf is = ap closed_numbers is ∙ fold-Leaf (List ℕ) closed_step leaf

pub closed-Pareto : (t p q : Term) → t ≡ Pareto p q → closed_numbers t ≡ closed_numbers p ++ closed_numbers q
closed-Pareto t p q is = ap closed_numbers is ∙ fold-Pareto (List ℕ) closed_step p q

pub closed-Prior : (t p q : Term) → t ≡ Prior p q → closed_numbers t ≡ closed_numbers p
closed-Prior t p q is = ap closed_numbers is ∙ fold-Prior (List ℕ) closed_step p q

pub closed-Dual : (t p : Term) → t ≡ Dual p → closed_numbers t ≡ []
closed-Dual t p is = ap closed_numbers is ∙ fold-Dual (List ℕ) closed_step p

pub any_closed-Leaf : (t : Term) (leaf : Leaf) (n : ℕ) → t ≡ term.Leaf leaf → list_any (nat_eq n) (closed_numbers t) ≡ nat_eq n leaf.number
any_closed-Leaf t leaf n is = rw (closed-Leaf t leaf is) (or_false (nat_eq n leaf.number))
  where
    or_false : (b : Bool) → (b || false) ≡ b
    or_false true = refl
    or_false false = refl

pub any_closed-Pareto : (t p q : Term) (n : ℕ) → t ≡ Pareto p q → list_any (nat_eq n) (closed_numbers t) ≡ (list_any (nat_eq n) (closed_numbers p) || list_any (nat_eq n) (closed_numbers q))
any_closed-Pareto t p q n is = rw (closed-Pareto t p q is) (list_any-append (nat_eq n) (closed_numbers p) (closed_numbers q))

pub any_closed-Prior : (t p q : Term) (n : ℕ) → t ≡ Prior p q → list_any (nat_eq n) (closed_numbers t) ≡ list_any (nat_eq n) (closed_numbers p)
any_closed-Prior t p q n is = rw (closed-Prior t p q is) refl

pub any_closed-Dual : (t p : Term) (n : ℕ) → t ≡ Dual p → list_any (nat_eq n) (closed_numbers t) ≡ false
any_closed-Dual t p n is = rw (closed-Dual t p is) refl

pub ruleset closed_reads = (any_closed-Leaf, any_closed-Pareto, any_closed-Prior, any_closed-Dual)

-- the test finds a number exactly where it is one of the closed leaves
pub closed_found : (t : Term) (n : ℕ) (r : Bool) → r ≡ list_any (nat_eq n) (closed_numbers t) → IsTrue r ↔ Contains (closed_numbers t) n
closed_found t n r is = (
  λ h. Contains-from_any {eq = nat_eq} (λ x y same. grind (arith, same)) n (closed_numbers t) (sym is ∙ h),
  λ there. is ∙ list_any-from_Contains nat_eq_equiv n (closed_numbers t) there,
)
