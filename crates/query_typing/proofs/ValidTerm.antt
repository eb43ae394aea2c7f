-- The term of a preference has the leaves that were given for it, in their order.
use Rattle.std.proofs.Common.{◌≡◌, ℕ, ◌+◌, ◌≤◌, List, [], ◌∷◌, ◌++◌, length, map, All, refl, sym, ap, ◌∙◌, subst, arith, append_assoc, length-append}
use Rattle.std.specs.List.{flat_map}
use Rattle.std.proofs.lemmas.List.{append-nil}
use Rattle.std.proofs.lemmas.List.Elements.{All-head, All-tail}
use Rattle.pref_terms.specs.Equations.{leaves_of-Leaf, leaves_of-Pareto, leaves_of-Prior, leaves_of-Dual}
use Rattle.pref_terms.specs.Terms.{leaves_of}
use Rattle.pref_terms.specs.declared.term.Leaf.{Leaf}
use Rattle.pref_terms.specs.declared.term.Term.{Term}
use Rattle.query_tree.proofs.PrefLemmas.{Pareto-IsPref, Prior-IsPref, Dual-IsPref}
use Rattle.query_tree.specs.WellMade.{IsChain, IsPref}
use Rattle.query_tree.specs.declared.preference.PrefTree.{PrefTree, Pareto, Prior, Dual}
use Rattle.query_tree.specs.declared.preference.PrefTree as pref
use Rattle.query_typing.specs.Leaves.{bases_of}
use Rattle.query_typing.specs.Resolution.{Taken, joined, nested, nested_on, taken, term_of}
use Rattle.query_typing.specs.declared.leaf.Join.{Join}
use Rattle.query_typing.specs.declared.leaf.Join.TheVariants as join
use Rattle.query_typing.proofs.BasesReads.{bases-Base, bases-Pareto, bases-Prior, bases-Dual}
use Rattle.query_typing.proofs.TermReads.{term-Base, term-Pareto, term-Prior, term-Dual}
use Rattle.query_typing.proofs.TreeInduction.{pref_induction}

-- the leaves of the term and then those that it left are these, and the term has so many
record Takes (given : List Leaf) (count : ℕ) (result : Taken) : Type 0 where
  all : leaves_of result.0 ++ result.1 ≡ given
  some : length (leaves_of result.0) ≡ count

leaves_of-joined : (j : Join) (p q : Term) → leaves_of (joined j p q) ≡ leaves_of p ++ leaves_of q
leaves_of-joined join.Pareto p q = leaves_of-Pareto p q
leaves_of-joined join.Prior p q = leaves_of-Prior p q

abbrev TakesItsLeaves : PrefTree → Type 0
TakesItsLeaves p = IsPref p → (leaves : List Leaf) → length (bases_of p) ≤ length leaves → Takes leaves (length (bases_of p)) (term_of p leaves)

takes_one : (leaves : List Leaf) → 1 ≤ length leaves → Takes leaves 1 (taken leaves)
takes_one [] some = absurd (omega (arith, some))
takes_one (leaf ∷ leaves) some = record {
  all = ap (λ ls. ls ++ leaves) (leaves_of-Leaf leaf);
  some = ap length (leaves_of-Leaf leaf);
}

-- further parts behind a term
on : (j : Join) (parts : List PrefTree) → All TakesItsLeaves parts → All IsPref parts → (first : Taken) (given : List Leaf) (count : ℕ) → Takes given count first → count + length (flat_map bases_of parts) ≤ length given
    → Takes given (count + length (flat_map bases_of parts)) (nested_on (joined j) first (map term_of parts))
on j [] each are first given count takes some = record { all = takes.all; some = (let own = takes.some in omega (arith, own)) }
on j (part ∷ parts) each are first given count takes some =
    let whole = length-append (bases_of part) (flat_map bases_of parts) in
    let left : length (bases_of part) ≤ length first.1 =
    (let all = ap length takes.all in let sum = length-append (leaves_of first.0) first.1 in let own = takes.some in omega (arith, all, sum, own, some, whole))
    in
    let next = All-head TakesItsLeaves part parts each (All-head IsPref part parts are) first.1 left in
    let both = leaves_of-joined j first.0 (term_of part first.1).0 in
    let more = on j parts (All-tail TakesItsLeaves part parts each) (All-tail IsPref part parts are) (joined j first.0 (term_of part first.1).0, (term_of part first.1).1) given (count + length (bases_of part))
    (record {
      all = ap (λ ls. ls ++ (term_of part first.1).1) both
          ∙ append_assoc (leaves_of first.0) (leaves_of (term_of part first.1).0) (term_of part first.1).1
          ∙ ap (λ ls. leaves_of first.0 ++ ls) next.all
          ∙ takes.all;
      some = (let sum = ap length both ∙ length-append (leaves_of first.0) (leaves_of (term_of part first.1).0) in let a = takes.some in let b = next.some in omega (arith, sum, a, b));
    })
    (omega (arith, some, whole))
    in
    record { all = more.all; some = (let sum = more.some in omega (arith, sum, whole)) }

several : (j : Join) (parts : List PrefTree) → IsChain (length parts) → All TakesItsLeaves parts → All IsPref parts → (leaves : List Leaf) → length (flat_map bases_of parts) ≤ length leaves → Takes leaves (length (flat_map bases_of parts)) (nested (joined j) (map term_of parts) leaves)
several j [] chain each are leaves some = absurd (let many = chain.0 in omega (arith, many))
several j (part ∷ parts) chain each are leaves some =
    let whole = length-append (bases_of part) (flat_map bases_of parts) in
    let first = All-head TakesItsLeaves part parts each (All-head IsPref part parts are) leaves (omega (arith, some, whole)) in
    let more = on j parts (All-tail TakesItsLeaves part parts each) (All-tail IsPref part parts are) (term_of part leaves) leaves (length (bases_of part)) first (omega (arith, some, whole)) in
    record { all = more.all; some = (let sum = more.some in omega (arith, sum, whole)) }

takes_its_leaves : (p : PrefTree) → TakesItsLeaves p
takes_its_leaves =
    pref_induction TakesItsLeaves
    (λ base is leaves some.
    let one = ap length (bases-Base (pref.Base base) base refl) in
    let takes = takes_one leaves (omega (arith, one, some)) in
    subst (Takes leaves (length (bases_of (pref.Base base)))) (sym (term-Base (pref.Base base) base leaves refl))
    (record { all = takes.all; some = takes.some ∙ sym one }))
    (λ parts each is leaves some.
    let both = Pareto-IsPref parts is in
    let count = ap length (bases-Pareto (Pareto parts) parts refl) in
    let takes = several join.Pareto parts both.0 each both.1 leaves (omega (arith, count, some)) in
    subst (Takes leaves (length (bases_of (Pareto parts)))) (sym (term-Pareto (Pareto parts) parts leaves refl))
    (record { all = takes.all; some = takes.some ∙ sym count }))
    (λ parts each is leaves some.
    let both = Prior-IsPref parts is in
    let count = ap length (bases-Prior (Prior parts) parts refl) in
    let takes = several join.Prior parts both.0 each both.1 leaves (omega (arith, count, some)) in
    subst (Takes leaves (length (bases_of (Prior parts)))) (sym (term-Prior (Prior parts) parts leaves refl))
    (record { all = takes.all; some = takes.some ∙ sym count }))
    (λ part each is leaves some.
    let count = ap length (bases-Dual (Dual part) part refl) in
    let takes = each (Dual-IsPref part is) leaves (omega (arith, count, some)) in
    let same = leaves_of-Dual (term_of part leaves).0 in
    subst (Takes leaves (length (bases_of (Dual part)))) (sym (term-Dual (Dual part) part leaves refl))
    (record { all = ap (λ ls. ls ++ (term_of part leaves).1) same ∙ takes.all; some = ap length same ∙ takes.some ∙ sym count }))

no_more : (xs : List Leaf) → length xs ≡ 0 → xs ≡ []
no_more [] none = refl
no_more (x ∷ xs) none = absurd (omega (arith, none))

-- where there is one leaf for each base preference
pub leaves-term : (p : PrefTree) → IsPref p → (leaves : List Leaf) → length leaves ≡ length (bases_of p) → leaves_of (term_of p leaves).0 ≡ leaves
leaves-term p is leaves count =
    let takes = takes_its_leaves p is leaves (omega (arith, count)) in
    let rest = (term_of p leaves).1 in
    let none : length rest ≡ 0 = (let all = ap length takes.all in let sum = length-append (leaves_of (term_of p leaves).0) rest in let own = takes.some in omega (arith, all, sum, own, count)) in
    sym (append-nil (leaves_of (term_of p leaves).0)) ∙ ap (λ ls. leaves_of (term_of p leaves).0 ++ ls) (sym (no_more rest none)) ∙ takes.all
