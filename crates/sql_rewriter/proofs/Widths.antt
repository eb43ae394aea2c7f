-- How many items the first leaves of a term have.
use Rattle.std.proofs.Common.{◌≡◌, ℕ, zero, suc, ◌+◌, ◌-◌, ◌*◌, ◌≤◌, List, [], ◌∷◌, ◌++◌, length, take, sym, ap, ◌∙◌, arith, length-append}
use Rattle.std.specs.List.{flat_map}
use Rattle.std.proofs.lemmas.Grind.{flat_map-append}
use Rattle.pref_terms.specs.declared.term.Leaf.{Leaf}
use Rattle.pref_terms.specs.declared.term.Term.{Term, Pareto, Prior, Dual}
use Rattle.pref_terms.specs.Equations.{leaves_of-Pareto, leaves_of-Prior, leaves_of-Dual}
use Rattle.pref_terms.specs.Terms.{leaves_of}
use Rattle.rewritten_query.specs.Columns.{leaf_items}

take_joined : {X : Type 0} (n : ℕ) (xs ys : List X) → take n (xs ++ ys) ≡ take n xs ++ take (n - length xs) ys
take_joined zero xs ys = let e : 0 ≡ 0 - length xs = omega arith in ap (λ m. take m ys) e
take_joined (suc n) [] ys = let e : suc n ≡ suc n - 0 = omega arith in ap (λ m. take m ys) e
take_joined (suc n) (x ∷ xs) ys =
    let e : n - length xs ≡ suc n - suc (length xs) = omega arith in
    ap (λ more. x ∷ more) (take_joined n xs ys) ∙ ap (λ m. x ∷ (take n xs ++ take m ys)) e

width_joined : (ps qs : List Leaf) (a b count passed : ℕ) → passed ≡ length ps → a ≡ length (flat_map leaf_items (take count ps)) → b ≡ length (flat_map leaf_items (take (count - passed) qs))
    → a + b ≡ length (flat_map leaf_items (take count (ps ++ qs)))
width_joined ps qs a b count passed passed_is a_is b_is =
    let first = take count ps in
    let second = take (count - length ps) qs in
    let b_at : b ≡ length (flat_map leaf_items second) = b_is ∙ ap (λ m. length (flat_map leaf_items (take (count - m) qs))) passed_is in
    let sum : length (flat_map leaf_items first ++ flat_map leaf_items second) ≡ length (flat_map leaf_items first) + length (flat_map leaf_items second) = length-append (flat_map leaf_items first) (flat_map leaf_items second) in
    let whole : length (flat_map leaf_items (take count (ps ++ qs))) ≡ length (flat_map leaf_items first ++ flat_map leaf_items second) =
    ap (λ leaves. length (flat_map leaf_items leaves)) (take_joined count ps qs) ∙ ap length (flat_map-append leaf_items first second) in
    omega (arith, a_is, b_at, sum, whole)

pub width-Pareto : (t p q : Term) (a b count passed : ℕ) → t ≡ Pareto p q → passed ≡ length (leaves_of p) → a ≡ length (flat_map leaf_items (take count (leaves_of p)))
    → b ≡ length (flat_map leaf_items (take (count - passed) (leaves_of q))) → a + b ≡ length (flat_map leaf_items (take count (leaves_of t)))
width-Pareto t p q a b count passed is passed_is a_is b_is =
    width_joined (leaves_of p) (leaves_of q) a b count passed passed_is a_is b_is ∙ ap (λ leaves. length (flat_map leaf_items (take count leaves))) (sym (ap leaves_of is ∙ leaves_of-Pareto p q))

pub width-Prior : (t p q : Term) (a b count passed : ℕ) → t ≡ Prior p q → passed ≡ length (leaves_of p) → a ≡ length (flat_map leaf_items (take count (leaves_of p)))
    → b ≡ length (flat_map leaf_items (take (count - passed) (leaves_of q))) → a + b ≡ length (flat_map leaf_items (take count (leaves_of t)))
width-Prior t p q a b count passed is passed_is a_is b_is =
    width_joined (leaves_of p) (leaves_of q) a b count passed passed_is a_is b_is ∙ ap (λ leaves. length (flat_map leaf_items (take count leaves))) (sym (ap leaves_of is ∙ leaves_of-Prior p q))

pub few-Pareto : (t p q : Term) (a b : ℕ) → t ≡ Pareto p q → a ≤ 2 * length (leaves_of p) → b ≤ 2 * length (leaves_of q) → a + b ≤ 2 * length (leaves_of t)
few-Pareto t p q a b is h k =
    let size : length (leaves_of t) ≡ length (leaves_of p) + length (leaves_of q) = ap length (ap leaves_of is ∙ leaves_of-Pareto p q) ∙ length-append (leaves_of p) (leaves_of q) in
    omega (arith, size, h, k)

pub few-Prior : (t p q : Term) (a b : ℕ) → t ≡ Prior p q → a ≤ 2 * length (leaves_of p) → b ≤ 2 * length (leaves_of q) → a + b ≤ 2 * length (leaves_of t)
few-Prior t p q a b is h k =
    let size : length (leaves_of t) ≡ length (leaves_of p) + length (leaves_of q) = ap length (ap leaves_of is ∙ leaves_of-Prior p q) ∙ length-append (leaves_of p) (leaves_of q) in
    omega (arith, size, h, k)

pub width-Dual : (t p : Term) (a count : ℕ) → t ≡ Dual p → a ≡ length (flat_map leaf_items (take count (leaves_of p))) → a ≡ length (flat_map leaf_items (take count (leaves_of t)))
width-Dual t p a count is a_is = a_is ∙ ap (λ leaves. length (flat_map leaf_items (take count leaves))) (sym (ap leaves_of is ∙ leaves_of-Dual p))

pub few-Dual : (t p : Term) (a : ℕ) → t ≡ Dual p → a ≤ 2 * length (leaves_of p) → a ≤ 2 * length (leaves_of t)
few-Dual t p a is h =
    let size : length (leaves_of t) ≡ length (leaves_of p) = ap length (ap leaves_of is ∙ leaves_of-Dual p) in
    omega (arith, size, h)

pub ruleset widths = (width-Pareto, width-Prior, width-Dual, few-Pareto, few-Prior, few-Dual)
