-- The best by a prioritised term are the best by each term of its cascade in turn.
use Rattle.std.proofs.Common.{◌≡◌, ℤ, Bool, true, false, not, ◌&&◌, ◌||◌, if◌then◌else◌, List, [], ◌∷◌, ◌++◌, refl, sym, ap, ◌∙◌, inl, inr, subst}
use Rattle.std.specs.Ordering.{eq_of_both, int_cmp, is_eq, is_lt}
use Rattle.std.specs.declared.cmp.Ordering.{Ordering}
use Rattle.std.specs.declared.cmp.Ordering.TheVariants.{Less, Equal, Greater}
use Rattle.std.proofs.lemmas.Bool.{and_parts, both_ways}
use Rattle.std.proofs.lemmas.Cmp.{int_cmp_total}
use Rattle.prefsql_values.specs.declared.value.Value.{Value}
use Rattle.prefsql_tables.specs.Sight.{Sight}
use Rattle.prefsql_tables.specs.declared.place.ColumnPlace.{ColumnPlace}
use Rattle.order_laws.specs.Best.{best, ranks}
use Rattle.order_laws.proofs.BestLaws.{RespectsAmong, best-prior}
use Rattle.order_laws.proofs.Grouped.{grouped_lawful}
use Rattle.order_laws.proofs.Members.{Among}
use Rattle.order_laws.specs.Combine.{prior_better}
use Rattle.plan_stages.proofs.RankReads.{ranks-Leaf, ranks-Pareto, ranks-Prior, ranks-Dual}
use Rattle.plan_stages.specs.Separation.{cascade_of, ranks_all, separated}
use Rattle.pref_terms.proofs.CascadeLaws.{Alike, alike_back, before, chain, chain_one, nested_ranks, parts_rank, some_part}
use Rattle.pref_terms.specs.Cascades.{nested, parts_of}
use Rattle.order_laws.specs.Lawful.{IsLawful}
use Rattle.base_prefs.specs.Kind.{better_of, is_explicit, key_of, same_of}
use Rattle.base_prefs.specs.declared.kind.Kind.{Kind}
use Rattle.base_prefs.specs.declared.kind.Kind.TheVariants.{Explicit}
use Rattle.pref_terms.specs.declared.term.Leaf.{Leaf}
use Rattle.pref_terms.specs.declared.term.Term.{Term, Pareto, Prior, Dual}
use Rattle.pref_terms.specs.declared.term.Term as term
use Rattle.pref_terms.specs.BoundLaws.{same_group-equivalence}
use Rattle.pref_terms.specs.Equations.{order_of-Leaf}
use Rattle.pref_terms.specs.Induction.{term_induction}
use Rattle.pref_terms.specs.Terms.{Order, is_same_group, order_of}

-- ---- parts that rank all

not_true : (b : Bool) → not b ≡ true → b ≡ false
not_true true h = sym h
not_true false h = refl

by_key : (kind : Kind) → is_explicit kind ≡ false → (y x : Value) → better_of kind y x ≡ is_lt (int_cmp (key_of kind y) (key_of kind x))
by_key (Explicit g) weak y x = absurd (both_ways true weak refl)
by_key kind weak y x = refl

one_of_three : (k l : ℤ) (o : Ordering) → int_cmp k l ≡ o → (is_lt (int_cmp k l) || is_lt (int_cmp l k) || is_eq (int_cmp k l)) ≡ true
one_of_three k l Less is = rw is refl
one_of_three k l Equal is = rw (is, int_cmp_total.antisymm l k, is) refl
one_of_three k l Greater is = rw (is, int_cmp_total.antisymm l k, is) refl

key_ranks : (kind : Kind) → is_explicit kind ≡ false → (y x : Value) → ranks (better_of kind) (same_of kind false) y x ≡ true
key_ranks kind weak y x =
    (λ j. by_key kind weak y x j || by_key kind weak x y j || is_eq (int_cmp (key_of kind y) (key_of kind x)))
    ∙ one_of_three (key_of kind y) (key_of kind x) _ refl

abbrev RanksAll : Term → Type 0
RanksAll t = ranks_all t ≡ true → (y x : Sight) → ranks ((order_of t).better) ((order_of t).same) y x ≡ true

leaf_ranks : (leaf : Leaf) → RanksAll (term.Leaf leaf)
leaf_ranks leaf h y x =
    let both = and_parts (not leaf.trivial) (not (is_explicit leaf.base)) (sym (ranks-Leaf leaf) ∙ h) in
    ap (λ (o : Order). ranks o.better o.same y x) (order_of-Leaf leaf)
    ∙ ap (λ trivial. better_of leaf.base (y leaf.place) (x leaf.place) || better_of leaf.base (x leaf.place) (y leaf.place) || same_of leaf.base trivial (y leaf.place) (x leaf.place)) (not_true leaf.trivial both.0)
    ∙ key_ranks leaf.base (not_true (is_explicit leaf.base) both.1) (y leaf.place) (x leaf.place)

part_ranks : (t : Term) → RanksAll t
part_ranks = term_induction RanksAll leaf_ranks
    (λ p q first second h. absurd (both_ways (ranks_all (Pareto p q)) (ranks-Pareto p q) h))
    (λ p q first second h. absurd (both_ways (ranks_all (Prior p q)) (ranks-Prior p q) h))
    (λ p inner h. absurd (both_ways (ranks_all (Dual p)) (ranks-Dual p) h))

-- ---- the best, one term after the other

module _ {X : Type 0} (see : X → Sight) (groups : List ColumnPlace) where
  -- better within the groups
  abbrev pub better_in : Order → X → X → Bool
  better_in order y x = is_same_group groups (see y) (see x) && order.better (see y) (see x)

  abbrev pub same_in : Order → X → X → Bool
  same_in order y x = is_same_group groups (see y) (see x) && order.same (see y) (see x)

  pub best_alike : (p q : Order) → Alike p q → (xs : List X) → best (better_in p) xs ≡ best (better_in q) xs
  best_alike p q alike xs = λ j. best (λ y x. is_same_group groups (see y) (see x) && alike.better (see y) (see x) j) xs

  abbrev pub bests_by : List Term → List X → List X
  bests_by [] xs = xs
  bests_by (t ∷ ts) xs = bests_by ts (best (better_in (order_of t)) xs)

  in_group : (e b s c : Bool) → (e && (b || (s && c))) ≡ ((e && b) || ((e && s) && (e && c)))
  in_group true b s c = refl
  in_group false b s c = refl

  ranked_in : (e f b c s : Bool) → e ≡ true → f ≡ true → (b || c || s) ≡ true → ((e && b) || (f && c) || (e && s)) ≡ true
  ranked_in e f b c s in_e in_f h = (λ j. (in_e j && b) || (in_f j && c) || (in_e j && s)) ∙ h

  -- the part's order keeps the laws
  abbrev pub IsOrderLawful : Term → Type 0
  IsOrderLawful t = (k : Sight → Sight → Ordering) × IsLawful ((order_of t).better) ((order_of t).same) k

  cascade : (part : Term) → IsOrderLawful part → ranks_all part ≡ true → (rest : Order) (xs : List X) → best (better_in (before (order_of part) rest)) xs ≡ best (better_in rest) (best (better_in (order_of part)) xs)
  cascade part lawful is rest xs =
      let p = order_of part in
      let laws = grouped_lawful (same_group-equivalence groups) lawful.1 in
      let respects : RespectsAmong (better_in p) (same_in p) xs = record {
        same_back = λ x y a b h. laws.equivalence.symm (see y) (see x) ∙ h;
        better_same = λ x y z a b c. laws.better_same (see x) (see y) (see z);
      } in
      (λ j. best (λ y x. in_group (is_same_group groups (see y) (see x)) (p.better (see y) (see x)) (p.same (see y) (see x)) (rest.better (see y) (see x)) j) xs)
      ∙ best-prior (better_in p) (same_in p) (better_in rest) xs respects
      (λ x y a b h.
      let e = (and_parts (is_same_group groups (see x) (see y)) (rest.better (see x) (see y)) h).0 in
      ranked_in (is_same_group groups (see x) (see y)) (is_same_group groups (see y) (see x)) (p.better (see x) (see y)) (p.better (see y) (see x)) (p.same (see x) (see y))
      e ((same_group-equivalence groups).symm (see y) (see x) ∙ e) (part_ranks part is (see x) (see y)))

  abbrev AllLawful : List Term → Type 0
  AllLawful parts = (t : Term) → Among parts t → IsOrderLawful t

  branch : (b : Bool) (part next : Term) (more : List Term) (xs : List X) → ranks_all part ≡ b → AllLawful (part ∷ next ∷ more)
      → ((ys : List X) → best (better_in (chain (next ∷ more))) ys ≡ bests_by (separated (next ∷ more)) ys)
      → best (better_in (chain (part ∷ next ∷ more))) xs ≡ bests_by (if b then part ∷ separated (next ∷ more) else nested part (next ∷ more) ∷ []) xs
  branch true part next more xs is lawful rest =
      cascade part (lawful part (inl refl)) is (chain (next ∷ more)) xs ∙ rest (best (better_in (order_of part)) xs)
  branch false part next more xs is lawful rest =
      best_alike (chain (part ∷ next ∷ more)) (order_of (nested part (next ∷ more))) (alike_back _ _ (nested_ranks part (next ∷ more))) xs

  pub best_separated : (part : Term) (more : List Term) → AllLawful (part ∷ more) → (xs : List X) → best (better_in (chain (part ∷ more))) xs ≡ bests_by (separated (part ∷ more)) xs
  best_separated part [] lawful xs = best_alike (chain (part ∷ [])) (order_of part) (alike_back _ _ (chain_one part)) xs
  best_separated part (next ∷ more) lawful xs =
      branch (ranks_all part) part next more xs refl lawful (best_separated next more (λ t a. lawful t (inr a)))

pub best_cascade : {X : Type 0} (see : X → Sight) (groups : List ColumnPlace) (t : Term) → ((part : Term) → Among (parts_of t) part → IsOrderLawful see groups part) → (xs : List X)
    → best (better_in see groups (order_of t)) xs ≡ bests_by see groups (cascade_of t) xs
best_cascade see groups t lawful xs =
    let some = some_part t in
    best_alike see groups (order_of t) (chain (parts_of t)) (parts_rank t) xs
    ∙ ap (λ parts. best (better_in see groups (chain parts)) xs) some.2
    ∙ best_separated see groups some.0 some.1 (λ part a. lawful part (subst (λ (ps : List Term). Among ps part) (sym some.2) a)) xs
    ∙ ap (λ parts. bests_by see groups (separated parts) xs) (sym some.2)
