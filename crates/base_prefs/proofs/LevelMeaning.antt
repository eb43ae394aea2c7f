-- The computed level is the level.
use Rattle.std.proofs.Common.{◌≡◌, ℕ, ◌+◌, ◌<◌, ◌≤◌, Bool, true, false, cond, ◌⊎◌, List, [], ◌∷◌, length, map, Contains, Decides, IfSome, slice_get, nat_lt, add-one, refl, sym, ◌∙◌, inl, inr, ⊎_elim, subst, arith}
use Rattle.std.proofs.lemmas.Bool.{cases_Bool, cases_lt, false≢true, both_ways, cond-true, cond-false, ltb-true, ltb-false}
use Rattle.std.proofs.lemmas.List.Elements.{All-cons}
use Rattle.prefsql_values.specs.declared.value.Value.{Value}
use Rattle.order_laws.proofs.Members.{Among, among_from_Contains, Contains_from_among}
use Rattle.base_prefs.specs.declared.edge.Edge.{Edge}
use Rattle.base_prefs.specs.declared.edge.ValueSet.{ValueSet}
use Rattle.base_prefs.specs.declared.kind.Kind.{Kind}
use Rattle.base_prefs.specs.declared.kind.Kind.TheVariants.{Pos, Neg, PosPos, PosNeg, Layered, Explicit, Around, Between, Lowest, Highest}
use Rattle.base_prefs.specs.ExplicitLaws.{greatest_number}
use Rattle.base_prefs.specs.Graph.{graph_values, graph_height, graph_level, greatest, is_above}
use Rattle.base_prefs.proofs.Paths.{height_is_longest}
use Rattle.base_prefs.specs.Kind.{level_of, layer_of}
use Rattle.base_prefs.specs.KindLimits.{IsSound}
use Rattle.base_prefs.specs.Level.{StandsAt, IsOther, IsLayer, IsLevelWithin, IsGreatestLevel, IsGraphLevel, IsLevel}
use Rattle.base_prefs.specs.Sets.{set_of}
use Rattle.base_prefs.specs.Values.{is_in}
use Rattle.base_prefs.proofs.KindMeaning.{is_in-Decides}

-- by one test
by_one : {P : Type 0} (b : Bool) (m n : ℕ) → Decides b P → (P × (cond b m n ≡ m)) ⊎ (¬ P × (cond b m n ≡ n))
by_one true m n d = inl (d.0 refl, refl)
by_one false m n d = inr (λ p. false≢true (d.1 p), refl)

-- by two tests
by_two : {P Q : Type 0} (b c : Bool) (k m n : ℕ) → Decides b P → Decides c Q
    → (P × (cond b k (cond c m n) ≡ k)) ⊎ ((Q × (cond b k (cond c m n) ≡ m)) ⊎ (¬ P × ¬ Q × (cond b k (cond c m n) ≡ n)))
by_two true c k m n d e = inl (d.0 refl, refl)
by_two false true k m n d e = inr (inl (e.0 refl, refl))
by_two false false k m n d e = inr (inr (λ p. false≢true (d.1 p), λ q. false≢true (e.1 q), refl))

get_suc : (s : ValueSet) (sets : List ValueSet) (k : ℕ) → slice_get (s ∷ sets) (k + 1) ≡ slice_get sets k
get_suc s sets k = rw add-one refl

stands_at : (sets : List ValueSet) (v : Value) → set_of sets v < length sets → StandsAt sets (set_of sets v) v
stands_at [] v h = absurd (omega arith)
stands_at (s ∷ sets) v h =
    elim (cases_Bool (is_in s.values v)) [
      | inl here ↦
          subst (λ k. StandsAt (s ∷ sets) k v) (sym (cond-true (is_in s.values v) 0 (set_of sets v + 1) here)) ((is_in-Decides s.values v).0 here)
      | inr other ↦
          let at = cond-false (is_in s.values v) 0 (set_of sets v + 1) other in
          subst (λ k. StandsAt (s ∷ sets) k v) (sym at)
          (subst (λ o. IfSome o (λ t. Contains t.values v)) (sym (get_suc s sets (set_of sets v))) (stands_at sets v (omega (arith, at, h))))
    ]

is_other : (sets : List ValueSet) (v : Value) → length sets ≤ set_of sets v → IsOther sets v
is_other [] v h = λ k d small. absurd (omega arith)
is_other (s ∷ sets) v h =
    elim (cases_Bool (is_in s.values v)) [
      | inl here ↦ absurd (omega (arith, cond-true (is_in s.values v) 0 (set_of sets v + 1) here, h))
      | inr other ↦
          All-cons (λ t. ¬ Contains t.values v) s sets (λ there. both_ways (is_in s.values v) other ((is_in-Decides s.values v).1 there))
          (is_other sets v (omega (arith, cond-false (is_in s.values v) 0 (set_of sets v + 1) other, h)))
    ]

layer_meaning : (before after : List ValueSet) (v : Value) → IsLayer before after v (layer_of before after v)
layer_meaning before after v =
    let first = set_of before v in
    let last = set_of after v in
    elim (cases_Bool (nat_lt first (length before))) [
      | inl early ↦ inl (first, stands_at before v (ltb-true _ _ early), cond-true (nat_lt first (length before)) _ _ early)
      | inr none ↦ (elim (cases_Bool (nat_lt last (length after))) [
        | inl late ↦
            inr (inr (
              last,
              stands_at after v (ltb-true _ _ late),
              cond-false (nat_lt first (length before)) _ _ none
                  ∙ cond-true (nat_lt last (length after)) (length before + last + 2) (length before + 1) late,
            ))
        | inr nowhere ↦
            inr (inl (
              is_other before v (ltb-false _ _ none),
              is_other after v (ltb-false _ _ nowhere),
              cond-false (nat_lt first (length before)) _ _ none
                  ∙ cond-false (nat_lt last (length after)) (length before + last + 2) (length before + 1) nowhere,
            ))
      ])
    ]

pub greatest_attained : (f : Value → ℕ) (vs : List Value) → 0 < length vs → (v : Value) × Among vs v × (f v ≡ greatest (map f vs))
greatest_attained f [] h = absurd (omega arith)
greatest_attained f (v ∷ []) h = (v, inl refl, omega arith)
greatest_attained f (v ∷ w ∷ vs) h =
    let rest = greatest_attained f (w ∷ vs) (omega arith) in
    ⊎_elim (λ less. (rest.0, inr rest.1, omega (arith, less, rest.2))) (λ more. (v, inl refl, omega (arith, more)))
    (cases_lt (f v) (greatest (map f (w ∷ vs))))

module _ (edges : List Edge) (acyclic : (v : Value) → is_above edges v v ≡ false) where
  -- a level within the graph is one more than the height
  level_is : (v : Value) (n : ℕ) → IsLevelWithin edges v n → n ≤ graph_height edges v + 1
  level_is v n at = let longest = (height_is_longest edges acyclic v).1 at.0 at.1.0 in omega (arith, longest, at.2)

  greatest_level : 0 < length (graph_values edges) → IsGreatestLevel edges (greatest (map (graph_height edges) (graph_values edges)) + 1)
  greatest_level some =
      let values = graph_values edges in
      let top = greatest_attained (graph_height edges) values some in (
        (top.0, Contains_from_among values top.0 top.1, (graph_height edges top.0, height_is_longest edges acyclic top.0, omega (arith, top.2))),
        λ v m there at. omega (arith, level_is v m at, greatest_number (graph_height edges) values v (among_from_Contains values v there)),
      )

  graph_meaning : 0 < length (graph_values edges) → (v : Value) → IsGraphLevel edges v (graph_level edges v)
  graph_meaning some v =
      let d = is_in-Decides (graph_values edges) v in
      elim (cases_Bool (is_in (graph_values edges) v)) [
        | inl here ↦ inl (d.0 here, (graph_height edges v, height_is_longest edges acyclic v, cond-true (is_in (graph_values edges) v) _ _ here))
        | inr other ↦
            let most = greatest (map (graph_height edges) (graph_values edges)) in
            let at : graph_level edges v ≡ most + 2 = cond-false (is_in (graph_values edges) v) _ _ other in
            inr (λ there. both_ways (is_in (graph_values edges) v) other (d.1 there), (most + 1, greatest_level some, omega (arith, at)))
      ]

some_values : (edges : List Edge) → 0 < length edges → 0 < length (graph_values edges)
some_values [] h = absurd (omega arith)
some_values (e ∷ edges) h = omega arith

pub level_meaning : (kind : Kind) → IsSound kind → (v : Value) → IfSome (level_of kind v) (IsLevel kind v)
level_meaning (Pos s) sound v = by_one (is_in s.values v) 1 2 (is_in-Decides s.values v)
level_meaning (Neg s) sound v = by_one (is_in s.values v) 2 1 (is_in-Decides s.values v)
level_meaning (PosPos s t) sound v = by_two (is_in s.values v) (is_in t.values v) 1 2 3 (is_in-Decides s.values v) (is_in-Decides t.values v)
level_meaning (PosNeg s t) sound v = by_two (is_in s.values v) (is_in t.values v) 1 3 2 (is_in-Decides s.values v) (is_in-Decides t.values v)
level_meaning (Layered before after) sound v = layer_meaning before after v
level_meaning (Explicit g) sound v = graph_meaning g.edges g.acyclic (some_values g.edges sound.some) v
level_meaning (Around center) sound v = tt
level_meaning (Between low up) sound v = tt
level_meaning Lowest sound v = tt
level_meaning Highest sound v = tt
