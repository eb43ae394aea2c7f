-- The graph of an EXPLICIT preference has two values at least, and each level from 1 to its greatest occurs in it.
use Rattle.std.proofs.Common.{◌≡◌, ℕ, zero, suc, ◌+◌, ◌-◌, ◌<◌, ◌≤◌, true, false, ◌&&◌, List, [], ◌∷◌, length, map, sym, ap, ◌∙◌, inl, inr, arith}
use Rattle.std.proofs.lemmas.Bool.{cases_Bool, cond-true, or_left, and_from, both_ways, false_from_ne_true}
use Rattle.prefsql_values.specs.declared.value.Value.{Value}
use Rattle.prefsql_values.specs.Value.{value_eq}
use Rattle.order_laws.proofs.Members.{Among, any_from}
use Rattle.base_prefs.specs.declared.edge.Edge.{Edge}
use Rattle.base_prefs.specs.Graph.{ends, graph_values, has_edge, is_above, greatest, graph_height, graph_level, ending}
use Rattle.base_prefs.specs.GraphLaws.{same_value, value_same, among_firsts, among_upper, via_edge, settled}
use Rattle.base_prefs.specs.Values.{is_in}
use Rattle.base_prefs.proofs.LevelMeaning.{greatest_attained}
use Rattle.base_prefs.proofs.Paths.{greatest_found}

-- a graph without a cycle has two values at least, as no edge leads from a value to itself
pub two_values : (edges : List Edge) → ((v : Value) → is_above edges v v ≡ false) → 0 < length edges → 2 ≤ length (graph_values edges)
two_values [] acyclic some = absurd (omega arith)
two_values (e ∷ es) acyclic some =
    let edges = e ∷ es in
    let apart : value_eq e.upper e.lower ≡ false =
    false_from_ne_true (value_eq e.upper e.lower) (λ same.
    let back : value_eq e.lower e.upper ≡ true = ap (λ v. value_eq v e.upper) (sym (same_value e.upper e.lower same)) ∙ value_same e.upper in
    let loop : has_edge edges e.upper e.upper ≡ true = or_left (value_eq e.upper e.upper && value_eq e.lower e.upper) _ (and_from _ _ (value_same e.upper) back) in
    both_ways (is_above edges e.upper e.upper) (acyclic e.upper) (via_edge edges (graph_values edges) e.upper e.upper loop))
    in
    rw apart (omega arith)

module _ (edges : List Edge) (acyclic : (v : Value) → is_above edges v v ≡ false) where
  abbrev HasHeight : ℕ → Type 0
  HasHeight n = (u : Value) × Among (graph_values edges) u × (graph_height edges u ≡ n)

  upper_there : (e : Edge) → Among edges e → Among (graph_values edges) e.upper
  upper_there e a = among_firsts (ends edges) e.upper (among_upper edges e a)

  -- a value of some height stands below one whose height is one less
  one_less : (v : Value) (n : ℕ) → graph_height edges v ≡ suc n → HasHeight n
  one_less v n is =
      let last = length (graph_values edges) in
      elim (greatest_found (ending edges last v) edges) [
        | inl none ↦ absurd (omega (arith, settled edges acyclic v, none, is))
        | inr found ↦
            let e = found.0 in
            let here : ending edges last v e ≡ suc n = found.2 ∙ sym (settled edges acyclic v) ∙ is in
            (elim (cases_Bool (value_eq e.lower v)) [
              | inl same ↦
                  let up : graph_height edges e.upper + 1 ≡ suc n = sym (cond-true (value_eq e.lower v) (graph_height edges e.upper + 1) 0 same) ∙ here in
                  (e.upper, upper_there e found.1, omega (arith, up))
              | inr other ↦ absurd (let none : 0 ≡ suc n = (rw other at here) in omega (arith, none))
            ])
      ]

  down_to : (d k : ℕ) (v : Value) → Among (graph_values edges) v → graph_height edges v ≡ d + k → HasHeight k
  down_to zero k v a is = (v, a, omega (arith, is))
  down_to (suc d) k v a is =
      let next = one_less v (d + k) (omega (arith, is)) in
      down_to d k next.0 next.1 next.2

  in_graph : (v : Value) → Among (graph_values edges) v → is_in (graph_values edges) v ≡ true
  in_graph v a = any_from (λ w. value_eq w v) (graph_values edges) v a (value_same v)

  -- each level from 1 to the greatest of the graph is that of one of its values
  pub level_occurs : 0 < length (graph_values edges) → (n : ℕ) → 1 ≤ n → n ≤ greatest (map (graph_height edges) (graph_values edges)) + 1
      → (v : Value) × Among (graph_values edges) v × (graph_level edges v ≡ n)
  level_occurs some n first last =
      let top = greatest_attained (graph_height edges) (graph_values edges) some in
      let k = n - 1 in
      let gap = greatest (map (graph_height edges) (graph_values edges)) - k in
      let found = down_to gap k top.0 top.1 (omega (arith, top.2, first, last)) in
      let level : graph_level edges found.0 ≡ graph_height edges found.0 + 1 = cond-true (is_in (graph_values edges) found.0) _ _ (in_graph found.0 found.1) in
      (found.0, found.1, omega (arith, level, found.2, first))
