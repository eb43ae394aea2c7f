-- The tests of a graph decide its paths, and its heights are the lengths of the longest ones.
use Rattle.std.proofs.Common.{◌≡◌, ◌↔◌, ℕ, zero, suc, ◌+◌, ◌<◌, ◌≤◌, Bool, true, false, ◌&&◌, ◌⊎◌, List, [], ◌∷◌, length, map, get_or, Some, slice_get, Decides, refl, sym, ◌∙◌, inl, inr, ⊎_elim, subst, arith, zero-add, suc-add}
use Rattle.std.specs.Prelude.{IsTrue}
use Rattle.std.proofs.lemmas.Bool.{cases_Bool, cases_lt, and_from}
use Rattle.std.proofs.lemmas.Bool.Decides.{same_from_decides}
use Rattle.std.proofs.lemmas.Option.{get_or_from_slice_get, slice_get-get_or}
use Rattle.prefsql_values.specs.declared.value.Value.{Value}
use Rattle.prefsql_values.specs.declared.value.Value.TheVariants.{Null}
use Rattle.prefsql_values.specs.Value.{value_eq}
use Rattle.order_laws.proofs.Members.{Among, among_from_Contains, Contains_from_among, any_from}
use Rattle.base_prefs.specs.declared.edge.Edge.{Edge}
use Rattle.base_prefs.specs.Graph.{graph_values, HasEdge, IsPath, IsAbove, has_edge, path_via, is_above, IsLongestPathTo, greatest, height, graph_height, ending}
use Rattle.base_prefs.specs.GraphLaws.{same_value, value_same, edge_found, edge_rises, via_cases, via_edge, above_joined}
use Rattle.base_prefs.specs.View.{IsAboveAt, is_above_at}

module _ (edges : List Edge) where
  edge_there : (u v : Value) → HasEdge edges u v → has_edge edges u v ≡ true
  edge_there u v h =
      any_from (λ (e : Edge). value_eq e.upper u && value_eq e.lower v) edges (record { upper = u; lower = v })
      (among_from_Contains edges (record { upper = u; lower = v }) h) (and_from _ _ (value_same u) (value_same v))

  edge_here : (u v : Value) → has_edge edges u v ≡ true → HasEdge edges u v
  edge_here u v h =
      let found = edge_found edges u v h in
      let same : found.0 ≡ record { upper = u; lower = v } = λ i. record { upper = found.2 i; lower = found.3 i } in
      Contains_from_among edges (record { upper = u; lower = v }) (subst (λ (e : Edge). Among edges e) same found.1)

  joined : (m n : ℕ) (u w v : Value) → IsPath edges m u w → IsPath edges n w v → IsPath edges (m + n) u v
  joined zero n u w v p q = subst (λ k. IsPath edges k u v) (sym (zero-add n)) (subst (λ x. IsPath edges n x v) (sym p) q)
  joined (suc m) n u w v p q = subst (λ k. IsPath edges k u v) (sym (suc-add m n)) (p.0, p.1, joined m n p.0 w v p.2 q)

  path_from_via : (ks : List Value) (u v : Value) → path_via edges ks u v ≡ true → IsAbove edges u v
  path_from_via [] u v h = (0, (v, edge_here u v h, refl))
  path_from_via (k ∷ ks) u v h =
      via_cases edges k ks u v h (path_from_via ks u v)
      (λ uk kv.
      let p = path_from_via ks u k uk in
      let q = path_from_via ks k v kv in
      (p.0 + suc q.0, subst (λ n. IsPath edges n u v) (suc-add p.0 (suc q.0)) (joined (suc p.0) (suc q.0) u k v p.1 q.1)))

  above_from_path : (n : ℕ) (u v : Value) → IsPath edges (suc n) u v → is_above edges u v ≡ true
  above_from_path zero u v p = via_edge edges (graph_values edges) u v (edge_there u v (subst (λ x. HasEdge edges u x) p.2 p.1))
  above_from_path (suc n) u v p =
      above_joined edges u p.0 v (via_edge edges (graph_values edges) u p.0 (edge_there u p.0 p.1)) (above_from_path n p.0 v p.2)

  -- the test of "there is a path of at least one edge"
  pub is_above-Decides : (u v : Value) → Decides (is_above edges u v) (IsAbove edges u v)
  is_above-Decides u v = (path_from_via (graph_values edges) u v, λ p. above_from_path p.0 u v p.1)

-- the last edge of a path
last_edge : (edges : List Edge) (n : ℕ) (u v : Value) → IsPath edges (suc n) u v → (w : Value) × IsPath edges n u w × HasEdge edges w v
last_edge edges zero u v p = (u, refl, subst (λ x. HasEdge edges u x) p.2 p.1)
last_edge edges (suc n) u v p = let rest = last_edge edges n p.0 v p.2 in (rest.0, (p.0, p.1, rest.1), rest.2)

pub greatest_found : (f : Edge → ℕ) (edges : List Edge) → (greatest (map f edges) ≡ 0) ⊎ ((e : Edge) × Among edges e × (f e ≡ greatest (map f edges)))
greatest_found f [] = inl refl
greatest_found f (d ∷ ds) =
    ⊎_elim
    (λ more. inr (d, inl refl, omega (arith, more)))
    (λ less. ⊎_elim (λ none. inl (omega (arith, less, none))) (λ e. inr (e.0, inr e.1, omega (arith, less, e.2))) (greatest_found f ds))
    (cases_lt (greatest (map f ds)) (f d))

attained_at : (edges : List Edge) (n : ℕ) (v : Value) (e : Edge) → Among edges e
    → ((u : Value) × IsPath edges (height edges n e.upper) u e.upper) → (u : Value) × IsPath edges (ending edges n v e) u v
attained_at edges n v e a up =
    elim (cases_Bool (value_eq e.lower v)) [
      | inl same ↦
          let edge : HasEdge edges e.upper v =
          Contains_from_among edges (record { upper = e.upper; lower = v })
          (subst (λ (d : Edge). Among edges d) (λ i. record { upper = e.upper; lower = same_value e.lower v same i }) a)
          in
          let value : ending edges n v e ≡ height edges n e.upper + 1 = rw same refl in
          (up.0, subst (λ k. IsPath edges k up.0 v) (sym value) (joined edges (height edges n e.upper) 1 up.0 e.upper v up.1 (v, edge, refl)))
      | inr other ↦ (v, rw other refl)
    ]

height_attained : (edges : List Edge) (n : ℕ) (v : Value) → (u : Value) × IsPath edges (height edges n v) u v
height_attained edges zero v = (v, refl)
height_attained edges (suc n) v =
    ⊎_elim
    (λ (none : height edges (suc n) v ≡ 0). (v, subst (λ k. IsPath edges k v v) (sym none) refl))
    (λ (found : (e : Edge) × Among edges e × (ending edges n v e ≡ height edges (suc n) v)).
    let up = attained_at edges n v found.0 found.1 (height_attained edges n found.0.upper) in
    (up.0, subst (λ k. IsPath edges k up.0 v) found.2 up.1))
    (greatest_found (ending edges n v) edges)

module _ (edges : List Edge) (acyclic : (v : Value) → is_above edges v v ≡ false) where
  path_below_height : (n : ℕ) (u v : Value) → IsPath edges n u v → n ≤ graph_height edges v
  path_below_height zero u v p = omega arith
  path_below_height (suc n) u v p =
      let last = last_edge edges n u v p in
      omega (arith, path_below_height n u last.0 last.1, edge_rises edges acyclic last.0 v (edge_there edges last.0 v last.2))

  -- no value is above the first of a longest path
  top_unbettered : (v : Value) (u : Value) → IsPath edges (graph_height edges v) u v → (w : Value) → IsAbove edges w u → ⊥
  top_unbettered v u p w up =
      let longer = path_below_height (suc up.0 + graph_height edges v) w v (joined edges (suc up.0) (graph_height edges v) w u v up.1 p) in
      absurd (omega (arith, longer))

  -- the height of a value is the number of edges of the longest path down to it
  pub height_is_longest : (v : Value) → IsLongestPathTo edges v (graph_height edges v)
  height_is_longest v =
      let path = height_attained edges (length (graph_values edges)) v in
      ((path.0, top_unbettered v path.0 path.1, path.1), λ m p. path_below_height m p.0 v p.2)

-- what tells whether there is a path between two places is the test of it
pub above_is : (edges : List Edge) (upper lower : ℕ) (r : Bool) → upper < length (graph_values edges) → lower < length (graph_values edges)
    → (IsTrue r ↔ IsAboveAt edges upper lower) → r ≡ is_above_at edges upper lower
above_is edges upper lower r upper_in lower_in told =
    let values = graph_values edges in
    let u = get_or values upper Null in
    let v = get_or values lower Null in
    let u_at : slice_get (graph_values edges) upper ≡ Some u = slice_get-get_or values upper Null upper_in in
    let v_at : slice_get (graph_values edges) lower ≡ Some v = slice_get-get_or values lower Null lower_in in
    let decides = is_above-Decides edges u v in
    same_from_decides r (is_above edges u v) (
      λ h.
          let w = told.0 h in
          let u_is : w.0 ≡ u = sym (get_or_from_slice_get (graph_values edges) upper w.0 Null w.2) ∙ get_or_from_slice_get (graph_values edges) upper u Null u_at in
          let v_is : w.1 ≡ v = sym (get_or_from_slice_get (graph_values edges) lower w.1 Null w.3) ∙ get_or_from_slice_get (graph_values edges) lower v Null v_at in
          subst (λ x. IsAbove edges u x) v_is (subst (λ x. IsAbove edges x w.1) u_is w.4),
      λ p. told.1 (u, v, u_at, v_at, p),
    )
    decides
