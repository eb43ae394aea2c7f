-- What the edges by their places tell, they tell by their values.
use Rattle.std.proofs.Common.{◌≡◌, ◌≢◌, ℕ, zero, suc, ◌+◌, ◌<◌, true, false, ◌&&◌, ◌||◌, nat_eq, List, [], ◌∷◌, length, get_or, map, AllPairs, All, refl, sym, ap, ◌∙◌, inl, inr, subst, arith, eq-eqb, add-one}
use Rattle.std.proofs.lemmas.Bool.{cases_Bool, both_ways, eqb-true, false_from_ne_true}
use Rattle.std.proofs.lemmas.Option.{get_or_from_slice_get}
use Rattle.std.proofs.lemmas.List.Elements.{All-map}
use Rattle.prefsql_values.specs.declared.value.Value.{Value}
use Rattle.prefsql_values.specs.declared.value.Value.TheVariants.{Null}
use Rattle.prefsql_values.specs.Value.{value_eq}
use Rattle.order_laws.proofs.Members.{Among, any_from}
use Rattle.base_prefs.specs.declared.edge.Edge.{Edge}
use Rattle.base_prefs.specs.declared.placed.PlacedEdge.{PlacedEdge}
use Rattle.base_prefs.specs.Graph.{ends, graph_values, has_edge, greatest, height, ending}
use Rattle.base_prefs.specs.GraphLaws.{same_value, value_same, among_firsts, among_upper, among_lower}
use Rattle.base_prefs.specs.Table.{placed, has_placed, placed_ending}
use Rattle.base_prefs.specs.Values.{is_in, place_of}
use Rattle.base_prefs.proofs.Firsts.{AllPairs-firsts}
use Rattle.base_prefs.proofs.Heights.{height_le, height_suc}
use Rattle.base_prefs.proofs.Places.{at_place}

-- what stands at the place of a value
read_place : (vs : List Value) (v : Value) → is_in vs v ≡ true → get_or vs (place_of vs v) Null ≡ v
read_place [] v h = cc
read_place (w ∷ ws) v h =
    elim (cases_Bool (value_eq w v)) [
      | inl same ↦ rw same (same_value w v same)
      | inr other ↦ rw (other, add-one) (read_place ws v (rw other at h))
    ]

later : (w : Value) (ws : List Value) → AllPairs ◌≢◌ (w ∷ ws) → AllPairs ◌≢◌ ws
later w ws apart i j d below within = apart (suc i) (suc j) d (omega arith) (omega arith)

-- the place of what stands at a place
place_read : (vs : List Value) → AllPairs ◌≢◌ vs → (i : ℕ) → i < length vs → place_of vs (get_or vs i Null) ≡ i
place_read [] apart i within = absurd (omega arith)
place_read (w ∷ ws) apart zero within = rw value_same refl
place_read (w ∷ ws) apart (suc i) within =
    let u = get_or ws i Null in
    let other : value_eq w u ≡ false =
    false_from_ne_true (value_eq w u) (λ same. apart 0 (suc i) Null (omega arith) within (same_value w u same)) in
    rw other (omega (arith, place_read ws (later w ws apart) i (omega arith)))

-- a value is at the place just if it is the one that stands there
same_place : (vs : List Value) → AllPairs ◌≢◌ vs → (i : ℕ) → i < length vs → (v : Value) → is_in vs v ≡ true
    → nat_eq (place_of vs v) i ≡ value_eq v (get_or vs i Null)
same_place vs apart i within v here =
    let u = get_or vs i Null in
    elim (cases_Bool (value_eq v u)) [
      | inl same ↦
          eq-eqb (place_of vs v) i (ap (place_of vs) (same_value v u same) ∙ place_read vs apart i within) ∙ sym same
      | inr other ↦
          false_from_ne_true (nat_eq (place_of vs v) i) (λ at.
          let read : u ≡ v = ap (λ k. get_or vs k Null) (sym (eqb-true (place_of vs v) i at)) ∙ read_place vs v here in
          both_ways (value_eq v u) other (ap (value_eq v) read ∙ value_same v)) ∙ sym other
    ]

abbrev AreIn : List Value → List Edge → Type 0
AreIn vs es = (e : Edge) → Among es e → (is_in vs e.upper ≡ true) × (is_in vs e.lower ≡ true)

module _ (vs : List Value) (apart : AllPairs ◌≢◌ vs) where
  same_edges : (i j : ℕ) → i < length vs → j < length vs → (es : List Edge) → AreIn vs es
      → has_placed (map (placed vs) es) i j ≡ has_edge es (get_or vs i Null) (get_or vs j Null)
  same_edges i j i_in j_in [] inside = refl
  same_edges i j i_in j_in (e ∷ es) inside =
      let here = inside e (inl refl) in
      let upper = same_place vs apart i i_in e.upper here.0 in
      let lower = same_place vs apart j j_in e.lower here.1 in
      let rest = same_edges i j i_in j_in es (λ d a. inside d (inr a)) in
      ap (λ b. (b && nat_eq (place_of vs e.lower) j) || has_placed (map (placed vs) es) i j) upper
      ∙ ap (λ b. (value_eq e.upper (get_or vs i Null) && b) || has_placed (map (placed vs) es) i j) lower
      ∙ ap (λ b. (value_eq e.upper (get_or vs i Null) && value_eq e.lower (get_or vs j Null)) || b) rest

  same_endings : (edges : List Edge) (n at : ℕ) → at < length vs → (es : List Edge) → AreIn vs es
      → map (placed_ending (map (height edges n) vs) at) (map (placed vs) es) ≡ map (ending edges n (get_or vs at Null)) es
  same_endings edges n at within [] inside = refl
  same_endings edges n at within (e ∷ es) inside =
      let here = inside e (inl refl) in
      let lower = same_place vs apart at within e.lower here.1 in
      let upper = get_or_from_slice_get (map (height edges n) vs) (place_of vs e.upper) (height edges n e.upper) 0 (at_place (height edges n) vs e.upper here.0) in
      let rest = same_endings edges n at within es (λ d a. inside d (inr a)) in
      rw (lower, upper, rest) refl

all_in : (edges : List Edge) → AreIn (graph_values edges) edges
all_in edges e a = (
  any_from (λ w. value_eq w e.upper) (graph_values edges) e.upper (among_firsts (ends edges) e.upper (among_upper edges e a)) (value_same e.upper),
  any_from (λ w. value_eq w e.lower) (graph_values edges) e.lower (among_firsts (ends edges) e.lower (among_lower edges e a)) (value_same e.lower),
)

module _ (edges : List Edge) (values : List Value) (listed : values ≡ graph_values edges) (places : List PlacedEdge) (are : places ≡ map (placed values) edges) where
  distinct : AllPairs ◌≢◌ values
  distinct = subst (λ (vs : List Value). AllPairs ◌≢◌ vs) (sym listed) (AllPairs-firsts (ends edges))

  inside : AreIn values edges
  inside = subst (λ (vs : List Value). AreIn vs edges) (sym listed) (all_in edges)

  -- an edge between places is one between their values
  pub edge_by_places : (i j : ℕ) → i < length values → j < length values → has_placed places i j ≡ has_edge edges (get_or values i Null) (get_or values j Null)
  edge_by_places i j i_in j_in = ap (λ (ps : List PlacedEdge). has_placed ps i j) are ∙ same_edges values distinct i j i_in j_in edges inside

  -- the heights of the next round, by places
  pub height_by_places : (n : ℕ) (heights : List ℕ) → heights ≡ map (height edges n) values → (at : ℕ) → at < length values
      → greatest (map (placed_ending heights at) places) ≡ height edges (n + 1) (get_or values at Null)
  height_by_places n heights so_far at within =
      ap (λ (ps : List PlacedEdge). greatest (map (placed_ending heights at) ps)) are
      ∙ ap (λ (hs : List ℕ). greatest (map (placed_ending hs at) (map (placed values) edges))) so_far
      ∙ ap greatest (same_endings values distinct edges n at within edges inside)
      ∙ height_suc edges n (get_or values at Null)

heights_below : (edges : List Edge) (n : ℕ) (vs : List Value) → n < 1000 → All (λ h. h < 1000) (map (height edges n) vs)
heights_below edges n vs small = All-map (λ h. h < 1000) (height edges n) vs (λ k d h. omega (arith, height_le edges n (get_or vs k d), small))

-- in few rounds the heights are small
pub heights_small : (edges : List Edge) (n : ℕ) (values : List Value) (heights : List ℕ) → heights ≡ map (height edges n) values → n < 1000 → All (λ h. h < 1000) heights
heights_small edges n values heights are small = rw are (heights_below edges n values small)
