-- What a leaf ranks by, as an SQL scalar, is its level, its distance or its value; and the code of a graph's value is its code.
use Rattle.std.proofs.Common.{◌≡◌, ℕ, zero, suc, ◌+◌, ◌<◌, ◌≤◌, ℤ, pos, neg_ℤ, ◌+ℤ◌, ◌-ℤ◌, Bool, true, false, cond, ◌&&◌, ◌||◌, List, [], ◌∷◌, ◌++◌, length, map, filter, nat_lt, nat_eq, All, refl, sym, ap, ◌∙◌, arith, inl, inr, append-nil}
use Rattle.std.specs.Prelude.{int_lt}
use Rattle.std.specs.List.{range_with_len}
use Rattle.std.proofs.lemmas.Bool.{cases_Bool, cases_eq, cases_lt, cond-true, cond-false, lt-ltb, le-ltb, eq-eqb, ne_eqb, both_ways, false≢true}
use Rattle.std.proofs.lemmas.List.Elements.{All-head, All-tail, All-weaker, All-filter}
use Rattle.prefsql_values.specs.Limits.{IsLiteralValue}
use Rattle.prefsql_values.specs.declared.value.CompareOp.TheVariants.{Eq, Lt, Gt}
use Rattle.prefsql_values.specs.declared.value.Value.{Value}
use Rattle.prefsql_values.specs.declared.value.Value.TheVariants.{Num, Str, Null}
use Rattle.prefsql_values.specs.Value.{comparison, truth_of, value_eq}
use Rattle.prefsql_values.proofs.ValueEq.{value_eq-Decides, value_eq-equivalence}
use Rattle.prefsql_tables.specs.Table.{Tables}
use Rattle.order_laws.proofs.Members.{Among, among_from_Contains}
use Rattle.base_prefs.specs.declared.edge.Edge.{Edge}
use Rattle.base_prefs.specs.declared.edge.ValueSet.{ValueSet}
use Rattle.base_prefs.specs.declared.kind.Kind.{Kind}
use Rattle.base_prefs.specs.declared.kind.Kind.TheVariants.{Pos, Neg, PosPos, PosNeg, Layered, Explicit, Around, Between, Lowest, Highest}
use Rattle.base_prefs.specs.ExplicitLaws.{greatest_number}
use Rattle.base_prefs.specs.Graph.{graph_height, graph_level, graph_values, greatest}
use Rattle.base_prefs.specs.Kind.{IsJudged, distance_from, layer_of}
use Rattle.base_prefs.specs.KindLimits.{IsSound}
use Rattle.base_prefs.specs.Sets.{IsKeptSet, set_of}
use Rattle.base_prefs.specs.Values.{is_in, place_of}
use Rattle.base_prefs.proofs.KindMeaning.{is_in-Decides}
use Rattle.pref_terms.specs.TermLaws.{All-first, All-second}
use Rattle.sql_tree.specs.declared.tree.SqlCond.{Compare}
use Rattle.sql_tree.specs.declared.tree.SqlScalar.{SqlScalar, Number}
use Rattle.sql_tree.specs.declared.tree.SqlWhen.{SqlWhen}
use Rattle.sql_tree.specs.Meaning.{Scopes, truth_in, value_in}
use Rattle.sql_tree.proofs.MeaningLemmas.{truth_in-Compare, value_in-Number}
use Rattle.written_query_meaning.specs.Held.{rank_of, code_of}
use Rattle.rewritten_query.specs.Leaves.{cases, code_scalar, code_whens, greatest_level, is_among, less, level_when, level_whens, literal, number, rank_scalar, set_whens, values_of_level, when_so}
use Rattle.written_query_meaning.proofs.Compared.{IsValue, literal_is_value, equal_values, less_is, greater_is, int_lt-Decides, distance_below, distance_above, difference_is}
use Rattle.written_query_meaning.proofs.Readings.{literal_read, number_read, among_read, cases_end, cases_read, less_read}

drawn : (b : Bool) (m n : ℕ) → cond b (Num (pos m)) (Num (pos n)) ≡ Num (pos (cond b m n))
drawn true m n = refl
drawn false m n = refl

drawn_two : (b c : Bool) (k m n : ℕ) → cond b (Num (pos k)) (cond c (Num (pos m)) (Num (pos n))) ≡ Num (pos (cond b k (cond c m n)))
drawn_two true c k m n = refl
drawn_two false true k m n = refl
drawn_two false false k m n = refl

-- ---- numbers one step on

nat_lt-suc : (k m : ℕ) → nat_lt (k + 1) (suc m) ≡ nat_lt k m
nat_lt-suc k m =
    elim (cases_lt k m) [
      | inl below ↦ lt-ltb (k + 1) (suc m) (omega arith) ∙ sym (lt-ltb k m below)
      | inr above ↦ le-ltb (k + 1) (suc m) (omega arith) ∙ sym (le-ltb k m above)
    ]

one_more : (b : Bool) (n k m : ℕ) (last : Value) → cond b (Num (pos n)) (cond (nat_lt k m) (Num (pos (n + 1 + k))) last) ≡ cond (nat_lt (cond b 0 (k + 1)) (suc m)) (Num (pos (n + cond b 0 (k + 1)))) last
one_more true n k m last =
    let e : n + 0 ≡ n = omega arith in
    sym (cond-true (nat_lt 0 (suc m)) (Num (pos (n + 0))) last (lt-ltb 0 (suc m) (omega arith)) ∙ ap (λ i. Num (pos i)) e)
one_more false n k m last =
    let e : n + 1 + k ≡ n + (k + 1) = omega arith in
    let same : nat_lt k m ≡ nat_lt (k + 1) (suc m) = sym (nat_lt-suc k m) in
    λ j. cond (same j) (Num (pos (e j))) last

-- ---- values of a level

-- a filter keeps of a value what passes
is_in-cond : (c : Bool) (w : Value) (kept : List Value) (v : Value) → is_in (cond c (w ∷ kept) kept) v ≡ cond c (value_eq w v || is_in kept v) (is_in kept v)
is_in-cond true w kept v = refl
is_in-cond false w kept v = refl

kept_by : (c d b e : Bool) → (d ≡ true → c ≡ e) → cond c (d || (b && e)) (b && e) ≡ ((d || b) && e)
kept_by true true b e h = h refl
kept_by true false b e h = refl
kept_by false true b true h = absurd (false≢true (h refl))
kept_by false true true false h = refl
kept_by false true false false h = refl
kept_by false false b e h = refl

is_in-filter : (p : Value → Bool) (values : List Value) (v : Value) → is_in (filter p values) v ≡ (is_in values v && p v)
is_in-filter p [] v = refl
is_in-filter p (w ∷ values) v =
    is_in-cond (p w) w (filter p values) v
    ∙ ap (λ b. cond (p w) (value_eq w v || b) b) (is_in-filter p values v)
    ∙ kept_by (p w) (value_eq w v) (is_in values v) (p v) (λ h. ap p ((value_eq-Decides w v).0 h))

and_true : (b : Bool) (c : Bool) → b ≡ true → (b && c) ≡ c
and_true true c h = refl
and_true false c h = absurd (false≢true h)

and_false : (b : Bool) (c : Bool) → b ≡ false → (b && c) ≡ false
and_false true c h = absurd (false≢true (sym h))
and_false false c h = refl

among_is : (values : List Value) (v : Value) → is_in values v ≡ true → Among values v
among_is values v h = among_from_Contains values v ((is_in-Decides values v).0 h)

-- ---- the kinds

set_values : (s : ValueSet) → IsKeptSet s → All IsValue s.values
set_values s kept = All-weaker IsLiteralValue IsValue literal_is_value s.values kept.given.literal

sets_values : (sets : List ValueSet) → All IsKeptSet sets → All (λ (s : ValueSet). All IsValue s.values) sets
sets_values sets kept = All-weaker IsKeptSet (λ (s : ValueSet). All IsValue s.values) set_values sets kept

distance_picked : (z n : ℤ) → cond (int_lt n z) (Num (z +ℤ (neg_ℤ n +ℤ pos 0))) (Num (n +ℤ (neg_ℤ z +ℤ pos 0))) ≡ Num (distance_from z n)
distance_picked z n =
    elim (cases_Bool (int_lt n z)) [
      | inl below ↦ cond-true (int_lt n z) _ _ below ∙ ap Num (distance_below z n ((int_lt-Decides n z).0 below))
      | inr other ↦ cond-false (int_lt n z) _ _ other ∙ ap Num (distance_above z n (λ h. both_ways (int_lt n z) other ((int_lt-Decides n z).1 h)))
    ]

between_picked : (b c : Bool) (x y : ℤ) → cond b (Num x) (cond c (Num y) (Num (pos 0))) ≡ Num (cond b x (cond c y (pos 0)))
between_picked true c x y = refl
between_picked false true x y = refl
between_picked false false x y = refl

layers_picked : (b c : Bool) (i j k m n o : ℕ) → i ≡ m → j ≡ n → k ≡ o → cond b (Num (pos i)) (cond c (Num (pos j)) (Num (pos k))) ≡ Num (pos (cond b m (cond c n o)))
layers_picked true c i j k m n o p q r = ap (λ a. Num (pos a)) p
layers_picked false true i j k m n o p q r = ap (λ a. Num (pos a)) q
layers_picked false false i j k m n o p q r = ap (λ a. Num (pos a)) r

code_step : (b c : Bool) (n k : ℕ) → cond b (Num (pos n)) (Num (pos (cond c (n + 1 + k) 0))) ≡ Num (pos (cond (b || c) (n + cond b 0 (k + 1)) 0))
code_step true c n k = let e : n ≡ n + 0 = omega arith in ap (λ a. Num (pos a)) e
code_step false true n k = let e : n + 1 + k ≡ n + (k + 1) = omega arith in ap (λ a. Num (pos a)) e
code_step false false n k = refl

module _ (tables : Tables) (scopes : Scopes) (x : SqlScalar) (v : Value) (is : value_in tables x scopes ≡ v) where
  abbrev value : SqlScalar → Value
  value s = value_in tables s scopes

  module _ (known : IsValue v) where
    among : (values : List Value) → All IsValue values → truth_in tables (is_among x values) scopes ≡ truth_of (is_in values v)
    among values all = among_read tables scopes x v values is known all

    by_set : (values : List Value) (m n : ℕ) → All IsValue values → value (cases (when_so (is_among x values) (number m) ∷ []) (number n)) ≡ Num (pos (cond (is_in values v) m n))
    by_set values m n all =
        cases_read tables scopes (is_among x values) (number m) [] (number n) (is_in values v) (among values all)
        ∙ (λ j. cond (is_in values v) (number_read tables scopes m j) ((cases_end tables scopes (number n) ∙ number_read tables scopes n) j))
        ∙ drawn (is_in values v) m n

    by_two_sets : (first second : List Value) (k m n : ℕ) → All IsValue first → All IsValue second
        → value (cases (when_so (is_among x first) (number k) ∷ when_so (is_among x second) (number m) ∷ []) (number n)) ≡ Num (pos (cond (is_in first v) k (cond (is_in second v) m n)))
    by_two_sets first second k m n all more =
        cases_read tables scopes (is_among x first) (number k) (when_so (is_among x second) (number m) ∷ []) (number n) (is_in first v) (among first all)
        ∙ (λ j. cond (is_in first v) (number_read tables scopes k j) ((by_set second m n more ∙ sym (drawn (is_in second v) m n)) j))
        ∙ drawn_two (is_in first v) (is_in second v) k m n

    by_sets : (n : ℕ) (sets : List ValueSet) → All (λ (s : ValueSet). All IsValue s.values) sets → (whens : List SqlWhen) (last : SqlScalar)
        → value (cases (set_whens x n sets ++ whens) last) ≡ cond (nat_lt (set_of sets v) (length sets)) (Num (pos (n + set_of sets v))) (value (cases whens last))
    by_sets n [] all whens last = refl
    by_sets n (s ∷ sets) all whens last =
        cases_read tables scopes (is_among x s.values) (number n) (set_whens x (n + 1) sets ++ whens) last (is_in s.values v) (among s.values (All-head (λ (t : ValueSet). All IsValue t.values) s sets all))
        ∙ (λ j. cond (is_in s.values v) (number_read tables scopes n j) (by_sets (n + 1) sets (All-tail (λ (t : ValueSet). All IsValue t.values) s sets all) whens last j))
        ∙ one_more (is_in s.values v) n (set_of sets v) (length sets) (value (cases whens last))

    by_layers : (before after : List ValueSet) → All IsKeptSet before → All IsKeptSet after
        → value (cases (set_whens x 1 before ++ set_whens x (length before + 2) after) (number (length before + 1))) ≡ Num (pos (layer_of before after v))
    by_layers before after early late =
        let last = number (length before + 1) in
        by_sets 1 before (sets_values before early) (set_whens x (length before + 2) after) last
        ∙ ap (cond (nat_lt (set_of before v) (length before)) (Num (pos (1 + set_of before v))))
        (ap (λ whens. value (cases whens last)) (sym (append-nil (set_whens x (length before + 2) after)))
        ∙ by_sets (length before + 2) after (sets_values after late) [] last
        ∙ ap (cond (nat_lt (set_of after v) (length after)) (Num (pos (length before + 2 + set_of after v)))) (cases_end tables scopes last ∙ number_read tables scopes (length before + 1)))
        ∙ layers_picked (nat_lt (set_of before v) (length before)) (nat_lt (set_of after v) (length after)) _ _ _ _ _ _ (omega arith) (omega arith) refl

    -- ---- levels and codes of a graph

    module _ (edges : List Edge) (literals : All IsLiteralValue (graph_values edges)) where
      abbrev values : List Value
      values = graph_values edges

      all_values : All IsValue values
      all_values = All-weaker IsLiteralValue IsValue literal_is_value values literals

      of_level : (n : ℕ) → truth_in tables (is_among x (values_of_level edges n)) scopes ≡ truth_of (is_in values v && nat_eq (graph_level edges v) n)
      of_level n = among (values_of_level edges n) (All-filter (λ w. nat_eq (graph_level edges w) n) IsValue values all_values) ∙ ap truth_of (is_in-filter (λ w. nat_eq (graph_level edges w) n) values v)

      level_inside : is_in values v ≡ true → (n a : ℕ) (last : SqlScalar) → a ≤ graph_level edges v → graph_level edges v < a + n → value (cases (map (level_when x edges) (range_with_len a n)) last) ≡ Num (pos (graph_level edges v))
      level_inside inside zero a last low high = absurd (omega arith)
      level_inside inside (suc n) a last low high =
          cases_read tables scopes (is_among x (values_of_level edges a)) (number a) (map (level_when x edges) (range_with_len (a + 1) n)) last (nat_eq (graph_level edges v) a)
          (of_level a ∙ ap truth_of (and_true (is_in values v) (nat_eq (graph_level edges v) a) inside))
          ∙ (elim (cases_eq (graph_level edges v) a) [
            | inl same ↦ cond-true (nat_eq (graph_level edges v) a) _ _ (eq-eqb (graph_level edges v) a same) ∙ number_read tables scopes a ∙ ap (λ m. Num (pos m)) (sym same)
            | inr other ↦
                cond-false (nat_eq (graph_level edges v) a) _ _ (ne_eqb (graph_level edges v) a other)
                ∙ level_inside inside n (a + 1) last (omega (arith, other)) (omega arith)
          ])

      level_outside : is_in values v ≡ false → (n a : ℕ) (last : SqlScalar) → value (cases (map (level_when x edges) (range_with_len a n)) last) ≡ value last
      level_outside outside zero a last = cases_end tables scopes last
      level_outside outside (suc n) a last =
          cases_read tables scopes (is_among x (values_of_level edges a)) (number a) (map (level_when x edges) (range_with_len (a + 1) n)) last false
          (of_level a ∙ ap truth_of (and_false (is_in values v) (nat_eq (graph_level edges v) a) outside))
          ∙ level_outside outside n (a + 1) last

      by_graph : value (cases (level_whens x edges) (number (greatest_level edges + 1))) ≡ Num (pos (graph_level edges v))
      by_graph =
          elim (cases_Bool (is_in values v)) [
            | inl inside ↦
                let at : graph_level edges v ≡ graph_height edges v + 1 = cond-true (is_in values v) _ _ inside in
                let most : graph_height edges v ≤ greatest (map (graph_height edges) values) = greatest_number (graph_height edges) values v (among_is values v inside) in
                level_inside inside (greatest_level edges) 1 (number (greatest_level edges + 1)) (omega (arith, at)) (omega (arith, at, most))
            | inr outside ↦
                let at : graph_level edges v ≡ greatest (map (graph_height edges) values) + 2 = cond-false (is_in values v) _ _ outside in
                let e : greatest_level edges + 1 ≡ graph_level edges v = omega (arith, at) in
                level_outside outside (greatest_level edges) 1 (number (greatest_level edges + 1)) ∙ number_read tables scopes (greatest_level edges + 1) ∙ ap (λ m. Num (pos m)) e
          ]

      code_from : (n : ℕ) (ws : List Value) → All IsValue ws → value (cases (code_whens x n ws) (number 0)) ≡ Num (pos (cond (is_in ws v) (n + place_of ws v) 0))
      code_from n [] all = cases_end tables scopes (number 0) ∙ number_read tables scopes 0
      code_from n (w ∷ ws) all =
          cases_read tables scopes (Compare Eq x (literal w)) (number n) (code_whens x (n + 1) ws) (number 0) (value_eq w v)
          (truth_in-Compare tables Eq x (literal w) scopes
          ∙ (λ j. comparison Eq (is j) (literal_read tables scopes w j))
          ∙ equal_values v w known (All-head IsValue w ws all)
          ∙ ap truth_of (value_eq-equivalence.symm v w))
          ∙ (λ j. cond (value_eq w v) (number_read tables scopes n j) (code_from (n + 1) ws (All-tail IsValue w ws all) j))
          ∙ code_step (value_eq w v) (is_in ws v) n (place_of ws v)

      pub code_read : value_in tables (code_scalar edges x) scopes ≡ Num (pos (code_of edges v))
      code_read =
          let e : 1 + place_of values v ≡ place_of values v + 1 = omega arith in
          code_from 1 values all_values ∙ ap (λ n. Num (pos (cond (is_in values v) n 0))) e

module _ (tables : Tables) (scopes : Scopes) (x : SqlScalar) where
  around_read : (z : ℤ) (v : Value) → value_in tables x scopes ≡ v → IsJudged (Around z) v → value_in tables (rank_scalar (Around z) x) scopes ≡ rank_of (Around z) v
  around_read z (Num n) is judged =
      let z_is = value_in-Number tables z scopes in
      cases_read tables scopes (Compare Lt x (Number z)) (less (Number z) x) [] (less x (Number z)) (int_lt n z)
      (truth_in-Compare tables Lt x (Number z) scopes ∙ (λ j. comparison Lt (is j) (z_is j)) ∙ less_is n z)
      ∙ (λ j. cond (int_lt n z) (less_read tables scopes (Number z) x z n z_is is j) ((cases_end tables scopes (less x (Number z)) ∙ less_read tables scopes x (Number z) n z is z_is) j))
      ∙ distance_picked z n
  around_read z (Str s) is judged = absurd judged
  around_read z Null is judged = absurd judged

  between_read : (low up : ℤ) (v : Value) → value_in tables x scopes ≡ v → IsJudged (Between low up) v → value_in tables (rank_scalar (Between low up) x) scopes ≡ rank_of (Between low up) v
  between_read low up (Num n) is judged =
      let low_is = value_in-Number tables low scopes in
      let up_is = value_in-Number tables up scopes in
      let above = when_so (Compare Gt x (Number up)) (less x (Number up)) in
      cases_read tables scopes (Compare Lt x (Number low)) (less (Number low) x) (above ∷ []) (number 0) (int_lt n low)
      (truth_in-Compare tables Lt x (Number low) scopes ∙ (λ j. comparison Lt (is j) (low_is j)) ∙ less_is n low)
      ∙ (λ j. cond (int_lt n low)
      ((less_read tables scopes (Number low) x low n low_is is ∙ ap Num (difference_is low n)) j)
      ((cases_read tables scopes (Compare Gt x (Number up)) (less x (Number up)) [] (number 0) (int_lt up n)
      (truth_in-Compare tables Gt x (Number up) scopes ∙ (λ i. comparison Gt (is i) (up_is i)) ∙ greater_is n up)
      ∙ (λ i. cond (int_lt up n) ((less_read tables scopes x (Number up) n up is up_is ∙ ap Num (difference_is n up)) i) ((cases_end tables scopes (number 0) ∙ number_read tables scopes 0) i))) j))
      ∙ between_picked (int_lt n low) (int_lt up n) (low -ℤ n) (n -ℤ up)
  between_read low up (Str s) is judged = absurd judged
  between_read low up Null is judged = absurd judged

  -- the rank, for a value that the kind judges
  pub rank_read : (kind : Kind) → IsSound kind → (v : Value) → value_in tables x scopes ≡ v → IsJudged kind v → value_in tables (rank_scalar kind x) scopes ≡ rank_of kind v
  rank_read (Pos s) sound v is judged = by_set tables scopes x v is judged s.values 1 2 (set_values s (All-head IsKeptSet s [] sound.each))
  rank_read (Neg s) sound v is judged = by_set tables scopes x v is judged s.values 2 1 (set_values s (All-head IsKeptSet s [] sound.each))
  rank_read (PosPos first second) sound v is judged =
      by_two_sets tables scopes x v is judged first.values second.values 1 2 3 (set_values first (All-head IsKeptSet first (second ∷ []) sound.each))
      (set_values second (All-head IsKeptSet second [] (All-tail IsKeptSet first (second ∷ []) sound.each)))
  rank_read (PosNeg good bad) sound v is judged =
      by_two_sets tables scopes x v is judged good.values bad.values 1 3 2 (set_values good (All-head IsKeptSet good (bad ∷ []) sound.each))
      (set_values bad (All-head IsKeptSet bad [] (All-tail IsKeptSet good (bad ∷ []) sound.each)))
  rank_read (Layered before after) sound v is judged =
      by_layers tables scopes x v is judged before after (All-first IsKeptSet before after sound.sets.each) (All-second IsKeptSet before after sound.sets.each)
  rank_read (Explicit g) sound v is judged = by_graph tables scopes x v is judged g.edges sound.literal
  rank_read (Around z) sound v is judged = around_read z v is judged
  rank_read (Between low up) sound v is judged = between_read low up v is judged
  rank_read Lowest sound v is judged = is
  rank_read Highest sound v is judged = is
