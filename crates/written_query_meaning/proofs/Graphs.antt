-- The condition on the codes of an EXPLICIT leaf says which value is better by its graph.
use Rattle.std.proofs.Common.{◌≡◌, ℕ, ◌+◌, ◌<◌, pos, Bool, true, false, cond, not, ◌&&◌, ◌||◌, List, [], ◌∷◌, map, nat_eq, refl, sym, ap, ◌∙◌, arith, inl, inr}
use Rattle.std.specs.List.{list_any}
use Rattle.std.specs.Ordering.{int_cmp, is_eq}
use Rattle.std.specs.declared.cmp.Ordering.{Ordering}
use Rattle.std.specs.declared.cmp.Ordering.TheVariants.{Less, Equal, Greater}
use Rattle.std.specs.Ordering.{MatchOrdering}
use Rattle.std.specs.Cmp.{int_ranks}
use Rattle.std.proofs.Common.{◌<ℤ◌}
use Rattle.std.proofs.lemmas.Bool.{cases_Bool, cond-true, cond-false, eq-eqb, ne_eqb, or_from, or_left, or_right, and_left, and_right, and_from, both_ways, false_from_ne_true, false≢true, not_from_true, not_from_false}
use Rattle.std.proofs.lemmas.Int.{ints}
use Rattle.prefsql_values.specs.declared.truth.Truth.TheVariants as truths
use Rattle.prefsql_values.specs.declared.value.CompareOp.TheVariants.{Eq}
use Rattle.prefsql_values.specs.declared.value.Value.{Value}
use Rattle.prefsql_values.specs.declared.value.Value.TheVariants.{Num}
use Rattle.prefsql_values.specs.Truth.{any_true, both_true, either_true}
use Rattle.prefsql_values.specs.Value.{comparison, one_of, truth_of, value_eq}
use Rattle.prefsql_values.proofs.ValueEq.{value_eq-Decides}
use Rattle.prefsql_tables.specs.Table.{Tables}
use Rattle.order_laws.proofs.Members.{any_from}
use Rattle.base_prefs.specs.declared.edge.Edge.{Edge}
use Rattle.base_prefs.specs.Graph.{explicit_better, graph_values, is_above}
use Rattle.base_prefs.specs.GraphLaws.{above_upper}
use Rattle.base_prefs.specs.Values.{is_in, place_of}
use Rattle.sql_tree.specs.declared.tree.SqlCond.{Or, Compare, OneOf}
use Rattle.sql_tree.specs.declared.tree.SqlScalar.{SqlScalar}
use Rattle.sql_tree.specs.Meaning.{Scopes, truth_in, value_in}
use Rattle.sql_tree.proofs.MeaningLemmas.{truth_in-And, truth_in-Or, truth_in-Compare, truth_in-OneOf}
use Rattle.written_query_meaning.specs.Held.{code_of}
use Rattle.rewritten_query.specs.Leaves.{number}
use Rattle.rewritten_query.specs.Rankings.{code_part, code_parts, codes_where}
use Rattle.written_query_meaning.proofs.Compared.{both_of, either_of, equal_numbers}
use Rattle.written_query_meaning.proofs.Readings.{number_read}

equal_cases : (a b : ℕ) (o : Ordering) → MatchOrdering o (pos a <ℤ pos b) (pos a ≡ pos b) (pos b <ℤ pos a) → is_eq o ≡ nat_eq a b
equal_cases a b Less h = sym (ne_eqb a b (λ e. absurd (omega (arith, ints, h, e))))
equal_cases a b Equal h = sym (eq-eqb a b (omega (arith, ints, h)))
equal_cases a b Greater h = sym (ne_eqb a b (λ e. absurd (omega (arith, ints, h, e))))

-- two natural numbers
pub equal_naturals : (a b : ℕ) → comparison Eq (Num (pos a)) (Num (pos b)) ≡ truth_of (nat_eq a b)
equal_naturals a b = equal_numbers (pos a) (pos b) ∙ ap truth_of (equal_cases a b (int_cmp (pos a) (pos b)) (int_ranks (pos a) (pos b)))

abbrev numbers : List ℕ → List Value
numbers = map (λ n. Num (pos n))

one_of_numbers : (c : ℕ) (ns : List ℕ) → one_of (Num (pos c)) (numbers ns) ≡ truth_of (list_any (nat_eq c) ns)
one_of_numbers c [] = refl
one_of_numbers c (n ∷ ns) = (λ j. either_true (equal_naturals c n j) (one_of_numbers c ns j)) ∙ either_of (nat_eq c n) (list_any (nat_eq c) ns)

pub both_last : (b : Bool) → both_true (truth_of b) truths.True ≡ truth_of b
both_last true = refl
both_last false = refl

-- ---- codes

codes_cond : (b : Bool) (c n : ℕ) (more : List ℕ) → list_any (nat_eq c) (cond b (n ∷ more) more) ≡ ((b && nat_eq c n) || list_any (nat_eq c) more)
codes_cond true c n more = refl
codes_cond false c n more = refl

codes_none : (passes : Value → Bool) (c n : ℕ) (values : List Value) → c < n → list_any (nat_eq c) (codes_where passes n values) ≡ false
codes_none passes c n [] h = refl
codes_none passes c n (v ∷ values) h =
    codes_cond (passes v) c n (codes_where passes (n + 1) values)
    ∙ or_from (passes v && nat_eq c n) _ (and_right (passes v) (nat_eq c n) (ne_eqb c n (λ e. absurd (omega (arith, h, e))))) (codes_none passes c (n + 1) values (omega arith))

and_is : (b c : Bool) → c ≡ true → (b && c) ≡ b
and_is true c h = h
and_is false c h = refl

or_none : (b c : Bool) → c ≡ false → (b || c) ≡ b
or_none true c h = refl
or_none false c h = h

or_skip : (b c : Bool) → b ≡ false → (b || c) ≡ c
or_skip true c h = absurd (false≢true (sym h))
or_skip false c h = refl

-- the code of a value is among those of the values that pass exactly where it passes
codes_found : (passes : Value → Bool) (c n : ℕ) (values : List Value) (v : Value) → is_in values v ≡ true → c ≡ n + place_of values v → list_any (nat_eq c) (codes_where passes n values) ≡ passes v
codes_found passes c n [] v inside at = absurd (false≢true inside)
codes_found passes c n (w ∷ values) v inside at =
    codes_cond (passes w) c n (codes_where passes (n + 1) values)
    ∙ (elim (cases_Bool (value_eq w v)) [
      | inl same ↦
          let here : cond (value_eq w v) 0 (place_of values v + 1) ≡ 0 = cond-true (value_eq w v) 0 (place_of values v + 1) same in
          let c_is : c ≡ n = omega (arith, at, here) in
          or_none (passes w && nat_eq c n) _ (codes_none passes c (n + 1) values (omega (arith, c_is)))
          ∙ and_is (passes w) (nat_eq c n) (eq-eqb c n c_is)
          ∙ ap passes ((value_eq-Decides w v).0 same)
      | inr other ↦
          let there : cond (value_eq w v) 0 (place_of values v + 1) ≡ place_of values v + 1 = cond-false (value_eq w v) 0 (place_of values v + 1) other in
          or_skip (passes w && nat_eq c n) _ (and_right (passes w) (nat_eq c n) (ne_eqb c n (λ e. absurd (omega (arith, at, there, e)))))
          ∙ codes_found passes c (n + 1) values v (sym (or_skip (value_eq w v) (is_in values v) other) ∙ inside) (omega (arith, at, there))
    ])

module _ (edges : List Edge) (y x : Value) where
  abbrev values : List Value
  values = graph_values edges

  -- what the part of a value asks of the candidate
  abbrev covers : Value → Bool
  covers v = list_any (nat_eq (code_of edges x)) (0 ∷ codes_where (is_above edges v) 1 values)

  -- whether the part of the rival's value covers the candidate
  abbrev hit : ℕ → List Value → Bool
  hit n [] = false
  hit n (v ∷ vs) = (nat_eq (code_of edges y) n && covers v) || hit (n + 1) vs

  hit_none : (n : ℕ) (vs : List Value) → code_of edges y < n → hit n vs ≡ false
  hit_none n [] h = refl
  hit_none n (v ∷ vs) h =
      or_from (nat_eq (code_of edges y) n && covers v) (hit (n + 1) vs) (and_left (nat_eq (code_of edges y) n) (covers v) (ne_eqb (code_of edges y) n (λ e. absurd (omega (arith, h, e)))))
      (hit_none (n + 1) vs (omega (arith, h)))

  hit_found : (n : ℕ) (vs : List Value) → is_in vs y ≡ true → code_of edges y ≡ n + place_of vs y → hit n vs ≡ covers y
  hit_found n [] inside at = absurd (false≢true inside)
  hit_found n (v ∷ vs) inside at =
      elim (cases_Bool (value_eq v y)) [
        | inl same ↦
            let here : cond (value_eq v y) 0 (place_of vs y + 1) ≡ 0 = cond-true (value_eq v y) 0 (place_of vs y + 1) same in
            let code_is : code_of edges y ≡ n = omega (arith, at, here) in
            or_none (nat_eq (code_of edges y) n && covers v) (hit (n + 1) vs) (hit_none (n + 1) vs (omega (arith, code_is)))
            ∙ ap (λ b. b && covers v) (eq-eqb (code_of edges y) n code_is)
            ∙ ap covers ((value_eq-Decides v y).0 same)
        | inr other ↦
            let there : cond (value_eq v y) 0 (place_of vs y + 1) ≡ place_of vs y + 1 = cond-false (value_eq v y) 0 (place_of vs y + 1) other in
            or_skip (nat_eq (code_of edges y) n && covers v) (hit (n + 1) vs) (and_left (nat_eq (code_of edges y) n) (covers v) (ne_eqb (code_of edges y) n (λ e. absurd (omega (arith, at, there, e)))))
            ∙ hit_found (n + 1) vs (sym (or_skip (value_eq v y) (is_in vs y) other) ∙ inside) (omega (arith, at, there))
      ]

  not_above : is_in values y ≡ false → is_above edges y x ≡ false
  not_above outside =
      false_from_ne_true (is_above edges y x) (λ up. both_ways (is_in values y) outside (any_from (λ w. value_eq w y) values y (above_upper edges y x up) ((value_eq-Decides y y).1 refl)))

  covers_is : is_in values y ≡ true → covers y ≡ explicit_better edges y x
  covers_is inside =
      elim (cases_Bool (is_in values x)) [
        | inl below ↦
            let code : code_of edges x ≡ place_of values x + 1 = cond-true (is_in values x) (place_of values x + 1) 0 below in
            or_skip (nat_eq (code_of edges x) 0) _ (ne_eqb (code_of edges x) 0 (λ e. absurd (omega (arith, code, e))))
            ∙ codes_found (is_above edges y) (code_of edges x) 1 values x below (omega (arith, code))
            ∙ sym (or_none (is_above edges y x) (is_in values y && not (is_in values x)) (and_right (is_in values y) (not (is_in values x)) (not_from_true (is_in values x) below)))
        | inr outside ↦
            let code : code_of edges x ≡ 0 = cond-false (is_in values x) (place_of values x + 1) 0 outside in
            or_left (nat_eq (code_of edges x) 0) _ (eq-eqb (code_of edges x) 0 code)
            ∙ sym (or_right (is_above edges y x) (is_in values y && not (is_in values x)) (and_from (is_in values y) (not (is_in values x)) inside (not_from_false (is_in values x) outside)))
      ]

  hit_is : hit 1 values ≡ explicit_better edges y x
  hit_is =
      elim (cases_Bool (is_in values y)) [
        | inl inside ↦
            let code : code_of edges y ≡ place_of values y + 1 = cond-true (is_in values y) (place_of values y + 1) 0 inside in
            hit_found 1 values inside (omega (arith, code)) ∙ covers_is inside
        | inr outside ↦
            let code : code_of edges y ≡ 0 = cond-false (is_in values y) (place_of values y + 1) 0 outside in
            hit_none 1 values (omega (arith, code))
            ∙ sym (or_from (is_above edges y x) (is_in values y && not (is_in values x)) (not_above outside) (and_left (is_in values y) (not (is_in values x)) outside))
      ]

  module _ (tables : Tables) (scopes : Scopes) (upper lower : ℕ → SqlScalar) (column : ℕ)
      (upper_is : value_in tables (upper column) scopes ≡ Num (pos (code_of edges y))) (lower_is : value_in tables (lower column) scopes ≡ Num (pos (code_of edges x))) where
    numbers_read : (ns : List ℕ) → map (λ b. value_in tables b scopes) (map number ns) ≡ numbers ns
    numbers_read [] = refl
    numbers_read (n ∷ ns) = λ j. number_read tables scopes n j ∷ numbers_read ns j

    part_read : (n : ℕ) (v : Value) → truth_in tables (code_part upper lower edges column n v) scopes ≡ truth_of (nat_eq (code_of edges y) n && covers v)
    part_read n v =
        let codes = 0 ∷ codes_where (is_above edges v) 1 values in
        let of_code : truth_in tables (Compare Eq (upper column) (number n)) scopes ≡ truth_of (nat_eq (code_of edges y) n) =
        truth_in-Compare tables Eq (upper column) (number n) scopes ∙ (λ j. comparison Eq (upper_is j) (number_read tables scopes n j)) ∙ equal_naturals (code_of edges y) n in
        let of_codes : truth_in tables (OneOf false (lower column) (map number codes)) scopes ≡ truth_of (covers v) =
        truth_in-OneOf tables false (lower column) (map number codes) scopes ∙ (λ j. one_of (lower_is j) (numbers_read codes j)) ∙ one_of_numbers (code_of edges x) codes in
        truth_in-And tables (Compare Eq (upper column) (number n) ∷ OneOf false (lower column) (map number codes) ∷ []) scopes
        ∙ (λ j. both_true (of_code j) (both_true (of_codes j) truths.True))
        ∙ ap (both_true (truth_of (nat_eq (code_of edges y) n))) (both_last (covers v))
        ∙ both_of (nat_eq (code_of edges y) n) (covers v)

    parts_read : (n : ℕ) (vs : List Value) → any_true (map (λ part. truth_in tables part scopes) (code_parts upper lower edges column n vs)) ≡ truth_of (hit n vs)
    parts_read n [] = refl
    parts_read n (v ∷ vs) = (λ j. either_true (part_read n v j) (parts_read (n + 1) vs j)) ∙ either_of (nat_eq (code_of edges y) n && covers v) (hit (n + 1) vs)

    pub explicit_read : truth_in tables (Or (code_parts upper lower edges column 1 (graph_values edges))) scopes ≡ truth_of (explicit_better edges y x)
    explicit_read = truth_in-Or tables (code_parts upper lower edges column 1 values) scopes ∙ parts_read 1 values ∙ ap truth_of hit_is
