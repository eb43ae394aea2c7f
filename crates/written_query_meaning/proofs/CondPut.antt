-- A condition put into SQL has the truth of the condition, where each of its scalars has its value.
use Rattle.std.proofs.Common.{◌≡◌, ℤ, pos, Bool, ◌||◌, List, [], ◌∷◌, map, All, Decides, refl, sym, ap, ◌∙◌, subst}
use Rattle.std.specs.Prelude.{IsTrue}
use Rattle.std.specs.List.{flat_map}
use Rattle.std.specs.Cmp.{int_ranks}
use Rattle.std.specs.Ordering.{MatchOrdering, int_cmp, int_eq, is_eq}
use Rattle.std.specs.declared.cmp.Ordering.{Ordering}
use Rattle.std.specs.declared.cmp.Ordering.TheVariants.{Less, Equal, Greater}
use Rattle.std.proofs.Common.{◌<ℤ◌, arith}
use Rattle.std.proofs.lemmas.Bool.{false≢true}
use Rattle.std.proofs.lemmas.Bool.Decides.{Decides-int_eq, same_from_decides}
use Rattle.std.proofs.lemmas.Int.{ints}
use Rattle.std.proofs.lemmas.List.Elements.{All-head, All-tail}
use Rattle.prefsql_values.specs.declared.value.CompareOp.{CompareOp}
use Rattle.prefsql_values.specs.declared.value.CompareOp.TheVariants.{Eq}
use Rattle.prefsql_values.specs.declared.value.Value.{Value}
use Rattle.prefsql_values.specs.declared.value.Value.TheVariants.{Num}
use Rattle.prefsql_values.specs.Truth.{all_true, any_true, negated, negated_if}
use Rattle.prefsql_values.specs.Value.{between, comparison, is_null, one_of, truth_of}
use Rattle.prefsql_tables.specs.declared.place.ColumnPlace.{ColumnPlace}
use Rattle.prefsql_tables.specs.Sight.{Sight}
use Rattle.prefsql_tables.specs.Table.{Tables}
use Rattle.base_prefs.specs.declared.kind.Kind.{Kind}
use Rattle.base_prefs.specs.declared.kind.Kind.TheVariants.{Pos, Neg, PosPos, PosNeg, Layered, Explicit, Around, Between, Lowest, Highest}
use Rattle.base_prefs.specs.Graph.{graph_level}
use Rattle.base_prefs.specs.Kind.{distance_from, distance_of, distance_to, has_distance, has_level, layer_of, level_of, number_of}
use Rattle.pref_terms.specs.TermLaws.{All-first, All-second}
use Rattle.conditions.specs.declared.condition.Quality.{Quality}
use Rattle.conditions.specs.declared.condition.Scalar.{Scalar}
use Rattle.conditions.specs.declared.condition.Scalar.TheVariants as scalar
use Rattle.conditions.specs.declared.condition.Cond.{Cond}
use Rattle.conditions.specs.declared.condition.Cond as condition
use Rattle.conditions.specs.Meaning.{is_best, quality_of, scalar_value, scalars_of, truth}
use Rattle.conditions.proofs.CondInduction.{cond_induction}
use Rattle.conditions.proofs.CondReads.{truth-And, truth-Or, truth-Not, truth-Compare, truth-Between, truth-OneOf, truth-IsNull, truth-Top, scalars_of-And, scalars_of-Or, scalars_of-Not, scalars_of-Compare, scalars_of-Between, scalars_of-OneOf, scalars_of-IsNull, scalars_of-Top}
use Rattle.sql_tree.specs.declared.tree.SqlScalar.{SqlScalar}
use Rattle.sql_tree.specs.Meaning.{Scopes, truth_in, value_in}
use Rattle.sql_tree.proofs.MeaningLemmas.{truth_in-And, truth_in-Or, truth_in-Not, truth_in-Compare, truth_in-Between, truth_in-OneOf, truth_in-IsNull}
use Rattle.rewritten_query.specs.Conditions.{best_rank, cond_put, scalar_put}
use Rattle.rewritten_query.specs.Leaves.{number}
use Rattle.rewritten_query.proofs.ConditionReads.{put-And, put-Or, put-Not, put-Compare, put-Between, put-OneOf, put-IsNull, put-Top}
use Rattle.written_query_meaning.proofs.Compared.{equal_numbers}
use Rattle.written_query_meaning.proofs.Graphs.{equal_naturals}
use Rattle.written_query_meaning.proofs.Readings.{number_read}

-- ---- the best level or distance

equal_cases : (a b : ℤ) (o : Ordering) → MatchOrdering o (a <ℤ b) (a ≡ b) (b <ℤ a) → Decides (is_eq o) (a ≡ b)
equal_cases a b Less m = (λ h. absurd (false≢true h), λ e. absurd (omega (arith, ints, m, e)))
equal_cases a b Equal m = (λ h. m, λ e. refl)
equal_cases a b Greater m = (λ h. absurd (false≢true h), λ e. absurd (omega (arith, ints, m, e)))

pub equal_is : (a b : ℤ) → comparison Eq (Num a) (Num b) ≡ truth_of (int_eq a b)
equal_is a b = equal_numbers a b ∙ ap truth_of (same_from_decides (is_eq (int_cmp a b)) (int_eq a b) (equal_cases a b (int_cmp a b) (int_ranks a b)) (Decides-int_eq a b))

best_read : (kind : Kind) (v : Value) → IsTrue (has_level kind || has_distance kind)
    → comparison Eq (quality_of (level_of kind v) (distance_of kind v)) (Num (pos (best_rank kind))) ≡ truth_of (is_best (level_of kind v) (distance_of kind v))
best_read (Pos s) v has = equal_naturals _ 1
best_read (Neg s) v has = equal_naturals _ 1
best_read (PosPos s t) v has = equal_naturals _ 1
best_read (PosNeg s t) v has = equal_naturals _ 1
best_read (Layered before after) v has = equal_naturals (layer_of before after v) 1
best_read (Explicit g) v has = equal_naturals (graph_level g.edges v) 1
best_read (Around z) v has = equal_is (distance_from z (number_of v)) (pos 0)
best_read (Between low up) v has = equal_is (distance_to low up (number_of v)) (pos 0)
best_read Lowest v has = absurd (false≢true has)
best_read Highest v has = absurd (false≢true has)

module _ (tables : Tables) (scopes : Scopes) (column : ColumnPlace → SqlScalar) (quality : Quality → SqlScalar) (sight : Sight) where
  abbrev pub HasBest : Scalar → Type 0
  HasBest (scalar.Column place) = Unit {0}
  HasBest (scalar.Literal value) = Unit {0}
  HasBest (scalar.Quality q) = IsTrue (has_level q.base || has_distance q.base)

  -- the scalar as it is put has its value, and a quality has a best one
  pub record IsRead (s : Scalar) : Type 0 where
    pub value : value_in tables (scalar_put column quality s) scopes ≡ scalar_value sight s
    pub best : HasBest s

  abbrev IsPut : Cond → Type 0
  IsPut c = All IsRead (scalars_of c) → truth_in tables (cond_put column quality c) scopes ≡ truth sight c

  list_read : (list : List Scalar) → All IsRead list → map (λ b. value_in tables b scopes) (map (scalar_put column quality) list) ≡ map (scalar_value sight) list
  list_read [] all = refl
  list_read (s ∷ list) all = λ j. (All-head IsRead s list all).value j ∷ list_read list (All-tail IsRead s list all) j

  parts_read : (parts : List Cond) → All IsPut parts → All IsRead (flat_map (λ scalars. scalars) (map scalars_of parts)) → map (λ part. truth_in tables part scopes) (map (cond_put column quality) parts) ≡ map (truth sight) parts
  parts_read [] puts all = refl
  parts_read (part ∷ parts) puts all = λ j.
      All-head IsPut part parts puts (All-first IsRead (scalars_of part) (flat_map (λ scalars. scalars) (map scalars_of parts)) all) j
      ∷ parts_read parts (All-tail IsPut part parts puts) (All-second IsRead (scalars_of part) (flat_map (λ scalars. scalars) (map scalars_of parts)) all) j

  reads : (c : Cond) (scalars : List Scalar) → scalars_of c ≡ scalars → All IsRead (scalars_of c) → All IsRead scalars
  reads c scalars is all = subst (All IsRead) is all

  at_and : (parts : List Cond) → All IsPut parts → IsPut (condition.And parts)
  at_and parts puts all =
      ap (λ c. truth_in tables c scopes) (put-And column quality parts)
      ∙ truth_in-And tables (map (cond_put column quality) parts) scopes
      ∙ ap all_true (parts_read parts puts (reads (condition.And parts) _ (scalars_of-And parts) all))
      ∙ sym (truth-And sight (condition.And parts) parts refl)

  at_or : (parts : List Cond) → All IsPut parts → IsPut (condition.Or parts)
  at_or parts puts all =
      ap (λ c. truth_in tables c scopes) (put-Or column quality parts)
      ∙ truth_in-Or tables (map (cond_put column quality) parts) scopes
      ∙ ap any_true (parts_read parts puts (reads (condition.Or parts) _ (scalars_of-Or parts) all))
      ∙ sym (truth-Or sight (condition.Or parts) parts refl)

  at_not : (part : Cond) → IsPut part → IsPut (condition.Not part)
  at_not part is all =
      ap (λ c. truth_in tables c scopes) (put-Not column quality part)
      ∙ truth_in-Not tables (cond_put column quality part) scopes
      ∙ ap negated (is (reads (condition.Not part) _ (scalars_of-Not part) all))
      ∙ sym (truth-Not sight (condition.Not part) part refl)

  at_compare : (op : CompareOp) (a b : Scalar) → IsPut (condition.Compare op a b)
  at_compare op a b all =
      let two = reads (condition.Compare op a b) (a ∷ b ∷ []) (scalars_of-Compare op a b) all in
      let first = All-head IsRead a (b ∷ []) two in
      let second = All-head IsRead b [] (All-tail IsRead a (b ∷ []) two) in
      ap (λ c. truth_in tables c scopes) (put-Compare column quality op a b)
      ∙ truth_in-Compare tables op (scalar_put column quality a) (scalar_put column quality b) scopes
      ∙ (λ j. comparison op (first.value j) (second.value j))
      ∙ sym (truth-Compare sight (condition.Compare op a b) op a b refl)

  at_between : (negate : Bool) (a low high : Scalar) → IsPut (condition.Between negate a low high)
  at_between negate a low high all =
      let three = reads (condition.Between negate a low high) (a ∷ low ∷ high ∷ []) (scalars_of-Between negate a low high) all in
      let more = All-tail IsRead a (low ∷ high ∷ []) three in
      let first = All-head IsRead a (low ∷ high ∷ []) three in
      let second = All-head IsRead low (high ∷ []) more in
      let third = All-head IsRead high [] (All-tail IsRead low (high ∷ []) more) in
      ap (λ c. truth_in tables c scopes) (put-Between column quality negate a low high)
      ∙ truth_in-Between tables negate (scalar_put column quality a) (scalar_put column quality low) (scalar_put column quality high) scopes
      ∙ (λ j. negated_if negate (between (first.value j) (second.value j) (third.value j)))
      ∙ sym (truth-Between sight (condition.Between negate a low high) negate a low high refl)

  at_one_of : (negate : Bool) (a : Scalar) (list : List Scalar) → IsPut (condition.OneOf negate a list)
  at_one_of negate a list all =
      let some = reads (condition.OneOf negate a list) (a ∷ list) (scalars_of-OneOf negate a list) all in
      let first = All-head IsRead a list some in
      ap (λ c. truth_in tables c scopes) (put-OneOf column quality negate a list)
      ∙ truth_in-OneOf tables negate (scalar_put column quality a) (map (scalar_put column quality) list) scopes
      ∙ (λ j. negated_if negate (one_of (first.value j) (list_read list (All-tail IsRead a list some) j)))
      ∙ sym (truth-OneOf sight (condition.OneOf negate a list) negate a list refl)

  at_is_null : (negate : Bool) (a : Scalar) → IsPut (condition.IsNull negate a)
  at_is_null negate a all =
      let first = All-head IsRead a [] (reads (condition.IsNull negate a) (a ∷ []) (scalars_of-IsNull negate a) all) in
      ap (λ c. truth_in tables c scopes) (put-IsNull column quality negate a)
      ∙ truth_in-IsNull tables negate (scalar_put column quality a) scopes
      ∙ (λ j. negated_if negate (truth_of (is_null (first.value j))))
      ∙ sym (truth-IsNull sight (condition.IsNull negate a) negate a refl)

  at_top : (q : Quality) → IsPut (condition.Top q)
  at_top q all =
      let first = All-head IsRead (scalar.Quality q) [] (reads (condition.Top q) (scalar.Quality q ∷ []) (scalars_of-Top q) all) in
      ap (λ c. truth_in tables c scopes) (put-Top column quality q)
      ∙ truth_in-Compare tables Eq (quality q) (number (best_rank q.base)) scopes
      ∙ (λ j. comparison Eq (first.value j) (number_read tables scopes (best_rank q.base) j))
      ∙ best_read q.base (sight q.place) first.best
      ∙ sym (truth-Top sight (condition.Top q) q refl)

  pub put_read : (c : Cond) → All IsRead (scalars_of c) → truth_in tables (cond_put column quality c) scopes ≡ truth sight c
  put_read = cond_induction IsPut at_and at_or at_not at_compare at_between at_one_of at_is_null at_top
