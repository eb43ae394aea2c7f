-- What a leaf ranks by is a well formed number, over a column that its base preference can rank.
use Rattle.std.proofs.Common.{◌≡◌, ℕ, suc, ◌+◌, ◌≤◌, ◌<◌, ◌^◌, Bool, true, false, Some, List, [], ◌∷◌, ◌++◌, map, length, refl, sym, ap, subst, arith, inl, inr, length-append}
use Rattle.std.specs.List.{range_with_len}
use Rattle.std.proofs.lemmas.Bool.Decides.{nat_tests}
use Rattle.std.proofs.lemmas.List.{length-map}
use Rattle.std.proofs.lemmas.List.Elements.{All-contains}
use Rattle.std.proofs.lemmas.List.FromFn.{length-map-range_with_len}
use Rattle.prefsql_values.specs.Limits.{IsLiteralValue}
use Rattle.prefsql_values.specs.declared.value.CompareOp.TheVariants.{Eq, Lt, Gt}
use Rattle.prefsql_values.specs.declared.value.Domain.{Domain}
use Rattle.prefsql_values.specs.declared.value.Domain.TheVariants.{Integer}
use Rattle.prefsql_values.specs.declared.value.Domain.TheVariants as domain
use Rattle.prefsql_values.specs.declared.value.Value.{Value}
use Rattle.prefsql_values.specs.declared.value.Value.TheVariants.{Num, Str, Null}
use Rattle.order_laws.proofs.Members.{Among, Contains_from_among, among_back, among_either, among_front, among_filter, among_kept, among_map, among_range}
use Rattle.base_prefs.specs.Graph.{graph_height, graph_values, is_above}
use Rattle.base_prefs.specs.KindLimits.{IsKeptGraph, IsSound}
use Rattle.base_prefs.specs.Rankable.{ranks_numbers}
use Rattle.base_prefs.specs.Sets.{AreKeptSets, IsKeptSet, written}
use Rattle.base_prefs.specs.declared.edge.Edge.{Edge}
use Rattle.base_prefs.specs.declared.edge.ValueSet.{ValueSet}
use Rattle.base_prefs.specs.declared.kind.Kind.{Kind}
use Rattle.base_prefs.specs.declared.kind.Kind.TheVariants.{Pos, Neg, PosPos, PosNeg, Layered, Explicit, Around, Between, Lowest, Highest}
use Rattle.base_prefs.proofs.GraphLevels.{level_occurs, two_values}
use Rattle.base_prefs.proofs.Heights.{height_le}
use Rattle.base_prefs.proofs.LevelMeaning.{greatest_attained}
use Rattle.query_meaning.specs.Valid.{named_values, value_domain}
use Rattle.sql_tree.specs.declared.tree.SqlCond.{Compare}
use Rattle.sql_tree.specs.declared.tree.SqlScalar.{SqlScalar, Number}
use Rattle.sql_tree.specs.declared.tree.SqlWhen.{SqlWhen}
use Rattle.sql_tree.specs.Shown.{View}
use Rattle.rewritten_query.specs.Leaves.{cases, code_scalar, code_whens, greatest_level, is_among, less, level_when, level_whens, literal, number, rank_scalar, set_whens, values_of_level, when_so}
use Rattle.written_query_validity.proofs.Formed.{Compare_formed, Formed, IsCount, IsOf, IsPlain, OneOf_formed, cases_of, chars_of, count_of, less_of, number_of, number_plain, plain_is}

pub some_domain : (a b : Domain) → Some a ≡ Some b → a ≡ b
some_domain a b e = cc

-- a script can write the value, and it is of the domain
abbrev pub IsLiteralOf : Domain → Value → Type 0
IsLiteralOf d v = IsLiteralValue v × (value_domain v ≡ Some d)

-- some values that are so
pub record AreLiterals (d : Domain) (values : List Value) : Type 0 where
  pub some : 1 ≤ length values
  pub each : (v : Value) → Among values v → IsLiteralOf d v

-- the sets are so each
abbrev AreLiteralSets : Domain → List ValueSet → Type 0
AreLiteralSets d sets = (s : ValueSet) → Among sets s → AreLiterals d s.values

among_written : (sets : List ValueSet) (s : ValueSet) (v : Value) → Among sets s → Among s.values v → Among (written sets) v
among_written [] s v there has = absurd there
among_written (t ∷ sets) s v (inl is) has = among_front t.values (written sets) v (subst (λ (u : ValueSet). Among u.values v) (sym is) has)
among_written (t ∷ sets) s v (inr more) has = among_back t.values (written sets) v (among_written sets s v more has)

literal_sets : (d : Domain) (sets : List ValueSet) → AreKeptSets sets → ((v : Value) → Among (written sets) v → value_domain v ≡ Some d) → AreLiteralSets d sets
literal_sets d sets kept values s there =
    let is = All-contains IsKeptSet sets s kept.each (Contains_from_among sets s there) in
    record {
      some = omega (arith, is.given.some);
      each = λ v has. (All-contains IsLiteralValue s.values v is.given.literal (Contains_from_among s.values v has), values v (among_written sets s v there has));
    }

-- there are at most as many sets as values
few_sets : (d : Domain) (sets : List ValueSet) → AreLiteralSets d sets → length sets ≤ length (written sets)
few_sets d [] each = omega arith
few_sets d (s ∷ sets) each =
    let here = (each s (inl refl)).some in
    let more = few_sets d sets (λ t there. each t (inr there)) in
    omega (arith, here, more, length-append s.values (written sets))

-- a level is at most the number of values
height_few : (edges : List Edge) (v : Value) → length (graph_values edges) ≤ 16 → graph_height edges v ≤ 16
height_few edges v few = let small = height_le edges (length (graph_values edges)) v in omega (arith, small, few)

greatest_few : (edges : List Edge) → IsKeptGraph edges → 0 < length (graph_values edges) → greatest_level edges ≤ 17
greatest_few edges kept some =
    let top = greatest_attained (graph_height edges) (graph_values edges) some in
    let small = height_few edges top.0 kept.few in
    omega (arith, top.2, small)

module _ (writing : Bool) (view : View) (d : Domain) where
  pub literal_of : (v : Value) → IsLiteralOf d v → IsOf writing view d (literal v)
  literal_of (Num n) is = subst (λ e. IsOf writing view e (Number n)) (some_domain Integer d is.1) (number_of writing view n is.0)
  literal_of (Str text) is = subst (λ e. IsOf writing view e (literal (Str text))) (some_domain domain.Chars d is.1) (chars_of writing view text)
  literal_of Null is = absurd is.0

module _ (writing : Bool) (view : View) (d : Domain) (x : SqlScalar) (x_is : IsOf writing view d x) where
  among_formed : (values : List Value) → AreLiterals d values → Formed writing view (is_among x values)
  among_formed values are =
      OneOf_formed writing view false d x (map literal values) x_is (let same = length-map values literal in omega (arith, same, are.some))
      (λ b there.
      let found = among_map literal values b there in
      subst (IsOf writing view d) found.2 (literal_of writing view d found.0 (are.each found.0 found.1)))

  set_count : (values : List Value) (n : ℕ) → AreLiterals d values → n < 10 ^ 18 → IsCount writing view (when_so (is_among x values) (number n))
  set_count values n are small = record { cond = among_formed values are; value = count_of writing view n small }

  sets_count : (n : ℕ) (sets : List ValueSet) → AreLiteralSets d sets → n + length sets < 10 ^ 18 → (w : SqlWhen) → Among (set_whens x n sets) w → IsCount writing view w
  sets_count n [] are small w there = absurd there
  sets_count n (s ∷ sets) are small w (inl is) = subst (IsCount writing view) is (set_count s.values n (are s (inl refl)) (omega (arith, small)))
  sets_count n (s ∷ sets) are small w (inr more) = sets_count (n + 1) sets (λ t there. are t (inr there)) (omega (arith, small)) w more

  one_count : (v w : SqlWhen) → IsCount writing view v → Among (v ∷ []) w → IsCount writing view w
  one_count v w is (inl same) = subst (IsCount writing view) same is
  one_count v w is (inr none) = absurd none

  two_count : (u v w : SqlWhen) → IsCount writing view u → IsCount writing view v → Among (u ∷ v ∷ []) w → IsCount writing view w
  two_count u v w u_is v_is (inl same) = subst (IsCount writing view) same u_is
  two_count u v w u_is v_is (inr more) = one_count v w v_is more

  set_lengths : (n : ℕ) (sets : List ValueSet) → length (set_whens x n sets) ≡ length sets
  set_lengths n [] = refl
  set_lengths n (s ∷ sets) = ap suc (set_lengths (n + 1) sets)

  layers_of : (before after : List ValueSet) → AreLiteralSets d (before ++ after) → 0 < length (before ++ after) → length (before ++ after) ≤ 256
      → IsOf writing view Integer (rank_scalar (Layered before after) x)
  layers_of before after are some few =
      let first = set_whens x 1 before in
      let second = set_whens x (length before + 2) after in
      let both = length-append before after in
      let joined = length-append first second in
      let firsts = set_lengths 1 before in
      let seconds = set_lengths (length before + 2) after in
      cases_of writing view (first ++ second) (number (length before + 1))
      (omega (arith, some, both, joined, firsts, seconds))
      (λ w there. elim (among_either first second w there) [
        | inl early ↦ sets_count 1 before (λ s has. are s (among_front before after s has)) (omega (arith, both, few)) w early
        | inr late ↦ sets_count (length before + 2) after (λ s has. are s (among_back before after s has)) (omega (arith, both, few)) w late
      ])
      (count_of writing view (length before + 1) (omega (arith, both, few)))

  -- ---- graphs

  level_count : (edges : List Edge) → ((v : Value) → is_above edges v v ≡ false) → AreLiterals d (graph_values edges) → greatest_level edges ≤ 17
      → (n : ℕ) → 1 ≤ n → n ≤ greatest_level edges → IsCount writing view (level_when x edges n)
  level_count edges acyclic values few n first last =
      let found = level_occurs edges acyclic (omega (arith, values.some)) n first last in
      let here : Among (values_of_level edges n) found.0 = among_filter _ (graph_values edges) found.0 found.1 (let at = found.2 in grind (arith, nat_tests)) in
      let some : 1 ≤ length (values_of_level edges n) = some_among (values_of_level edges n) found.0 here in
      set_count (values_of_level edges n) n
      (record { some = some; each = λ v there. values.each v ((among_kept _ (graph_values edges) v there).0) })
      (omega (arith, last, few))
    where
      some_among : (values : List Value) (v : Value) → Among values v → 1 ≤ length values
      some_among [] v there = absurd there
      some_among (w ∷ values) v there = omega arith

  levels_of : (edges : List Edge) → ((v : Value) → is_above edges v v ≡ false) → AreLiterals d (graph_values edges) → greatest_level edges ≤ 17
      → IsOf writing view Integer (cases (level_whens x edges) (number (greatest_level edges + 1)))
  levels_of edges acyclic values few =
      let count = length-map-range_with_len (level_when x edges) 1 (greatest_level edges) in
      cases_of writing view (level_whens x edges) (number (greatest_level edges + 1))
      (omega (arith, count))
      (λ w there.
      let found = among_map (level_when x edges) (range_with_len 1 (greatest_level edges)) w there in
      let range = among_range 1 (greatest_level edges) found.0 found.1 in
      subst (IsCount writing view) found.2 (level_count edges acyclic values few found.0 range.0 (omega (arith, range.1))))
      (count_of writing view (greatest_level edges + 1) (omega (arith, few)))

  codes_count : (n : ℕ) (values : List Value) → ((v : Value) → Among values v → IsLiteralOf d v) → n + length values < 10 ^ 18 → (w : SqlWhen) → Among (code_whens x n values) w → IsCount writing view w
  codes_count n [] each small w there = absurd there
  codes_count n (v ∷ values) each small w (inl is) =
      subst (IsCount writing view) is
      (record { cond = Compare_formed writing view Eq d x (literal v) x_is (literal_of writing view d v (each v (inl refl))); value = count_of writing view n (omega (arith, small)) })
  codes_count n (v ∷ values) each small w (inr more) = codes_count (n + 1) values (λ u there. each u (inr there)) (omega (arith, small)) w more

  code_lengths : (n : ℕ) (values : List Value) → length (code_whens x n values) ≡ length values
  code_lengths n [] = refl
  code_lengths n (v ∷ values) = ap suc (code_lengths (n + 1) values)

  pub code_of : (edges : List Edge) → AreLiterals d (graph_values edges) → length (graph_values edges) ≤ 16 → IsOf writing view Integer (code_scalar edges x)
  code_of edges values few =
      let count = code_lengths 1 (graph_values edges) in
      cases_of writing view (code_whens x 1 (graph_values edges)) (number 0)
      (omega (arith, values.some, count))
      (codes_count 1 (graph_values edges) values.each (omega (arith, few)))
      (count_of writing view 0 (omega arith))

-- the values of a graph
pub graph_literals : (d : Domain) (edges : List Edge) → ((v : Value) → is_above edges v v ≡ false) → IsKeptGraph edges → ((v : Value) → Among (graph_values edges) v → value_domain v ≡ Some d)
    → AreLiterals d (graph_values edges)
graph_literals d edges acyclic kept values = record {
  some = (let two = two_values edges acyclic kept.some in omega (arith, two));
  each = λ v there. (All-contains IsLiteralValue (graph_values edges) v kept.literal (Contains_from_among (graph_values edges) v there), values v there);
}

-- the base preference names values of the domain, which is that of numbers where it ranks numbers
pub record RanksOf (d : Domain) (kind : Kind) : Type 0 where
  pub sound : IsSound kind
  pub values : (v : Value) → Among (named_values kind) v → value_domain v ≡ Some d
  pub numbers : ranks_numbers kind ≡ true → d ≡ Integer

module _ (writing : Bool) (view : View) (d : Domain) (x : SqlScalar) (x_is : IsOf writing view d x) (x_plain : d ≡ Integer → IsPlain writing view x) where
  one_set : (s : ValueSet) → AreLiteralSets d (s ∷ []) → (n : ℕ) → n < 10 ^ 18 → (other : ℕ) → other < 10 ^ 18 → IsOf writing view Integer (cases (when_so (is_among x s.values) (number n) ∷ []) (number other))
  one_set s are n small other other_small =
      cases_of writing view (when_so (is_among x s.values) (number n) ∷ []) (number other) (omega arith)
      (λ w there. one_count writing view d x x_is _ w (set_count writing view d x x_is s.values n (are s (inl refl)) small) there)
      (count_of writing view other other_small)

  two_sets : (s t : ValueSet) → AreLiteralSets d (s ∷ t ∷ []) → (n m other : ℕ) → n < 10 ^ 18 → m < 10 ^ 18 → other < 10 ^ 18
      → IsOf writing view Integer (cases (when_so (is_among x s.values) (number n) ∷ when_so (is_among x t.values) (number m) ∷ []) (number other))
  two_sets s t are n m other n_small m_small other_small =
      cases_of writing view (when_so (is_among x s.values) (number n) ∷ when_so (is_among x t.values) (number m) ∷ []) (number other) (omega arith)
      (λ w there.
      two_count writing view d x x_is _ _ w (set_count writing view d x x_is s.values n (are s (inl refl)) n_small)
      (set_count writing view d x x_is t.values m (are t (inr (inl refl))) m_small) there)
      (count_of writing view other other_small)

  pub rank_of : (kind : Kind) → RanksOf d kind → IsOf writing view Integer (rank_scalar kind x)
  rank_of (Pos s) is = one_set s (literal_sets d (s ∷ []) is.sound is.values) 1 (omega arith) 2 (omega arith)
  rank_of (Neg s) is = one_set s (literal_sets d (s ∷ []) is.sound is.values) 2 (omega arith) 1 (omega arith)
  rank_of (PosPos first second) is = two_sets first second (literal_sets d (first ∷ second ∷ []) is.sound is.values) 1 2 3 (omega arith) (omega arith) (omega arith)
  rank_of (PosNeg good bad) is = two_sets good bad (literal_sets d (good ∷ bad ∷ []) is.sound is.values) 1 3 2 (omega arith) (omega arith) (omega arith)
  rank_of (Layered before after) is =
      let are = literal_sets d (before ++ after) is.sound.sets is.values in
      let few = few_sets d (before ++ after) are in
      layers_of writing view d x x_is before after are is.sound.some (omega (arith, few, is.sound.sets.few))
  rank_of (Explicit g) is =
      let values = graph_literals d g.edges g.acyclic is.sound is.values in
      levels_of writing view d x x_is g.edges g.acyclic values (greatest_few g.edges is.sound (omega (arith, values.some)))
  rank_of (Around center) is =
      let p = x_plain (is.numbers refl) in
      let c = number_plain writing view center is.sound in
      let below = Compare_formed writing view Lt Integer x (Number center) (plain_is writing view x p) (plain_is writing view (Number center) c) in
      cases_of writing view (when_so (Compare Lt x (Number center)) (less (Number center) x) ∷ []) (less x (Number center)) (omega arith)
      (λ w there. one_count writing view d x x_is _ w (record { cond = below; value = less_of writing view (Number center) x c p }) there)
      (less_of writing view x (Number center) p c)
  rank_of (Between low up) is =
      let p = x_plain (is.numbers refl) in
      let l = number_plain writing view low is.sound.0 in
      let u = number_plain writing view up is.sound.1 in
      let below = Compare_formed writing view Lt Integer x (Number low) (plain_is writing view x p) (plain_is writing view (Number low) l) in
      let above = Compare_formed writing view Gt Integer x (Number up) (plain_is writing view x p) (plain_is writing view (Number up) u) in
      cases_of writing view (when_so (Compare Lt x (Number low)) (less (Number low) x) ∷ when_so (Compare Gt x (Number up)) (less x (Number up)) ∷ []) (number 0) (omega arith)
      (λ w there.
      two_count writing view d x x_is _ _ w (record { cond = below; value = less_of writing view (Number low) x l p })
      (record { cond = above; value = less_of writing view x (Number up) p u }) there)
      (count_of writing view 0 (omega arith))
  rank_of Lowest is = plain_is writing view x (x_plain (is.numbers refl))
  rank_of Highest is = plain_is writing view x (x_plain (is.numbers refl))
