-- The numbers that are kept of rows tell how the rows stand by a leaf.
use Rattle.std.proofs.Common.{◌≡◌, ◌↔◌, ℕ, ◌<◌, Bool, true, false, not, ◌&&◌, if◌then◌else◌, List, [], ◌∷◌, length, map, get_or, slice_get, Some, nat_eq, nat_lt, All, inl, refl, sym, ap, ◌∙◌, subst, arith}
use Rattle.std.specs.Prelude.{IsTrue}
use Rattle.std.specs.List.{range_with_len}
use Rattle.std.specs.Ordering.{int_cmp, is_eq, is_lt, ordering_then}
use Rattle.std.specs.declared.cmp.Ordering.{Ordering}
use Rattle.std.specs.declared.cmp.Ordering.TheVariants.{Less, Equal, Greater}
use Rattle.std.proofs.lemmas.Bool.{and_from, false≢true}
use Rattle.std.proofs.lemmas.Cmp.{int_cmp_total, nat_eq_equiv, tied_itself}
use Rattle.std.proofs.lemmas.List.{get_or-map, length-map}
use Rattle.std.proofs.lemmas.Option.{get_or_from_slice_get, slice_get-get_or}
use Rattle.prefsql_values.specs.declared.value.Value.{Value}
use Rattle.prefsql_values.specs.declared.value.Value.TheVariants.{Num, Str, Null}
use Rattle.prefsql_values.specs.Value.{is_null, value_eq}
use Rattle.prefsql_values.proofs.ValueEq.{value_eq-Decides}
use Rattle.prefsql_tables.specs.Valid.{IsTableSet}
use Rattle.prefsql_tables.specs.declared.place.Combo.{Combo}
use Rattle.order_laws.proofs.BestLaws.{same_tests}
use Rattle.order_laws.proofs.Members.{Among, Contains_from_among, among_filter, among_kept, range_among}
use Rattle.base_prefs.specs.declared.edge.Edge.{Edge}
use Rattle.base_prefs.specs.declared.kind.Kind.{Kind}
use Rattle.base_prefs.specs.declared.kind.Kind.TheVariants.{Pos, Neg, PosPos, PosNeg, Layered, Explicit, Around, Between, Lowest, Highest}
use Rattle.base_prefs.specs.Graph.{IsAbove, explicit_better, graph_values}
use Rattle.base_prefs.specs.Kind.{IsJudged, better_of, edges_of, is_explicit, key_of, same_of}
use Rattle.base_prefs.specs.Values.{place_of}
use Rattle.base_prefs.specs.View.{IsAboveAt, is_above_at}
use Rattle.base_prefs.proofs.Paths.{is_above-Decides}
use Rattle.pref_terms.specs.Fits.{LeafFits}
use Rattle.pref_terms.specs.declared.bound.BoundTerm.{BoundTerm}
use Rattle.pref_terms.specs.declared.term.Leaf.{Leaf}
use Rattle.pref_terms.proofs.GraphPlaces.{above_better, none_better, outside_worse}
use Rattle.pref_terms.proofs.Judged.{fits_judged}
use Rattle.value_index.specs.Places.{are_equal, equal_places}
use Rattle.value_index.proofs.Equal.{are_equal_is, equal_same}
use Rattle.plan_groups.specs.Firsts.{first_equal, values_in}
use Rattle.plan_groups.specs.Groups.{IsRow, row_at, seen_at, seen_by}
use Rattle.plan_groups.specs.Outcomes.{TellsLeaf, graph_outcome, is_graph_better, outcome_by, share, stands, turned_key}
use Rattle.plan_groups.specs.declared.leaf_tests.LeafTest.TheVariants.{Keys}
use Rattle.pref_terms.specs.KeyLists.{int_cmp-neg}

-- a judged value is not NULL
judged_there : (kind : Kind) (v : Value) → IsJudged kind v → is_null v ≡ false
judged_there kind (Num n) judged = refl
judged_there kind (Str t) judged = refl
judged_there (Around c) Null judged = absurd judged
judged_there (Between l u) Null judged = absurd judged
judged_there Lowest Null judged = absurd judged
judged_there Highest Null judged = absurd judged
judged_there kind Null judged = absurd (judged refl)

pub not_explicit : (kind : Kind) (weak : Bool) → weak ≡ not (is_explicit kind) → weak ≡ true → is_explicit kind ≡ false
not_explicit kind weak is h = turned (is_explicit kind) (sym is ∙ h)
  where
    turned : (b : Bool) → not b ≡ true → b ≡ false
    turned true h = absurd (false≢true h)
    turned false h = refl

weak_better : (kind : Kind) (v w : Value) → is_explicit kind ≡ false → is_lt (int_cmp (key_of kind v) (key_of kind w)) ≡ better_of kind v w
weak_better (Explicit g) v w weak = absurd (false≢true (sym weak))
weak_better kind v w weak = refl

regular_same : (kind : Kind) (trivial : Bool) (v w : Value) → trivial ≡ false → is_eq (int_cmp (key_of kind v) (key_of kind w)) ≡ same_of kind trivial v w
regular_same kind true v w regular = absurd (false≢true (sym regular))
regular_same kind false v w regular = refl

trivial_same : (kind : Kind) (trivial : Bool) (v w : Value) → trivial ≡ true → value_eq v w ≡ same_of kind trivial v w
trivial_same kind true v w is = refl
trivial_same kind false v w is = absurd (false≢true is)

by_order : (o : Ordering) → o ≡ outcome_by (is_lt o) (is_eq o)
by_order Less = refl
by_order Equal = refl
by_order Greater = refl

then_tie : (o : Ordering) (same : Bool) → (same ≡ true → o ≡ Equal) → ordering_then o (outcome_by false same) ≡ outcome_by (is_lt o) same
then_tie Less same h = refl
then_tie Equal same h = refl
then_tie Greater true h = absurd (let e = h refl in cc)
then_tie Greater false h = refl

same_key : (kind : Kind) (v w : Value) → value_eq v w ≡ true → int_cmp (key_of kind v) (key_of kind w) ≡ Equal
same_key kind v w same =
    let is = (value_eq-Decides v w).0 same in
    ap (λ u. int_cmp (key_of kind v) (key_of kind u)) (sym is) ∙ tied_itself int_cmp_total (key_of kind v)

-- where the kind goes by keys and those of equal keys are the same
keyed : (kind : Kind) (trivial : Bool) (v w : Value) → is_explicit kind ≡ false → trivial ≡ false
    → int_cmp (key_of kind v) (key_of kind w) ≡ outcome_by (better_of kind v w) (same_of kind trivial v w)
keyed kind trivial v w weak regular =
    by_order (int_cmp (key_of kind v) (key_of kind w)) ∙ (λ j. outcome_by (weak_better kind v w weak j) (regular_same kind trivial v w regular j))

-- where only equal values are the same
valued : (kind : Kind) (trivial : Bool) (v w : Value) → is_explicit kind ≡ false → trivial ≡ true
    → ordering_then (int_cmp (key_of kind v) (key_of kind w)) (outcome_by false (value_eq v w)) ≡ outcome_by (better_of kind v w) (same_of kind trivial v w)
valued kind trivial v w weak is =
    then_tie (int_cmp (key_of kind v) (key_of kind w)) (value_eq v w) (same_key kind v w)
    ∙ (λ j. outcome_by (weak_better kind v w weak j) (trivial_same kind trivial v w is j))

-- what a test at two places tells is what it tests
above_told : (edges : List Edge) (m n : ℕ) → m < length (graph_values edges) → n < length (graph_values edges) → IsTrue (is_above_at edges m n) ↔ IsAboveAt edges m n
above_told edges m n m_in n_in =
    let values = graph_values edges in
    let u = get_or values m Null in
    let v = get_or values n Null in
    let u_at : slice_get (graph_values edges) m ≡ Some u = slice_get-get_or values m Null m_in in
    let v_at : slice_get (graph_values edges) n ≡ Some v = slice_get-get_or values n Null n_in in
    let decides = is_above-Decides edges u v in (
      λ h. (u, v, u_at, v_at, decides.0 h),
      λ w.
          let u_is : w.0 ≡ u = sym (get_or_from_slice_get (graph_values edges) m w.0 Null w.2) ∙ get_or_from_slice_get (graph_values edges) m u Null u_at in
          let v_is : w.1 ≡ v = sym (get_or_from_slice_get (graph_values edges) n w.1 Null w.3) ∙ get_or_from_slice_get (graph_values edges) n v Null v_at in
          decides.1 (subst (λ x. IsAbove edges u x) v_is (subst (λ x. IsAbove edges x w.1) u_is w.4)),
    )

three_cases : (b c r e : Bool) → (b ≡ true → c ≡ true → r ≡ e) → (b ≡ true → c ≡ false → true ≡ e) → (b ≡ false → false ≡ e) → (b && (if c then r else true)) ≡ e
three_cases true true r e f g h = f refl refl
three_cases true false r e f g h = g refl refl
three_cases false c r e f g h = h refl

graph_told : (edges : List Edge) (v w : Value)
    → (nat_lt (place_of (graph_values edges) v) (length (graph_values edges))
    && (if nat_lt (place_of (graph_values edges) w) (length (graph_values edges)) then is_above_at edges (place_of (graph_values edges) v) (place_of (graph_values edges) w) else true))
    ≡ explicit_better edges v w
graph_told edges v w =
    let vs = graph_values edges in
    let m = place_of vs v in
    let n = place_of vs w in
    three_cases (nat_lt m (length vs)) (nat_lt n (length vs)) (is_above_at edges m n) (explicit_better edges v w)
    (λ h k.
    let m_in : m < length vs = grind (arith, h) in
    let n_in : n < length vs = grind (arith, k) in
    above_better edges vs refl v w (is_above_at edges m n) m_in n_in (above_told edges m n m_in n_in))
    (λ h k. outside_worse edges vs refl v w (grind (arith, h)) (grind (arith, k)))
    (λ h. none_better edges vs refl v w (grind (arith, h)))

graphed : (kind : Kind) (v w : Value) → is_explicit kind ≡ true
    → is_graph_better kind (place_of (graph_values (edges_of kind)) v) (place_of (graph_values (edges_of kind)) w) ≡ better_of kind v w
graphed (Explicit g) v w explicit = graph_told g.edges v w
graphed (Pos s) v w explicit = absurd (false≢true explicit)
graphed (Neg s) v w explicit = absurd (false≢true explicit)
graphed (PosPos s t) v w explicit = absurd (false≢true explicit)
graphed (PosNeg s t) v w explicit = absurd (false≢true explicit)
graphed (Layered s t) v w explicit = absurd (false≢true explicit)
graphed (Around c) v w explicit = absurd (false≢true explicit)
graphed (Between l u) v w explicit = absurd (false≢true explicit)
graphed Lowest v w explicit = absurd (false≢true explicit)
graphed Highest v w explicit = absurd (false≢true explicit)

-- rows share a number whichever is named first
share_turned : (numbers : List ℕ) (a b : ℕ) → share numbers a b ≡ share numbers b a
share_turned numbers a b = same_tests (share numbers a b) (share numbers b a)
    (λ h. let e : get_or numbers a 0 ≡ get_or numbers b 0 = grind (arith, h) in ap (λ n. nat_eq n (get_or numbers a 0)) (sym e) ∙ nat_eq_equiv.refl (get_or numbers a 0))
    (λ h. let e : get_or numbers b 0 ≡ get_or numbers a 0 = grind (arith, h) in ap (λ n. nat_eq n (get_or numbers b 0)) (sym e) ∙ nat_eq_equiv.refl (get_or numbers b 0))

first_among : (ks : List ℕ) → 0 < length ks → Among ks (get_or ks 0 0)
first_among [] some = absurd (omega arith)
first_among (k ∷ ks) some = inl refl

-- the first place of a value that stands in the list is one where it stands
first_there : (values : List Value) (k : ℕ) → k < length values → is_null (get_or values k Null) ≡ false
    → get_or values (first_equal values (get_or values k Null)) Null ≡ get_or values k Null
first_there values k within there =
    let v = get_or values k Null in
    let same : ℕ → Bool = λ place. are_equal (get_or values place Null) v in
    let itself : same k ≡ true = are_equal_is v v ∙ and_from (not (is_null v)) (value_eq v v) (ap not there) ((value_eq-Decides v v).1 refl) in
    let places = equal_places values v in
    let found : Among places k = among_filter same (range_with_len 0 (length values)) k (range_among 0 (length values) k (omega arith) (omega arith)) itself in
    let some : 0 < length places = (let c = Contains_from_among places k found in omega (arith, c.1)) in
    let first : Among places (get_or places 0 0) = first_among places some in
    equal_same (get_or values (get_or places 0 0) Null) v ((among_kept same (range_with_len 0 (length values)) (get_or places 0 0) first).1)

module _ (bound : BoundTerm) (combos : List Combo) (leaf : Leaf) (valid : IsTableSet bound.tables.now)
    (fits : All (λ (combo : Combo). LeafFits bound.tables.now bound.from.now bound.first combo.rows leaf) combos) where
  abbrev value_at : ℕ → Value
  value_at a = seen_at bound combos a leaf.place

  abbrev values : List Value
  values = values_in bound combos leaf.place

  value_read : (a : ℕ) → a < length combos → get_or values a Null ≡ value_at a
  value_read a within = get_or-map (λ (combo : Combo). seen_by bound combo leaf.place) combos a (record { rows = [] }) Null within

  number_read : (f : Value → ℕ) (numbers : List ℕ) → numbers ≡ map f values → (a : ℕ) → a < length combos → get_or numbers a 0 ≡ f (value_at a)
  number_read f numbers are a within =
      ap (λ (ns : List ℕ). get_or ns a 0) are
      ∙ get_or-map f values a Null 0 (omega (arith, within, length-map combos (λ (combo : Combo). seen_by bound combo leaf.place)))
      ∙ ap f (value_read a within)

  fits_at : (a : ℕ) → a < length combos → LeafFits bound.tables.now bound.from.now bound.first (row_at combos a).rows leaf
  fits_at a within = fits a (record { rows = [] }) within

  there : (a : ℕ) → a < length combos → is_null (value_at a) ≡ false
  there a within =
      judged_there leaf.base (value_at a) (fits_judged bound.tables.now bound.from.now bound.first (row_at combos a).rows leaf valid (fits_at a within))

  long : (a : ℕ) → a < length combos → a < length values
  long a within = omega (arith, within, length-map combos (λ (combo : Combo). seen_by bound combo leaf.place))

  first_read : (a : ℕ) → a < length combos → get_or values (first_equal values (value_at a)) Null ≡ value_at a
  first_read a within =
      let is = value_read a within in
      subst (λ (v : Value). get_or values (first_equal values v) Null ≡ v) is
      (first_there values a (long a within) (ap is_null is ∙ there a within))

  -- rows share a number exactly where their values are equal
  share_values : (firsts : List ℕ) → firsts ≡ map (first_equal values) values → (a b : ℕ) → a < length combos → b < length combos
      → share firsts a b ≡ value_eq (value_at a) (value_at b)
  share_values firsts are a b a_in b_in =
      let m = first_equal values (value_at a) in
      let n = first_equal values (value_at b) in
      (λ j. nat_eq (number_read (first_equal values) firsts are a a_in j) (number_read (first_equal values) firsts are b b_in j))
      ∙ same_tests (nat_eq m n) (value_eq (value_at a) (value_at b))
      (λ h. let e : m ≡ n = grind (arith, h) in
      (value_eq-Decides (value_at a) (value_at b)).1 (sym (first_read a a_in) ∙ ap (λ k. get_or values k Null) e ∙ first_read b b_in))
      (λ h. let e = (value_eq-Decides (value_at a) (value_at b)).0 h in
      ap (λ v. nat_eq (first_equal values (value_at a)) (first_equal values v)) (sym e) ∙ nat_eq_equiv.refl m)

  keys_tell : is_explicit leaf.base ≡ false → leaf.trivial ≡ false → (a b : ℕ) → IsRow bound combos a → IsRow bound combos b
      → int_cmp (key_of leaf.base (value_at a)) (key_of leaf.base (value_at b)) ≡ stands (seen_at bound combos a) (seen_at bound combos b) leaf
  keys_tell weak regular a b a_row b_row = keyed leaf.base leaf.trivial (value_at a) (value_at b) weak regular

  pub turned_keys_tell : (turned : Bool) → is_explicit leaf.base ≡ false → leaf.trivial ≡ false → TellsLeaf bound combos turned leaf Keys
  turned_keys_tell true weak regular a b a_row b_row =
      int_cmp-neg (key_of leaf.base (value_at a)) (key_of leaf.base (value_at b)) ∙ keys_tell weak regular b a b_row a_row
  turned_keys_tell false weak regular a b a_row b_row = keys_tell weak regular a b a_row b_row

  values_tell : (firsts : List ℕ) → firsts ≡ map (first_equal values) values → is_explicit leaf.base ≡ false → leaf.trivial ≡ true
      → (a b : ℕ) → IsRow bound combos a → IsRow bound combos b
      → ordering_then (int_cmp (key_of leaf.base (value_at a)) (key_of leaf.base (value_at b))) (outcome_by false (share firsts a b))
      ≡ stands (seen_at bound combos a) (seen_at bound combos b) leaf
  values_tell firsts are weak is a b a_row b_row =
      ap (λ s. ordering_then (int_cmp (key_of leaf.base (value_at a)) (key_of leaf.base (value_at b))) (outcome_by false s)) (share_values firsts are a b a_row.0 b_row.0)
      ∙ valued leaf.base leaf.trivial (value_at a) (value_at b) weak is

  pub turned_values_tell : (turned : Bool) (firsts : List ℕ) → firsts ≡ map (first_equal values) values → is_explicit leaf.base ≡ false → leaf.trivial ≡ true
      → (a b : ℕ) → IsRow bound combos a → IsRow bound combos b
      → ordering_then (int_cmp (turned_key turned (key_of leaf.base (value_at a))) (turned_key turned (key_of leaf.base (value_at b)))) (outcome_by false (share firsts a b))
      ≡ (if turned then stands (seen_at bound combos b) (seen_at bound combos a) leaf else stands (seen_at bound combos a) (seen_at bound combos b) leaf)
  turned_values_tell true firsts are weak is a b a_row b_row =
      (λ j. ordering_then (int_cmp-neg (key_of leaf.base (value_at a)) (key_of leaf.base (value_at b)) j) (outcome_by false (share_turned firsts a b j)))
      ∙ values_tell firsts are weak is b a b_row a_row
  turned_values_tell false firsts are weak is a b a_row b_row = values_tell firsts are weak is a b a_row b_row

  graph_tells : (places firsts : List ℕ) → places ≡ map (place_of (graph_values (edges_of leaf.base))) values → firsts ≡ map (first_equal values) values
      → is_explicit leaf.base ≡ true → (a b : ℕ) → IsRow bound combos a → IsRow bound combos b
      → outcome_by (is_graph_better leaf.base (get_or places a 0) (get_or places b 0)) (share firsts a b)
      ≡ stands (seen_at bound combos a) (seen_at bound combos b) leaf
  graph_tells places firsts places_are firsts_are explicit a b a_row b_row =
      let place = place_of (graph_values (edges_of leaf.base)) in
      (λ j. outcome_by (is_graph_better leaf.base (number_read place places places_are a a_row.0 j) (number_read place places places_are b b_row.0 j))
      (share_values firsts firsts_are a b a_row.0 b_row.0 j))
      ∙ (λ j. outcome_by (graphed leaf.base (value_at a) (value_at b) explicit j)
      (trivial_same leaf.base leaf.trivial (value_at a) (value_at b) ((fits_at a a_row.0).trivial explicit) j))

  pub turned_graph_tells : (turned : Bool) (places firsts : List ℕ) → places ≡ map (place_of (graph_values (edges_of leaf.base))) values → firsts ≡ map (first_equal values) values
      → is_explicit leaf.base ≡ true → (a b : ℕ) → IsRow bound combos a → IsRow bound combos b
      → (if turned then graph_outcome leaf.base places firsts b a else graph_outcome leaf.base places firsts a b)
      ≡ (if turned then stands (seen_at bound combos b) (seen_at bound combos a) leaf else stands (seen_at bound combos a) (seen_at bound combos b) leaf)
  turned_graph_tells true places firsts places_are firsts_are explicit a b a_row b_row = graph_tells places firsts places_are firsts_are explicit b a b_row a_row
  turned_graph_tells false places firsts places_are firsts_are explicit a b a_row b_row = graph_tells places firsts places_are firsts_are explicit a b a_row b_row
