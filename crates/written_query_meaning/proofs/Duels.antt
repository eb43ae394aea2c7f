-- For two candidates the better, the same and the group conditions say what the preference does.
use Rattle.std.proofs.Common.{◌≡◌, ℕ, ◌+◌, ◌-◌, ◌<◌, Bool, true, false, cond, Some, List, [], ◌∷◌, ◌++◌, length, get_or, Contains, refl, sym, ap, ◌∙◌, subst, arith, inl, inr}
use Rattle.std.specs.Prelude.{slice_index}
use Rattle.std.specs.List.{flat_map}
use Rattle.std.specs.Ordering.{int_cmp, is_eq}
use Rattle.std.proofs.lemmas.List.Elements.{All-contains, Contains-append_left, Contains-append_right, Contains-get_or}
use Rattle.prefsql_values.specs.declared.truth.Truth.TheVariants as truths
use Rattle.prefsql_values.specs.declared.value.CompareOp.TheVariants.{Eq}
use Rattle.prefsql_values.specs.declared.value.Domain.TheVariants.{Integer}
use Rattle.prefsql_values.specs.declared.value.Value.{Value}
use Rattle.prefsql_values.specs.declared.value.Value.TheVariants.{Num, Str, Null}
use Rattle.prefsql_values.specs.Truth.{both_true, either_true, is_true}
use Rattle.prefsql_values.specs.Value.{comparison, is_null, truth_of, value_eq}
use Rattle.prefsql_tables.specs.declared.place.ColumnPlace.{ColumnPlace}
use Rattle.prefsql_tables.specs.declared.place.Combo.{Combo}
use Rattle.prefsql_tables.specs.declared.schema.Column.{Column}
use Rattle.prefsql_tables.specs.Table.{Tables, columns_of}
use Rattle.prefsql_tables.specs.Valid.{IsTableSet}
use Rattle.prefsql_tables.proofs.ValidLemmas.{cell_at_valid, never_null}
use Rattle.order_laws.proofs.Members.{Among, among_from_Contains}
use Rattle.base_prefs.specs.declared.kind.Kind.{Kind}
use Rattle.base_prefs.specs.declared.kind.Kind.TheVariants.{Pos, Neg, PosPos, PosNeg, Layered, Explicit, Around, Between, Lowest, Highest}
use Rattle.base_prefs.specs.Kind.{IsJudged, key_of}
use Rattle.pref_terms.specs.declared.term.Leaf.{Leaf}
use Rattle.pref_terms.specs.declared.term.Term.{Term}
use Rattle.pref_terms.specs.Terms.{leaf_order, leaves_of, order_of}
use Rattle.conditions.specs.Meaning.{scalars_of}
use Rattle.conditions.specs.declared.condition.Scalar.TheVariants as scalar
use Rattle.query_meaning.specs.declared.block.Block.{Block}
use Rattle.query_meaning.specs.declared.block.Output.{Output}
use Rattle.query_meaning.specs.Answers.{indexes_of, row_counts, seen}
use Rattle.query_meaning.specs.BlockFits.{FitsTables, IsLeaf, IsPlace}
use Rattle.query_meaning.specs.Choices.{IsChoice}
use Rattle.query_meaning.proofs.ChoiceLemmas.{columns_there, scalar_fits}
use Rattle.sql_tree.specs.declared.tree.SqlScalar.{SqlScalar}
use Rattle.sql_tree.specs.declared.tree.SqlCond.{And, Or, Compare, IsNull}
use Rattle.sql_tree.specs.Meaning.{Scopes, truth_in, value_in}
use Rattle.sql_tree.proofs.MeaningLemmas.{truth_in-And, truth_in-Compare, truth_in-IsNull, truth_in-Or, value_in-Column}
use Rattle.rewritten_query.specs.Columns.{mentioned, number_among, own_column, rank_column, trivial_column, used}
use Rattle.written_query_meaning.specs.Held.{codes_of, rank_of}
use Rattle.written_query_meaning.specs.Meaning.{JudgesPair, duel, held_by}
use Rattle.rewritten_query.specs.Rankings.{admits_null, group_cond, leaf_ranking, of_candidate, of_rival, ranking_of}
use Rattle.query_meaning.specs.Valid.{IsValidBlock}
use Rattle.written_query_meaning.proofs.Candidates.{leaves_judged, leaves_numbered, leaves_placed}
use Rattle.written_query_meaning.proofs.Better.{AreCodes, AreDecided, AreRanks, better_read, either_last, same_key_read, term_decided}
use Rattle.written_query_meaning.proofs.Cells.{code_cell, rank_cell, used_cell}
use Rattle.written_query_meaning.proofs.Compared.{IsValue, equal_values, is_true_of}
use Rattle.prefsql_tables.proofs.ListLemmas.{all_on}
use Rattle.written_query_meaning.proofs.Places.{used_has}

-- ---- equal, or both NULL

null_safe : (a b : Value) → is_true (either_true (comparison Eq a b) (either_true (both_true (truth_of (is_null a)) (both_true (truth_of (is_null b)) truths.True)) truths.False)) ≡ value_eq a b
null_safe (Num m) (Num n) = ap (λ t. is_true (either_true t truths.False)) (equal_values (Num m) (Num n) (λ e. cc) (λ e. cc)) ∙ ap is_true (either_last (value_eq (Num m) (Num n))) ∙ is_true_of (value_eq (Num m) (Num n))
null_safe (Num m) (Str t) = refl
null_safe (Num m) Null = refl
null_safe (Str s) (Num n) = refl
null_safe (Str s) (Str t) = ap (λ u. is_true (either_true u truths.False)) (equal_values (Str s) (Str t) (λ e. cc) (λ e. cc)) ∙ ap is_true (either_last (value_eq (Str s) (Str t))) ∙ is_true_of (value_eq (Str s) (Str t))
null_safe (Str s) Null = refl
null_safe Null (Num n) = refl
null_safe Null (Str t) = refl
null_safe Null Null = refl

-- ---- what is mentioned

module _ (block : Block) (term : Term) where
  abbrev pub in_output : List ColumnPlace
  in_output = flat_map (λ (output : Output). own_column output.scalar) block.output

  abbrev pub in_only : List ColumnPlace
  in_only = flat_map own_column (flat_map scalars_of block.only)

  abbrev pub in_leaves : List ColumnPlace
  in_leaves = flat_map trivial_column (leaves_of term)

flat_among : {X : Type 0} (f : X → List ColumnPlace) (xs : List X) (x : X) (p : ColumnPlace) → Among xs x → Contains (f x) p → Contains (flat_map f xs) p
flat_among f [] x p a has = absurd a
flat_among f (y ∷ ys) x p (inl e) has = Contains-append_left (f y) (flat_map f ys) p (subst (λ z. Contains (f z) p) (sym e) has)
flat_among f (y ∷ ys) x p (inr a) has = Contains-append_right (f y) (flat_map f ys) p (flat_among f ys x p a has)

pub in_flat : {X : Type 0} (f : X → List ColumnPlace) (xs : List X) (x : X) (p : ColumnPlace) → Contains xs x → Contains (f x) p → Contains (flat_map f xs) p
in_flat f xs x p there has = flat_among f xs x p (among_from_Contains xs x there) has

pub itself : (p : ColumnPlace) → Contains (p ∷ []) p
itself p = (0, omega arith, refl)

module _ (block : Block) (term : Term) where
  pub output_mentioned : (p : ColumnPlace) → Contains (in_output block term) p → Contains (mentioned block term) p
  output_mentioned p there =
      Contains-append_left (in_output block term ++ in_only block term ++ block.groups) (in_leaves block term) p
      (Contains-append_left (in_output block term ++ in_only block term) block.groups p (Contains-append_left (in_output block term) (in_only block term) p there))

  pub only_mentioned : (p : ColumnPlace) → Contains (in_only block term) p → Contains (mentioned block term) p
  only_mentioned p there =
      Contains-append_left (in_output block term ++ in_only block term ++ block.groups) (in_leaves block term) p
      (Contains-append_left (in_output block term ++ in_only block term) block.groups p (Contains-append_right (in_output block term) (in_only block term) p there))

  pub group_mentioned : (p : ColumnPlace) → Contains block.groups p → Contains (mentioned block term) p
  group_mentioned p there =
      Contains-append_left (in_output block term ++ in_only block term ++ block.groups) (in_leaves block term) p
      (Contains-append_right (in_output block term ++ in_only block term) block.groups p there)

  pub leaf_mentioned : (p : ColumnPlace) → Contains (in_leaves block term) p → Contains (mentioned block term) p
  leaf_mentioned p there = Contains-append_right (in_output block term ++ in_only block term ++ block.groups) (in_leaves block term) p there

-- ---- columns that admit no NULL

module _ (tables : Tables) (valid : IsTableSet tables) (block : Block) (fits : FitsTables tables block) (combo : Combo) (chosen : IsChoice (row_counts tables block.from) combo.rows) where
  shows_value : (place : ColumnPlace) → IsPlace block.from place → admits_null block.from place ≡ false → IsValue (seen tables block combo place)
  shows_value place is none =
      let c : Column = record { name = []; domain = Integer; nullable = true } in
      let in_sight = scalar_fits tables block.from fits combo.rows chosen (scalar.Column place) is in
      let column = get_or (columns_of tables (slice_index (indexes_of block.from) place.table)) place.column c in
      let cell = cell_at_valid tables (slice_index (indexes_of block.from) place.table) (slice_index combo.rows (place.table - 0)) place.column c valid in_sight.cell in
      let no_null : column.nullable ≡ false = ap (λ (columns : List Column). (get_or columns place.column c).nullable) (columns_there tables block.from fits place.table is.table) ∙ none in
      never_null column (seen tables block combo place) cell no_null

-- a value that a kind judges is no NULL
pub judged_value : (kind : Kind) (v : Value) → IsJudged kind v → IsValue v
judged_value (Pos s) v judged = judged
judged_value (Neg s) v judged = judged
judged_value (PosPos s t) v judged = judged
judged_value (PosNeg s t) v judged = judged
judged_value (Layered before after) v judged = judged
judged_value (Explicit g) v judged = judged
judged_value (Around z) v judged = λ e. subst (IsJudged (Around z)) e judged
judged_value (Between low up) v judged = λ e. subst (IsJudged (Between low up)) e judged
judged_value Lowest v judged = λ e. subst (IsJudged Lowest) e judged
judged_value Highest v judged = λ e. subst (IsJudged Highest) e judged

codes_shown : (tables : Tables) (scopes : Scopes) (upper lower : ℕ → SqlScalar) (column : ℕ) (kind : Kind) (y x : Value)
    → (0 < length (codes_of kind y) → value_in tables (upper column) scopes ≡ get_or (codes_of kind y) 0 Null)
    → (0 < length (codes_of kind x) → value_in tables (lower column) scopes ≡ get_or (codes_of kind x) 0 Null)
    → AreCodes tables scopes upper lower column kind y x
codes_shown tables scopes upper lower column (Explicit g) y x rival candidate = (rival (omega arith), candidate (omega arith))
codes_shown tables scopes upper lower column (Pos s) y x rival candidate = tt
codes_shown tables scopes upper lower column (Neg s) y x rival candidate = tt
codes_shown tables scopes upper lower column (PosPos s t) y x rival candidate = tt
codes_shown tables scopes upper lower column (PosNeg s t) y x rival candidate = tt
codes_shown tables scopes upper lower column (Layered before after) y x rival candidate = tt
codes_shown tables scopes upper lower column (Around z) y x rival candidate = tt
codes_shown tables scopes upper lower column (Between low up) y x rival candidate = tt
codes_shown tables scopes upper lower column Lowest y x rival candidate = tt
codes_shown tables scopes upper lower column Highest y x rival candidate = tt

-- ---- two candidates

module _ (block : Block) (term : Term) (is : IsValidBlock block) (term_is : block.term ≡ Some term) (tables : Tables) (valid : IsTableSet tables) (fits : FitsTables tables block)
    (y x : Combo) (y_chosen : IsChoice (row_counts tables block.from) y.rows) (x_chosen : IsChoice (row_counts tables block.from) x.rows) where
  abbrev places : List ColumnPlace
  places = used block term

  abbrev leaves : List Leaf
  leaves = leaves_of term

  abbrev scopes : Scopes
  scopes = duel tables block term y x

  abbrev own : ColumnPlace → Value
  own = seen tables block x

  abbrev other : ColumnPlace → Value
  other = seen tables block y

  rival_read : (column : ℕ) → value_in tables (of_rival column) scopes ≡ get_or (held_by tables block term y).cells column Null
  rival_read column = value_in-Column tables (record { up = 0; item = 0; column = column }) scopes

  candidate_read : (column : ℕ) → value_in tables (of_candidate column) scopes ≡ get_or (held_by tables block term x).cells column Null
  candidate_read column = value_in-Column tables (record { up = 1; item = 0; column = column }) scopes

  rival_used : (p : ColumnPlace) → Contains places p → value_in tables (of_rival (number_among places p)) scopes ≡ other p
  rival_used p there = rival_read (number_among places p) ∙ used_cell places leaves other p there

  candidate_used : (p : ColumnPlace) → Contains places p → value_in tables (of_candidate (number_among places p)) scopes ≡ own p
  candidate_used p there = candidate_read (number_among places p) ∙ used_cell places leaves own p there

  module _ (leaf : Leaf) (there : Contains leaves leaf) where
    y_judged : IsJudged leaf.base (other leaf.place)
    y_judged = All-contains (λ (l : Leaf). IsJudged l.base (other l.place)) leaves leaf (leaves_judged block term is term_is tables valid fits y y_chosen) there

    x_judged : IsJudged leaf.base (own leaf.place)
    x_judged = All-contains (λ (l : Leaf). IsJudged l.base (own l.place)) leaves leaf (leaves_judged block term is term_is tables valid fits x x_chosen) there

    rival_rank : value_in tables (of_rival (rank_column places leaves leaf.number)) scopes ≡ rank_of leaf.base (other leaf.place)
    rival_rank = rival_read (rank_column places leaves leaf.number) ∙ rank_cell places leaves other (leaves_numbered block term is term_is) leaf there

    candidate_rank : value_in tables (of_candidate (rank_column places leaves leaf.number)) scopes ≡ rank_of leaf.base (own leaf.place)
    candidate_rank = candidate_read (rank_column places leaves leaf.number) ∙ rank_cell places leaves own (leaves_numbered block term is term_is) leaf there

    ranks : AreRanks tables scopes of_rival of_candidate (rank_column places leaves leaf.number) leaf.base (other leaf.place) (own leaf.place)
    ranks = record { upper_is = rival_rank; lower_is = candidate_rank; upper_judged = y_judged; lower_judged = x_judged }

    ranks_back : AreRanks tables scopes of_candidate of_rival (rank_column places leaves leaf.number) leaf.base (own leaf.place) (other leaf.place)
    ranks_back = record { upper_is = candidate_rank; lower_is = rival_rank; upper_judged = x_judged; lower_judged = y_judged }

    rival_code : 0 < length (codes_of leaf.base (other leaf.place)) → value_in tables (of_rival (rank_column places leaves leaf.number + 1)) scopes ≡ get_or (codes_of leaf.base (other leaf.place)) 0 Null
    rival_code some = rival_read (rank_column places leaves leaf.number + 1) ∙ code_cell places leaves other (leaves_numbered block term is term_is) leaf there some

    candidate_code : 0 < length (codes_of leaf.base (own leaf.place)) → value_in tables (of_candidate (rank_column places leaves leaf.number + 1)) scopes ≡ get_or (codes_of leaf.base (own leaf.place)) 0 Null
    candidate_code some = candidate_read (rank_column places leaves leaf.number + 1) ∙ code_cell places leaves own (leaves_numbered block term is term_is) leaf there some

    codes : AreCodes tables scopes of_rival of_candidate (rank_column places leaves leaf.number + 1) leaf.base (other leaf.place) (own leaf.place)
    codes = codes_shown tables scopes of_rival of_candidate (rank_column places leaves leaf.number + 1) leaf.base (other leaf.place) (own leaf.place) rival_code candidate_code

    codes_back : AreCodes tables scopes of_candidate of_rival (rank_column places leaves leaf.number + 1) leaf.base (own leaf.place) (other leaf.place)
    codes_back = codes_shown tables scopes of_candidate of_rival (rank_column places leaves leaf.number + 1) leaf.base (own leaf.place) (other leaf.place) candidate_code rival_code

    trivial_used : leaf.trivial ≡ true → Contains places leaf.place
    trivial_used trivial =
        let placed = All-contains (λ (l : Leaf). IsLeaf block.from l) leaves leaf (leaves_placed block term is term_is) there in
        used_has block term leaf.place placed.ranked.there
        (leaf_mentioned block term leaf.place (in_flat trivial_column leaves leaf leaf.place there
        (subst (λ b. Contains (cond b (leaf.place ∷ []) []) leaf.place) (sym trivial) (itself leaf.place))))

    same_by : (b : Bool) → leaf.trivial ≡ b
        → truth_in tables (Compare Eq (of_rival (cond b (number_among places leaf.place) (rank_column places leaves leaf.number))) (of_candidate (cond b (number_among places leaf.place) (rank_column places leaves leaf.number)))) scopes
        ≡ truth_of (cond b (value_eq (other leaf.place) (own leaf.place)) (is_eq (int_cmp (key_of leaf.base (other leaf.place)) (key_of leaf.base (own leaf.place)))))
    same_by true trivial =
        let n = number_among places leaf.place in
        truth_in-Compare tables Eq (of_rival n) (of_candidate n) scopes
        ∙ (λ j. comparison Eq (rival_used leaf.place (trivial_used trivial) j) (candidate_used leaf.place (trivial_used trivial) j))
        ∙ equal_values (other leaf.place) (own leaf.place) (judged_value leaf.base (other leaf.place) y_judged) (judged_value leaf.base (own leaf.place) x_judged)
    same_by false regular = same_key_read tables scopes of_rival of_candidate (rank_column places leaves leaf.number) (other leaf.place) (own leaf.place) leaf.base ranks

    leaf_decided : AreDecided tables scopes (leaf_ranking places leaves leaf) (leaf_order leaf) other own
    leaf_decided = record {
      better = better_read tables scopes of_rival of_candidate (rank_column places leaves leaf.number) (other leaf.place) (own leaf.place) leaf.base ranks codes;
      worse = better_read tables scopes of_candidate of_rival (rank_column places leaves leaf.number) (own leaf.place) (other leaf.place) leaf.base ranks_back codes_back;
      same = same_by leaf.trivial refl;
    }

  decided : AreDecided tables scopes (ranking_of places leaves term) (order_of term) other own
  decided =
      term_decided tables scopes places leaves other own term
      (λ k d small. leaf_decided (get_or leaves k d) (Contains-get_or leaves k d small))

  group_by : (p : ColumnPlace) → IsPlace block.from p → Contains places p → (b : Bool) → admits_null block.from p ≡ b
      → is_true (truth_in tables (cond b (Or (Compare Eq (of_rival (number_among places p)) (of_candidate (number_among places p)) ∷ And (IsNull false (of_rival (number_among places p)) ∷ IsNull false (of_candidate (number_among places p)) ∷ []) ∷ [])) (Compare Eq (of_rival (number_among places p)) (of_candidate (number_among places p)))) scopes)
      ≡ value_eq (other p) (own p)
  group_by p placed there true admits =
      let r = of_rival (number_among places p) in
      let c = of_candidate (number_among places p) in
      let r_is = rival_used p there in
      let c_is = candidate_used p there in
      ap is_true (truth_in-Or tables (Compare Eq r c ∷ And (IsNull false r ∷ IsNull false c ∷ []) ∷ []) scopes)
      ∙ (λ j. is_true (either_true (truth_in-Compare tables Eq r c scopes j) (either_true (truth_in-And tables (IsNull false r ∷ IsNull false c ∷ []) scopes j) truths.False)))
      ∙ (λ j. is_true (either_true (comparison Eq (value_in tables r scopes) (value_in tables c scopes)) (either_true (both_true (truth_in-IsNull tables false r scopes j) (both_true (truth_in-IsNull tables false c scopes j) truths.True)) truths.False)))
      ∙ (λ j. is_true (either_true (comparison Eq (r_is j) (c_is j)) (either_true (both_true (truth_of (is_null (r_is j))) (both_true (truth_of (is_null (c_is j))) truths.True)) truths.False)))
      ∙ null_safe (other p) (own p)
  group_by p placed there false admits =
      let r = of_rival (number_among places p) in
      let c = of_candidate (number_among places p) in
      ap is_true (truth_in-Compare tables Eq r c scopes
      ∙ (λ j. comparison Eq (rival_used p there j) (candidate_used p there j))
      ∙ equal_values (other p) (own p) (shows_value tables valid block fits y y_chosen p placed admits) (shows_value tables valid block fits x x_chosen p placed admits))
      ∙ is_true_of (value_eq (other p) (own p))

  group_read : (p : ColumnPlace) → Contains block.groups p → is_true (truth_in tables (group_cond places block.from p) scopes) ≡ value_eq (other p) (own p)
  group_read p there =
      let placed = All-contains (IsPlace block.from) block.groups p is.places.groups there in
      group_by p placed (used_has block term p placed (group_mentioned block term p there)) (admits_null block.from p) refl

  pub judges : JudgesPair tables block term y x
  judges = record {
    better = decided.better;
    same = decided.same;
    group = all_on (λ p. is_true (truth_in tables (group_cond places block.from p) scopes)) (λ p. value_eq (other p) (own p)) block.groups
        (λ k d small. group_read (get_or block.groups k d) (Contains-get_or block.groups k d small));
  }
