-- The written query means the block's answer.
use Rattle.std.proofs.Common.{◌≡◌, ℕ, Bool, true, false, cond, not, ◌&&◌, ◌||◌, Option, Some, None, List, [], ◌∷◌, get_or, map, filter, All, Contains, refl, sym, ap, ◌∙◌, subst, arith}
use Rattle.std.specs.Prelude.{IfNone}
use Rattle.std.specs.List.{flat_map, list_all, list_any}
use Rattle.std.specs.Ordering.{on}
use Rattle.std.proofs.lemmas.Bool.{false≢true}
use Rattle.std.proofs.lemmas.List.Elements.{All-weaker, Contains-get_or}
use Rattle.std.proofs.lemmas.List.Folds.{list_all-append, list_all-map}
use Rattle.std.proofs.lemmas.Simd.{map-map}
use Rattle.prefsql_values.specs.declared.value.Value.{Value}
use Rattle.prefsql_values.specs.declared.value.Value.TheVariants.{Null}
use Rattle.prefsql_values.specs.Truth.{is_true, negated}
use Rattle.prefsql_values.specs.Value.{truth_of}
use Rattle.prefsql_tables.specs.Arrangement.{arranged}
use Rattle.prefsql_tables.specs.Distinct.{each_once}
use Rattle.prefsql_tables.specs.Product.{product}
use Rattle.prefsql_tables.specs.Table.{Tables}
use Rattle.prefsql_tables.specs.Valid.{IsTableSet}
use Rattle.prefsql_tables.specs.declared.place.ColumnPlace.{ColumnPlace}
use Rattle.prefsql_tables.specs.declared.place.Combo.{Combo}
use Rattle.prefsql_tables.specs.declared.place.SortKey.{SortKey}
use Rattle.prefsql_tables.specs.declared.table.AnswerRow.{AnswerRow}
use Rattle.order_laws.specs.Best.{is_unbettered}
use Rattle.base_prefs.specs.declared.kind.Kind.{Kind}
use Rattle.base_prefs.specs.declared.kind.Kind.TheVariants.{Pos, Neg, PosPos, PosNeg, Layered, Explicit, Around, Between, Lowest, Highest}
use Rattle.base_prefs.specs.Kind.{distance_of, has_distance, has_level, level_of}
use Rattle.pref_terms.specs.declared.term.Leaf.{Leaf}
use Rattle.pref_terms.specs.declared.term.Term.{Term}
use Rattle.pref_terms.specs.Parts.{leaves_left}
use Rattle.pref_terms.specs.Terms.{grouped_order, leaves_of, order_of}
use Rattle.conditions.specs.declared.condition.Scalar.{Scalar}
use Rattle.conditions.specs.declared.condition.Scalar.TheVariants as scalar
use Rattle.conditions.specs.Meaning.{quality_of, scalar_value, scalars_of}
use Rattle.query_meaning.specs.declared.block.Block.{Block}
use Rattle.query_meaning.specs.declared.block.Output.{Output}
use Rattle.query_meaning.specs.Answers.{best_by, candidates, kept_rows, output_row, passes, row_counts, seen}
use Rattle.query_meaning.specs.Answers as answers
use Rattle.query_meaning.specs.BlockFits.{FitsTables, IsScalar}
use Rattle.query_meaning.specs.Choices.{IsChoice}
use Rattle.sql_tree.specs.declared.tree.SqlCond.{SqlCond, And, Exists, Not}
use Rattle.sql_tree.specs.declared.tree.SqlFrom.{SqlFrom}
use Rattle.sql_tree.specs.declared.tree.SqlItem.{SqlItem}
use Rattle.sql_tree.specs.declared.tree.SqlSource.{Derived}
use Rattle.sql_tree.specs.Meaning.{Scope, Scopes, answer_of, from_rows, rows_in, truth_in, value_in}
use Rattle.sql_tree.proofs.MeaningLemmas.{from_rows_is, items-select, order-select, row_of, rows_in-select, selected, source_rows-Derived, truth_in-And, truth_in-Exists, truth_in-Not, value_in-Column}
use Rattle.sql_tree.proofs.MeaningLemmas as sql
use Rattle.rewritten_query.specs.Columns.{mentioned, number_among, own_column, rank_column, used}
use Rattle.rewritten_query.specs.Conditions.{cond_put, conjunction, scalar_put}
use Rattle.written_query_meaning.specs.Held.{rank_of}
use Rattle.rewritten_query.specs.Leaves.{number}
use Rattle.written_query_meaning.specs.Meaning.{MeansAnswer, duel, held_by}
use Rattle.rewritten_query.specs.Names.{candidates_name, column_up, of_tables, rival_name, rivals_name}
use Rattle.rewritten_query.specs.Rankings.{group_cond, ranking_of}
use Rattle.rewritten_query.specs.Rewriting.{and_only, auxiliary_query, best_cond, best_query, output_items, own_place, own_quality, plain_query, quality_of_tables, rewritten, rewritten_by, rival_conds, rivals_query, table_items, where_over_tables}
use Rattle.query_meaning.specs.Valid.{IsOutput, IsOverLeaves, IsValidBlock, block_leaves}
use Rattle.written_query_meaning.proofs.Candidates.{auxiliary_rows, leaves_numbered}
use Rattle.written_query_meaning.proofs.Cells.{rank_cell, used_cell}
use Rattle.written_query_meaning.proofs.Compared.{is_true_of}
use Rattle.written_query_meaning.proofs.CondPut.{IsRead}
use Rattle.written_query_meaning.proofs.Duels.{in_flat, itself, judges, only_mentioned, output_mentioned}
use Rattle.prefsql_tables.proofs.ListLemmas.{any_on, filter-map, filter_on, list_any-map, map_on}
use Rattle.prefsql_tables.proofs.ProductLemmas.{product_of_one}
use Rattle.order_laws.proofs.Members.{filter_filter, filter_true}
use Rattle.query_meaning.proofs.AskedLemmas.{candidates_chosen}
use Rattle.written_query_meaning.proofs.Places.{used_has}
use Rattle.written_query_meaning.proofs.Readings.{literal_read}
use Rattle.written_query_meaning.proofs.Sources.{and_holds, candidates_selected, conds_hold, conjunction_holds, place_read, scope_of}

-- whether something passes a filter
any_kept : {X : Type 0} (K : X → Bool) (xs : List X) → list_any (λ x. true) (filter K xs) ≡ list_any K xs
any_kept K [] = refl
any_kept K (x ∷ xs) = go (K x) ∙ ap (λ b. K x || b) (any_kept K xs)
  where
    go : (b : Bool) → list_any (λ x. true) (cond b (x ∷ filter K xs) (filter K xs)) ≡ (b || list_any (λ x. true) (filter K xs))
    go true = refl
    go false = refl

-- ---- the level or the distance

quality_rank : (kind : Kind) (v : Value) → (has_level kind || has_distance kind) ≡ true → rank_of kind v ≡ quality_of (level_of kind v) (distance_of kind v)
quality_rank (Pos s) v has = refl
quality_rank (Neg s) v has = refl
quality_rank (PosPos s t) v has = refl
quality_rank (PosNeg s t) v has = refl
quality_rank (Layered before after) v has = refl
quality_rank (Explicit g) v has = refl
quality_rank (Around z) v has = refl
quality_rank (Between low up) v has = refl
quality_rank Lowest v has = absurd (false≢true has)
quality_rank Highest v has = absurd (false≢true has)

-- ---- NOT EXISTS and BUT ONLY

not_true : (b : Bool) → is_true (negated (truth_of b)) ≡ not b
not_true true = refl
not_true false = refl

and_true : (b : Bool) → b ≡ (b && true)
and_true true = refl
and_true false = refl

module _ (tables : Tables) (scopes : Scopes) where
  abbrev holds : SqlCond → Bool
  holds c = is_true (truth_in tables c scopes)

  two_hold : (c d : SqlCond) → holds (And (c ∷ d ∷ [])) ≡ (holds c && holds d)
  two_hold c d = and_holds tables scopes (c ∷ d ∷ []) ∙ ap (λ b. holds c && b) (sym (and_true (holds d)))

  only_holds : (c : SqlCond) (conds : List SqlCond) → holds (and_only c (conjunction conds)) ≡ (holds c && list_all (λ d. is_true (truth_in tables d scopes)) conds)
  only_holds c [] = and_true (holds c)
  only_holds c (d ∷ []) = two_hold c d ∙ ap (λ b. holds c && b) (and_true (holds d))
  only_holds c (d ∷ e ∷ more) = two_hold c (And (d ∷ e ∷ more)) ∙ ap (λ b. holds c && b) (and_holds tables scopes (d ∷ e ∷ more))

outputs_kept : (block : Block) → IsValidBlock block → All (λ (output : Output). IsOverLeaves (block_leaves block) output.scalar) block.output
outputs_kept block is =
    All-weaker (IsOutput (block_leaves block)) (λ (output : Output). IsOverLeaves (block_leaves block) output.scalar)
    (λ output valid. valid.scalar) block.output is.output

arranged_once : (distinct : Bool) (keys : List SortKey) (rows : List AnswerRow) → arranged false keys (cond distinct (each_once rows) rows) ≡ arranged distinct keys rows
unfolding arranged
arranged_once distinct keys rows = refl

module _ (block : Block) (is : IsValidBlock block) (tables : Tables) (valid : IsTableSet tables) (fits : FitsTables tables block) where
  abbrev cands : List Combo
  cands = candidates tables block

  abbrev IsChosen : Combo → Type 0
  IsChosen combo = IsChoice (row_counts tables block.from) combo.rows

  abbrev see : Combo → ColumnPlace → Value
  see = seen tables block

  -- ---- with a preference

  module _ (term : Term) (term_is : block.term ≡ Some term) where
    abbrev R : Combo → AnswerRow
    R = held_by tables block term

    abbrev single : Combo → Scope
    single combo = R combo ∷ []

    abbrev leaves : List Leaf
    leaves = leaves_of term

    abbrev IsOwnRead : Combo → Scalar → Type 0
    IsOwnRead x = IsRead tables (single x ∷ []) (own_place block term) (own_quality block term) (see x)

    own_read : (x : Combo) (column : ℕ) → value_in tables (column_up 0 column) (single x ∷ []) ≡ get_or (R x).cells column Null
    own_read x column = value_in-Column tables (record { up = 0; item = 0; column = column }) (single x ∷ [])

    own_scalar : (x : Combo) (s : Scalar) → IsScalar block.from s → IsOverLeaves leaves s → ((p : ColumnPlace) → Contains (own_column s) p → Contains (mentioned block term) p) → IsOwnRead x s
    own_scalar x (scalar.Column p) placed kept has = record {
      value = own_read x (number_among (used block term) p) ∙ used_cell (used block term) leaves (see x) p (used_has block term p placed (has p (itself p)));
      best = tt;
    }
    own_scalar x (scalar.Literal v) placed kept has = record { value = literal_read tables (single x ∷ []) v; best = tt }
    own_scalar x (scalar.Quality q) placed kept has =
        let leaf = kept.1 in
        record {
          value =
              own_read x (rank_column (used block term) leaves q.leaf)
              ∙ ap (λ n. get_or (R x).cells (rank_column (used block term) leaves n) Null) kept.4.number
              ∙ rank_cell (used block term) leaves (see x) (leaves_numbered block term is term_is) leaf (kept.0, kept.2, kept.3)
              ∙ (λ j. rank_of (sym kept.4.base j) (see x (sym kept.4.place j)))
              ∙ quality_rank q.base (see x q.place) placed.has_quality;
          best = placed.has_quality;
        }

    outputs_read : (x : Combo) → row_of tables (output_items (own_place block term) (own_quality block term) block.output) (single x ∷ []) ≡ output_row block (see x)
    outputs_read x =
        let item : Output → SqlItem = λ output. record { value = scalar_put (own_place block term) (own_quality block term) output.scalar; name = output.name } in
        λ j. record {
          cells =
              (map-map (λ (i : SqlItem). value_in tables i.value (single x ∷ [])) item block.output
              ∙ map_on (λ (output : Output). value_in tables (scalar_put (own_place block term) (own_quality block term) output.scalar) (single x ∷ [])) (λ (output : Output). scalar_value (see x) output.scalar) block.output
              (λ k d small. (own_scalar x (get_or block.output k d).scalar (is.places.output k d small) (kept_output k d small)
              (λ p there. output_mentioned block term p (in_flat (λ (output : Output). own_column output.scalar) block.output (get_or block.output k d) p (Contains-get_or block.output k d small) there))).value)) j;
        }
      where
        kept_output : All (λ (output : Output). IsOverLeaves leaves output.scalar) block.output
        kept_output = subst (λ (o : Option Term). All (λ (output : Output). IsOverLeaves (leaves_left o) output.scalar) block.output) term_is (outputs_kept block is)

    only_read : (x : Combo) → list_all (λ c. is_true (truth_in tables c (single x ∷ []))) (map (cond_put (own_place block term) (own_quality block term)) block.only) ≡ passes block.only (see x)
    only_read x =
        conds_hold tables (single x ∷ []) (own_place block term) (own_quality block term) (see x) block.only
        (λ k d small. own_scalar x (get_or scalars k d) (is.places.only k d small) (kept_only k d small)
        (λ p there. only_mentioned block term p (in_flat own_column scalars (get_or scalars k d) p (Contains-get_or scalars k d small) there)))
      where
        scalars : List Scalar
        scalars = flat_map scalars_of block.only

        kept_only : All (IsOverLeaves leaves) (flat_map scalars_of block.only)
        kept_only = subst (λ (o : Option Term). All (IsOverLeaves (leaves_left o)) (flat_map scalars_of block.only)) term_is is.only.scalars

    -- the rows of the auxiliary query as the one FROM item
    derived_product : (name : List ℕ) → product (map (from_rows tables) (record { name = name; source = Derived (auxiliary_query block term) } ∷ [])) ≡ map single cands
    derived_product name =
        let a : SqlFrom = record { name = name; source = Derived (auxiliary_query block term) } in
        (λ j. product ((from_rows_is tables a ∙ source_rows-Derived tables (auxiliary_query block term) ∙ auxiliary_rows block term is term_is tables valid fits []) j ∷ []))
        ∙ product_of_one (map R cands)
        ∙ map-map (λ (r : AnswerRow). r ∷ []) R cands

    abbrev better : Combo → Combo → Bool
    better = on see ((grouped_order block.groups term).better)

    -- a rival passes exactly where it is of the group and better
    rival_passes : (y x : Combo) → IsChosen y → IsChosen x → sql.passes tables (conjunction (rival_conds block term)) (duel tables block term y x) ≡ better y x
    rival_passes y x y_chosen x_chosen =
        let judged = judges block term is term_is tables valid fits y x y_chosen x_chosen in
        let scopes = duel tables block term y x in
        let test : SqlCond → Bool = λ c. is_true (truth_in tables c scopes) in
        let B = (ranking_of (used block term) leaves term).better in
        conjunction_holds tables scopes (rival_conds block term)
        ∙ list_all-append test (map (group_cond (used block term) block.from) block.groups) (B ∷ [])
        ∙ (λ j. (list_all-map test (group_cond (used block term) block.from) block.groups ∙ judged.group) j
        && (sym (and_true (test B)) ∙ ap is_true judged.better ∙ is_true_of ((order_of term).better (see y) (see x))) j)

    -- there is a rival exactly where some candidate of the group is better
    some_rival : (x : Combo) → IsChosen x → list_any (λ r. true) (rows_in tables (rivals_query block term) (single x ∷ [])) ≡ list_any (λ y. better y x) cands
    some_rival x x_chosen =
        let items : List SqlItem = record { value = number 1; name = rival_name } ∷ [] in
        let from : List SqlFrom = record { name = rivals_name; source = Derived (auxiliary_query block term) } ∷ [] in
        let K : Scope → Bool = λ scope. sql.passes tables (conjunction (rival_conds block term)) (scope ∷ single x ∷ []) in
        ap (list_any (λ r. true)) (rows_in-select tables false items from (conjunction (rival_conds block term)) [] (single x ∷ []))
        ∙ list_any-map (λ r. true) (λ scope. row_of tables items (scope ∷ single x ∷ [])) (filter K (product (map (from_rows tables) from)))
        ∙ any_kept K (product (map (from_rows tables) from))
        ∙ ap (list_any K) (derived_product rivals_name)
        ∙ list_any-map K single cands
        ∙ any_on (λ y. K (single y)) (λ y. better y x) cands
        (All-weaker IsChosen (λ y. K (single y) ≡ better y x) (λ y y_chosen. rival_passes y x y_chosen x_chosen) cands (candidates_chosen tables block))

    kept_test : (x : Combo) → IsChosen x → is_true (truth_in tables (best_cond block term) (single x ∷ [])) ≡ (is_unbettered better cands x && passes block.only (see x))
    kept_test x x_chosen =
        let scopes = single x ∷ [] in
        let rivals = rivals_query block term in
        only_holds tables scopes (Not (Exists rivals)) (map (cond_put (own_place block term) (own_quality block term)) block.only)
        ∙ (λ j. (ap is_true (truth_in-Not tables (Exists rivals) scopes ∙ ap negated (truth_in-Exists tables rivals scopes ∙ ap truth_of (some_rival x x_chosen)))
        ∙ not_true (list_any (λ y. better y x) cands)) j
        && only_read x j)

    kept_is : kept_rows tables block ≡ filter (λ x. passes block.only (see x)) (filter (is_unbettered better cands) cands)
    kept_is = λ j. filter (λ x. passes block.only (see x)) (best_by (term_is j) block.groups see cands)

    best_selected : selected tables (output_items (own_place block term) (own_quality block term) block.output) (record { name = candidates_name; source = Derived (auxiliary_query block term) } ∷ []) (Some (best_cond block term)) []
        ≡ map (λ combo. output_row block (see combo)) (kept_rows tables block)
    best_selected =
        let items = output_items (own_place block term) (own_quality block term) block.output in
        let K : Scope → Bool = λ scope. sql.passes tables (Some (best_cond block term)) (scope ∷ []) in
        let row : Scope → AnswerRow = λ scope. row_of tables items (scope ∷ []) in
        ap (λ all. map row (filter K all)) (derived_product candidates_name)
        ∙ ap (map row) (filter-map K single cands)
        ∙ map-map row single (filter (λ x. K (single x)) cands)
        ∙ map_on (λ x. row (single x)) (λ x. output_row block (see x)) (filter (λ x. K (single x)) cands) (λ k d small. outputs_read (get_or (filter (λ x. K (single x)) cands) k d))
        ∙ ap (map (λ x. output_row block (see x)))
        (filter_on (λ x. K (single x)) (λ x. is_unbettered better cands x && passes block.only (see x)) cands
        (All-weaker IsChosen (λ x. K (single x) ≡ (is_unbettered better cands x && passes block.only (see x))) kept_test cands (candidates_chosen tables block))
        ∙ sym (filter_filter (λ x. passes block.only (see x)) (is_unbettered better cands) cands)
        ∙ sym kept_is)

    pub best_means : answer_of tables (best_query block term) ≡ answers.answer_of tables block
    unfolding answer_of answers.answer_of
    best_means =
        let items = output_items (own_place block term) (own_quality block term) block.output in
        let from : List SqlFrom = record { name = candidates_name; source = Derived (auxiliary_query block term) } ∷ [] in
        let kept = Some (best_cond block term) in
        λ j. record {
          names =
              (ap (map (λ (item : SqlItem). item.name)) (items-select block.distinct items from kept block.order)
              ∙ map-map (λ (item : SqlItem). item.name) (λ (output : Output). let i : SqlItem = record { value = scalar_put (own_place block term) (own_quality block term) output.scalar; name = output.name } in i) block.output) j;
          rows =
              (ap (λ keys. arranged false keys (rows_in tables (best_query block term) [])) (order-select block.distinct items from kept block.order)
              ∙ ap (arranged false block.order) (rows_in-select tables block.distinct items from kept block.order [])
              ∙ arranged_once block.distinct block.order _
              ∙ ap (arranged block.distinct block.order) best_selected) j;
        }

  -- ---- without one

  module _ (none : block.term ≡ None) where
    plain_scalar : (x : Combo) → IsChosen x → (s : Scalar) → IsScalar block.from s → IsOverLeaves [] s → value_in tables (scalar_put of_tables quality_of_tables s) (scope_of tables block x ∷ []) ≡ scalar_value (see x) s
    plain_scalar x chosen (scalar.Column p) placed kept = place_read tables block fits x chosen [] p placed
    plain_scalar x chosen (scalar.Literal v) placed kept = literal_read tables (scope_of tables block x ∷ []) v
    plain_scalar x chosen (scalar.Quality q) placed kept = absurd (omega (arith, kept.2))

    plain_outputs : (x : Combo) → IsChosen x → row_of tables (output_items of_tables quality_of_tables block.output) (scope_of tables block x ∷ []) ≡ output_row block (see x)
    plain_outputs x chosen =
        let item : Output → SqlItem = λ output. record { value = scalar_put of_tables quality_of_tables output.scalar; name = output.name } in
        λ j. record {
          cells =
              (map-map (λ (i : SqlItem). value_in tables i.value (scope_of tables block x ∷ [])) item block.output
              ∙ map_on (λ (output : Output). value_in tables (scalar_put of_tables quality_of_tables output.scalar) (scope_of tables block x ∷ [])) (λ (output : Output). scalar_value (see x) output.scalar) block.output
              (λ k d small. plain_scalar x chosen (get_or block.output k d).scalar (is.places.output k d small) (kept_output k d small))) j;
        }
      where
        kept_output : All (λ (output : Output). IsOverLeaves [] output.scalar) block.output
        kept_output = subst (λ (o : Option Term). All (λ (output : Output). IsOverLeaves (leaves_left o) output.scalar) block.output) none (outputs_kept block is)

    only_none : block.only ≡ []
    only_none = (subst (λ (o : Option Term). IfNone o ((block.groups ≡ []) × (block.only ≡ []))) none is.ungrouped).1

    all_kept : kept_rows tables block ≡ cands
    all_kept =
        (λ j. filter (λ x. passes (only_none j) (see x)) (best_by (none j) block.groups see cands))
        ∙ filter_true (λ x. true) cands (λ x. refl)

    pub plain_means : answer_of tables (plain_query block) ≡ answers.answer_of tables block
    unfolding answer_of answers.answer_of
    plain_means =
        let items = output_items of_tables quality_of_tables block.output in
        let from = table_items 1 block.from in
        let kept = where_over_tables block in
        λ j. record {
          names =
              (ap (map (λ (item : SqlItem). item.name)) (items-select block.distinct items from kept block.order)
              ∙ map-map (λ (item : SqlItem). item.name) (λ (output : Output). let i : SqlItem = record { value = scalar_put of_tables quality_of_tables output.scalar; name = output.name } in i) block.output) j;
          rows =
              (ap (λ keys. arranged false keys (rows_in tables (plain_query block) [])) (order-select block.distinct items from kept block.order)
              ∙ ap (arranged false block.order) (rows_in-select tables block.distinct items from kept block.order [])
              ∙ arranged_once block.distinct block.order _
              ∙ ap (arranged block.distinct block.order)
              (candidates_selected tables block fits is.places.filter is.filter.scalars items []
              ∙ map_on (λ x. row_of tables items (scope_of tables block x ∷ [])) (λ x. output_row block (see x)) cands
              (All-weaker IsChosen (λ x. row_of tables items (scope_of tables block x ∷ []) ≡ output_row block (see x)) plain_outputs cands (candidates_chosen tables block))
              ∙ ap (map (λ x. output_row block (see x))) (sym all_kept))) j;
        }

  by_term : (o : Option Term) → block.term ≡ o → answer_of tables (rewritten_by o block) ≡ answers.answer_of tables block
  by_term None none = plain_means none
  by_term (Some term) some = best_means term some

-- the whole query means the block's answer over every set of tables that the block fits
pub means_answer : (block : Block) → IsValidBlock block → MeansAnswer block
unfolding rewritten
means_answer block is tables valid fits = by_term block is tables valid fits block.term refl
