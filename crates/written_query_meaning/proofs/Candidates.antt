-- The rows of the auxiliary query are the candidates in order, each with its used values and what each leaf ranks it by.
use Rattle.std.proofs.Common.{◌≡◌, ℕ, ◌+◌, false, Option, Some, List, [], ◌∷◌, ◌++◌, length, get_or, map, All, refl, ap, ◌∙◌, subst}
use Rattle.std.specs.Prelude.{IfSome}
use Rattle.std.specs.List.{flat_map, range_with_len}
use Rattle.std.proofs.lemmas.List.{map-append}
use Rattle.std.proofs.lemmas.List.Elements.{All-head, All-tail, All-weaker}
use Rattle.prefsql_values.specs.declared.value.Value.{Value}
use Rattle.prefsql_tables.specs.declared.place.ColumnPlace.{ColumnPlace}
use Rattle.prefsql_tables.specs.declared.place.Combo.{Combo}
use Rattle.prefsql_tables.specs.Table.{Tables}
use Rattle.prefsql_tables.specs.Valid.{IsTableSet}
use Rattle.prefsql_tables.proofs.ProductLemmas.{map-flat_map}
use Rattle.base_prefs.specs.declared.kind.Kind.{Kind}
use Rattle.base_prefs.specs.declared.kind.Kind.TheVariants.{Pos, Neg, PosPos, PosNeg, Layered, Explicit, Around, Between, Lowest, Highest}
use Rattle.base_prefs.specs.Kind.{IsJudged}
use Rattle.base_prefs.specs.KindLimits.{IsSound}
use Rattle.pref_terms.specs.declared.term.Leaf.{Leaf}
use Rattle.pref_terms.specs.declared.term.Term.{Term}
use Rattle.pref_terms.specs.Fits.{LeafFits}
use Rattle.pref_terms.specs.Parts.{leaves_left}
use Rattle.pref_terms.specs.Terms.{leaves_of}
use Rattle.pref_terms.proofs.Judged.{fits_judged}
use Rattle.query_meaning.specs.declared.block.Block.{Block}
use Rattle.query_meaning.specs.Answers.{candidates, indexes_of, row_counts, seen}
use Rattle.query_meaning.specs.BlockFits.{FitsTables, IsLeaf, IsPlace}
use Rattle.query_meaning.specs.Choices.{IsChoice}
use Rattle.query_meaning.proofs.ChoiceLemmas.{term_fits}
use Rattle.sql_tree.specs.declared.tree.SqlItem.{SqlItem}
use Rattle.sql_tree.specs.declared.tree.SqlScalar.{SqlScalar}
use Rattle.sql_tree.specs.Meaning.{Scopes, rows_in, value_in}
use Rattle.sql_tree.proofs.MeaningLemmas.{row_of, rows_in-select}
use Rattle.rewritten_query.specs.Columns.{auxiliary_items, code_items, leaf_items, used, used_items}
use Rattle.written_query_meaning.specs.Held.{codes_of, leaf_values}
use Rattle.written_query_meaning.specs.Meaning.{held_by}
use Rattle.rewritten_query.specs.Names.{of_tables}
use Rattle.rewritten_query.specs.Rewriting.{auxiliary_query, table_items, where_over_tables}
use Rattle.query_meaning.specs.Valid.{IsValidBlock, IsValidLeaf, block_leaves}
use Rattle.prefsql_tables.proofs.ListLemmas.{flat_map_on, map_on}
use Rattle.written_query_meaning.proofs.Places.{used_there}
use Rattle.written_query_meaning.proofs.Ranks.{code_read, rank_read}
use Rattle.query_meaning.proofs.AskedLemmas.{candidates_chosen}
use Rattle.written_query_meaning.proofs.Sources.{candidates_selected, place_read, scope_of}

module _ (block : Block) (term : Term) (is : IsValidBlock block) (term_is : block.term ≡ Some term) where
  leaves_are : block_leaves block ≡ leaves_of term
  leaves_are = ap leaves_left term_is

  pub leaves_placed : All (IsLeaf block.from) (leaves_of term)
  leaves_placed = subst (λ (o : Option Term). IfSome o (λ t. All (IsLeaf block.from) (leaves_of t))) term_is is.places.leaves

  pub leaves_sound : All (λ (leaf : Leaf). IsSound leaf.base) (leaves_of term)
  leaves_sound =
      All-weaker (IsValidLeaf block.from) (λ (leaf : Leaf). IsSound leaf.base) (λ leaf valid. valid.sound) (leaves_of term)
      (subst (All (IsValidLeaf block.from)) leaves_are is.leaves)

  pub leaves_numbered : map (λ (leaf : Leaf). leaf.number) (leaves_of term) ≡ range_with_len 1 (length (leaves_of term))
  leaves_numbered = subst (λ (leaves : List Leaf). map (λ (leaf : Leaf). leaf.number) leaves ≡ range_with_len 1 (length leaves)) leaves_are is.numbered

  module _ (tables : Tables) (valid : IsTableSet tables) (fits : FitsTables tables block) (combo : Combo) (chosen : IsChoice (row_counts tables block.from) combo.rows) where
    pub leaves_judged : All (λ (leaf : Leaf). IsJudged leaf.base (seen tables block combo leaf.place)) (leaves_of term)
    leaves_judged =
        All-weaker (LeafFits tables (indexes_of block.from) 0 combo.rows) (λ (leaf : Leaf). IsJudged leaf.base (seen tables block combo leaf.place))
        (λ leaf leaf_fits. fits_judged tables (indexes_of block.from) 0 combo.rows leaf valid leaf_fits) (leaves_of term)
        (term_fits tables block.from fits combo.rows chosen term block.groups leaves_placed is.places.groups).leaves.each

    module _ (scopes : Scopes) where
      abbrev value : SqlScalar → Value
      value s = value_in tables s (scope_of tables block combo ∷ scopes)

      abbrev item_value : SqlItem → Value
      item_value item = value item.value

      used_read : (n : ℕ) (places : List ColumnPlace) → All (IsPlace block.from) places → map item_value (used_items n places) ≡ map (seen tables block combo) places
      used_read n [] all = refl
      used_read n (place ∷ places) all = λ j.
          place_read tables block fits combo chosen scopes place (All-head (IsPlace block.from) place places all) j ∷ used_read (n + 1) places (All-tail (IsPlace block.from) place places all) j

      codes_read : (kind : Kind) (place : ColumnPlace) (n : ℕ) (v : Value) → IsSound kind → IsJudged kind v → value (of_tables place) ≡ v → map item_value (code_items kind place n) ≡ codes_of kind v
      codes_read (Explicit g) place n v sound judged is_v = λ j. code_read tables (scope_of tables block combo ∷ scopes) (of_tables place) v is_v judged g.edges sound.literal j ∷ []
      codes_read (Pos s) place n v sound judged is_v = refl
      codes_read (Neg s) place n v sound judged is_v = refl
      codes_read (PosPos s t) place n v sound judged is_v = refl
      codes_read (PosNeg s t) place n v sound judged is_v = refl
      codes_read (Layered before after) place n v sound judged is_v = refl
      codes_read (Around z) place n v sound judged is_v = refl
      codes_read (Between low up) place n v sound judged is_v = refl
      codes_read Lowest place n v sound judged is_v = refl
      codes_read Highest place n v sound judged is_v = refl

      leaf_read : (leaf : Leaf) → IsPlace block.from leaf.place → IsSound leaf.base → IsJudged leaf.base (seen tables block combo leaf.place) → map item_value (leaf_items leaf) ≡ leaf_values (seen tables block combo) leaf
      leaf_read leaf placed sound judged =
          let v = seen tables block combo leaf.place in
          let shown = place_read tables block fits combo chosen scopes leaf.place placed in
          λ j. rank_read tables (scope_of tables block combo ∷ scopes) (of_tables leaf.place) leaf.base sound v shown judged j ∷ codes_read leaf.base leaf.place leaf.number v sound judged shown j

      cells_read : map item_value (auxiliary_items (used block term) (leaves_of term)) ≡ (held_by tables block term combo).cells
      cells_read =
          map-append item_value (used_items 1 (used block term)) (flat_map leaf_items (leaves_of term))
          ∙ (λ j. used_read 1 (used block term) (used_there block term) j
          ++ (map-flat_map item_value leaf_items (leaves_of term)
          ∙ flat_map_on (λ leaf. map item_value (leaf_items leaf)) (leaf_values (seen tables block combo)) (leaves_of term)
          (λ k d small. leaf_read (get_or (leaves_of term) k d) (leaves_placed k d small).ranked.there (leaves_sound k d small) (leaves_judged k d small))) j)

      pub held_read : row_of tables (auxiliary_items (used block term) (leaves_of term)) (scope_of tables block combo ∷ scopes) ≡ held_by tables block term combo
      held_read = λ j. record { cells = cells_read j }

  module _ (tables : Tables) (valid : IsTableSet tables) (fits : FitsTables tables block) where
    -- the rows of the auxiliary query
    pub auxiliary_rows : (scopes : Scopes) → rows_in tables (auxiliary_query block term) scopes ≡ map (held_by tables block term) (candidates tables block)
    auxiliary_rows scopes =
        let items = auxiliary_items (used block term) (leaves_of term) in
        rows_in-select tables false items (table_items 1 block.from) (where_over_tables block) [] scopes
        ∙ candidates_selected tables block fits is.places.filter is.filter.scalars items scopes
        ∙ map_on (λ combo. row_of tables items (scope_of tables block combo ∷ scopes)) (held_by tables block term) (candidates tables block)
        (All-weaker (λ combo. IsChoice (row_counts tables block.from) combo.rows) (λ combo. row_of tables items (scope_of tables block combo ∷ scopes) ≡ held_by tables block term combo)
        (λ combo chosen. held_read tables valid fits combo chosen scopes) (candidates tables block) (candidates_chosen tables block))
