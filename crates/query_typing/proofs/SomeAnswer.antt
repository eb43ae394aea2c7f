-- Over valid tables, statements that are well made and keep what they owe are typed as queries. A script of others has a first fault.
use Rattle.std.proofs.Common.{◌≡◌, ◌⊎◌, inl, inr, ℕ, ◌+◌, Option, Some, None, List, [], ◌∷◌, map, All, refl}
use Rattle.std.proofs.lemmas.Bool.{false_from_ne_true}
use Rattle.std.proofs.lemmas.List.Elements.{All-head, All-tail}
use Rattle.prefsql_lexer.specs.declared.fault.Spot.{Spot}
use Rattle.prefsql_tables.specs.Table.{Tables}
use Rattle.prefsql_tables.specs.Valid.{IsTableSet}
use Rattle.base_prefs.proofs.Paths.{is_above-Decides}
use Rattle.base_prefs.specs.Graph.{graph_height, graph_level, graph_values, greatest, is_above}
use Rattle.base_prefs.specs.Kind.{number_of}
use Rattle.base_prefs.specs.Outcome.{HasCycle}
use Rattle.base_prefs.specs.Sets.{once}
use Rattle.base_prefs.specs.declared.edge.Edge.{Edge}
use Rattle.base_prefs.specs.declared.graph.Graph.{Graph}
use Rattle.base_prefs.specs.declared.kind.Kind.{Kind}
use Rattle.base_prefs.specs.declared.kind.Kind.TheVariants as kind
use Rattle.pref_terms.specs.declared.term.Leaf.{Leaf}
use Rattle.query_meaning.specs.declared.block.Block.{Block}
use Rattle.query_tree.specs.WellMade.{AreWellMade, IsQuery}
use Rattle.query_tree.specs.declared.preference.BaseForm.{BaseForm}
use Rattle.query_tree.specs.declared.preference.BaseForm.TheVariants as form
use Rattle.query_tree.specs.declared.preference.BaseTree.{BaseTree}
use Rattle.query_tree.specs.declared.query.FromTree.{FromTree}
use Rattle.query_tree.specs.declared.query.QueryTree.{QueryTree}
use Rattle.query_typing.specs.Columns.{column_of, place_found}
use Rattle.query_typing.specs.Leaves.{bases_if}
use Rattle.query_typing.specs.Made.{IsMakeable}
use Rattle.query_typing.specs.Obligations.{AllClausesMet, AllMet, first_fault}
use Rattle.query_typing.specs.Preferences.{bases_obligations, edge_of}
use Rattle.query_typing.specs.Resolution.{AreLeavesOf, IsBlockOf, IsKindOf, IsLeafOf, resolved_block, value_set}
use Rattle.query_typing.specs.Statements.{obligations}
use Rattle.query_typing.specs.Typing.{AreTyped, IsFirstOfScript, IsTyped}
use Rattle.query_typing.proofs.BaseLaws.{bases_makeable}
use Rattle.query_typing.proofs.FirstLaws.{all_clauses_met, is_first_fault}
use Rattle.query_typing.proofs.StatementLaws.{good_bases}
use Rattle.query_typing.proofs.ValidBlocks.{fitting_block, valid_block}

-- ---- base preferences

-- edges without a cycle have a graph
abbrev graph_of : (edges : List Edge) → (HasCycle edges → ⊥) → Graph
graph_of edges none = record {
  edges = edges;
  values = graph_values edges;
  rows = map (λ u. map (λ v. is_above edges u v) (graph_values edges)) (graph_values edges);
  levels = map (graph_level edges) (graph_values edges);
  outside = greatest (map (graph_height edges) (graph_values edges)) + 2;
  acyclic = λ v. false_from_ne_true (is_above edges v v) (λ above. none (v, (is_above-Decides edges v v).0 above));
  listed = refl;
  closed = refl;
  leveled = refl;
  outside_level = refl;
}

some_kind : (f : BaseForm) → IsMakeable f → (k : Kind) × IsKindOf f k
some_kind (form.Pos set) able = (kind.Pos (once (value_set set)), refl)
some_kind (form.Neg set) able = (kind.Neg (once (value_set set)), refl)
some_kind (form.PosPos first column second) able = (kind.PosPos (once (value_set first)) (once (value_set second)), refl)
some_kind (form.PosNeg good column bad) able = (kind.PosNeg (once (value_set good)) (once (value_set bad)), refl)
some_kind (form.Layered before after) able = (kind.Layered (map once (map value_set before)) (map once (map value_set after)), refl)
some_kind (form.Explicit edges) able = (kind.Explicit (graph_of (map edge_of edges) able.1), refl)
some_kind (form.Around middle) able = (kind.Around (number_of middle.value), refl)
some_kind (form.Between low high) able = (kind.Between (number_of low.value) (number_of high.value), refl)
some_kind form.Lowest able = (kind.Lowest, refl)
some_kind form.Highest able = (kind.Highest, refl)

module _ (tables : Tables) (from : List FromTree) where
  some_leaf : (number : ℕ) (base : BaseTree) → IsMakeable base.form → (leaf : Leaf) × IsLeafOf tables from number base leaf
  some_leaf number base able =
      let made = some_kind base.form able in
      let leaf : Leaf = record {
        number = number;
        place = place_found (column_of tables from base.column);
        base = made.0;
        trivial = base.trivial;
      } in
      (leaf, record { numbered = refl; place = refl; base = made.1; trivial = refl })

  some_leaves : (number : ℕ) (bases : List BaseTree) → All (λ (base : BaseTree). IsMakeable base.form) bases → (leaves : List Leaf) × AreLeavesOf tables from number bases leaves
  some_leaves number [] able = ([], tt)
  some_leaves number (base ∷ bases) able =
      let Able : BaseTree → Type 0 = λ base. IsMakeable base.form in
      let first = some_leaf number base (All-head Able base bases able) in
      let rest = some_leaves (number + 1) bases (All-tail Able base bases able) in
      (first.0 ∷ rest.0, (first.1, rest.1))

-- ---- statements

module _ (tables : Tables) (valid : IsTableSet tables) where
  module _ (query : QueryTree) (is : IsQuery query) (met : AllClausesMet (obligations tables query)) where
    bases_met : AllMet (bases_obligations tables query.from 0 (bases_if query.prefer))
    unfolding obligations
    bases_met = met.1.1.1.0

    resolves : (block : Block) × IsBlockOf tables query block
    resolves =
        let bases = bases_if query.prefer in
        let able = bases_makeable tables query.from 0 bases (good_bases tables query is bases refl) bases_met in
        let leaves = some_leaves tables query.from 1 bases able in
        (resolved_block tables query leaves.0, (leaves.0, leaves.1, refl))

    pub some_query : (block : Block) × IsTyped tables query block
    some_query =
        let block = resolves.0 in
        let of = resolves.1 in (
          block,
          record {
            met = met;
            resolved = of;
            valid = valid_block tables query valid is met block of;
            fits = fitting_block tables query valid is met block of;
          },
        )

  -- ---- scripts

  pub some_queries : (trees : List QueryTree) → AreWellMade trees → All (λ tree. AllClausesMet (obligations tables tree)) trees → (blocks : List Block) × AreTyped tables trees blocks
  some_queries [] are met = ([], tt)
  some_queries (tree ∷ trees) are met =
      let Met : QueryTree → Type 0 = λ tree. AllClausesMet (obligations tables tree) in
      let first = some_query tree (All-head IsQuery tree trees are) (All-head Met tree trees met) in
      let rest = some_queries trees (All-tail IsQuery tree trees are) (All-tail Met tree trees met) in
      (first.0 ∷ rest.0, (first.1, rest.1))

  abbrev Answer : List QueryTree → Type 0
  Answer trees = ((blocks : List Block) × AreTyped tables trees blocks) ⊎ ((spot : Spot) × IsFirstOfScript tables trees spot)

  goes_on : (tree : QueryTree) (trees : List QueryTree) → IsQuery tree → AllClausesMet (obligations tables tree) → Answer trees → Answer (tree ∷ trees)
  goes_on tree trees is met (inl rest) =
      let first = some_query tree is met in
      inl (first.0 ∷ rest.0, (first.1, rest.1))
  goes_on tree trees is met (inr later) = inr (later.0, inr (met, later.1))

  pub queries_or_fault : (trees : List QueryTree) → AreWellMade trees → ((blocks : List Block) × AreTyped tables trees blocks) ⊎ ((spot : Spot) × IsFirstOfScript tables trees spot)
  queries_or_fault [] are = inl ([], tt)
  queries_or_fault (tree ∷ trees) are = by_fault (first_fault (obligations tables tree)) refl (queries_or_fault trees (All-tail IsQuery tree trees are))
    where
      by_fault : (fault : Option Spot) → first_fault (obligations tables tree) ≡ fault → Answer trees → Answer (tree ∷ trees)
      by_fault None none rest = goes_on tree trees (All-head IsQuery tree trees are) (all_clauses_met (obligations tables tree) none) rest
      by_fault (Some spot) some rest = inr (spot, inl (is_first_fault (obligations tables tree) spot some))
