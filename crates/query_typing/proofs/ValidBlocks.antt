-- The block of a statement that is well made and keeps what it owes is valid, and fits the tables.
use Rattle.std.proofs.Common.{◌≡◌, ◌<◌, ◌≤◌, Bool, true, false, Option, Some, None, List, [], ◌∷◌, length, map, All, refl, sym, ap, ◌∙◌, subst, arith}
use Rattle.std.specs.List.{flat_map}
use Rattle.std.specs.Prelude.{IfSome}
use Rattle.std.proofs.lemmas.List.{length-map}
use Rattle.std.proofs.lemmas.List.Elements.{All-nil}
use Rattle.prefsql_tables.specs.Table.{Tables}
use Rattle.prefsql_tables.specs.Valid.{IsTableSet}
use Rattle.pref_terms.specs.Parts.{leaves_left}
use Rattle.pref_terms.specs.Terms.{leaves_of}
use Rattle.pref_terms.specs.declared.term.Leaf.{Leaf}
use Rattle.pref_terms.specs.declared.term.Term.{Term}
use Rattle.conditions.specs.Meaning.{scalars_of}
use Rattle.query_meaning.proofs.CondParts.{no_conjuncts}
use Rattle.query_meaning.specs.BlockFits as fits
use Rattle.query_meaning.specs.BlockFits.{FitsTables, HasPlaces, IsLeaf}
use Rattle.query_meaning.specs.Valid.{AreConjuncts, AreNumbered, IsOutput, IsValidBlock, IsValidLeaf}
use Rattle.query_meaning.specs.declared.block.Block.{Block}
use Rattle.query_meaning.specs.declared.block.FromTable.{FromTable}
use Rattle.query_meaning.specs.declared.block.Output.{Output}
use Rattle.query_tree.specs.WellMade.{IsBase, IsCondition, IsPref, IsQuery}
use Rattle.query_tree.specs.declared.condition.CondTree.{CondTree}
use Rattle.query_tree.specs.declared.preference.BaseTree.{BaseTree}
use Rattle.query_tree.specs.declared.preference.PrefTree.{PrefTree}
use Rattle.query_tree.specs.declared.query.FromTree.{FromTree}
use Rattle.query_tree.specs.declared.query.QueryTree.{QueryTree}
use Rattle.query_typing.specs.Conditions.{column_obligations}
use Rattle.query_typing.specs.Leaves.{bases_if, leaf_sites}
use Rattle.query_typing.specs.Obligations.{AllClausesMet, AllMet}
use Rattle.query_typing.specs.Preferences.{bases_obligations}
use Rattle.query_typing.specs.Resolution.{AreLeavesOf, IsBlockOf, from_table, outputs, resolved_block, resolved_conjuncts, term_if}
use Rattle.query_typing.specs.Statements.{condition_obligations, from_obligations, obligations, output_names, select_obligations}
use Rattle.query_typing.proofs.BaseLaws.{bases_few}
use Rattle.query_typing.proofs.BasesReads.{bases_well_made}
use Rattle.query_typing.proofs.FromLaws.{from_few, outputs_few}
use Rattle.query_typing.proofs.OutputReads.{names-outputs}
use Rattle.query_typing.proofs.ValidConds.{cond_right}
use Rattle.query_typing.proofs.ValidFrom.{schemas_are, tables_fit, tables_valid}
use Rattle.query_typing.proofs.ValidGroups.{groups_placed, keys_small, once_differ, ungrouped}
use Rattle.query_typing.proofs.ValidLeaves.{leaves_are, leaves_counted, leaves_numbered}
use Rattle.query_typing.proofs.ValidOutputs.{outputs_placed, outputs_valid, some_outputs}
use Rattle.query_typing.proofs.ValidScalars.{over}
use Rattle.query_typing.proofs.ValidTerm.{leaves-term}

-- the leaves of the term are those of the base preferences
leaves_is : (prefer : Option PrefTree) (leaves : List Leaf) → IfSome prefer IsPref → length leaves ≡ length (bases_if prefer) → leaves_left (term_if prefer leaves) ≡ leaves
leaves_is None [] is count = refl
leaves_is None (leaf ∷ leaves) is count = absurd (omega (arith, count))
leaves_is (Some pref) leaves is count = leaves-term pref is leaves count

-- the same for what holds of each leaf of the term
term_leaves : (P : Leaf → Type 0) (prefer : Option PrefTree) (leaves : List Leaf) → IfSome prefer IsPref → length leaves ≡ length (bases_if prefer) → All P leaves → IfSome (term_if prefer leaves) (λ (term : Term). All P (leaves_of term))
term_leaves P None leaves is count all = tt
term_leaves P (Some pref) leaves is count all = subst (All P) (sym (leaves-term pref is leaves count)) all

bases_made : (prefer : Option PrefTree) → IfSome prefer IsPref → All IsBase (bases_if prefer)
bases_made None is = All-nil IsBase
bases_made (Some pref) is = bases_well_made pref is

module _ (tables : Tables) (from : List FromTree) (bases : List BaseTree) (leaves : List Leaf) (are : AreLeavesOf tables from 1 bases leaves) (all : AllMet (bases_obligations tables from 0 bases)) (good : All (IsLeaf (map (from_table tables) from)) leaves) (qualities : Bool) where
  conjuncts_valid : (c : Option CondTree) → IfSome c (IsCondition qualities) → AllMet (condition_obligations tables from (leaf_sites tables from bases) c) → AreConjuncts (map (from_table tables) from) (over qualities leaves) (resolved_conjuncts tables from leaves c)
  conjuncts_valid None is met = no_conjuncts (map (from_table tables) from) (over qualities leaves)
  conjuncts_valid (Some c) is met = (cond_right tables from bases leaves are all good qualities c is met).0

  conjuncts_placed : (c : Option CondTree) → IfSome c (IsCondition qualities) → AllMet (condition_obligations tables from (leaf_sites tables from bases) c) → All (fits.IsScalar (map (from_table tables) from)) (flat_map scalars_of (resolved_conjuncts tables from leaves c))
  conjuncts_placed None is met = All-nil (fits.IsScalar (map (from_table tables) from))
  conjuncts_placed (Some c) is met = (cond_right tables from bases leaves are all good qualities c is met).1

module _ (tables : Tables) (query : QueryTree) (valid : IsTableSet tables) (is : IsQuery query) (met : AllClausesMet (obligations tables query)) where
  -- what each clause owes is met
  abbrev Clauses : Type 0
  Clauses =
      AllMet (from_obligations tables [] query.from)
      × AllMet (select_obligations tables query.from (leaf_sites tables query.from (bases_if query.prefer)) query.select)
      × AllMet (condition_obligations tables query.from (leaf_sites tables query.from (bases_if query.prefer)) query.filter)
      × AllMet (bases_obligations tables query.from 0 (bases_if query.prefer))
      × AllMet (flat_map (column_obligations tables query.from) query.groups)
      × AllMet (condition_obligations tables query.from (leaf_sites tables query.from (bases_if query.prefer)) query.only)

  clauses : Clauses
  unfolding obligations
  clauses = (met.0, met.1.0, met.1.1.0, met.1.1.1.0, met.1.1.1.1.0, met.1.1.1.1.1.0)

  module _ (leaves : List Leaf) (are : AreLeavesOf tables query.from 1 (bases_if query.prefer) leaves) where
    abbrev from : List FromTable
    from = map (from_table tables) query.from

    good : All (IsLeaf (map (from_table tables) query.from)) leaves × All (IsValidLeaf (map (from_table tables) query.from)) leaves
    good = leaves_are tables query.from 1 0 (bases_if query.prefer) leaves (bases_made query.prefer is.preference) clauses.3 are

    count : length leaves ≡ length (bases_if query.prefer)
    count = leaves_counted tables query.from 1 (bases_if query.prefer) leaves are

    few : length query.from ≤ 8
    few = let most = from_few tables [] query.from (omega arith) clauses.0 in omega (arith, most)

    of_term : leaves_left (term_if query.prefer leaves) ≡ leaves
    of_term = leaves_is query.prefer leaves is.preference count

    some : 0 < length (outputs tables query.from leaves query.select)
    some = some_outputs tables query.from leaves query.select (schemas_are tables valid query.from clauses.0) is.tables.0.0 is.items

    has_places : HasPlaces (resolved_block tables query leaves)
    unfolding resolved_block
    has_places = record {
      output = outputs_placed tables query.from (bases_if query.prefer) leaves are clauses.3 good.0 query.select (schemas_are tables valid query.from clauses.0) is.items clauses.1;
      filter = conjuncts_placed tables query.from (bases_if query.prefer) leaves are clauses.3 good.0 false query.filter is.condition clauses.2;
      leaves = term_leaves (IsLeaf (map (from_table tables) query.from)) query.prefer leaves is.preference count good.0;
      groups = groups_placed tables query.from query.groups clauses.4;
      only = conjuncts_placed tables query.from (bases_if query.prefer) leaves are clauses.3 good.0 true query.only is.only_condition clauses.5;
    }

    pub block_valid : IsValidBlock (resolved_block tables query leaves)
    unfolding resolved_block
    block_valid = record {
      some_from = (let some = is.tables.0.0 in let mapped = length-map query.from (from_table tables) in omega (arith, some, mapped));
      few_from = (let mapped = length-map query.from (from_table tables) in omega (arith, few, mapped));
      from = tables_valid tables valid query.from is.tables.1 clauses.0;
      some_output = some;
      few_output = outputs_few tables valid query.from leaves query.select few is.items;
      output = subst (λ (ls : List Leaf). All (IsOutput ls) (outputs tables query.from leaves query.select)) (sym of_term)
          (outputs_valid tables query.from (bases_if query.prefer) leaves are clauses.3 good.0 query.select (schemas_are tables valid query.from clauses.0) is.items clauses.1);
      places = has_places;
      few_leaves = (let same = ap length of_term in let most = bases_few tables query.from 0 (bases_if query.prefer) (omega arith) clauses.3 in omega (arith, same, count, most));
      numbered = subst AreNumbered (sym of_term) (leaves_numbered tables query.from 1 (bases_if query.prefer) leaves are);
      leaves = subst (All (IsValidLeaf (map (from_table tables) query.from))) (sym of_term) good.1;
      filter = conjuncts_valid tables query.from (bases_if query.prefer) leaves are clauses.3 good.0 false query.filter is.condition clauses.2;
      only = subst (λ (ls : List Leaf). AreConjuncts (map (from_table tables) query.from) ls (resolved_conjuncts tables query.from leaves query.only)) (sym of_term)
          (conjuncts_valid tables query.from (bases_if query.prefer) leaves are clauses.3 good.0 true query.only is.only_condition clauses.5);
      groups = once_differ _;
      ungrouped = ungrouped tables query.from leaves query.prefer query.groups query.only is.ungrouped;
      order = keys_small (output_names tables query.from query.select) (length (outputs tables query.from leaves query.select)) query.order
          (ap length (sym (names-outputs tables query.from leaves query.select)) ∙ length-map (outputs tables query.from leaves query.select) (λ (output : Output). output.name)) some;
    }

    fits_resolved : FitsTables tables (resolved_block tables query leaves)
    unfolding resolved_block
    fits_resolved = tables_fit tables query.from clauses.0

  pub valid_block : (block : Block) → IsBlockOf tables query block → IsValidBlock block
  valid_block block of = subst IsValidBlock (sym of.2) (block_valid of.0 of.1)

  pub fitting_block : (block : Block) → IsBlockOf tables query block → FitsTables tables block
  fitting_block block of = subst (FitsTables tables) (sym of.2) (fits_resolved of.0 of.1)
