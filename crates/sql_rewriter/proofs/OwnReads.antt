-- A candidate by its used columns is a candidate of the block.
use Rattle.std.proofs.Common.{◌≡◌, List, map, ap}
use Rattle.prefsql_tables.specs.declared.place.ColumnPlace.{ColumnPlace}
use Rattle.pref_terms.specs.declared.term.Term.{Term}
use Rattle.pref_terms.specs.Terms.{leaves_of}
use Rattle.query_meaning.specs.declared.block.Block.{Block}
use Rattle.rewritten_query.specs.Columns.{number_among, rank_column, used}
use Rattle.rewritten_query.specs.Conditions.{cond_put}
use Rattle.rewritten_query.specs.Names.{column_up}
use Rattle.rewritten_query.specs.Rewriting.{output_items, own_place, own_quality}

pub own_conds : (block : Block) (term : Term) (places : List ColumnPlace) → places ≡ used block term
    → map (cond_put (λ p. column_up 0 (number_among places p)) (λ q. column_up 0 (rank_column places (leaves_of term) q.leaf))) block.only ≡ map (cond_put (own_place block term) (own_quality block term)) block.only
own_conds block term places is = ap (λ ps. map (cond_put (λ p. column_up 0 (number_among ps p)) (λ q. column_up 0 (rank_column ps (leaves_of term) q.leaf))) block.only) is

pub own_outputs : (block : Block) (term : Term) (places : List ColumnPlace) → places ≡ used block term
    → output_items (λ p. column_up 0 (number_among places p)) (λ q. column_up 0 (rank_column places (leaves_of term) q.leaf)) block.output ≡ output_items (own_place block term) (own_quality block term) block.output
own_outputs block term places is = ap (λ ps. output_items (λ p. column_up 0 (number_among ps p)) (λ q. column_up 0 (rank_column ps (leaves_of term) q.leaf)) block.output) is
