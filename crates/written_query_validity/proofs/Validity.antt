-- The query that a valid block is written as is valid.
use Rattle.std.proofs.Common.{true, false}
use Rattle.query_meaning.specs.Valid.{IsValidBlock}
use Rattle.query_meaning.specs.declared.block.Block.{Block}
use Rattle.sql_tree.specs.WellFormed.{IsValid}
use Rattle.rewritten_query.specs.Rewriting.{rewritten}
use Rattle.written_query_validity.proofs.WholeDepth.{written_depth}
use Rattle.written_query_validity.proofs.WholeFormed.{written_well}

pub written_valid : (block : Block) → IsValidBlock block → IsValid (rewritten block)
written_valid block valid = record {
  formed = written_well false block valid;
  told = written_well true block valid;
  nested = written_depth block valid;
}
