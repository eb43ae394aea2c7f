-- The written script reads as the queries of the blocks, which answer what the blocks do.
use Rattle.std.proofs.Common.{◌≡◌, List, [], ◌∷◌, All, refl, ap, ◌∙◌, arith}
use Rattle.std.proofs.lemmas.List.{length-map}
use Rattle.std.proofs.lemmas.List.Elements.{All-head, All-map, All-tail, All-weaker}
use Rattle.prefsql_lexer.specs.declared.fault.Spot.{Spot}
use Rattle.prefsql_tables.specs.Table.{Tables}
use Rattle.query_meaning.specs.Answers as blocks
use Rattle.query_meaning.specs.BlockFits.{FitsTables as BlockFits}
use Rattle.query_meaning.specs.Valid.{IsValidBlock}
use Rattle.query_meaning.specs.declared.block.Block.{Block}
use Rattle.sql_tree.specs.Fits.{FitsTables}
use Rattle.sql_tree.specs.WellFormed.{IsValid}
use Rattle.sql_tree.specs.declared.tree.SqlQuery.{SqlQuery}
use Rattle.rewritten_query.specs.Rewriting.{rewritten}
use Rattle.written_query_meaning.proofs.Whole.{means_answer}
use Rattle.written_query_validity.proofs.Fitting.{written_fits}
use Rattle.written_query_validity.proofs.Validity.{written_valid}
use Rattle.sql_reader.specs.Reads.{HasFirstFault, ReadsAs}
use Rattle.sql_reader.proofs.OneReading.{reads_one, reads_or_fault}
use Rattle.sql_read_back.specs.Texts.{AreWritable}
use Rattle.sql_read_back.proofs.ValidReadsBack.{written_reads_back}
use Rattle.written_script.specs.WrittenScript.{AreWritten, IsOther, answers_of_blocks, answers_of_queries, script_of, written}
use Rattle.alike_tables.proofs.AlikeTables.{fits_other}

module _ (tables others : Tables) (other : IsOther tables others) where
  fit_others : (list : List Block) → All (BlockFits tables) list → All (BlockFits others) list
  fit_others list fits = All-weaker (BlockFits tables) (BlockFits others) (λ block. fits_other tables others other.alike block) list fits

  writable : (list : List Block) → AreWritten tables list → AreWritable others (written list)
  writable list are =
      let count = length-map list rewritten in
      record {
        few = omega (arith, count, are.few);
        valid = All-map IsValid rewritten list (All-weaker IsValidBlock (λ block. IsValid (rewritten block)) (λ block valid. written_valid block valid) list are.valid);
        fits = All-map (FitsTables others) rewritten list
            (All-weaker (BlockFits others) (λ block. FitsTables others (rewritten block)) (λ block fits. written_fits others block fits) list (fit_others list are.fits));
        utf8 = are.utf8;
        within = are.within;
      }

  pub script_reads : (list : List Block) → AreWritten tables list → ReadsAs others (script_of list) (written list)
  script_reads list are = written_reads_back others other.valid (written list) (writable list are)

  pub script_no_fault : (list : List Block) (spot : Spot) → AreWritten tables list → HasFirstFault others (script_of list) spot → ⊥
  script_no_fault list spot are fault = reads_or_fault others (script_of list) (written list) spot (script_reads list are) fault

  same_answers : (list : List Block) → All IsValidBlock list → All (BlockFits others) list → answers_of_queries others (written list) ≡ answers_of_blocks others list
  same_answers [] valid fits = refl
  same_answers (block ∷ list) valid fits =
      let one = means_answer block (All-head IsValidBlock block list valid) others other.valid (All-head (BlockFits others) block list fits) in
      let more = same_answers list (All-tail IsValidBlock block list valid) (All-tail (BlockFits others) block list fits) in
      ap (λ answer. answer ∷ answers_of_queries others (written list)) one ∙ ap (λ answers. blocks.answer_of others block ∷ answers) more

  -- whatever the script reads as
  pub script_answers : (list : List Block) (found : List SqlQuery) → AreWritten tables list → ReadsAs others (script_of list) found → answers_of_queries others found ≡ answers_of_blocks others list
  script_answers list found are reads =
      ap (answers_of_queries others) (reads_one others (script_of list) found (written list) reads (script_reads list are))
      ∙ same_answers list are.valid (fit_others list are.fits)
