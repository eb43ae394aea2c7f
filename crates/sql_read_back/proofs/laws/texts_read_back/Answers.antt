use Rattle.sql_reader.proofs.OneReading.{reads_one}
use Rattle.sql_read_back.specs.Texts.{texts_of}
use Rattle.sql_read_back.proofs.ValidReadsBack.{written_reads_back}
use Rattle.sql_read_back.proofs.laws.texts_read_back.Goals as goal

pub returns : goal.returns
returns c = record {
  reads = λ tables queries set are. written_reads_back tables set queries are;
  alone = λ tables queries others set are reads. reads_one tables (texts_of queries) others queries reads (written_reads_back tables set queries are);
}
