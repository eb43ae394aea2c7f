use Rattle.std.proofs.Common.{◌∷◌, []}
use Rattle.sql_text.specs.Text.{text_of}
use Rattle.sql_reader.proofs.OneReading.{reads_one}
use Rattle.sql_read_back.proofs.ValidReadsBack.{valid_reads_back}
use Rattle.sql_read_back.proofs.laws.reads_back.Goals as goal

pub returns-clause-reads : goal.returns-clause-reads
returns-clause-reads c = valid_reads_back c.args.tables.now c.keeps_limits.ensures c.args.query.now c.requires.valid c.requires.fits c.requires.utf8 c.requires.within

pub returns-clause-alone : goal.returns-clause-alone
returns-clause-alone c =
    λ queries reads. reads_one c.args.tables.now (text_of c.args.query.now) queries (c.args.query.now ∷ []) reads (valid_reads_back c.args.tables.now c.keeps_limits.ensures c.args.query.now c.requires.valid c.requires.fits c.requires.utf8 c.requires.within)
