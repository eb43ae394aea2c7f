use Rattle.csv.specs.Records.{fields_of}
use Rattle.table_csv.proofs.WriterLemmas.{written}
use Rattle.table_csv.proofs.writing.write_record.Goals as goal

pub returns : goal.returns
returns c = λ text has.
    written c.args.writer.now c.write_byte_record.new.self (fields_of c.args.fields.now) text has c.in-Ok.ensures.ended c.in-Ok.ensures.clean c.in-Ok.ensures.setup c.in-Ok.ensures.bytes
