use Rattle.std.proofs.Common.{rules}
use Rattle.table_csv.proofs.SourceLemmas.{started}
use Rattle.table_csv.proofs.reading.records_of.Goals as goal

pub returns : goal.returns
returns c =
    let both = started c.from_reader.result c.args.bytes.now (search rules) (search rules) (search rules) c.from_reader.ensures.headers (search rules) c.from_reader.ensures.state c.from_reader.ensures.source in
    record { between = both.0; records = both.1 }
