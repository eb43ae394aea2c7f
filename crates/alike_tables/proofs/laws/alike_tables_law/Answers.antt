use Rattle.alike_tables.proofs.AlikeTables.{fits_other}
use Rattle.alike_tables.proofs.AlikeBlocks.{fault_other, typed_other}
use Rattle.alike_tables.proofs.laws.alike_tables_law.Goals as goal

pub returns : goal.returns
returns c = record {
  fits = λ tables others block alike fits. fits_other tables others alike block fits;
  blocks = λ tables others queries blocks alike are. typed_other tables others alike queries blocks are;
  fault = λ tables others queries spot alike is. fault_other tables others alike queries spot is;
}
