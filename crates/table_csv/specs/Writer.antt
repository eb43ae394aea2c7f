-- A writer of records over memory.
use Rattle.std.specs.Prelude.{◌≡◌, ℕ, List, Option, Some, true, false}
use Rattle.std.specs.declared.alloc.Global.{Global}
use Rattle.std.specs.declared.vec.Vec.{Vec}
use Rattle.csv.specs.Writing.{default_writer, fields_written, has_written, text_written}
use Rattle.csv.specs.Writing.{with_flexible, writer_setup}
use Rattle.csv.specs.declared.writer.Writer.{Writer}

abbrev pub text_so_far : Writer (Vec ℕ Global) → Option (List ℕ)
text_so_far writer = text_written (λ (bytes : Vec ℕ Global). Some bytes.items) writer

-- the writer stands between two records of any length, and this is the text of those behind it
pub record HasWritten (writer : Writer (Vec ℕ Global)) (text : List ℕ) : Type 0 where
  pub fields : fields_written writer ≡ 0
  pub wrote : has_written writer ≡ false
  pub setup : writer_setup writer ≡ with_flexible default_writer true
  pub text_is : text_so_far writer ≡ Some text
