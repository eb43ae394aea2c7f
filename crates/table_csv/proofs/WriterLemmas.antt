-- The text of records.
use Rattle.std.proofs.Common.{◌≡◌, ◌≢◌, ◌<◌, ◌+◌, append-nil, get_or, length, map, take, ℕ, List, [], ◌∷◌, ◌++◌, Option, Some, None, true, false, refl, sym, ◌∙◌, ap, append_assoc}
use Rattle.std.specs.Io.KnownBytes.{Appends}
use Rattle.std.specs.declared.alloc.Global.{Global}
use Rattle.std.specs.declared.vec.Vec.{Vec}
use Rattle.csv.specs.Writing.{default_writer, escaped, field_text, fields_text, fields_written, has_written, is_blank, row_text, with_flexible, writer_setup}
use Rattle.csv.specs.declared.writer.Writer.{Writer}
use Rattle.csv.specs.declared.writer.WriterBuilder.{WriterBuilder}
use Rattle.csv.specs.declared.writer.QuoteStyle.TheVariants as style
use Rattle.prefsql_tables.specs.declared.table.AnswerRow.{AnswerRow}
use Rattle.std.proofs.lemmas.Grind.{flat_map-append}
use Rattle.std.proofs.lemmas.List.{map-append, take_more}
use Rattle.std.specs.List.{flat_map}
use Rattle.table_csv.specs.AnswerText.{row_fields}
use Rattle.table_csv.specs.Writer.{HasWritten, text_so_far}

-- records of any length are written as others are
abbrev any_length : WriterBuilder
any_length = with_flexible default_writer true

escaped-any_length : (field : List ℕ) → escaped any_length field ≡ escaped default_writer field
unfolding escaped
escaped-any_length [] = refl
escaped-any_length (b ∷ field) = rw (escaped-any_length field) refl

field_text-any_length : (field : List ℕ) → field_text any_length field ≡ field_text default_writer field
field_text-any_length field = rw (escaped-any_length field) refl

fields_text-any_length : (fields : List (List ℕ)) → fields_text any_length fields ≡ fields_text default_writer fields
unfolding fields_text
fields_text-any_length [] = refl
fields_text-any_length (field ∷ fields) = rw (field_text-any_length field, fields_text-any_length fields) refl

row_text-any_length : (fields : List (List ℕ)) → row_text any_length fields ≡ row_text default_writer fields
unfolding is_blank fields_text
row_text-any_length [] = refl
row_text-any_length (field ∷ []) = rw (field_text-any_length field) refl
row_text-any_length (field ∷ next ∷ fields) = rw (field_text-any_length field, field_text-any_length next, fields_text-any_length fields) refl

appended : (a b : Option (List ℕ)) (text more : List ℕ) → a ≡ Some text → Appends a b more → b ≡ Some (text ++ more)
appended None b text more is h = absurd (cc)
appended (Some xs) None text more is h = absurd h
appended (Some xs) (Some ys) text more is h = let same : xs ≡ text = cc in rw (← same) (ap (λ zs. Some zs) h)

pub written : (old new : Writer (Vec ℕ Global)) (fields : List (List ℕ)) (text : List ℕ) → HasWritten old text → fields_written new ≡ 0 → has_written new ≡ false → writer_setup new ≡ writer_setup old
    → (fields_written old ≡ 0 → has_written old ≡ false → ((writer_setup old).style ≢ style.NonNumeric) → Appends (text_so_far old) (text_so_far new) (row_text (writer_setup old) fields))
    → HasWritten new (text ++ row_text default_writer fields)
written old new fields text has none wrote setup appends =
    let necessary : (writer_setup old).style ≡ style.Necessary = ap (λ (b : WriterBuilder). b.style) has.setup in
    let whole = appended (text_so_far old) (text_so_far new) text (row_text (writer_setup old) fields) has.text_is (appends has.fields has.wrote (λ numeric. cc)) in
    let row : row_text (writer_setup old) fields ≡ row_text default_writer fields = ap (λ (b : WriterBuilder). row_text b fields) has.setup ∙ row_text-any_length fields in
    record {
      fields = none;
      wrote = wrote;
      setup = setup ∙ has.setup;
      text_is = whole ∙ ap (λ more. Some (text ++ more)) row;
    }

-- the text of the rows up to a place and of the one there
pub rows_more : (names : List (List ℕ)) (rows : List AnswerRow) (i : ℕ) (row : AnswerRow) → i < length rows → row ≡ get_or rows i row
    → flat_map (row_text default_writer) (names ∷ map row_fields (take i rows)) ++ row_text default_writer (row_fields row)
    ≡ flat_map (row_text default_writer) (names ∷ map row_fields (take (i + 1) rows))
rows_more names rows i row lt is =
    let step : take (i + 1) rows ≡ take i rows ++ row ∷ [] = take_more rows i row lt ∙ ap (λ x. take i rows ++ x ∷ []) (sym is) in
    rw (
      step,
      map-append row_fields (take i rows) (row ∷ []),
      flat_map-append (row_text default_writer) (map row_fields (take i rows)) (row_fields row ∷ []),
      append-nil (row_text default_writer (row_fields row)),
      append_assoc,
    ) refl
