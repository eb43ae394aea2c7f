-- What a header field of a table file states, and the faults of the header. The rules are this
-- project's own.
use Rattle.std.specs.Prelude.{ℕ, ◌+◌, Bool, true, false, not, ◌&&◌, ◌||◌, ◌==◌, nat_lt, List, []}
use Rattle.std.specs.Prelude.{◌∷◌, ◌++◌, length, map, codes, if◌then◌else◌}
use Rattle.std.specs.Char.{is_ascii_alphabetic, is_ascii_alphanumeric}
use Rattle.std.specs.List.{filter, list_all, list_any, slice_split}
use Rattle.std.specs.Str.{bytes_eq, str_eq_ignore_ascii_case, str_to_ascii_uppercase}
use Rattle.prefsql_values.specs.declared.value.Domain.{Domain}
use Rattle.prefsql_values.specs.declared.value.Domain.TheVariants.{Integer, Chars}
use Rattle.prefsql_tables.specs.declared.schema.Column.{Column}
use Rattle.prefsql_tables.specs.declared.schema.Schema.{Schema}
use Rattle.table_csv.specs.Fault.{spots, when}
use Rattle.table_csv.specs.Field.{is_empty, is_text}
use Rattle.table_csv.specs.declared.fault.TableSpot.{TableSpot}

-- what stands between the spaces of a field
abbrev pub words_in : List ℕ → List (List ℕ)
words_in field = filter (λ word. not (is_empty word)) (slice_split (λ b. b == 32) field)

-- whether the text is this word, in any case of letters
abbrev pub is_word : List ℕ → List ℕ → Bool
is_word word text = str_eq_ignore_ascii_case text word

abbrev pub is_name_byte : ℕ → Bool
is_name_byte b = is_ascii_alphanumeric b || b == 95

-- a letter and at most 63 letters, digits and underscores, all ASCII. It may be a reserved word
abbrev pub is_name : List ℕ → Bool
is_name [] = false
is_name (first ∷ rest) = is_ascii_alphabetic first && nat_lt (length rest) 64
    && list_all is_name_byte rest

abbrev pub is_type : List ℕ → Bool
is_type kind = is_word (codes "INTEGER") kind || is_word (codes "TEXT") kind

-- nothing, or the words NOT NULL
abbrev pub is_ending : List (List ℕ) → Bool
is_ending [] = true
is_ending (first ∷ []) = false
is_ending (first ∷ second ∷ []) = is_word (codes "NOT") first && is_word (codes "NULL") second
is_ending (first ∷ second ∷ third ∷ more) = false

-- a name, a type, and nothing or the words NOT NULL
abbrev pub has_column_shape : List (List ℕ) → Bool
has_column_shape [] = false
has_column_shape (name ∷ []) = false
has_column_shape (name ∷ kind ∷ ending) = is_name name && is_type kind && is_ending ending

abbrev pub domain_of : List ℕ → Domain
domain_of kind = if is_word (codes "INTEGER") kind then Integer else Chars

-- the column of words of that shape, with its name in upper case. It admits NULL where the words
-- NOT NULL are not there
abbrev pub column_of_words : List (List ℕ) → Column
column_of_words [] = record { name = []; domain = Chars; nullable = true }
column_of_words (name ∷ []) = record { name = []; domain = Chars; nullable = true }
column_of_words (name ∷ kind ∷ ending) = record {
  name = str_to_ascii_uppercase name;
  domain = domain_of kind;
  nullable = length ending == 0;
}

abbrev pub column_of : List ℕ → Column
column_of field = column_of_words (words_in field)

abbrev pub is_named : List ℕ → Column → Bool
is_named name column = bytes_eq column.name name

-- the codes of the faults of a header field behind these columns: first that it is no text, and
-- then in ascending order
abbrev pub header_codes : List Column → List ℕ → List ℕ
header_codes earlier field =
    when (not (is_text field)) 507
    ++ (when (not (has_column_shape (words_in field))) 501
    ++ when (list_any (is_named (column_of field).name) earlier) 502)

-- the faults of these header fields, which stand behind these columns
abbrev pub columns_faults : List Column → List (List ℕ) → List TableSpot
columns_faults earlier [] = []
columns_faults earlier (field ∷ fields) =
    spots 1 (length earlier + 1) (header_codes earlier field)
    ++ columns_faults (earlier ++ column_of field ∷ []) fields

-- the faults of the header in their order
abbrev pub header_faults : List (List ℕ) → List TableSpot
header_faults fields = spots 1 0 (when (nat_lt 64 (length fields)) 509) ++ columns_faults [] fields

-- the columns of a header without a fault
abbrev pub schema_of : List (List ℕ) → Schema
schema_of fields = record { columns = map column_of fields }
