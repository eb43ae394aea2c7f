-- The columns of a header without a fault are valid.
use Rattle.std.proofs.Common.{◌≡◌, ◌≢◌, ℕ, zero, suc, ◌+◌, ◌≤◌, ◌<◌, ◌&&◌, ◌||◌, List, [], ◌∷◌, ◌++◌, length, map, Bool, true, false, not, nat_lt, All, get_or, refl, sym, ◌∙◌, ap, subst, arith, append_assoc, append-nil}
use Rattle.std.proofs.lemmas.Bool.Decides.{nat_tests}
use Rattle.std.proofs.lemmas.List.{length-map, map-append}
use Rattle.std.proofs.lemmas.List.Elements.{All-push}
use Rattle.std.proofs.lemmas.List.Quantifiers.{all_pairs_push}
use Rattle.std.proofs.lemmas.Slice.Eq.{bytes_eq-Decides}
use Rattle.std.proofs.lemmas.Str.{chars-IsAscii}
use Rattle.std.proofs.lemmas.Str.Ascii.{IsAscii-cons, IsAscii-map, IsAscii-nil, uppercase_ascii}
use Rattle.std.specs.Char.{is_ascii_alphabetic, to_ascii_uppercase}
use Rattle.std.specs.List.{list_all, list_any}
use Rattle.std.specs.Str.{IsAscii, bytes_eq, chars, str_to_ascii_uppercase}
use Rattle.prefsql_tables.specs.Names.{names_of}
use Rattle.prefsql_tables.specs.Valid.{AllDiffer, IsSchema}
use Rattle.prefsql_values.specs.Limits.{IsName}
use Rattle.prefsql_tables.specs.declared.schema.Column.{Column}
use Rattle.table_csv.specs.Fault.{spots, when}
use Rattle.table_csv.specs.Field.{is_text}
use Rattle.table_csv.specs.Header.{column_of, column_of_words, columns_faults, has_column_shape, header_codes, header_faults, is_ending, is_name, is_name_byte, is_named, is_type, schema_of, words_in}
use Rattle.table_csv.proofs.TestLemmas.{and_left, and_right, at_most, below, both_empty, no_codes, not_when, true_from_not}

letter_ascii : (b : ℕ) → is_ascii_alphabetic b ≡ true → b < 128
letter_ascii b is = grind (arith, nat_tests)

name_byte_ascii : (b : ℕ) → is_name_byte b ≡ true → b < 128
name_byte_ascii b is = grind (arith, nat_tests)

name_bytes_ascii : (bytes : List ℕ) → list_all is_name_byte bytes ≡ true → IsAscii bytes
name_bytes_ascii [] all = IsAscii-nil
name_bytes_ascii (b ∷ bytes) all =
    IsAscii-cons b bytes (name_byte_ascii b (and_left (is_name_byte b) (list_all is_name_byte bytes) all)) (name_bytes_ascii bytes (and_right (is_name_byte b) (list_all is_name_byte bytes) all))

pub name_valid : (name : List ℕ) → is_name name ≡ true → IsName (str_to_ascii_uppercase name)
name_valid [] is = absurd (cc)
name_valid (first ∷ rest) is =
    let front = and_left (is_ascii_alphabetic first && nat_lt (length rest) 64) (list_all is_name_byte rest) is in
    let letter = and_left (is_ascii_alphabetic first) (nat_lt (length rest) 64) front in
    let short = below (length rest) 64 (and_right (is_ascii_alphabetic first) (nat_lt (length rest) 64) front) in
    let bytes = and_right (is_ascii_alphabetic first && nat_lt (length rest) 64) (list_all is_name_byte rest) is in
    let ascii = IsAscii-map to_ascii_uppercase (first ∷ rest) uppercase_ascii (IsAscii-cons first rest (letter_ascii first letter) (name_bytes_ascii rest bytes)) in
    let long : length (chars (str_to_ascii_uppercase (first ∷ rest))) ≡ suc (length rest) = ap length (chars-IsAscii (str_to_ascii_uppercase (first ∷ rest)) ascii) ∙ length-map (first ∷ rest) to_ascii_uppercase in
    record { not_empty = omega (arith, long); short = omega (arith, long, short) }

words_valid : (words : List (List ℕ)) → has_column_shape words ≡ true → IsName (column_of_words words).name
words_valid [] shape = absurd (cc)
words_valid (name ∷ []) shape = absurd (cc)
words_valid (name ∷ kind ∷ ending) shape =
    name_valid name (and_left (is_name name) (is_type kind) (and_left (is_name name && is_type kind) (is_ending ending) shape))

differ_from : (a b : List ℕ) → bytes_eq a b ≡ false → a ≢ b
differ_from a b is same = let equal = (bytes_eq-Decides a b).1 same in cc

or_left_false : (a b : Bool) → (a || b) ≡ false → a ≡ false
or_left_false true b is = absurd (cc)
or_left_false false b is = refl

or_right_false : (a b : Bool) → (a || b) ≡ false → b ≡ false
or_right_false true b is = absurd (cc)
or_right_false false b is = is

not_taken : (name : List ℕ) (earlier : List Column) → list_any (is_named name) earlier ≡ false → (k : ℕ) (d : List ℕ) → k < length (names_of earlier) → get_or (names_of earlier) k d ≢ name
not_taken name [] none k d lt = absurd (omega arith)
not_taken name (column ∷ earlier) none zero d lt = differ_from column.name name (or_left_false (is_named name column) (list_any (is_named name) earlier) none)
not_taken name (column ∷ earlier) none (suc k) d lt = not_taken name earlier (or_right_false (is_named name column) (list_any (is_named name) earlier) none) k d (omega arith)

-- valid names that differ
pub record AreGood (names : List (List ℕ)) : Type 0 where
  pub valid : All IsName names
  pub differ : AllDiffer names

good_more : (earlier : List Column) (field : List ℕ) → header_codes earlier field ≡ [] → AreGood (names_of earlier) → AreGood (names_of (earlier ++ column_of field ∷ []))
good_more earlier field none good =
    let taken = list_any (is_named (column_of field).name) earlier in
    let shape = has_column_shape (words_in field) in
    let parts = both_empty (when (not (is_text field)) 507) (when (not shape) 501 ++ when taken 502) none in
    let more = both_empty (when (not shape) 501) (when taken 502) parts.1 in
    let named = words_valid (words_in field) (true_from_not shape (not_when (not shape) 501 more.0)) in
    let free = not_taken (column_of field).name earlier (not_when taken 502 more.1) in
    let names : names_of (earlier ++ column_of field ∷ []) ≡ names_of earlier ++ (column_of field).name ∷ [] = map-append (λ (column : Column). column.name) earlier (column_of field ∷ []) in
    subst AreGood (sym names) (record {
      valid = All-push IsName (names_of earlier) (column_of field).name good.valid named;
      differ = all_pairs_push (λ (a b : List ℕ). a ≢ b) (names_of earlier) (column_of field).name good.differ free;
    })

good_columns : (earlier : List Column) (fields : List (List ℕ)) → columns_faults earlier fields ≡ [] → AreGood (names_of earlier) → AreGood (names_of (earlier ++ map column_of fields))
good_columns earlier [] none good = rw (append-nil earlier) good
good_columns earlier (field ∷ fields) none good =
    let parts = both_empty (spots 1 (length earlier + 1) (header_codes earlier field)) (columns_faults (earlier ++ column_of field ∷ []) fields) none in
    let codes = no_codes 1 (length earlier + 1) (header_codes earlier field) parts.0 in
    let all = good_columns (earlier ++ column_of field ∷ []) fields parts.1 (good_more earlier field codes good) in
    rw append_assoc at all

pub schema_valid : (header : List (List ℕ)) → 1 ≤ length header → header_faults header ≡ [] → IsSchema (schema_of header).columns
schema_valid header some none =
    let many = when (nat_lt 64 (length header)) 509 in
    let parts = both_empty (spots 1 0 many) (columns_faults [] header) none in
    let few = at_most 64 (length header) (not_when (nat_lt 64 (length header)) 509 (no_codes 1 0 many parts.0)) in
    let good = good_columns [] header parts.1 (record { valid = λ k d lt. absurd (omega arith); differ = λ i j d lt below. absurd (omega arith) }) in
    let size = length-map header column_of in
    record { not_empty = omega (arith, size, some); few = omega (arith, size, few); names = good.valid; differ = good.differ }
