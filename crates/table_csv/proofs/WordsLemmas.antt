-- The words of a header field.
use Rattle.std.proofs.Common.{◌≡◌, ℕ, ◌-◌, ◌<◌, ◌≤◌, ◌==◌, ◌&&◌, Bool, Bor, List, [], ◌∷◌, length, map, take, drop, get_or, true, false, Some, None, if◌then◌else◌, refl, arith}
use Rattle.std.proofs.Math.Bool.{and-true}
use Rattle.std.proofs.lemmas.List.{take_rest}
use Rattle.std.specs.Str.{str_to_ascii_uppercase}
use Rattle.table_csv.specs.Header.{column_of_words, domain_of, has_column_shape, is_ending, is_name, is_type}

-- less than two words are no column
pub short_words : (items : List (Bor (List ℕ))) (words : List (List ℕ)) → map (λ word. word.now) items ≡ words → length items < 2 → has_column_shape words ≡ false
short_words [] words is lt = rw (← is) refl
short_words (a ∷ []) words is lt = rw (← is) refl
short_words (a ∷ b ∷ items) words is lt = absurd (omega arith)

-- the first two words and the rest
pub two_words : (items : List (Bor (List ℕ))) (d : Bor (List ℕ)) → 2 ≤ length items
    → map (λ word. word.now) items ≡ (get_or items 0 d).now ∷ (get_or items 1 d).now ∷ map (λ word. word.now) (take (length items - 2) (drop 2 items))
two_words [] d le = absurd (omega arith)
two_words (a ∷ []) d le = absurd (omega arith)
two_words (a ∷ b ∷ items) d le = rw (take_rest (a ∷ b ∷ items) 2) refl

-- a name, a type and a good ending
pub stated : (words : List (List ℕ)) (name kind : List ℕ) (ending : List (List ℕ)) (nullable : Bool) → words ≡ name ∷ kind ∷ ending → is_ending ending ≡ true → nullable ≡ (length ending == 0)
    → (if is_name name && is_type kind then Some (record { name = str_to_ascii_uppercase name; domain = domain_of kind; nullable = nullable }) else None)
    ≡ (if has_column_shape words then Some (column_of_words words) else None)
stated words name kind ending nullable is good flag = rw (is, good, and-true, flag) refl
