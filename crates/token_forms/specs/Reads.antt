-- What a function that reads ensures.
use Rattle.std.specs.Prelude.{◌≡◌, ℕ, List, [], ◌∷◌, ◌++◌, Bool, true, false, Option, Result, Ok}
use Rattle.std.specs.Prelude.{Err, MatchBool}
use Rattle.grammar_forms.specs.Reading.{Outcome, begins, read_token, with_value}
use Rattle.prefsql_lexer.specs.declared.token.Token.{Token}
use Rattle.token_forms.specs.declared.cursor.Stop.{Stop}
use Rattle.token_forms.specs.declared.cursor.Stop.TheVariants.{Fault, Memory}
use Rattle.token_forms.specs.Classes.{class}

-- The tokens that are left are those after what was read, or those from the first on that fits
-- nowhere.
abbrev pub Reads : {A : Type 0} → Outcome Token A → Result A Stop → List Token → Type 0
Reads o (Ok v) rest = o ≡ Ok (v, rest)
Reads o (Err Fault) rest = o ≡ Err rest
Reads o (Err Memory) rest = Unit {0}

-- Whether the next token is of this class. If it is, it is taken.
abbrev pub Eats : ℕ → List Token → Bool → List Token → Type 0
Eats c ts eaten rest = MatchBool eaten
    ((begins class (c ∷ []) ts ≡ true)
    × (read_token {A = Unit {0}} class c (λ t. tt) ts ≡ Ok (tt, rest)))
    ((begins class (c ∷ []) ts ≡ false) × (rest ≡ ts))

-- with these values before those that are read
abbrev pub with_front : {A : Type 0} → List A → Outcome Token (List A) → Outcome Token (List A)
with_front found o = with_value (λ vs. found ++ vs) o

-- with these items before those that are read
abbrev pub with_items : {A B : Type 0} → List A → Outcome Token (List A × Option B)
    → Outcome Token (List A × Option B)
with_items found o = with_value (λ p. (found ++ p.0, p.1)) o

-- the first value with the second one, if there is one
abbrev pub IsPair : {A B : Type 0} → A → Result B Stop → Result (A × B) Stop → Type 0
IsPair first second (Ok p) = (p.0 ≡ first) × (second ≡ Ok p.1)
IsPair first second (Err stop) = second ≡ Err stop

-- the list with one more item, if there is one
abbrev pub IsPushed : {A : Type 0} → List A → Result A Stop → Result (List A) Stop → Type 0
IsPushed {A} found item (Ok list) = (v : A) × (item ≡ Ok v) × (list ≡ found ++ v ∷ [])
IsPushed found item (Err Fault) = item ≡ Err Fault
IsPushed found item (Err Memory) = Unit {0}
