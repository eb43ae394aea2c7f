-- Where a fault stands among the tokens, and its code.
use Rattle.std.specs.Prelude.{◌≡◌, ℕ, ◌⊎◌, Bool, true, false, List, [], ◌∷◌}
use Rattle.prefsql_lexer.specs.declared.token.Token.{Token}
use Rattle.prefsql_lexer.specs.declared.token.Keyword.TheVariants.{Select}
use Rattle.token_forms.specs.Classes.{class, word_class}

-- the place of the next token, or of the end where there is none
abbrev pub place_of : List Token → ℕ → ℕ
place_of [] end = end
place_of (t ∷ ts) end = t.start

-- the code of a fault before these tokens, where it is known whether as many statements as may be
-- stand before them
abbrev pub SaysCode : Bool → List Token → ℕ → Type 0
SaysCode full [] code = code ≡ 202
SaysCode true (t ∷ ts) code = ((class t ≡ word_class Select) × (code ≡ 203))
    ⊎ ((class t ≡ word_class Select → ⊥) × (code ≡ 201))
SaysCode false (t ∷ ts) code = code ≡ 201
