-- The three-valued tables for AND, OR and NOT (ISO/IEC 9075:1992, search condition).
use Rattle.std.specs.Prelude.{Bool, true, false, List, [], ◌∷◌}
use Rattle.prefsql_values.specs.declared.truth.Truth.{Truth}
use Rattle.prefsql_values.specs.declared.truth.Truth.TheVariants.{False, Unknown, True}

-- False where one side is False, else Unknown where one is Unknown, else True
abbrev pub both_true : Truth → Truth → Truth
both_true False b = False
both_true Unknown False = False
both_true Unknown Unknown = Unknown
both_true Unknown True = Unknown
both_true True b = b

-- True where one side is True, else Unknown where one is Unknown, else False
abbrev pub either_true : Truth → Truth → Truth
either_true True b = True
either_true Unknown True = True
either_true Unknown Unknown = Unknown
either_true Unknown False = Unknown
either_true False b = b

abbrev pub negated : Truth → Truth
negated False = True
negated Unknown = Unknown
negated True = False

-- AND of a list
abbrev pub all_true : List Truth → Truth
all_true [] = True
all_true (t ∷ ts) = both_true t (all_true ts)

-- OR of a list
abbrev pub any_true : List Truth → Truth
any_true [] = False
any_true (t ∷ ts) = either_true t (any_true ts)

-- NOT where the flag says so
abbrev pub negated_if : Bool → Truth → Truth
negated_if true t = negated t
negated_if false t = t

abbrev pub is_true : Truth → Bool
is_true True = true
is_true Unknown = false
is_true False = false
