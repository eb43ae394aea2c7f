-- The words of a command line. All definitions here are this project's own.
use Rattle.std.specs.Prelude.{ℕ, Bool, List, [], ◌∷◌}
use Rattle.std.specs.List.{list_all}
use Rattle.std.specs.Str.{is_utf8}

-- the words are the arguments of the process behind the first one, which is the program's own name
abbrev pub words_in : List (List ℕ) → List (List ℕ)
words_in [] = []
words_in (name ∷ words) = words

-- whether each word is UTF-8
abbrev pub are_texts : List (List ℕ) → Bool
are_texts words = list_all is_utf8 words
