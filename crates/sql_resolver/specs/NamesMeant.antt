-- Which columns a name can mean, by the names in scope. These rules follow SQL-92 (ISO/IEC
-- 9075:1992); the profile is this project's own.
use Rattle.std.specs.Prelude.{ℕ, ◌+◌, Bool, true, if◌then◌else◌, List, [], ◌∷◌, ◌++◌, map, Option}
use Rattle.std.specs.Prelude.{Some, None}
use Rattle.std.specs.List.{list_any}
use Rattle.std.specs.Str.{bytes_eq}
use Rattle.sql_tree.specs.declared.tree.SqlPlace.{SqlPlace}
use Rattle.sql_text.specs.Text.{ItemNames, Names}

-- the positions, from `at` on, of the items that pass the test
abbrev pub positions_from : {A : Type 0} → ℕ → (A → Bool) → List A → List ℕ
positions_from at test [] = []
positions_from at test (x ∷ xs) =
    (if test x then at ∷ [] else []) ++ positions_from (at + 1) test xs

-- whether a FROM item, as it is named, is called so
abbrev pub is_called : List ℕ → ItemNames → Bool
is_called name item = bytes_eq name item.name

-- whether the item can have the column that the name means: for a name `a.b` the item is called a
abbrev pub is_asked : List ℕ → Option (List ℕ) → ItemNames → Bool
is_asked first None item = true
is_asked first (Some column) item = is_called first item

-- the last part of the name, which is that of the column
abbrev pub column_part : List ℕ → Option (List ℕ) → List ℕ
column_part first None = first
column_part first (Some column) = column

-- whether the name means a column of this scope, or of none: for `a.b` an item of the scope is
-- called a, for `b` one has such a column
abbrev pub decides : List ℕ → Option (List ℕ) → List ItemNames → Bool
decides first None scope = list_any (λ item. list_any (bytes_eq first) item.columns) scope
decides first (Some column) scope = list_any (is_called first) scope

-- the columns of the scope that the name can mean, where the first item has this position
abbrev pub places_in : List ℕ → Option (List ℕ) → ℕ → ℕ → List ItemNames → List SqlPlace
places_in first second up at [] = []
places_in first second up at (item ∷ scope) =
    (if is_asked first second item
    then map (λ column. record { up = up; item = at; column = column })
    (positions_from 0 (bytes_eq (column_part first second)) item.columns)
    else [])
    ++ places_in first second up (at + 1) scope

-- the columns that the name can mean: those of the innermost scope that decides it
abbrev pub places_of : List ℕ → Option (List ℕ) → ℕ → Names → List SqlPlace
places_of first second up [] = []
places_of first second up (scope ∷ outer) =
    if decides first second scope then places_in first second up 0 scope
    else places_of first second (up + 1) outer
