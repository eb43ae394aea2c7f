-- The places that a name can mean, with one column more, and in more levels.
use Rattle.std.proofs.Common.{◌≡◌, ℕ, suc, ◌+◌, ◌<◌, Bool, true, false, ◌&&◌, ◌||◌, Option, Some, None, List, [], ◌∷◌, ◌++◌, length, get_or, take, drop, map, refl, sym, ap, ◌∙◌, arith, append_assoc, append-nil, if◌then◌else◌}
use Rattle.std.specs.List.{list_any}
use Rattle.std.specs.Str.{bytes_eq}
use Rattle.std.proofs.lemmas.List.{drop_more, length-map, length-take-le, map-append, take_more}
use Rattle.sql_text.specs.Text.{ItemNames}
use Rattle.sql_tree.specs.declared.tree.SqlPlace.{SqlPlace}
use Rattle.sql_resolver.specs.Index.{can_mean, column_names, item_names, seen_from}
use Rattle.sql_resolver.specs.NamesMeant.{column_part, decides, is_asked, places_in, places_of, positions_from}
use Rattle.sql_resolver.specs.Scope.{ScopeColumn, ScopeItem, Scope, Scopes, names_in, scope_names}
use Rattle.sql_resolver.proofs.MeaningLaws.{has_some, some_append, some_map}

-- ---- one column more

pub positions_push : {A : Type 0} (at : ℕ) (test : A → Bool) (xs : List A) (x : A) → positions_from at test (xs ++ x ∷ []) ≡ positions_from at test xs ++ (if test x then (at + length xs) ∷ [] else [])
positions_push at test [] x =
    let same : at ≡ at + 0 = omega arith in
    append-nil (if test x then at ∷ [] else []) ∙ ap (λ n. if test x then n ∷ [] else []) same
positions_push at test (y ∷ ys) x =
    let first = if test y then at ∷ [] else [] in
    let same : at + 1 + length ys ≡ at + suc (length ys) = omega arith in
    ap (λ rest. first ++ rest) (positions_push (at + 1) test ys x)
    ∙ sym (append_assoc first (positions_from (at + 1) test ys) (if test x then (at + 1 + length ys) ∷ [] else []))
    ∙ ap (λ n. (first ++ positions_from (at + 1) test ys) ++ (if test x then n ∷ [] else [])) same

abbrev placed : ℕ → ℕ → ℕ → SqlPlace
placed up at column = record { up = up; item = at; column = column }

-- the places in one item
abbrev places_here : List ℕ → Option (List ℕ) → ℕ → ℕ → ItemNames → List SqlPlace
places_here first second up at item =
    if is_asked first second item
    then map (λ column. record { up = up; item = at; column = column }) (positions_from 0 (bytes_eq (column_part first second)) item.columns)
    else []

shown : (asked : Bool) (test : List ℕ → Bool) (up at : ℕ) (columns : List (List ℕ)) (column : List ℕ)
    → (if asked then map (placed up at) (positions_from 0 test (columns ++ column ∷ [])) else [])
    ≡ (if asked then map (placed up at) (positions_from 0 test columns) else []) ++ (if asked && test column then placed up at (length columns) ∷ [] else [])
shown false test up at columns column = refl
shown true test up at columns column =
    let same : 0 + length columns ≡ length columns = omega arith in
    ap (map (placed up at)) (positions_push 0 test columns column ∙ ap (λ n. positions_from 0 test columns ++ (if test column then n ∷ [] else [])) same)
    ∙ map-append (placed up at) (positions_from 0 test columns) (if test column then length columns ∷ [] else [])
    ∙ ap (λ last. map (placed up at) (positions_from 0 test columns) ++ last) (by (test column))
  where
    by : (b : Bool) → map (placed up at) (if b then length columns ∷ [] else []) ≡ (if b then placed up at (length columns) ∷ [] else [])
    by true = refl
    by false = refl

here_more : (first : List ℕ) (second : Option (List ℕ)) (up at : ℕ) (called : List ℕ) (columns : List (List ℕ)) (column : List ℕ)
    → places_here first second up at (record { name = called; columns = columns ++ column ∷ [] })
    ≡ places_here first second up at (record { name = called; columns = columns }) ++ (if can_mean called column first second then placed up at (length columns) ∷ [] else [])
here_more first None up at called columns column = shown true (bytes_eq first) up at columns column
here_more first (Some part) up at called columns column = shown (bytes_eq first called) (bytes_eq part) up at columns column

places_more : (first : List ℕ) (second : Option (List ℕ)) (up at : ℕ) (before : List ItemNames) (called : List ℕ) (columns : List (List ℕ)) (column : List ℕ)
    → places_in first second up at (before ++ record { name = called; columns = columns ++ column ∷ [] } ∷ [])
    ≡ places_in first second up at (before ++ record { name = called; columns = columns } ∷ [])
    ++ (if can_mean called column first second then placed up (at + length before) (length columns) ∷ [] else [])
places_more first second up at [] called columns column =
    let old = places_here first second up at (record { name = called; columns = columns }) in
    let same : at ≡ at + 0 = omega arith in
    append-nil (places_here first second up at (record { name = called; columns = columns ++ column ∷ [] }))
    ∙ here_more first second up at called columns column
    ∙ ap (λ n. old ++ (if can_mean called column first second then placed up n (length columns) ∷ [] else [])) same
    ∙ ap (λ xs. xs ++ (if can_mean called column first second then placed up (at + 0) (length columns) ∷ [] else [])) (sym (append-nil old))
places_more first second up at (x ∷ before) called columns column =
    let here = places_here first second up at x in
    let rest = places_in first second up (at + 1) (before ++ record { name = called; columns = columns } ∷ []) in
    let same : at + 1 + length before ≡ at + suc (length before) = omega arith in
    ap (λ xs. here ++ xs) (places_more first second up (at + 1) before called columns column)
    ∙ sym (append_assoc here rest (if can_mean called column first second then placed up (at + 1 + length before) (length columns) ∷ [] else []))
    ∙ ap (λ n. (here ++ rest) ++ (if can_mean called column first second then placed up n (length columns) ∷ [] else [])) same

abbrev nothing : List SqlPlace
nothing = []

no_columns : (b : Bool) → (if b then nothing else nothing) ++ nothing ≡ nothing
no_columns true = refl
no_columns false = refl

-- an item without columns adds none
pub places_begun : (first : List ℕ) (second : Option (List ℕ)) (up at : ℕ) (before : List ItemNames) (called : List ℕ)
    → places_in first second up at (before ++ record { name = called; columns = [] } ∷ []) ≡ places_in first second up at before
places_begun first second up at [] called = no_columns (is_asked first second (record { name = called; columns = [] }))
places_begun first second up at (x ∷ before) called = ap (λ xs. places_here first second up at x ++ xs) (places_begun first second up (at + 1) before called)

pub columns_more : (columns : List ScopeColumn) (i : ℕ) (column : ScopeColumn) → i < length columns → column ≡ get_or columns i column
    → column_names (take i columns) ++ column.name ∷ [] ≡ column_names (take (i + 1) columns)
columns_more columns i column small is =
    sym (map-append (λ (c : ScopeColumn). c.name) (take i columns) (column ∷ []))
    ∙ ap column_names (sym (take_more columns i column small ∙ ap (λ (c : ScopeColumn). take i columns ++ c ∷ []) (sym is)))

pub items_more : (items : List ScopeItem) (i : ℕ) (item : ScopeItem) → i < length items → item ≡ get_or items i item
    → scope_names (take i items) ++ item_names item ∷ [] ≡ scope_names (take (i + 1) items)
items_more items i item small is =
    sym (map-append item_names (take i items) (item ∷ []))
    ∙ ap scope_names (sym (take_more items i item small ∙ ap (λ (x : ScopeItem). take i items ++ x ∷ []) (sym is)))

-- the places among the first columns of the last item, with one column more
pub column_more : (first : List ℕ) (second : Option (List ℕ)) (before : List ItemNames) (called : List ℕ) (columns : List ScopeColumn) (i : ℕ) (column : ScopeColumn) (item at : ℕ)
    → i < length columns → column ≡ get_or columns i column → length before ≡ item → at ≡ i
    → places_in first second 0 0 (before ++ record { name = called; columns = column_names (take i columns) } ∷ [])
    ++ (if can_mean called column.name first second then record { up = 0; item = item; column = at } ∷ [] else [])
    ≡ places_in first second 0 0 (before ++ record { name = called; columns = column_names (take (i + 1) columns) } ∷ [])
column_more first second before called columns i column item at small is count place =
    let names = column_names (take i columns) in
    let as_many : length names ≡ i = length-map (take i columns) (λ (c : ScopeColumn). c.name) ∙ length-take-le i columns (omega (arith, small)) in
    let same_item : item ≡ 0 + length before = omega (arith, count) in
    let same_column : at ≡ length names = omega (arith, place, as_many) in
    (λ i. places_in first second 0 0 (before ++ record { name = called; columns = names } ∷ [])
    ++ (if can_mean called column.name first second then placed 0 (same_item i) (same_column i) ∷ [] else []))
    ∙ sym (places_more first second 0 0 before called names column.name)
    ∙ ap (λ cs. places_in first second 0 0 (before ++ record { name = called; columns = cs } ∷ [])) (columns_more columns i column small is)

-- ---- whether there is a place

some_position : {A : Type 0} (at : ℕ) (test : A → Bool) (xs : List A) → has_some (positions_from at test xs) ≡ list_any test xs
some_position at test [] = refl
some_position at test (x ∷ xs) = some_append (if test x then at ∷ [] else []) (positions_from (at + 1) test xs) ∙ (λ i. by (test x) i || some_position (at + 1) test xs i)
  where
    by : (b : Bool) → has_some (if b then at ∷ [] else []) ≡ b
    by true = refl
    by false = refl

pub some_place : (first : List ℕ) (up at : ℕ) (items : List ItemNames) → has_some (places_in first None up at items) ≡ decides first None items
some_place first up at [] = refl
some_place first up at (item ∷ items) =
    some_append (map (placed up at) (positions_from 0 (bytes_eq first) item.columns)) (places_in first None up (at + 1) items)
    ∙ (λ i. (some_map (placed up at) (positions_from 0 (bytes_eq first) item.columns) ∙ some_position 0 (bytes_eq first) item.columns) i || some_place first up (at + 1) items i)

-- ---- places seen from within

pub places_seen : (first : List ℕ) (second : Option (List ℕ)) (up at : ℕ) (items : List ItemNames)
    → places_in first second up at items ≡ map (seen_from up) (places_in first second 0 at items)
places_seen first second up at [] = refl
places_seen first second up at (item ∷ items) =
    (λ i. by (is_asked first second item) i ++ places_seen first second up (at + 1) items i)
    ∙ sym (map-append (seen_from up) (places_here first second 0 at item) (places_in first second 0 (at + 1) items))
  where
    each : (columns : List ℕ) → map (placed up at) columns ≡ map (seen_from up) (map (placed 0 at) columns)
    each [] = refl
    each (c ∷ cs) = ap (λ more. placed up at c ∷ more) (each cs)

    by : (b : Bool) → (if b then map (placed up at) (positions_from 0 (bytes_eq (column_part first second)) item.columns) else [])
        ≡ map (seen_from up) (if b then map (placed 0 at) (positions_from 0 (bytes_eq (column_part first second)) item.columns) else [])
    by true = each (positions_from 0 (bytes_eq (column_part first second)) item.columns)
    by false = refl

-- ---- levels

abbrev level_step : (first : List ℕ) (second : Option (List ℕ)) (up : ℕ) (level : Scope) (outer : Scopes) → Bool → List SqlPlace
level_step first second up level outer b = if b then places_in first second up 0 (scope_names level) else places_of first second (up + 1) (names_in outer)

levels_more : (first : List ℕ) (second : Option (List ℕ)) (up : ℕ) (levels : Scopes) (i : ℕ) (level : Scope) → i < length levels → level ≡ get_or levels i level
    → places_of first second up (names_in (drop i levels)) ≡ level_step first second up level (drop (i + 1) levels) (decides first second (scope_names level))
levels_more first second up levels i level small is = ap (λ ls. places_of first second up (names_in ls)) (drop_more levels i level small ∙ ap (λ (l : Scope). l ∷ drop (i + 1) levels) (sym is))

pub decided_here : (first : List ℕ) (second : Option (List ℕ)) (up : ℕ) (levels : Scopes) (i : ℕ) (level : Scope) → i < length levels → level ≡ get_or levels i level
    → decides first second (scope_names level) ≡ true → places_of first second up (names_in (drop i levels)) ≡ places_in first second up 0 (scope_names level)
decided_here first second up levels i level small is holds =
    levels_more first second up levels i level small is ∙ ap (level_step first second up level (drop (i + 1) levels)) holds

pub decided_later : (first : List ℕ) (second : Option (List ℕ)) (up : ℕ) (levels : Scopes) (i : ℕ) (level : Scope) → i < length levels → level ≡ get_or levels i level
    → decides first second (scope_names level) ≡ false → places_of first second up (names_in (drop i levels)) ≡ places_of first second (up + 1) (names_in (drop (i + 1) levels))
decided_later first second up levels i level small is fails =
    levels_more first second up levels i level small is ∙ ap (level_step first second up level (drop (i + 1) levels)) fails
