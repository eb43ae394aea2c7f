-- Where a name means a column, it is one of those in scope.
use Rattle.std.proofs.Common.{◌≡◌, ◌≤◌, ◌<◌, ◌+◌, ◌-◌, ℕ, suc, Bool, true, false, ◌&&◌, List, [], ◌∷◌, ◌++◌, map, length, get_or, All, refl, ap, subst, ◌∙◌, arith, Option, Some}
use Rattle.std.specs.Prelude.{nat_lt, if◌then◌else◌}
use Rattle.std.specs.Str.{bytes_eq}
use Rattle.std.proofs.lemmas.Bool.{and_from, lt-ltb}
use Rattle.std.proofs.lemmas.List.{length-map, get_or-map}
use Rattle.std.proofs.lemmas.List.Elements.{All-nil, All-cons, All-head, All-tail, All-append}
use Rattle.sql_tree.specs.Shown.{View, ShownItem, ShownColumn, number_shape, items_at, item_at, column_at as shown_at}
use Rattle.sql_tree.specs.WellFormed.{is_in_range}
use Rattle.sql_tree.specs.declared.tree.SqlPlace.{SqlPlace}
use Rattle.sql_text.specs.Text.{ItemNames, Names}
use Rattle.sql_resolver.specs.NamesMeant.{positions_from, is_asked, column_part, decides, places_in, places_of}
use Rattle.sql_resolver.specs.Scope.{ScopeColumn, ScopeItem, Scopes, scope_names, names_in, no_column, no_scope_item, column_at}
use Rattle.read_queries.proofs.FaultsNone.{all_map}

-- ---- scopes as they are shown

abbrev pub scope_column : ShownColumn → ScopeColumn
scope_column column = record { name = column.name; domain = Some column.shape.domain; bound = Some column.shape.bound }

abbrev pub scope_item : ShownItem → ScopeItem
scope_item item = record { name = item.name; columns = map scope_column item.columns }

abbrev pub scopes_of : View → Scopes
scopes_of = map (map scope_item)

-- ---- positions

-- from `at` on, and before the end of a list of this length
abbrev Among : ℕ → ℕ → ℕ → Type 0
Among at n k = (at ≤ k) × (k < at + n)

later : (at n : ℕ) (ks : List ℕ) → All (Among (at + 1) n) ks → All (Among at (n + 1)) ks
later at n [] all = All-nil (Among at (n + 1))
later at n (k ∷ ks) all =
    let is = All-head (Among (at + 1) n) k ks all in
    All-cons (Among at (n + 1)) k ks (omega (arith, is.0), omega (arith, is.1)) (later at n ks (All-tail (Among (at + 1) n) k ks all))

pub positions_among : {A : Type 0} (at : ℕ) (test : A → Bool) (xs : List A) → All (Among at (length xs)) (positions_from at test xs)
positions_among at test [] = All-nil (Among at 0)
positions_among at test (x ∷ xs) =
    first (test x) (subst (λ n. All (Among at n) (positions_from (at + 1) test xs)) (let same : length xs + 1 ≡ length (x ∷ xs) = omega arith in same) (later at (length xs) (positions_from (at + 1) test xs) (positions_among (at + 1) test xs)))
  where
    first : (b : Bool) → All (Among at (length (x ∷ xs))) (positions_from (at + 1) test xs) → All (Among at (length (x ∷ xs))) ((if b then at ∷ [] else []) ++ positions_from (at + 1) test xs)
    first true rest = All-cons (Among at (length (x ∷ xs))) at (positions_from (at + 1) test xs) (omega arith, omega arith) rest
    first false rest = rest

-- ---- places

-- in the scopes from the one with this number on
abbrev columns_in : List ItemNames → ℕ → ℕ
columns_in scope item = length (get_or scope item (record { name = []; columns = [] })).columns

abbrev InScope : ℕ → ℕ → List ItemNames → SqlPlace → Type 0
InScope up at scope place = (place.up ≡ up) × (at ≤ place.item) × (place.item < at + length scope) × (place.column < columns_in scope (place.item - at))

item_places : (up at : ℕ) (item : ItemNames) (scope : List ItemNames) (ks : List ℕ) → All (Among 0 (length item.columns)) ks →
    All (InScope up at (item ∷ scope)) (map (λ column. record { up = up; item = at; column = column }) ks)
item_places up at item scope ks all =
    all_map (λ column. record { up = up; item = at; column = column }) (Among 0 (length item.columns)) (InScope up at (item ∷ scope))
    (λ k is. (refl, omega arith, omega arith, subst (λ i. k < columns_in (item ∷ scope) i) (let none : 0 ≡ at - at = omega arith in none) (let below = is.1 in let w : k < length item.columns = omega (arith, below) in w))) ks all

further : (up at : ℕ) (item : ItemNames) (scope : List ItemNames) (ps : List SqlPlace) → All (InScope up (at + 1) scope) ps → All (InScope up at (item ∷ scope)) ps
further up at item scope [] all = All-nil (InScope up at (item ∷ scope))
further up at item scope (p ∷ ps) all =
    let is = All-head (InScope up (at + 1) scope) p ps all in
    let from = is.1 in
    let upto = is.2 in
    let next : suc (p.item - (at + 1)) ≡ p.item - at = omega (arith, from) in
    All-cons (InScope up at (item ∷ scope)) p ps (is.0, omega (arith, from), omega (arith, upto), subst (λ i. p.column < columns_in (item ∷ scope) i) next is.3)
    (further up at item scope ps (All-tail (InScope up (at + 1) scope) p ps all))

places_in_scope : (first : List ℕ) (second : Option (List ℕ)) (up at : ℕ) (scope : List ItemNames) → All (InScope up at scope) (places_in first second up at scope)
places_in_scope first second up at [] = All-nil (InScope up at [])
places_in_scope first second up at (item ∷ scope) =
    one (is_asked first second item) (further up at item scope (places_in first second up (at + 1) scope) (places_in_scope first second up (at + 1) scope))
  where
    one : (b : Bool) → All (InScope up at (item ∷ scope)) (places_in first second up (at + 1) scope) →
        All (InScope up at (item ∷ scope)) ((if b then map (λ column. record { up = up; item = at; column = column }) (positions_from 0 (bytes_eq (column_part first second)) item.columns) else []) ++ places_in first second up (at + 1) scope)
    one true rest = All-append (InScope up at (item ∷ scope)) (map (λ column. record { up = up; item = at; column = column }) (positions_from 0 (bytes_eq (column_part first second)) item.columns)) (places_in first second up (at + 1) scope)
        (item_places up at item scope (positions_from 0 (bytes_eq (column_part first second)) item.columns) (positions_among 0 (bytes_eq (column_part first second)) item.columns)) rest
    one false rest = rest

all_to : {A : Type 0} (P Q : A → Type 0) → ((x : A) → P x → Q x) → (xs : List A) → All P xs → All Q xs
all_to P Q to [] all = All-nil Q
all_to P Q to (x ∷ xs) all = All-cons Q x xs (to x (All-head P x xs all)) (all_to P Q to xs (All-tail P x xs all))

-- in the scopes of which the first has this number
record InNames (up : ℕ) (names : Names) (p : SqlPlace) : Type 0 where
  from : up ≤ p.up
  upto : p.up < up + length names
  item : p.item < length (get_or names (p.up - up) [])
  column : p.column < columns_in (get_or names (p.up - up) []) p.item

here : (up : ℕ) (scope : List ItemNames) (outer : Names) (p : SqlPlace) → InScope up 0 scope p → InNames up (scope ∷ outer) p
here up scope outer p is =
    let same = is.0 in
    let upto = is.2 in
    let none : 0 ≡ p.up - up = omega (arith, same) in
    record {
      from = omega (arith, same);
      upto = omega (arith, same);
      item = subst (λ k. p.item < length (get_or (scope ∷ outer) k [])) none (let w : p.item < length scope = omega (arith, upto) in w);
      column = subst (λ k. p.column < columns_in (get_or (scope ∷ outer) k []) p.item) none (subst (λ i. p.column < columns_in scope i) (let w : p.item - 0 ≡ p.item = omega arith in w) is.3);
    }

outside : (up : ℕ) (scope : List ItemNames) (outer : Names) (p : SqlPlace) → InNames (up + 1) outer p → InNames up (scope ∷ outer) p
outside up scope outer p is =
    let from = is.from in
    let upto = is.upto in
    let next : suc (p.up - (up + 1)) ≡ p.up - up = omega (arith, from) in
    record {
      from = omega (arith, from);
      upto = omega (arith, upto);
      item = subst (λ k. p.item < length (get_or (scope ∷ outer) k [])) next is.item;
      column = subst (λ k. p.column < columns_in (get_or (scope ∷ outer) k []) p.item) next is.column;
    }

places_in_names : (first : List ℕ) (second : Option (List ℕ)) (up : ℕ) (names : Names) → All (InNames up names) (places_of first second up names)
places_in_names first second up [] = All-nil (InNames up [])
places_in_names first second up (scope ∷ outer) = one (decides first second scope) (all_to (InNames (up + 1) outer) (InNames up (scope ∷ outer)) (outside up scope outer) (places_of first second (up + 1) outer) (places_in_names first second (up + 1) outer))
  where
    one : (b : Bool) → All (InNames up (scope ∷ outer)) (places_of first second (up + 1) outer) → All (InNames up (scope ∷ outer)) (if b then places_in first second up 0 scope else places_of first second (up + 1) outer)
    one true rest = all_to (InScope up 0 scope) (InNames up (scope ∷ outer)) (here up scope outer) (places_in first second up 0 scope) (places_in_scope first second up 0 scope)
    one false rest = rest

-- ---- what a place shows

abbrev item_names : ScopeItem → ItemNames
item_names item = record { name = item.name; columns = map (λ (column : ScopeColumn). column.name) item.columns }

-- the column that a name means, as it is shown
pub record Meant (view : View) (p : SqlPlace) : Type 0 where
  pub within : is_in_range view p ≡ true
  pub shown : column_at (scopes_of view) p ≡ scope_column (shown_at view p)

meant : (view : View) (p : SqlPlace) → InNames 0 (names_in (scopes_of view)) p → Meant view p
meant view p is =
    let scopes = scopes_of view in
    let items = items_at view p.up in
    let item = item_at view p.up p.item in
    let none : p.up - 0 ≡ p.up = omega arith in
    let many : length (names_in scopes) ≡ length view = length-map scopes scope_names ∙ length-map view (map scope_item) in
    let upto = is.upto in
    let up : p.up < length view = omega (arith, upto, many) in
    let up_scopes : p.up < length scopes = omega (arith, up, length-map view (map scope_item)) in
    let scope_is : get_or scopes p.up [] ≡ map scope_item items = get_or-map (map scope_item) view p.up [] [] up in
    let names_are : get_or (names_in scopes) (p.up - 0) [] ≡ map item_names (map scope_item items) =
    ap (λ k. get_or (names_in scopes) k []) none ∙ (get_or-map scope_names scopes p.up [] [] up_scopes ∙ ap scope_names scope_is) in
    let in_scope : p.item < length (map item_names (map scope_item items)) = subst (λ s. p.item < length s) names_are is.item in
    let in_items : p.item < length items = omega (arith, in_scope, length-map (map scope_item items) item_names, length-map items scope_item) in
    let in_shown : p.item < length (map scope_item items) = omega (arith, in_items, length-map items scope_item) in
    let item_is : get_or (map scope_item items) p.item no_scope_item ≡ scope_item item = get_or-map scope_item items p.item (record { name = []; columns = [] }) no_scope_item in_items in
    let names_is : get_or (map item_names (map scope_item items)) p.item (record { name = []; columns = [] }) ≡ item_names (scope_item item) =
    get_or-map item_names (map scope_item items) p.item no_scope_item (record { name = []; columns = [] }) in_shown ∙ ap item_names item_is in
    let in_names : p.column < columns_in (map item_names (map scope_item items)) p.item = subst (λ s. p.column < columns_in s p.item) names_are is.column in
    let in_item : p.column < length (item_names (scope_item item)).columns = subst (λ (i : ItemNames). p.column < length i.columns) names_is in_names in
    let column : p.column < length item.columns = omega (arith, in_item, length-map (map scope_column item.columns) (λ (column : ScopeColumn). column.name), length-map item.columns scope_column) in
    record {
      within = and_from (nat_lt p.up (length view) && nat_lt p.item (length items)) (nat_lt p.column (length item.columns))
          (and_from (nat_lt p.up (length view)) (nat_lt p.item (length items)) (lt-ltb p.up (length view) up) (lt-ltb p.item (length items) in_items)) (lt-ltb p.column (length item.columns) column);
      shown =
          ap (λ s. get_or (get_or s p.item no_scope_item).columns p.column no_column) scope_is
          ∙ (ap (λ (i : ScopeItem). get_or i.columns p.column no_column) item_is
          ∙ get_or-map scope_column item.columns p.column (record { name = []; shape = number_shape }) no_column column);
    }

pub all_meant : (first : List ℕ) (second : Option (List ℕ)) (view : View) → All (Meant view) (places_of first second 0 (names_in (scopes_of view)))
all_meant first second view = all_to (InNames 0 (names_in (scopes_of view))) (Meant view) (meant view) (places_of first second 0 (names_in (scopes_of view))) (places_in_names first second 0 (names_in (scopes_of view)))
