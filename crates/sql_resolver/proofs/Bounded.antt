-- A query without faults has no column whose bound is above the greatest.
use Rattle.std.proofs.Common.{◌≡◌, ℕ, ◌+◌, ◌≤◌, nat_le, nat_lt, zero, suc, Bool, true, false, ◌&&◌, cond, Option, Some, None, List, [], ◌∷◌, ◌++◌, map, max, ⊎_elim, refl, sym, ap, subst, ◌∙◌, arith}
use Rattle.std.specs.Prelude.{slice_index_or}
use Rattle.std.proofs.lemmas.Bool.{cases_Bool}
use Rattle.std.proofs.lemmas.Bool.Decides.{nat_tests}
use Rattle.prefsql_lexer.specs.declared.fault.Spot.{Spot}
use Rattle.prefsql_values.specs.declared.value.Value.{Value}
use Rattle.prefsql_values.specs.declared.value.Value.TheVariants.{Num, Str, Null}
use Rattle.prefsql_values.specs.declared.value.Domain.{Domain}
use Rattle.prefsql_values.specs.declared.value.Domain.TheVariants.{Integer, Chars as CharsDomain}
use Rattle.prefsql_tables.specs.declared.schema.Column.{Column}
use Rattle.query_tree.specs.declared.name.NameTree.{NameTree}
use Rattle.sql_tree.specs.declared.tree.SqlPlace.{SqlPlace}
use Rattle.sql_resolver.specs.Scope.{Scope, ScopeColumn, Scopes, column_at, no_column, no_scope_item}
use Rattle.sql_resolver.specs.Owed.{Fault, both_bounds, either_spot, fault, first_spot, max_bound}
use Rattle.sql_resolver.specs.Reading.{OutputReading, TermReading, all_columns, bound_faults, bound_step, column_reading, columns_from, literal_reading, own_scope, sum_bound, table_column}

-- ---- tests and lists

pub and_left : (a b : Bool) → (a && b) ≡ true → a ≡ true
and_left true b h = refl
and_left false b h = h

pub and_right : (a b : Bool) → (a && b) ≡ true → b ≡ true
and_right true b h = h
and_right false b h = absurd (let nope : ⊥ = cc in nope)

pub both_true : (a b : Bool) → a ≡ true → b ≡ true → (a && b) ≡ true
both_true true b h k = k
both_true false b h k = h

pub nil_left : {A : Type 0} (xs ys : List A) → xs ++ ys ≡ [] → xs ≡ []
nil_left [] ys e = refl
nil_left (x ∷ xs) ys e = absurd (let nope : ⊥ = cc in nope)

pub nil_right : {A : Type 0} (xs ys : List A) → xs ++ ys ≡ [] → ys ≡ []
nil_right [] ys e = e
nil_right (x ∷ xs) ys e = absurd (let nope : ⊥ = cc in nope)

-- ---- scopes

abbrev pub is_small : Option ℕ → Bool
is_small None = true
is_small (Some bound) = nat_le bound max_bound

-- no column has a bound above the greatest
abbrev pub is_within : List ScopeColumn → Bool
is_within [] = true
is_within (column ∷ more) = is_small column.bound && is_within more

abbrev pub small_scope : Scope → Bool
small_scope [] = true
small_scope (item ∷ more) = is_within item.columns && small_scope more

abbrev pub small_scopes : Scopes → Bool
small_scopes [] = true
small_scopes (scope ∷ more) = small_scope scope && small_scopes more

scope_at : (scopes : Scopes) (i : ℕ) → small_scopes scopes ≡ true → small_scope (slice_index_or scopes i []) ≡ true
scope_at [] i h = refl
scope_at (scope ∷ more) zero h = and_left (small_scope scope) (small_scopes more) h
scope_at (scope ∷ more) (suc i) h = scope_at more i (and_right (small_scope scope) (small_scopes more) h)

item_at : (scope : Scope) (i : ℕ) → small_scope scope ≡ true → is_within (slice_index_or scope i no_scope_item).columns ≡ true
item_at [] i h = refl
item_at (item ∷ more) zero h = and_left (is_within item.columns) (small_scope more) h
item_at (item ∷ more) (suc i) h = item_at more i (and_right (is_within item.columns) (small_scope more) h)

bound_at : (columns : List ScopeColumn) (i : ℕ) → is_within columns ≡ true → is_small (slice_index_or columns i no_column).bound ≡ true
bound_at [] i h = refl
bound_at (column ∷ more) zero h = and_left (is_small column.bound) (is_within more) h
bound_at (column ∷ more) (suc i) h = bound_at more i (and_right (is_small column.bound) (is_within more) h)

column_small : (scopes : Scopes) (place : SqlPlace) → small_scopes scopes ≡ true → is_small (column_at scopes place).bound ≡ true
column_small scopes place h =
    bound_at (slice_index_or (slice_index_or scopes place.up []) place.item no_scope_item).columns place.column
    (item_at (slice_index_or scopes place.up []) place.item (scope_at scopes place.up h))

pub own_small : (scopes : Scopes) → small_scopes scopes ≡ true → small_scope (own_scope scopes) ≡ true
own_small scopes h = scope_at scopes 0 h

-- ---- scalars

pub column_case : (name : NameTree) (scopes : Scopes) (places : List SqlPlace) → small_scopes scopes ≡ true → is_small (column_reading name scopes places).bound ≡ true
column_case name scopes [] h = refl
column_case name scopes (place ∷ []) h = column_small scopes place h
column_case name scopes (place ∷ other ∷ more) h = refl

pub literal_case : (value : Value) (at : ℕ) → is_small (literal_reading value at).bound ≡ true
literal_case (Num n) at = refl
literal_case (Str text) at = refl
literal_case Null at = refl

-- a sum after terms of this total
Fits : ℕ → Option ℕ → Type 0
Fits total rest = is_small (both_bounds (λ m n. m + n) (Some total) rest) ≡ true

small_total : (total bound : ℕ) → nat_lt max_bound (total + bound) ≡ false → total + bound ≤ max_bound
small_total total bound h = grind (arith, nat_tests)

regrouped : (total bound rest : ℕ) → nat_le ((total + bound) + rest) max_bound ≡ true → nat_le (total + (bound + rest)) max_bound ≡ true
regrouped total bound rest h = grind (arith, nat_tests)

fits_more : (total bound : ℕ) (rest : Option ℕ) → Fits (total + bound) rest → Fits total (both_bounds (λ m n. m + n) (Some bound) rest)
unfolding Fits
fits_more total bound None h = refl
fits_more total bound (Some rest) h = regrouped total bound rest h

step_fits : (total at : ℕ) (bound rest : Option ℕ) (later : ℕ → List Fault)
    → ((sum : ℕ) → sum ≤ max_bound → later sum ≡ [] → Fits sum rest) → bound_step total at bound later ≡ [] → Fits total (both_bounds (λ m n. m + n) bound rest)
unfolding Fits
step_fits total at None rest later fits e = refl
step_fits total at (Some bound) rest later fits e =
    ⊎_elim
    (λ over. absurd (let nope : fault 401 at ∷ [] ≡ [] = ap (λ b. cond b (fault 401 at ∷ []) (later (total + bound))) (sym over) ∙ e in let no_more : ⊥ = cc in no_more))
    (λ under. fits_more total bound rest (fits (total + bound) (small_total total bound under) (ap (λ b. cond b (fault 401 at ∷ []) (later (total + bound))) (sym under) ∙ e)))
    (cases_Bool (nat_lt max_bound (total + bound)))

no_more : (total : ℕ) → total ≤ max_bound → nat_le (total + 0) max_bound ≡ true
no_more total h = grind (arith, nat_tests)

terms_fit : (total : ℕ) (terms : List TermReading) → total ≤ max_bound → bound_faults total terms ≡ [] → Fits total (sum_bound terms)
unfolding Fits
terms_fit total [] h e = no_more total h
terms_fit total (term ∷ more) h e =
    step_fits total term.scalar.at term.scalar.bound (sum_bound more) (λ sum. bound_faults sum more) (λ sum small none. terms_fit sum more small none) e

from_zero : (rest : Option ℕ) → Fits 0 rest → is_small rest ≡ true
unfolding Fits
from_zero None h = refl
from_zero (Some n) h = grind (arith, nat_tests)

pub sum_case : (terms : List TermReading) → bound_faults 0 terms ≡ [] → is_small (sum_bound terms) ≡ true
sum_case terms e = from_zero (sum_bound terms) (terms_fit 0 terms (omega arith) e)

max_small : (m n : ℕ) → nat_le m max_bound ≡ true → nat_le n max_bound ≡ true → nat_le (max m n) max_bound ≡ true
max_small m n h k = grind (arith, nat_tests)

pub greater_small : (a b : Option ℕ) → is_small a ≡ true → is_small b ≡ true → is_small (both_bounds max a b) ≡ true
greater_small (Some m) (Some n) h k = max_small m n h k
greater_small (Some m) None h k = refl
greater_small None b h k = refl

-- ---- columns

pub columns_small : (item at : ℕ) (columns : List ScopeColumn) (rest : List OutputReading)
    → is_within columns ≡ true → is_within (map (λ (o : OutputReading). o.column) rest) ≡ true
    → is_within (map (λ (o : OutputReading). o.column) (columns_from item at columns ++ rest)) ≡ true
columns_small item at [] rest h k = k
columns_small item at (column ∷ more) rest h k =
    both_true (is_small column.bound) (is_within (map (λ (o : OutputReading). o.column) (columns_from item (at + 1) more ++ rest))) (and_left (is_small column.bound) (is_within more) h)
    (columns_small item (at + 1) more rest (and_right (is_small column.bound) (is_within more) h) k)

pub all_small : (at : ℕ) (scope : Scope) → small_scope scope ≡ true → is_within (map (λ (o : OutputReading). o.column) (all_columns at scope)) ≡ true
all_small at [] h = refl
all_small at (item ∷ more) h =
    columns_small at 0 item.columns (all_columns (at + 1) more) (and_left (is_within item.columns) (small_scope more) h)
    (all_small (at + 1) more (and_right (is_within item.columns) (small_scope more) h))

table_column_small : (domain : Domain) (column : Column) → column.domain ≡ domain → is_small (table_column column).bound ≡ true
table_column_small Integer column is = let P : Domain → Type 0 = λ d. is_small (table_column (record { name = column.name; domain = d; nullable = column.nullable })).bound ≡ true in subst P (sym is) refl
table_column_small CharsDomain column is = let P : Domain → Type 0 = λ d. is_small (table_column (record { name = column.name; domain = d; nullable = column.nullable })).bound ≡ true in subst P (sym is) refl

pub table_small : (columns : List Column) → is_within (map table_column columns) ≡ true
table_small [] = refl
table_small (column ∷ more) =
    both_true (is_small (table_column column).bound) (is_within (map table_column more)) (table_column_small column.domain column refl) (table_small more)

pub no_first : (own later : Option Spot) → either_spot own later ≡ None → (own ≡ None) × (later ≡ None)
no_first None later e = (refl, e)
no_first (Some spot) later e = absurd (let nope : ⊥ = cc in nope)

pub no_faults : (faults : List Fault) → first_spot faults ≡ None → faults ≡ []
no_faults [] e = refl
no_faults (f ∷ fs) e = absurd (let nope : ⊥ = cc in nope)
