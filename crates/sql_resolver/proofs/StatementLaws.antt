-- What is found of statements and scripts, by what is found of their queries.
use Rattle.std.proofs.Common.{◌≡◌, ℕ, ◌+◌, ℤ, Bool, cond, Option, Some, None, List, [], ◌∷◌, ◌++◌, map, length, Result, Ok, Err, refl, sym, ap, ◌∙◌, append_assoc, append-nil}
use Rattle.std.specs.List.{flat_map}
use Rattle.std.specs.Str.{bytes_eq}
use Rattle.std.proofs.lemmas.List.{length-map}
use Rattle.std.proofs.lemmas.Simd.{map-map}
use Rattle.prefsql_lexer.specs.declared.fault.Spot.{Spot}
use Rattle.prefsql_tables.specs.Table.{Tables}
use Rattle.prefsql_tables.specs.declared.place.SortKey.{SortKey}
use Rattle.query_tree.specs.declared.query.OrderTree.{OrderTree}
use Rattle.query_tree.specs.declared.query.OrderName.{OrderName}
use Rattle.query_tree.specs.declared.query.OrderName.TheVariants.{Name, Position}
use Rattle.sql_tree.specs.declared.tree.SqlQuery.{SqlQuery}
use Rattle.sql_text.specs.declared.named.NamedStatement.{NamedStatement}
use Rattle.sql_resolver.specs.NamesMeant.{positions_from}
use Rattle.sql_resolver.specs.Scope.{ScopeColumn}
use Rattle.sql_resolver.specs.Owed.{Fault, either_spot, first_spot}
use Rattle.sql_resolver.specs.Outcomes.{all_of, outcome}
use Rattle.sql_resolver.specs.Reading.{query_reading}
use Rattle.sql_resolver.specs.Found.{capped_column, query_found, spotted, unless_spot}
use Rattle.sql_resolver.specs.Ordered.{found_key, statement_found, with_keys}
use Rattle.sql_resolver.specs.Statements.{KeyReading, and_more, key_reading, named_key, numbered_key, ok_unless, statement_reading, with_order}
use Rattle.sql_resolver.proofs.OutcomeLaws.{outcome_each}

-- ---- keys over columns whose bounds are capped

is_named : List ℕ → ScopeColumn → Bool
is_named name column = bytes_eq name column.name

positions_same : (at : ℕ) (name : List ℕ) (columns : List ScopeColumn) → positions_from at (is_named name) (map capped_column columns) ≡ positions_from at (is_named name) columns
unfolding is_named
positions_same at name [] = refl
positions_same at name (column ∷ more) = ap (λ rest. cond (bytes_eq name column.name) (at ∷ []) [] ++ rest) (positions_same (at + 1) name more)

key_same : (columns : List ScopeColumn) (key : OrderName) (descending : Bool) (at : ℕ)
    → key_reading (map capped_column columns) (record { key = key; descending = descending; at = at }) ≡ key_reading columns (record { key = key; descending = descending; at = at })
unfolding is_named
key_same columns (Name name) descending at =
    ap (named_key (record { key = Name name; descending = descending; at = at })) (positions_same 0 name columns)
key_same columns (Position n) descending at =
    ap (numbered_key (record { key = Position n; descending = descending; at = at }) n) (length-map columns capped_column)

keys_same : (columns : List ScopeColumn) (order : List OrderTree)
    → map (λ tree. found_key (key_reading (map capped_column columns) tree)) order ≡ map (λ tree. found_key (key_reading columns tree)) order
keys_same columns [] = refl
keys_same columns (tree ∷ more) = λ j. found_key (key_same columns tree.key tree.descending tree.at j) ∷ keys_same columns more j

-- ---- statements

by_faults : (tree : SqlQuery) (keys : List SortKey) (fs : List Fault) → ok_unless (first_spot fs) (with_order keys tree) ≡ with_keys tree (spotted (outcome keys fs))
by_faults tree keys [] = refl
by_faults tree keys (f ∷ fs) = refl

by_first : (tree : SqlQuery) (columns : List ScopeColumn) (first : Option Spot) (order : List OrderTree)
    → ok_unless (either_spot first (first_spot (flat_map (λ (key : KeyReading). key.faults) (map (key_reading columns) order)))) (with_order (map (λ (key : KeyReading). key.key) (map (key_reading columns) order)) tree)
    ≡ statement_found (unless_spot (record { tree = tree; columns = map capped_column columns }) first) order
by_first tree columns (Some spot) order = refl
by_first tree columns None order =
    let keys : List KeyReading = map (key_reading columns) order in
    by_faults tree (map (λ (key : KeyReading). key.key) keys) (flat_map (λ (key : KeyReading). key.faults) keys)
    ∙ ap (λ found. with_keys tree (spotted found)) (outcome_each (λ (key : KeyReading). key.key) (λ (key : KeyReading). key.faults) keys
    ∙ ap all_of (map-map found_key (key_reading columns) order ∙ sym (keys_same columns order)))

pub statement_is : (tables : Tables) (statement : NamedStatement) → statement_reading tables statement ≡ statement_found (query_found tables statement.query []).selected statement.order
unfolding query_found
statement_is tables statement =
    let query = query_reading tables statement.query [] in
    by_first query.tree query.columns query.first statement.order

-- ---- scripts

-- the queries before those of a script
abbrev pub and_all : List SqlQuery → Result (List SqlQuery) Spot → Result (List SqlQuery) Spot
and_all queries (Ok more) = Ok (queries ++ more)
and_all queries (Err spot) = Err spot

pub all_pushed : (queries : List SqlQuery) (query : SqlQuery) (more : Result (List SqlQuery) Spot) → and_all (queries ++ query ∷ []) more ≡ and_all queries (and_more (Ok query) more)
all_pushed queries query (Ok more) = ap Ok (append_assoc queries (query ∷ []) more)
all_pushed queries query (Err spot) = refl

pub all_begun : (more : Result (List SqlQuery) Spot) → and_all [] more ≡ more
all_begun (Ok more) = refl
all_begun (Err spot) = refl

pub ruleset scripts = (all_pushed, all_begun, append-nil)
