-- The groups and the order of a statement that keeps what it owes.
use Rattle.std.proofs.Common.{◌≡◌, ℕ, ◌-◌, ◌<◌, Bool, true, false, not, ◌&&◌, eqb, Option, Some, None, List, [], ◌∷◌, length, map, filter, get_or, All, pos, refl, sym, ap, ◌∙◌, subst, ⊎_elim, arith}
use Rattle.std.specs.Prelude.{◌≢◌, AllPairs, IfNone, IsNone, int_le, int_lt, position, unsigned_abs, unwrap_or}
use Rattle.std.specs.Str.{bytes_eq}
use Rattle.std.proofs.lemmas.Bool.{and_from, and_parts, cases_Bool, cond-false, cond-true, eq-eqb, true≢false, not-true}
use Rattle.std.proofs.lemmas.Int.{ints}
use Rattle.std.proofs.lemmas.List.Elements.{All-nil, All-cons, All-head, All-tail, All-filter, All-map, All-weaker, filter_passes}
use Rattle.std.proofs.lemmas.List.Kept.{AllPairs-cons, AllPairs-filter}
use Rattle.std.proofs.lemmas.List.Quantifiers.{position-Some}
use Rattle.prefsql_tables.specs.Table.{Tables}
use Rattle.prefsql_tables.specs.declared.place.ColumnPlace.{ColumnPlace}
use Rattle.prefsql_tables.specs.declared.place.SortKey.{SortKey}
use Rattle.pref_terms.specs.declared.term.Leaf.{Leaf}
use Rattle.query_meaning.specs.BlockFits.{IsPlace}
use Rattle.query_tree.specs.declared.condition.CondTree.{CondTree}
use Rattle.query_tree.specs.declared.name.NameTree.{NameTree}
use Rattle.query_tree.specs.declared.preference.PrefTree.{PrefTree}
use Rattle.query_tree.specs.declared.query.FromTree.{FromTree}
use Rattle.query_tree.specs.declared.query.OrderName.{OrderName}
use Rattle.query_tree.specs.declared.query.OrderName.TheVariants as order
use Rattle.query_tree.specs.declared.query.OrderTree.{OrderTree}
use Rattle.query_typing.specs.Columns.{place_eq}
use Rattle.query_typing.specs.Conditions.{column_obligations}
use Rattle.query_typing.specs.Obligations.{AllMet}
use Rattle.query_typing.specs.Resolution.{from_table, group_place, order_key, ordered_column, places_once, resolved_conjuncts, term_if}
use Rattle.query_typing.proofs.ValidConds.{met_items}
use Rattle.query_typing.proofs.ValidScalars.{group_is}
use Rattle.std.specs.List.{flat_map}

-- ---- groups

place_itself : (a : ColumnPlace) → place_eq a a ≡ true
place_itself a = and_from (eqb a.table a.table) (eqb a.column a.column) (eq-eqb a.table a.table refl) (eq-eqb a.column a.column refl)

apart : (a b : ColumnPlace) → not (place_eq a b) ≡ true → a ≢ b
apart a b other same = true≢false (sym (place_itself a) ∙ ap (place_eq a) same ∙ not-true (place_eq a b) other)

abbrev others : ColumnPlace → ColumnPlace → Bool
others a b = not (place_eq a b)

All-once : (P : ColumnPlace → Type 0) (places : List ColumnPlace) → All P places → All P (places_once places)
All-once P [] all = All-nil P
All-once P (place ∷ places) all =
    All-cons P place (filter (others place) (places_once places)) (All-head P place places all)
    (All-filter (others place) P (places_once places) (All-once P places (All-tail P place places all)))

pub once_differ : (places : List ColumnPlace) → AllPairs (λ (a b : ColumnPlace). a ≢ b) (places_once places)
once_differ [] i j d before small = absurd (omega (arith, small))
once_differ (place ∷ places) i j d before small =
    AllPairs-cons (λ (a b : ColumnPlace). a ≢ b) place (filter (others place) (places_once places))
    (All-weaker (λ b. others place b ≡ true) (λ b. place ≢ b) (apart place) (filter (others place) (places_once places)) (filter_passes (others place) (places_once places)))
    (AllPairs-filter (λ (a b : ColumnPlace). a ≢ b) (others place) (places_once places) (once_differ places)) i j d before small

pub groups_placed : (tables : Tables) (from : List FromTree) (names : List NameTree) → AllMet (flat_map (column_obligations tables from) names) → All (IsPlace (map (from_table tables) from)) (places_once (map (group_place tables from) names))
groups_placed tables from names met =
    let each = met_items (column_obligations tables from) names met in
    All-once (IsPlace (map (from_table tables) from)) (map (group_place tables from) names)
    (All-map (IsPlace (map (from_table tables) from)) (group_place tables from) names (λ k d small. group_is tables from (get_or names k d) (each k d small)))

-- without a preference there are none, and no BUT ONLY
pub ungrouped : (tables : Tables) (from : List FromTree) (leaves : List Leaf) (prefer : Option PrefTree) (groups : List NameTree) (only : Option CondTree) → IfNone prefer ((groups ≡ []) × IsNone only)
    → IfNone (term_if prefer leaves) ((places_once (map (group_place tables from) groups) ≡ []) × (resolved_conjuncts tables from leaves only ≡ []))
ungrouped tables from leaves (Some pref) groups only none = tt
ungrouped tables from leaves None groups None none = (ap (λ names. places_once (map (group_place tables from) names)) none.0, refl)
ungrouped tables from leaves None groups (Some c) none = absurd (true≢false none.1)

-- ---- order

within : (n : _) (count : ℕ) → int_lt (pos 0) n ≡ true → int_le n (pos count) ≡ true → unsigned_abs n - 1 < count
within n count low high = grind (arith, ints)

by_place : (names : List (List ℕ)) (name : List ℕ) → 0 < length names → (place : Option ℕ) → position (bytes_eq name) names ≡ place → unwrap_or place 0 < length names
by_place names name some None is = some
by_place names name some (Some i) is = (position-Some (bytes_eq name) names i [] is).0

ordered_small : (names : List (List ℕ)) (key : OrderName) → 0 < length names → ordered_column names key < length names
ordered_small names (order.Name name) some = by_place names name some (position (bytes_eq name) names) refl
ordered_small names (order.Position n) some =
    let test = int_lt (pos 0) n && int_le n (pos (length names)) in
    ⊎_elim
    (λ yes. let both = and_parts (int_lt (pos 0) n) (int_le n (pos (length names))) yes in
    subst (λ i. i < length names) (sym (cond-true test (unsigned_abs n - 1) 0 yes)) (within n (length names) both.0 both.1))
    (λ nope. subst (λ i. i < length names) (sym (cond-false test (unsigned_abs n - 1) 0 nope)) some)
    (cases_Bool test)

-- each key is one of the output columns
pub keys_small : (names : List (List ℕ)) (count : ℕ) (items : List OrderTree) → length names ≡ count → 0 < count → All (λ (key : SortKey). key.column < count) (map (order_key names) items)
keys_small names count items same some =
    All-map (λ (key : SortKey). key.column < count) (order_key names) items
    (λ k d small. subst (λ n. ordered_column names (get_or items k d).key < n) same (ordered_small names (get_or items k d).key (subst (λ n. 0 < n) (sym same) some)))
