-- What is found of FROM items, output columns and queries, by what is found of their parts.
use Rattle.std.proofs.Common.{◌≡◌, ℕ, ◌+◌, nat_le, Bool, true, false, ◌||◌, cond, rules, Option, Some, None, List, [], ◌∷◌, ◌++◌, map, Result, Ok, refl, sym, ap, ◌∙◌, arith}
use Rattle.std.specs.List.{flat_map, list_any}
use Rattle.std.specs.Option.{option_map}
use Rattle.std.specs.Str.{bytes_eq}
use Rattle.std.proofs.lemmas.Bool.Decides.{nat_tests}
use Rattle.std.proofs.lemmas.Simd.{map-map}
use Rattle.prefsql_lexer.specs.declared.fault.Spot.{Spot}
use Rattle.prefsql_tables.specs.Table.{Tables}
use Rattle.prefsql_tables.specs.Names.{table_place}
use Rattle.query_tree.specs.declared.query.FromTree.{FromTree}
use Rattle.sql_tree.specs.declared.tree.SqlCond.{SqlCond}
use Rattle.sql_tree.specs.declared.tree.SqlFrom.{SqlFrom}
use Rattle.sql_tree.specs.declared.tree.SqlItem.{SqlItem}
use Rattle.sql_tree.specs.declared.tree.SqlSource as source
use Rattle.sql_tree.specs.declared.tree.SqlQuery.{SqlQuery, roll-SqlQuery}
use Rattle.sql_text.specs.declared.named.NamedCond.{NamedCond}
use Rattle.sql_text.specs.declared.named.NamedCond.TheOpen.{NamedFrom-F, NamedSelect-F}
use Rattle.sql_text.specs.declared.named.NamedCond.TheFolds.{the_lemmas, fold-roll-NamedFrom, fold-roll-NamedSelect, fold_out-NamedQuery}
use Rattle.sql_text.specs.declared.named.NamedCond.TheShapes.{former-NamedQuery-filter}
use Rattle.sql_text.specs.declared.named.NamedCond.TheViews.{rolls-Table, rolls-Derived, rolls-All, rolls-Items}
use Rattle.sql_text.specs.declared.named.NamedFrom.{Table, Derived}
use Rattle.sql_text.specs.declared.named.NamedItem.{NamedItem}
use Rattle.sql_text.specs.declared.named.NamedSelect.{All, Items}
use Rattle.sql_text.specs.declared.named.NamedQuery.{NamedQuery, out-NamedQuery}
use Rattle.sql_resolver.specs.declared.found.FoundFrom.{FoundFrom}
use Rattle.sql_resolver.specs.declared.found.FoundOutput.{FoundOutput}
use Rattle.sql_resolver.specs.declared.found.Selected.{Selected}
use Rattle.sql_resolver.specs.Scope.{ScopeColumn, ScopeItem, Scopes}
use Rattle.sql_resolver.specs.Owed.{Fault, either_spot, fault, fault_if, first_spot, inner_faults, max_bound}
use Rattle.sql_resolver.specs.Outcomes.{all_of, also, earlier_if, first_fault, outcome}
use Rattle.sql_resolver.specs.Reading.{CondReading, FromReading, In, ItemReading, OutputReading, all_columns, cond_faults, cond_reading, cond_step, cond_tree, filter_of, from_reading, from_step, item_reading, item_step, output_of, outputs_from, own_scope, query_reading, query_step, repeated, scalar_reading, scalar_step, select_reading, select_step, table_reading, term_reading, term_step, when_reading, when_step}
use Rattle.sql_resolver.specs.Found.{capped, capped_column, cond_found, derived, derived_item, filter_found, first_repeated, found_from, found_output, found_query, found_scalar, from_found, from_items, in_turn, output, outputs_found, outputs_of, query_found, scalar_found, selected, selected_in, selected_of, spotted, unless_spot}
use Rattle.sql_resolver.proofs.Bounded.{and_left, and_right, is_small, is_within}
use Rattle.sql_resolver.proofs.BoundedQueries.{query_small}
use Rattle.sql_resolver.proofs.OutcomeLaws.{first_fault_append, outcome_also, outcome_each, outcome_form}
use Rattle.sql_resolver.proofs.CondLaws.{tested}

-- ---- FROM items

pub found-Table : (tables : Tables) (tree : FromTree) → from_found tables (Table tree) ≡ found_from (table_reading tables tree (table_place tables tree.table))
unfolding from_found cond_reading from_reading scalar_reading select_reading item_reading query_reading term_reading when_reading
found-Table tables tree =
    ap (from_found tables) (sym (rolls-Table tree))
    ∙ (λ j. found_from (fold-roll-NamedFrom _ _ _ _ _ _ _ _ cond_step (from_step tables) scalar_step select_step item_step (query_step tables) term_step when_step (NamedFrom-F.Table tree) j))

uncapped : (n : ℕ) → nat_le n max_bound ≡ true → capped n ≡ n
uncapped n h = grind (arith, nat_tests)

small_same : (bound : Option ℕ) → is_small bound ≡ true → option_map capped bound ≡ bound
small_same None h = refl
small_same (Some n) h = ap Some (uncapped n h)

within_same : (columns : List ScopeColumn) → is_within columns ≡ true → map capped_column columns ≡ columns
within_same [] h = refl
within_same (column ∷ more) h =
    let bound = small_same column.bound (and_left (is_small column.bound) (is_within more) h) in
    let rest = within_same more (and_right (is_small column.bound) (is_within more) h) in
    λ j. record { name = column.name; domain = column.domain; bound = bound j } ∷ rest j

derived_by : (at : ℕ) (tree : SqlQuery) (columns : List ScopeColumn) (first : Option Spot) (name : List ℕ)
    → (first ≡ None → is_within columns ≡ true)
    → outcome {A = SqlFrom × ScopeItem} (record { name = name; source = source.Derived tree }, record { name = name; columns = columns }) (inner_faults at first)
    ≡ derived_item at (unless_spot (record { tree = tree; columns = map capped_column columns }) first) name
derived_by at tree columns None name h =
    λ j. Ok (record { name = name; source = source.Derived tree }, record { name = name; columns = sym (within_same columns (h refl)) j })
derived_by at tree columns (Some spot) name h = refl

pub found-Derived : (tables : Tables) (query : NamedQuery) (name : List ℕ) (name_at : ℕ)
    → from_found tables (Derived query name name_at) ≡ derived (query_found tables query []) name name_at
unfolding from_found query_found cond_reading from_reading scalar_reading select_reading item_reading query_reading term_reading when_reading
found-Derived tables query name name_at =
    let r = query_reading tables query [] in
    ap (from_found tables) (sym (rolls-Derived query name name_at))
    ∙ (λ j. found_from (fold-roll-NamedFrom _ _ _ _ _ _ _ _ cond_step (from_step tables) scalar_step select_step item_step (query_step tables) term_step when_step (NamedFrom-F.Derived query name name_at) j))
    ∙ (λ j. record { name = name; name_at = name_at; item = derived_by r.at r.tree r.columns r.first name (query_small tables query [] refl) j })

-- ---- repeated names

Alike : List (List ℕ) → List (List ℕ) → Type 0
Alike bs cs = (test : List ℕ → Bool) → list_any test bs ≡ list_any test cs

or_swap : (a b c : Bool) → (a || (b || c)) ≡ (b || (a || c))
or_swap true true c = refl
or_swap true false c = refl
or_swap false true c = refl
or_swap false false c = refl

any_last : (test : List ℕ → Bool) (cs : List (List ℕ)) (name : List ℕ) → list_any test (name ∷ cs) ≡ list_any test (cs ++ name ∷ [])
any_last test [] name = refl
any_last test (c ∷ cs) name = or_swap (test name) (test c) (list_any test cs) ∙ ap (λ b. test c || b) (any_last test cs name)

alike_more : (bs cs : List (List ℕ)) (name : List ℕ) → Alike bs cs → Alike (name ∷ bs) (cs ++ name ∷ [])
unfolding Alike
alike_more bs cs name alike test = ap (λ b. test name || b) (alike test) ∙ any_last test cs name

repeated_are : (bs cs : List (List ℕ)) (froms : List FromReading) → Alike bs cs → first_fault (repeated bs froms) ≡ first_repeated cs (map found_from froms)
unfolding Alike
repeated_are bs cs [] alike = refl
repeated_are bs cs (from ∷ more) alike =
    let test = list_any (bytes_eq from.item.name) in
    first_fault_append (fault_if (test bs) 302 from.name_at) (repeated (from.item.name ∷ bs) more)
    ∙ (λ j. earlier_if (tested (test bs) 302 from.name_at j) (repeated_are (from.item.name ∷ bs) (cs ++ from.item.name ∷ []) more (alike_more bs cs from.item.name alike) j))
    ∙ ap (λ b. earlier_if (cond b (Some (fault 302 from.name_at)) None) (first_repeated (cs ++ from.item.name ∷ []) (map found_from more))) (alike (bytes_eq from.item.name))

pair_of : FromReading → SqlFrom × ScopeItem
pair_of from = (from.tree, from.item)

from_faults : List FromReading → List Fault
from_faults froms = flat_map (λ from. from.faults) froms ++ repeated [] froms

from_items_are : (froms : List FromReading) → from_items (map found_from froms) ≡ outcome (map pair_of froms) (from_faults froms)
unfolding pair_of from_faults Alike
from_items_are froms =
    (λ j. also (all_of (map-map (λ (from : FoundFrom). from.item) found_from froms j)) (sym (repeated_are [] [] froms (λ test. refl)) j))
    ∙ (λ j. also (sym (outcome_each pair_of (λ (from : FromReading). from.faults) froms) j) (first_fault (repeated [] froms)))
    ∙ sym (outcome_also (map pair_of froms) (flat_map (λ (from : FromReading). from.faults) froms) (repeated [] froms))

-- ---- output columns

pub found-All : (tables : Tables) (scopes : Scopes) → outputs_found tables All scopes ≡ map found_output (all_columns 0 (own_scope scopes))
unfolding outputs_found cond_reading from_reading scalar_reading select_reading item_reading query_reading term_reading when_reading
found-All tables scopes =
    ap (λ s. outputs_found tables s scopes) (sym rolls-All)
    ∙ (λ j. map found_output (fold-roll-NamedSelect _ _ _ _ _ _ _ _ cond_step (from_step tables) scalar_step select_step item_step (query_step tables) term_step when_step NamedSelect-F.All j scopes))

item_is : (tables : Tables) (item : NamedItem) (scopes : Scopes) → item_reading tables item scopes ≡ record { name = item.name; scalar = scalar_reading tables item.value scopes }
unfolding cond_reading from_reading scalar_reading select_reading item_reading query_reading term_reading when_reading
item_is tables item scopes = search (rules, the_lemmas)

output_is : (at : ℕ) (item : ItemReading) → found_output (output_of at item) ≡ output at item.name (found_scalar item.scalar)
output_is at item =
    let o = output_of at item in
    λ j. record { item = outcome_form (λ tree. record { value = tree; name = o.item.name }) item.scalar.tree item.scalar.faults j; column = capped_column o.column }

outputs_are : (tables : Tables) (at : ℕ) (items : List NamedItem) (scopes : Scopes)
    → map found_output (outputs_from at (map (λ (item : In ItemReading). item scopes) (map (item_reading tables) items))) ≡ outputs_of tables at items scopes
unfolding scalar_found
outputs_are tables at [] scopes = refl
outputs_are tables at (item ∷ more) scopes =
    λ j. (ap (λ r. found_output (output_of at r)) (item_is tables item scopes) ∙ output_is at (record { name = item.name; scalar = scalar_reading tables item.value scopes })) j
    ∷ outputs_are tables (at + 1) more scopes j

pub found-Items : (tables : Tables) (items : List NamedItem) (scopes : Scopes) → outputs_found tables (Items items) scopes ≡ outputs_of tables 1 items scopes
unfolding outputs_found cond_reading from_reading scalar_reading select_reading item_reading query_reading term_reading when_reading
found-Items tables items scopes =
    ap (λ s. outputs_found tables s scopes) (sym (rolls-Items items))
    ∙ (λ j. map found_output (fold-roll-NamedSelect _ _ _ _ _ _ _ _ cond_step (from_step tables) scalar_step select_step item_step (query_step tables) term_step when_step (NamedSelect-F.Items items) j scopes))
    ∙ outputs_are tables 1 items scopes

-- ---- queries

tree_of : Bool → List SqlItem → List SqlFrom → Option SqlCond → SqlQuery
tree_of distinct items from filter = roll-SqlQuery (record { distinct = distinct; items = items; from = from; filter = filter; order = [] })

by_clauses : (distinct : Bool) (from : List SqlFrom) (columns : List ScopeColumn) (items : List SqlItem) (filter : Option SqlCond) (fs gs : List Fault)
    → selected_of distinct from columns (in_turn (spotted (outcome items fs)) (spotted (outcome filter gs)))
    ≡ unless_spot (record { tree = tree_of distinct items from filter; columns = columns }) (either_spot (first_spot fs) (first_spot gs))
unfolding tree_of
by_clauses distinct from columns items filter [] [] = refl
by_clauses distinct from columns items filter [] (g ∷ gs) = refl
by_clauses distinct from columns items filter (f ∷ fs) [] = refl
by_clauses distinct from columns items filter (f ∷ fs) (g ∷ gs) = refl

select_is : (tables : Tables) (distinct : Bool) (from : List SqlFrom) (outputs : List OutputReading) (filter : Option CondReading)
    → selected distinct from (map found_output outputs) (outcome (cond_tree tables filter) (cond_faults tables filter))
    ≡ unless_spot (record { tree = tree_of distinct (map (λ o. o.item) outputs) from (cond_tree tables filter); columns = map capped_column (map (λ o. o.column) outputs) })
    (either_spot (first_spot (flat_map (λ o. o.faults) outputs)) (first_spot (cond_faults tables filter)))
select_is tables distinct from outputs filter =
    let items = map (λ (o : OutputReading). o.item) outputs in
    let fs = flat_map (λ (o : OutputReading). o.faults) outputs in
    let cond : Result (Option SqlCond) Fault = outcome (cond_tree tables filter) (cond_faults tables filter) in
    (λ j. selected_of distinct from ((map-map (λ (o : FoundOutput). o.column) found_output outputs ∙ sym (map-map capped_column (λ (o : OutputReading). o.column) outputs)) j)
    (in_turn (spotted (all_of (map-map (λ (o : FoundOutput). o.item) found_output outputs j))) (spotted cond)))
    ∙ (λ j. selected_of distinct from (map capped_column (map (λ (o : OutputReading). o.column) outputs))
    (in_turn (spotted (sym (outcome_each (λ (o : OutputReading). o.item) (λ (o : OutputReading). o.faults) outputs) j)) (spotted cond)))
    ∙ by_clauses distinct from (map capped_column (map (λ (o : OutputReading). o.column) outputs)) items (cond_tree tables filter) fs (cond_faults tables filter)

filter_is : (tables : Tables) (filter : Option NamedCond) (scopes : Scopes)
    → let read = filter_of tables (former-NamedQuery-filter.map NamedCond (In CondReading) (cond_reading tables) filter) scopes in
    outcome (cond_tree tables read) (cond_faults tables read) ≡ filter_found tables filter scopes
unfolding cond_found
filter_is tables None scopes = refl
filter_is tables (Some c) scopes = outcome_form Some (cond_reading tables c scopes).tree (cond_reading tables c scopes).faults

-- a query whose FROM has these faults
from_part : (tables : Tables) (query : NamedQuery) (outer : Scopes) (pairs : List (SqlFrom × ScopeItem)) (fs : List Fault) (part : Selected) (later : Option Spot)
    → selected_in tables query outer (Ok pairs) ≡ unless_spot part later
    → selected_in tables query outer (outcome pairs fs) ≡ unless_spot part (either_spot (first_spot fs) later)
from_part tables query outer pairs [] part later is = is
from_part tables query outer pairs (f ∷ fs) part later is = refl

pub found_of_query : (tables : Tables) (query : NamedQuery) (outer : Scopes)
    → query_found tables query outer ≡ record { at = (out-NamedQuery query).at; selected = selected_in tables query outer (from_items (map (from_found tables) (out-NamedQuery query).from)) }
unfolding query_found outputs_found from_found cond_reading from_reading scalar_reading select_reading item_reading query_reading term_reading when_reading pair_of from_faults tree_of
found_of_query tables query outer =
    let o = out-NamedQuery query in
    let froms : List FromReading = map (from_reading tables) o.from in
    let read : Option (In CondReading) = former-NamedQuery-filter.map NamedCond (In CondReading) (cond_reading tables) o.filter in
    let scopes : Scopes = map (λ (from : FromReading). from.item) froms ∷ outer in
    let outputs : List OutputReading = select_reading tables o.select scopes in
    let filter : Option CondReading = filter_of tables read scopes in
    let trees : List SqlFrom = map (λ (from : FromReading). from.tree) froms in
    let part : Selected = record {
      tree = tree_of o.distinct (map (λ (output : OutputReading). output.item) outputs) trees (cond_tree tables filter);
      columns = map capped_column (map (λ (output : OutputReading). output.column) outputs);
    } in
    let later : Option Spot = either_spot (first_spot (flat_map (λ (output : OutputReading). output.faults) outputs)) (first_spot (cond_faults tables filter)) in
    let whole : selected_in tables query outer (Ok (map pair_of froms)) ≡ unless_spot part later =
    (λ j. selected o.distinct (map-map (λ (p : SqlFrom × ScopeItem). p.0) pair_of froms j) (outputs_found tables o.select (map-map (λ (p : SqlFrom × ScopeItem). p.1) pair_of froms j ∷ outer)) (filter_found tables o.filter (map-map (λ (p : SqlFrom × ScopeItem). p.1) pair_of froms j ∷ outer)))
    ∙ (λ j. selected o.distinct trees (outputs_found tables o.select scopes) (sym (filter_is tables o.filter scopes) j))
    ∙ select_is tables o.distinct trees outputs filter in
    let items : from_items (map (from_found tables) o.from) ≡ outcome (map pair_of froms) (from_faults froms) =
    ap from_items (sym (map-map found_from (from_reading tables) o.from)) ∙ from_items_are froms in
    (λ j. found_query (fold_out-NamedQuery _ _ _ _ _ _ _ _ cond_step (from_step tables) scalar_step select_step item_step (query_step tables) term_step when_step query j outer))
    ∙ (λ j. record {
      at = o.at;
      selected = (sym (from_part tables query outer (map pair_of froms) (from_faults froms) part later whole) ∙ ap (selected_in tables query outer) (sym items)) j;
    })

pub ruleset from_rules = (found-Table, found-Derived)

pub ruleset select_rules = (found-All, found-Items)
