-- A query that is read without a fault is well formed, and its columns are those that it shows.
use Rattle.std.proofs.Common.{◌≡◌, ◌≤◌, ℕ, Bool, true, false, ◌&&◌, List, [], ◌∷◌, ◌++◌, map, length, All, refl, sym, ap, subst, ◌∙◌, arith, Option, Some, None}
use Rattle.std.specs.Prelude.{nat_le}
use Rattle.std.specs.List.{flat_map, list_all}
use Rattle.std.specs.Option.{option_map}
use Rattle.std.proofs.lemmas.Bool.{and_from}
use Rattle.std.proofs.lemmas.Bool.Decides.{nat_tests}
use Rattle.std.proofs.lemmas.List.{length-map}
use Rattle.std.proofs.lemmas.List.Elements.{All-nil, All-cons, All-head, All-tail}
use Rattle.prefsql_values.specs.Limits.{IsName}
use Rattle.prefsql_tables.specs.Table.{Tables}
use Rattle.prefsql_tables.specs.Valid.{IsTableSet}
use Rattle.sql_tree.specs.Shown.{View, ShownItem, ShownColumn}
use Rattle.sql_tree.specs.WellFormed.{JudgedFrom, JudgedItem, JudgedQuery, all_differ, filter_well}
use Rattle.sql_tree.specs.declared.tree.SqlFrom.{SqlFrom}
use Rattle.sql_tree.specs.declared.tree.SqlItem.{SqlItem}
use Rattle.sql_text.specs.declared.named.NamedCond.{NamedCond}
use Rattle.sql_text.specs.declared.named.NamedScalar.{NamedScalar}
use Rattle.sql_text.specs.declared.named.NamedScalar as named_scalar
use Rattle.sql_text.specs.declared.named.NamedSelect.{NamedSelect}
use Rattle.sql_text.specs.declared.named.NamedSelect as named_select
use Rattle.sql_text.specs.declared.named.NamedFrom.{NamedFrom}
use Rattle.sql_text.specs.declared.named.NamedItem.{NamedItem}
use Rattle.sql_text.specs.declared.named.NamedTerm.{NamedTerm}
use Rattle.sql_text.specs.declared.named.NamedWhen.{NamedWhen}
use Rattle.sql_text.specs.Grammar.{query_tree}
use Rattle.sql_resolver.specs.Scope.{ScopeItem, Scopes, names_in}
use Rattle.sql_resolver.specs.NamesMeant.{places_of}
use Rattle.sql_resolver.specs.Owed.{first_spot, either_spot}
use Rattle.sql_resolver.specs.Reading.{In, CondReading, TermReading, WhenReading, ItemReading, OutputReading, FromReading, QueryReading, cond_reading, from_reading, scalar_reading, select_reading, item_reading, term_reading, when_reading, outputs_from, repeated, cond_tree, cond_faults}
use Rattle.read_queries.proofs.Kept.{Where}
use Rattle.read_queries.proofs.Grammar.{Closed}
use Rattle.read_queries.proofs.FaultsNone.{none_left, none_right, first_none, either_first, either_second, all_map, all_read, each_holds}
use Rattle.read_queries.proofs.ColumnsMeant.{scope_column, scope_item, scopes_of, all_meant}
use Rattle.read_queries.proofs.FormedScalars.{OfScalar, OfFactor, column_formed, literal_formed, sum_formed}
use Rattle.read_queries.proofs.FormedChoices.{OfWhenReading, choice_formed}
use Rattle.read_queries.proofs.FormedConditions.{QueryFormed, FormScalar, FormCond, FormQuery, and_formed, or_formed, not_formed, compare_formed, between_formed, member_formed, null_formed, exists_formed}
use Rattle.read_queries.proofs.FormedOutputs.{HasName, OutputFormed, OfOutput, ItemFormed, outputs_formed, ItemSeen, every_column_formed, some_column}
use Rattle.read_queries.proofs.FormedSources.{FromFormed, OfFrom, table_formed, derived_formed, names_differ}
use Rattle.read_queries.proofs.JudgedParts.{judged_cond, judged_item, judged_from, judged_query_is, own_items}
use Rattle.read_queries.proofs.Readings.{reading-Column, reading-Literal, reading-Sum, reading-Case, last_reading, term_reading_is, when_reading_is, item_reading_is, reading-Items, reading-All, filter_reading, whole_reading, own_scopes, by_parts}

one_le : (n : ℕ) → 1 ≤ n → nat_le 1 n ≡ true
one_le n le = grind (arith, nat_tests)

-- ---- what the FROM items show

abbrev from_trees : List FromReading → List SqlFrom
from_trees rs = map (λ (from : FromReading). from.tree) rs

items_are : (rs : List FromReading) → All FromFormed rs → map (λ (from : FromReading). from.item) rs ≡ map scope_item (own_items (from_trees rs))
items_are [] all = refl
items_are (r ∷ rs) all =
    ap (λ i. i ∷ map (λ (from : FromReading). from.item) rs) (All-head FromFormed r rs all).item ∙ ap (λ is. scope_item (judged_from r.tree).item ∷ is) (items_are rs (All-tail FromFormed r rs all))

names_are : (rs : List FromReading) → All FromFormed rs → map (λ (r : FromReading). r.item.name) rs ≡ map (λ (item : ShownItem). item.name) (own_items (from_trees rs))
names_are [] all = refl
names_are (r ∷ rs) all =
    ap (λ (i : ScopeItem). i.name ∷ map (λ (r : FromReading). r.item.name) rs) (All-head FromFormed r rs all).item ∙ ap (λ ns. (judged_from r.tree).item.name ∷ ns) (names_are rs (All-tail FromFormed r rs all))

all_seen : (rs : List FromReading) → All FromFormed rs → All ItemSeen (own_items (from_trees rs))
all_seen [] all = All-nil ItemSeen
all_seen (r ∷ rs) all = All-cons ItemSeen (judged_from r.tree).item (own_items (from_trees rs)) (All-head FromFormed r rs all).seen (all_seen rs (All-tail FromFormed r rs all))

froms_well : (rs : List FromReading) → All FromFormed rs → list_all (λ (f : JudgedFrom). f.well) (map judged_from (from_trees rs)) ≡ true
froms_well [] all = refl
froms_well (r ∷ rs) all = and_from (judged_from r.tree).well (list_all (λ (f : JudgedFrom). f.well) (map judged_from (from_trees rs))) (All-head FromFormed r rs all).well (froms_well rs (All-tail FromFormed r rs all))

-- ---- what the output columns show

abbrev output_trees : List OutputReading → List SqlItem
output_trees os = map (λ (output : OutputReading). output.item) os

abbrev judged_outputs : View → List OutputReading → List JudgedItem
judged_outputs view os = map (λ (item : View → JudgedItem). item view) (map judged_item (output_trees os))

outputs_well : (view : View) (os : List OutputReading) → All (OutputFormed view) os → list_all (λ (item : JudgedItem). item.well) (judged_outputs view os) ≡ true
outputs_well view [] all = refl
outputs_well view (o ∷ os) all =
    and_from (judged_item o.item view).well (list_all (λ (item : JudgedItem). item.well) (judged_outputs view os)) (All-head (OutputFormed view) o os all).well (outputs_well view os (All-tail (OutputFormed view) o os all))

columns_are : (view : View) (os : List OutputReading) → All (OutputFormed view) os → map (λ (output : OutputReading). output.column) os ≡ map scope_column (map (λ (item : JudgedItem). item.column) (judged_outputs view os))
columns_are view [] all = refl
columns_are view (o ∷ os) all =
    ap (λ c. c ∷ map (λ (output : OutputReading). output.column) os) (All-head (OutputFormed view) o os all).column
    ∙ ap (λ cs. scope_column (judged_item o.item view).column ∷ cs) (columns_are view os (All-tail (OutputFormed view) o os all))

all_named : (view : View) (os : List OutputReading) → All (OutputFormed view) os → All HasName (map (λ (item : JudgedItem). item.column) (judged_outputs view os))
all_named view [] all = All-nil HasName
all_named view (o ∷ os) all =
    All-cons HasName (judged_item o.item view).column (map (λ (item : JudgedItem). item.column) (judged_outputs view os)) (All-head (OutputFormed view) o os all).name (all_named view os (All-tail (OutputFormed view) o os all))

many_outputs : (view : View) (os : List OutputReading) → length (judged_outputs view os) ≡ length os
many_outputs view os = length-map (map judged_item (output_trees os)) (λ (item : View → JudgedItem). item view) ∙ (length-map (output_trees os) judged_item ∙ length-map os (λ (output : OutputReading). output.item))

pub record SelectFormed (view : View) (os : List OutputReading) : Type 0 where
  pub all : All (OfOutput view) os
  pub some : 1 ≤ length os

module _ (tables : Tables) where
  abbrev pub FormFactor : NamedScalar → Type 0
  FormFactor n = (view : View) → OfFactor view (scalar_reading tables n (scopes_of view))

  abbrev pub FormSelect : NamedSelect → Type 0
  FormSelect n = (own : List ShownItem) (outer : View) → 1 ≤ length own → All ItemSeen own → SelectFormed (own ∷ outer) (select_reading tables n (scopes_of (own ∷ outer)))

  abbrev pub FormFrom : NamedFrom → Type 0
  FormFrom n = OfFrom (from_reading tables n)

  -- ---- scalars

  sum_is_formed : (first : NamedScalar) (second : NamedTerm) (more : List NamedTerm) → FormFactor first → All (λ (t : NamedTerm). FormFactor t.scalar) (second ∷ more) → FormScalar tables (named_scalar.Sum (record { minus = false; scalar = first } ∷ (second ∷ more)))
  sum_is_formed first second more is all view =
      let scopes = scopes_of view in
      let P : NamedTerm → Type 0 = λ t. FormFactor t.scalar in
      let head : NamedTerm = record { minus = false; scalar = first } in
      let ts : List NamedTerm = head ∷ (second ∷ more) in
      let Q : TermReading → Type 0 = λ r. OfFactor view r.scalar in
      let rest : List TermReading = map (λ (r : In TermReading). r scopes) (map (term_reading tables) more) in
      let rs : List TermReading = map (λ (r : In TermReading). r scopes) (map (term_reading tables) ts) in
      let each : All Q rs = all_read (term_reading tables) scopes P Q (λ t of. subst Q (sym (term_reading_is tables t scopes)) (of view)) ts (All-cons P head (second ∷ more) is all) in
      subst (OfScalar view) (sym (reading-Sum tables ts scopes))
      (sum_formed view (term_reading tables head scopes) (term_reading tables second scopes) rest (ap (λ (r : TermReading). r.minus) (term_reading_is tables head scopes)) (all_map (λ (r : TermReading). r.scalar) Q (OfFactor view) (λ r of. of) rs each))

  choice_is_formed : (at : ℕ) (ws : List NamedWhen) (last : Option NamedScalar) → 1 ≤ length ws → All (λ (w : NamedWhen). FormCond tables w.cond × FormScalar tables w.value) ws → Where (FormScalar tables) last → FormFactor (named_scalar.Case at ws last)
  choice_is_formed at ws last some all is view =
      let scopes = scopes_of view in
      let P : NamedWhen → Type 0 = λ w. FormCond tables w.cond × FormScalar tables w.value in
      let rs : List WhenReading = map (λ (w : In WhenReading). w scopes) (map (when_reading tables) ws) in
      let each : All (OfWhenReading view) rs = all_read (when_reading tables) scopes P (OfWhenReading view)
      (λ w of. let c = cond_reading tables w.cond scopes in let v = scalar_reading tables w.value scopes in subst (OfWhenReading view) (sym (when_reading_is tables w scopes)) (λ e. record { cond = of.0 view (none_left c.faults v.faults e); value = of.1 view (none_right c.faults v.faults e) })) ws all in
      let many : length rs ≡ length ws = length-map (map (when_reading tables) ws) (λ (w : In WhenReading). w scopes) ∙ length-map ws (when_reading tables) in
      subst (OfFactor view) (sym (reading-Case tables at ws last scopes)) (choice_formed view at rs (last_reading tables last scopes) (omega (arith, some, many)) each (last_kept last is))
    where
      last_kept : (last : Option NamedScalar) → Where (FormScalar tables) last → Where (OfScalar view) (last_reading tables last (scopes_of view))
      last_kept None is = tt
      last_kept (Some v) is = is view

  -- ---- output columns

  every_formed : FormSelect named_select.All
  every_formed own outer some seen =
      subst (SelectFormed (own ∷ outer)) (sym (reading-All tables (scopes_of (own ∷ outer)))) (record { all = every_column_formed own outer seen; some = some_column own some seen })

  items_are_formed : (is : List NamedItem) → 1 ≤ length is → length is ≤ 268435457 → All (λ (i : NamedItem). FormScalar tables i.value × Where IsName i.name) is → FormSelect (named_select.Items is)
  items_are_formed is some few all own outer some_own seen =
      let view : View = own ∷ outer in
      let scopes = scopes_of view in
      let P : NamedItem → Type 0 = λ i. FormScalar tables i.value × Where IsName i.name in
      let rs : List ItemReading = map (λ (item : In ItemReading). item scopes) (map (item_reading tables) is) in
      let each : All (ItemFormed view) rs = all_read (item_reading tables) scopes P (ItemFormed view) (λ i of. subst (ItemFormed view) (sym (item_reading_is tables i scopes)) (record { name = of.1; scalar = of.0 view })) is all in
      let many : length rs ≡ length is = length-map (map (item_reading tables) is) (λ (item : In ItemReading). item scopes) ∙ length-map is (item_reading tables) in
      subst (SelectFormed view) (sym (reading-Items tables is scopes)) (record { all = outputs_formed view 1 rs (omega (arith, few, many)) each; some = some_output rs (omega (arith, some, many)) })
    where
      some_output : (rs : List ItemReading) → 1 ≤ length rs → 1 ≤ length (outputs_from 1 rs)
      some_output [] some = absurd (omega (arith, some))
      some_output (r ∷ rs) some = omega arith

  -- ---- queries

  filter_formed : (o : Option NamedCond) → Where (FormCond tables) o → (view : View) → cond_faults tables (filter_reading tables o (scopes_of view)) ≡ [] → filter_well (option_map judged_cond (cond_tree tables (filter_reading tables o (scopes_of view)))) view ≡ true
  filter_formed None is view e = refl
  filter_formed (Some c) is view e = is view e

  parts_formed : (at : ℕ) (distinct : Bool) (froms : List FromReading) (outputs : List OutputReading) (filter : Option CondReading) (view : View) → 1 ≤ length froms → All FromFormed froms → repeated [] froms ≡ [] →
      1 ≤ length outputs → All (OutputFormed (own_items (from_trees froms) ∷ view)) outputs → filter_well (option_map judged_cond (cond_tree tables filter)) (own_items (from_trees froms) ∷ view) ≡ true → QueryFormed view (whole_reading tables at distinct froms outputs filter)
  parts_formed at distinct froms outputs filter view some_froms all_froms once some all chosen =
      let own = own_items (from_trees froms) in
      let inner : View = own ∷ view in
      let js = judged_outputs inner outputs in
      let fs = map judged_from (from_trees froms) in
      let is = judged_query_is distinct (output_trees outputs) (from_trees froms) (cond_tree tables filter) [] view in
      let a = nat_le 1 (length js) in
      let b = list_all (λ (item : JudgedItem). item.well) js in
      let c = nat_le 1 (length fs) in
      let d = list_all (λ (f : JudgedFrom). f.well) fs in
      let f = all_differ (map (λ (item : ShownItem). item.name) own) in
      let g = filter_well (option_map judged_cond (cond_tree tables filter)) inner in
      let many = many_outputs inner outputs in
      let enough : 1 ≤ length js = omega (arith, some, many) in
      let many_froms : length fs ≡ length froms = length-map (from_trees froms) judged_from ∙ length-map froms (λ (from : FromReading). from.tree) in
      let enough_froms : 1 ≤ length fs = omega (arith, some_froms, many_froms) in
      let differ : f ≡ true = ap all_differ (sym (names_are froms all_froms)) ∙ names_differ froms once in
      record {
        well = ap (λ (j : JudgedQuery). j.well) is
            ∙ and_from (a && b && c && d && f && g) true
            (and_from (a && b && c && d && f) g (and_from (a && b && c && d) f (and_from (a && b && c) d (and_from (a && b) c (and_from a b (one_le (length js) enough) (outputs_well inner outputs all)) (one_le (length fs) enough_froms)) (froms_well froms all_froms)) differ) chosen) refl;
        plain = ap (λ (j : JudgedQuery). j.has_order) is;
        columns = columns_are inner outputs all ∙ sym (ap (λ (j : JudgedQuery). map scope_column j.columns) is);
        some = subst (λ (cs : List ShownColumn). 1 ≤ length cs) (sym (ap (λ (j : JudgedQuery). j.columns) is)) (omega (arith, enough, length-map js (λ (item : JudgedItem). item.column)));
        names = subst (All HasName) (sym (ap (λ (j : JudgedQuery). j.columns) is)) (all_named inner outputs all);
      }

  query_is_formed : (at : ℕ) (distinct : Bool) (s : NamedSelect) (fs : List NamedFrom) (o : Option NamedCond) → FormSelect s → 1 ≤ length fs → All FormFrom fs → Where (FormCond tables) o → FormQuery tables (query_tree (at, (distinct, (s, (fs, o)))))
  query_is_formed at distinct s fs o of some all is view e =
      let froms : List FromReading = map (from_reading tables) fs in
      let W : Scopes → QueryReading = λ scopes. whole_reading tables at distinct froms (select_reading tables s scopes) (filter_reading tables o scopes) in
      let scopes = own_scopes tables fs (scopes_of view) in
      let parts = by_parts tables at distinct s fs o (scopes_of view) in
      let from_faults = flat_map (λ (from : FromReading). from.faults) froms in
      let rest : Scopes → _ = λ scopes. either_spot (first_spot (flat_map (λ (output : OutputReading). output.faults) (select_reading tables s scopes))) (first_spot (cond_faults tables (filter_reading tables o scopes))) in
      let first = first_spot (from_faults ++ repeated [] froms) in
      let no_from = first_none (from_faults ++ repeated [] froms) (either_first first (rest scopes) (sym (ap (λ (q : QueryReading). q.first) parts) ∙ e)) in
      let formed = each_holds (λ (from : FromReading). from.faults) FromFormed froms (all_map (from_reading tables) FormFrom OfFrom (λ f is. is) fs all) (none_left from_faults (repeated [] froms) no_from) in
      let own = own_items (from_trees froms) in
      let inner : View = own ∷ view in
      let same : scopes ≡ scopes_of inner = ap (λ is. is ∷ scopes_of view) (items_are froms formed) in
      let whole = parts ∙ ap W same in
      let later = either_second first (rest (scopes_of inner)) (sym (ap (λ (q : QueryReading). q.first) whole) ∙ e) in
      let outputs = select_reading tables s (scopes_of inner) in
      let filter = filter_reading tables o (scopes_of inner) in
      let output_faults = flat_map (λ (output : OutputReading). output.faults) outputs in
      let many : length froms ≡ length fs = length-map fs (from_reading tables) in
      let some_froms : 1 ≤ length froms = omega (arith, some, many) in
      let some_own : 1 ≤ length own = omega (arith, some_froms, length-map (map judged_from (from_trees froms)) (λ (from : JudgedFrom). from.item), length-map (from_trees froms) judged_from, length-map froms (λ (from : FromReading). from.tree)) in
      let shown = of own view some_own (all_seen froms formed) in
      let each = each_holds (λ (output : OutputReading). output.faults) (OutputFormed inner) outputs shown.all (first_none output_faults (either_first (first_spot output_faults) (first_spot (cond_faults tables filter)) later)) in
      let chosen = filter_formed o is inner (first_none (cond_faults tables filter) (either_second (first_spot output_faults) (first_spot (cond_faults tables filter)) later)) in
      subst (QueryFormed view) (sym whole) (parts_formed at distinct froms outputs filter view some_froms formed (none_right from_faults (repeated [] froms) no_from) shown.some each chosen)

  -- each way to put parts together keeps that they are well formed
  pub forming : IsTableSet tables → Closed 268435456 FormFactor (FormScalar tables) (FormCond tables) FormSelect FormFrom (FormQuery tables)
  forming set = record {
    column = λ n is view. subst (OfFactor view) (sym (reading-Column tables n (scopes_of view))) (column_formed n is view (places_of n.first n.second 0 (names_in (scopes_of view))) (all_meant n.first n.second view));
    literal = λ l is view. subst (OfFactor view) (sym (reading-Literal tables l (scopes_of view))) (literal_formed l.value l.at is view);
    choice = choice_is_formed;
    factor = λ s is view e. (is view e).formed;
    sum = sum_is_formed;
    comparison = compare_formed tables;
    range = between_formed tables;
    member = member_formed tables;
    null = null_formed tables;
    existence = exists_formed tables;
    negation = not_formed tables;
    conjunction = and_formed tables;
    disjunction = or_formed tables;
    all_columns = every_formed;
    items = λ is some few all. items_are_formed is some (omega (arith, few)) all;
    table = table_formed tables set;
    derived = derived_formed tables;
    query = query_is_formed;
  }
