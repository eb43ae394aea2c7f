-- The queries of a script that is read are well formed.
use Rattle.std.proofs.Common.{◌≡◌, ◌≤◌, ◌<◌, ◌+◌, ◌-◌, ℕ, ℤ, pos, negsuc, Bool, true, false, ◌&&◌, ◌||◌, List, [], ◌∷◌, map, length, All, refl, sym, ap, subst, ◌∙◌, arith, Ok}
use Rattle.std.specs.Prelude.{nat_lt, nat_le, ◌==◌}
use Rattle.std.specs.List.{flat_map, list_all}
use Rattle.std.specs.Option.{option_map}
use Rattle.std.specs.Str.{bytes_eq}
use Rattle.std.proofs.lemmas.Bool.{and_from, and_parts, lt-ltb}
use Rattle.std.proofs.lemmas.Bool.Decides.{nat_tests}
use Rattle.std.proofs.lemmas.List.{length-map}
use Rattle.std.proofs.lemmas.List.Elements.{All-head}
use Rattle.prefsql_lexer.specs.declared.token.Token.{Token}
use Rattle.prefsql_lexer.specs.Tokens.{IsTokens}
use Rattle.prefsql_tables.specs.Table.{Tables}
use Rattle.prefsql_tables.specs.Valid.{IsTableSet}
use Rattle.prefsql_tables.specs.declared.place.SortKey.{SortKey}
use Rattle.query_tree.specs.declared.query.OrderTree.{OrderTree}
use Rattle.query_tree.specs.declared.query.OrderName.{OrderName}
use Rattle.query_tree.specs.declared.query.OrderName.TheVariants.{Name, Position}
use Rattle.sql_tree.specs.Shown.{View, ShownItem}
use Rattle.sql_tree.specs.WellFormed.{IsWellFormed, JudgedFrom, JudgedItem, JudgedQuery, all_differ, filter_well}
use Rattle.sql_tree.specs.declared.tree.SqlQuery.{SqlQuery, out-SqlQuery, roll-out-SqlQuery}
use Rattle.sql_text.specs.declared.named.NamedStatement.{NamedStatement}
use Rattle.sql_text.specs.Scripts.{IsScript}
use Rattle.sql_resolver.specs.NamesMeant.{positions_from}
use Rattle.sql_resolver.specs.Scope.{ScopeColumn}
use Rattle.sql_resolver.specs.Owed.{fault}
use Rattle.sql_resolver.specs.Reading.{query_reading}
use Rattle.sql_resolver.specs.Statements.{KeyReading, key_reading, named_key, numbered_key, with_order, script_reading}
use Rattle.read_queries.proofs.FaultsNone.{some_none, none_left, none_right, not_owed}
use Rattle.read_queries.proofs.ColumnsMeant.{scope_column, positions_among}
use Rattle.read_queries.proofs.FormedConditions.{FormScalar, FormCond, FormQuery}
use Rattle.read_queries.proofs.FormedQueries.{FormFactor, FormSelect, FormFrom, forming}
use Rattle.read_queries.proofs.Grammar.{statements_keep}
use Rattle.read_queries.proofs.Scripts.{Read, queries_hold}
use Rattle.read_queries.proofs.JudgedParts.{judged_cond, judged_item, judged_from, judged_query, judged_parts, judged_query_is, own_items}

-- ---- keys

named_fits : (tree : OrderTree) (count : ℕ) (places : List ℕ) → All (λ (k : ℕ). (0 ≤ k) × (k < 0 + count)) places → (named_key tree places).faults ≡ [] → nat_lt (named_key tree places).key.column count ≡ true
named_fits tree count [] all e = absurd (some_none (fault 314 tree.at) [] e)
named_fits tree count (k ∷ []) all e =
    let is = All-head (λ (k : ℕ). (0 ≤ k) × (k < 0 + count)) k [] all in
    let below = is.1 in
    lt-ltb k count (omega (arith, below))
named_fits tree count (k ∷ l ∷ more) all e = absurd (some_none (fault 315 tree.at) [] e)

in_count : (n count : ℕ) → (n == 0 || nat_lt count n) ≡ false → nat_lt (n - 1) count ≡ true
in_count n count e = grind (arith, nat_tests)

numbered_fits : (tree : OrderTree) (n : ℤ) (count : ℕ) → (numbered_key tree n count).faults ≡ [] → nat_lt (numbered_key tree n count).key.column count ≡ true
numbered_fits tree (pos n) count e = in_count n count (not_owed (n == 0 || nat_lt count n) 316 tree.at e)
numbered_fits tree (negsuc n) count e = absurd (some_none (fault 316 tree.at) [] e)

key_fits : (columns : List ScopeColumn) (tree : OrderTree) → (key_reading columns tree).faults ≡ [] → nat_lt (key_reading columns tree).key.column (length columns) ≡ true
key_fits columns tree e = by tree.key e
  where
    by : (key : OrderName) → (key_reading columns (record { key = key; descending = tree.descending; at = tree.at })).faults ≡ [] →
        nat_lt (key_reading columns (record { key = key; descending = tree.descending; at = tree.at })).key.column (length columns) ≡ true
    by (Name name) e =
        let test : ScopeColumn → Bool = λ column. bytes_eq name column.name in
        let t : OrderTree = record { key = Name name; descending = tree.descending; at = tree.at } in
        named_fits t (length columns) (positions_from 0 test columns) (positions_among 0 test columns) e
    by (Position n) e = numbered_fits (record { key = Position n; descending = tree.descending; at = tree.at }) n (length columns) e

abbrev keys_of : List ScopeColumn → List OrderTree → List SortKey
keys_of columns order = map (λ (key : KeyReading). key.key) (map (key_reading columns) order)

keys_fit : (columns : List ScopeColumn) (order : List OrderTree) → flat_map (λ (key : KeyReading). key.faults) (map (key_reading columns) order) ≡ [] → list_all (λ (key : SortKey). nat_lt key.column (length columns)) (keys_of columns order) ≡ true
keys_fit columns [] e = refl
keys_fit columns (o ∷ order) e =
    let k = key_reading columns o in
    let more = flat_map (λ (key : KeyReading). key.faults) (map (key_reading columns) order) in
    and_from (nat_lt k.key.column (length columns)) (list_all (λ (key : SortKey). nat_lt key.column (length columns)) (keys_of columns order)) (key_fits columns o (none_left k.faults more e)) (keys_fit columns order (none_right k.faults more e))

-- ---- statements

-- a well-formed query is so with any order by its columns
order_well : (q : SqlQuery) (keys : List SortKey) → (judged_query q []).well ≡ true → list_all (λ (key : SortKey). nat_lt key.column (length (judged_query q []).columns)) keys ≡ true → IsWellFormed (with_order keys q)
order_well q keys well fit =
    let o = out-SqlQuery q in
    let P : List SortKey → JudgedQuery = λ order. judged_parts o.items o.from o.filter order [] in
    let is : judged_query q [] ≡ P o.order = ap (λ q. judged_query q []) (sym (roll-out-SqlQuery q)) ∙ judged_query_is o.distinct o.items o.from o.filter o.order [] in
    let view : View = own_items o.from ∷ [] in
    let js = map (λ (item : View → JudgedItem). item view) (map judged_item o.items) in
    let fs = map judged_from o.from in
    let whole = nat_le 1 (length js) && list_all (λ (item : JudgedItem). item.well) js && nat_le 1 (length fs) && list_all (λ (f : JudgedFrom). f.well) fs
    && all_differ (map (λ (item : ShownItem). item.name) (own_items o.from)) && filter_well (option_map judged_cond o.filter) view in
    let F : ℕ → List SortKey → Bool = λ n ks. list_all (λ (key : SortKey). nat_lt key.column n) ks in
    let known = and_parts whole (F (length js) o.order) (sym (ap (λ (j : JudgedQuery). j.well) is) ∙ well) in
    let many : length (judged_query q []).columns ≡ length js = ap (λ (j : JudgedQuery). length j.columns) is ∙ length-map js (λ (item : JudgedItem). item.column) in
    ap (λ (j : JudgedQuery). j.well) (judged_query_is o.distinct o.items o.from o.filter keys []) ∙ and_from whole (F (length js) keys) known.0 (sym (ap (λ n. F n keys) many) ∙ fit)

module _ (tables : Tables) where
  statement_formed : (s : NamedStatement) (q : SqlQuery) → FormQuery tables s.query → Read tables s q → IsWellFormed q
  statement_formed s q is read =
      let r = query_reading tables s.query [] in
      let of = is [] read.first in
      let keys = keys_of r.columns s.order in
      let many : length r.columns ≡ length (judged_query r.tree []).columns = ap length of.columns ∙ length-map (judged_query r.tree []).columns scope_column in
      let fit = sym (ap (λ n. list_all (λ (key : SortKey). nat_lt key.column n) keys) many) ∙ keys_fit r.columns s.order read.keys in
      subst IsWellFormed read.is (order_well r.tree keys of.well fit)

  -- The queries of a script that is read over valid tables are well formed, where its text has at most so many bytes.
  pub read_formed : IsTableSet tables → (limit : ℕ) (text : List ℕ) (tokens : List Token) (statements : List NamedStatement) (queries : List SqlQuery) → length text ≤ 268435456 →
      IsTokens limit text tokens → IsScript tokens statements → script_reading tables statements ≡ Ok queries → All IsWellFormed queries
  read_formed set limit text tokens statements queries short are script read =
      let kept = statements_keep 268435456 (FormFactor tables) (FormScalar tables) (FormCond tables) (FormSelect tables) (FormFrom tables) (FormQuery tables) (forming tables set) limit text tokens statements short are script in
      queries_hold tables (λ (s : NamedStatement). FormQuery tables s.query) IsWellFormed statement_formed statements queries kept read
