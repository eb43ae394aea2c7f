-- The texts of well-formed queries, one after the other, read as these queries.
use Rattle.std.proofs.Common.{◌≡◌, ℕ, pos, ◌+◌, ◌-◌, ◌≤◌, Bool, true, false, ◌||◌, ◌&&◌, List, [], ◌∷◌, ◌++◌, map, length, refl, sym, ap, ◌∙◌, arith, Option, Ok}
use Rattle.std.specs.Prelude.{IsUtf8, nat_lt, nat_le, ◌==◌}
use Rattle.std.specs.List.{list_all, flat_map}
use Rattle.std.specs.Option.{option_map}
use Rattle.std.proofs.lemmas.Bool.{and_parts}
use Rattle.std.proofs.lemmas.Bool.Decides.{nat_tests}
use Rattle.prefsql_tables.specs.Table.{Tables}
use Rattle.prefsql_tables.specs.declared.place.SortKey.{SortKey}
use Rattle.query_tree.specs.declared.query.OrderTree.{OrderTree}
use Rattle.query_tree.specs.declared.query.OrderName.{OrderName}
use Rattle.query_tree.specs.declared.query.OrderName.TheVariants.{Position}
use Rattle.sql_tree.specs.Shown.{View, ShownItem}
use Rattle.sql_tree.specs.WellFormed.{all_differ, filter_well, JudgedFrom, JudgedItem, JudgedQuery}
use Rattle.sql_tree.specs.declared.tree.SqlQuery.{SqlQuery, roll-SqlQuery, out-SqlQuery, roll-out-SqlQuery, out-roll-SqlQuery}
use Rattle.sql_tree.specs.declared.tree.SqlTable.{SqlTable}
use Rattle.sql_tree.specs.declared.tree.SqlCond.{SqlCond}
use Rattle.sql_tree.specs.declared.tree.SqlCond.TheOpen.{SqlQuery-F}
use Rattle.sql_tree.specs.declared.tree.SqlScalar.{SqlScalar}
use Rattle.sql_tree.specs.declared.tree.SqlSource.{SqlSource}
use Rattle.sql_tree.specs.declared.tree.SqlFrom.{SqlFrom}
use Rattle.sql_tree.specs.declared.tree.SqlItem.{SqlItem}
use Rattle.sql_tree.specs.declared.tree.SqlWhen.{SqlWhen}
use Rattle.sql_tree.specs.declared.tree.SumTerm.{SumTerm}
use Rattle.sql_text.specs.declared.named.NamedStatement.{NamedStatement}
use Rattle.sql_read_back.proofs.Placed.{Each}
use Rattle.sql_read_back.proofs.Round as round
use Rattle.sql_read_back.proofs.StatementsWritten as written
use Rattle.sql_read_back.proofs.StatementsWritten.{AreFine, IsFine}
use Rattle.sql_read_back.specs.Texts.{texts_of}
use Rattle.sql_read_back.proofs.QueriesWritten.{IsKey}
use Rattle.sql_read_back.proofs.Judged.{judged_item, judged_from, judged_cond, judged_query}
use Rattle.sql_read_back.proofs.JudgedEquations.{judged_parts, judged_query_is, own_items}
use Rattle.std.proofs.lemmas.List.{length-map}
use Rattle.sql_resolver.specs.Scope.{ScopeColumn}
use Rattle.sql_resolver.specs.Owed.{fault_if, first_spot, either_spot}
use Rattle.sql_resolver.specs.Reading.{query_reading}
use Rattle.sql_resolver.specs.Statements.{KeyReading, key_of, key_reading, ok_unless, and_more, with_order, statement_reading, script_reading}
use Rattle.sql_parser.specs.Faults.{max_nesting}
use Rattle.sql_reader.specs.Reads.{ReadsAs}
use Rattle.sql_read_back.proofs.Back as back
use Rattle.sql_read_back.proofs.ScalarsBack as scalars_back
use Rattle.sql_read_back.proofs.QueriesBack as queries_back

-- ---- keys

pub record KeysBack (columns : List ScopeColumn) (ks : List SortKey) (os : List OrderTree) : Type 0 where
  pub keys : map (λ (key : KeyReading). key.key) (map (key_reading columns) os) ≡ ks
  pub faults : flat_map (λ (key : KeyReading). key.faults) (map (key_reading columns) os) ≡ []

fits : (c n : ℕ) → nat_lt c n ≡ true → (c + 1 == 0 || nat_lt n (c + 1)) ≡ false
fits c n e = grind (arith, nat_tests)

one_less : (c : ℕ) → (c + 1) - 1 ≡ c
one_less c = omega arith

key_back : (columns : List ScopeColumn) (k : SortKey) (o : OrderTree) → IsKey k o → nat_lt k.column (length columns) ≡ true → key_reading columns o ≡ record { key = k; faults = [] }
key_back columns k o is fit =
    let K : OrderName → Bool → OrderTree = λ n d. record { key = n; at = o.at; descending = d } in
    let R : ℕ → Bool → KeyReading = λ c t. key_of c k.descending (fault_if t 316 o.at) in
    ap (λ n. key_reading columns (K n o.descending)) is.position
    ∙ (ap (λ d. key_reading columns (K (Position (pos (k.column + 1))) d)) is.descending
    ∙ (ap (λ c. R c (k.column + 1 == 0 || nat_lt (length columns) (k.column + 1))) (one_less k.column) ∙ ap (λ t. R k.column t) (fits k.column (length columns) fit)))

keys_back : (columns : List ScopeColumn) (ks : List SortKey) (os : List OrderTree) → Each IsKey ks os → list_all (λ (key : SortKey). nat_lt key.column (length columns)) ks ≡ true → KeysBack columns ks os
keys_back columns [] [] each fit = record { keys = refl; faults = refl }
keys_back columns [] (o ∷ os) each fit = absurd each
keys_back columns (k ∷ ks) [] each fit = absurd each
keys_back columns (k ∷ ks) (o ∷ os) each fit =
    let a = and_parts (nat_lt k.column (length columns)) (list_all (λ (key : SortKey). nat_lt key.column (length columns)) ks) fit in
    let one = key_back columns k o each.0 a.0 in
    let more = keys_back columns ks os each.1 a.1 in
    let rest = map (key_reading columns) os in
    record {
      keys = ap (λ (r : KeyReading). r.key ∷ map (λ (key : KeyReading). key.key) rest) one ∙ ap (λ ks. k ∷ ks) more.keys;
      faults = ap (λ (r : KeyReading). r.faults ++ flat_map (λ (key : KeyReading). key.faults) rest) one ∙ more.faults;
    }

-- ---- the texts of queries

module _ (ok : SqlTable → Bool) (tables : Tables) where
  closed : queries_back.Meant ok tables → round.Closed ok (back.QC ok tables) (back.QS ok tables) (back.QF ok tables) (back.QQ ok tables)
  closed meant = record {
    conjunction = back.conjunction_back ok tables;
    disjunction = back.disjunction_back ok tables;
    negation = back.negation_back ok tables;
    comparison = back.comparison_back ok tables;
    range = back.range_back ok tables;
    member = back.member_back ok tables;
    null = back.null_back ok tables;
    existence = queries_back.existence_back ok tables;
    column = scalars_back.column_back ok tables;
    number = scalars_back.number_back ok tables;
    text = scalars_back.text_back ok tables;
    sum_of = scalars_back.sum_back ok tables;
    choice = scalars_back.choice_back ok tables;
    table = queries_back.table_back ok tables meant;
    derived = queries_back.derived_back ok tables;
    query_of = queries_back.query_of_back ok tables;
  }

  abbrev StatementIs : SqlQuery → NamedStatement → Type 0
  StatementIs = written.StatementIs ok (back.QC ok tables) (back.QS ok tables) (back.QF ok tables) (back.QQ ok tables)

  -- a statement that is the query reads as it
  statement_back : (q : SqlQuery) (s : NamedStatement) → IsFine ok max_nesting q → StatementIs q s → statement_reading tables s ≡ Ok q
  statement_back q s fine is =
      let o = out-SqlQuery q in
      let good : (judged_query q []).well ≡ true = fine.well in
      let b : back.QueryBack ok tables q s.query [] = is.query [] refl good fine.fine in
      let columns = (query_reading tables s.query []).columns in
      let judged_is : judged_query q [] ≡ judged_parts o.items o.from o.filter o.order [] = ap (λ q. judged_query q []) (sym (roll-out-SqlQuery q)) ∙ judged_query_is o.distinct o.items o.from o.filter o.order [] in
      let judged = map (λ (item : View → JudgedItem). item (own_items o.from ∷ [])) (map judged_item o.items) in
      let many : length columns ≡ length judged =
      ap (λ (cs : List ScopeColumn). length cs) b.columns
      ∙ (length-map (judged_query q []).columns back.scope_column ∙ (ap (λ (k : JudgedQuery). length k.columns) judged_is ∙ length-map judged (λ (item : JudgedItem). item.column))) in
      let fit : list_all (λ (key : SortKey). nat_lt key.column (length judged)) o.order ≡ true = keys_fit o.items o.from o.filter o.order (sym (ap (λ (k : JudgedQuery). k.well) judged_is) ∙ good) in
      let keys : KeysBack columns o.order s.order = keys_back columns o.order s.order is.order (ap (λ n. list_all (λ (key : SortKey). nat_lt key.column n) o.order) many ∙ fit) in
      let read = map (key_reading columns) s.order in
      ap (λ f. ok_unless (either_spot f (first_spot (flat_map (λ (key : KeyReading). key.faults) read))) (with_order (map (λ (key : KeyReading). key.key) read) (query_reading tables s.query []).tree)) b.first
      ∙ (ap (λ fs. ok_unless (first_spot fs) (with_order (map (λ (key : KeyReading). key.key) read) (query_reading tables s.query []).tree)) keys.faults
      ∙ ap Ok (ap (λ ks. with_order ks (query_reading tables s.query []).tree) keys.keys ∙ (ap (with_order o.order) b.tree ∙ ordered q)))
    where
      keys_fit : (items : List SqlItem) (froms : List SqlFrom) (filter : Option SqlCond) (order : List SortKey) → (judged_parts items froms filter order []).well ≡ true →
          list_all (λ (key : SortKey). nat_lt key.column (length (map (λ (item : View → JudgedItem). item (own_items froms ∷ [])) (map judged_item items)))) order ≡ true
      keys_fit items froms filter order e =
          let view : View = own_items froms ∷ [] in
          let judged = map (λ (item : View → JudgedItem). item view) (map judged_item items) in
          (and_parts (nat_le 1 (length judged) && list_all (λ (item : JudgedItem). item.well) judged
          && nat_le 1 (length (map judged_from froms)) && list_all (λ (f : JudgedFrom). f.well) (map judged_from froms) && all_differ (map (λ (item : ShownItem). item.name) (own_items froms))
          && filter_well (option_map judged_cond filter) view) (list_all (λ (key : SortKey). nat_lt key.column (length judged)) order) e).1

      ordered : (q : SqlQuery) → with_order (out-SqlQuery q).order (with_order [] q) ≡ q
      ordered q =
          let o = out-SqlQuery q in
          ap (λ (v : SqlQuery-F SqlCond SqlScalar SqlSource SqlFrom SqlItem SqlQuery SqlWhen SumTerm). roll-SqlQuery (record { distinct = v.distinct; items = v.items; from = v.from; filter = v.filter; order = o.order }))
          (out-roll-SqlQuery (record { distinct = o.distinct; items = o.items; from = o.from; filter = o.filter; order = [] }))
          ∙ roll-out-SqlQuery q

  script_back : (queries : List SqlQuery) (statements : List NamedStatement) → AreFine ok max_nesting queries → Each StatementIs queries statements → script_reading tables statements ≡ Ok queries
  script_back [] [] fine each = refl
  script_back [] (s ∷ statements) fine each = absurd each
  script_back (q ∷ queries) [] fine each = absurd each
  script_back (q ∷ queries) (s ∷ statements) fine each =
      ap (λ one. and_more one (script_reading tables statements)) (statement_back q s fine.0 each.0) ∙ ap (and_more (Ok q)) (script_back queries statements fine.1 each.1)

  -- Well-formed queries that can be written, over tables under the names that they have: their texts, one after the other, read as these queries.
  pub texts_read_back : queries_back.Meant ok tables → (queries : List SqlQuery) → length queries ≤ 64 → AreFine ok max_nesting queries → IsUtf8 (texts_of queries) → ReadsAs tables (texts_of queries) queries
  texts_read_back meant queries few fine utf8 =
      let r = written.texts_round ok (back.QC ok tables) (back.QS ok tables) (back.QF ok tables) (back.QQ ok tables) (closed meant) max_nesting queries few fine utf8 in
      (r.tokens, r.statements, r.are_tokens, r.is_script, script_back queries r.statements fine r.are)
