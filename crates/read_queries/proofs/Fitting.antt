-- The tables that a query names are those of the set, where it is read without a fault.
use Rattle.std.proofs.Common.{◌≡◌, ◌<◌, ◌+◌, ℕ, ℤ, Bool, true, false, cond, List, [], ◌∷◌, ◌++◌, map, length, All, refl, sym, ap, subst, ◌∙◌, arith, Option, Some, None, Ok}
use Rattle.std.specs.Prelude.{nat_lt}
use Rattle.std.specs.List.{flat_map, position_or_len}
use Rattle.std.specs.Option.{option_map}
use Rattle.std.specs.Str.{bytes_eq}
use Rattle.std.proofs.lemmas.Bool.{ltb-true}
use Rattle.std.proofs.lemmas.List.Sums.{passes_at_first}
use Rattle.std.proofs.lemmas.Slice.Eq.{bytes_eq-Decides}
use Rattle.std.proofs.lemmas.List.Elements.{All-nil, All-cons, All-head, All-tail, All-append}
use Rattle.prefsql_values.specs.declared.value.CompareOp.{CompareOp}
use Rattle.prefsql_values.specs.declared.value.Value.{Value}
use Rattle.prefsql_values.specs.declared.value.Value.TheVariants.{Num, Str, Null}
use Rattle.prefsql_values.specs.Limits.{IsName}
use Rattle.prefsql_tables.specs.Names.{table_place}
use Rattle.prefsql_tables.specs.Table.{Tables, no_table, table_at, columns_of}
use Rattle.prefsql_tables.specs.TableData.{NamedTable}
use Rattle.query_tree.specs.declared.name.NameTree.{NameTree}
use Rattle.query_tree.specs.declared.query.FromTree.{FromTree}
use Rattle.prefsql_tables.specs.declared.place.SortKey.{SortKey}
use Rattle.prefsql_lexer.specs.declared.token.Token.{Token}
use Rattle.prefsql_lexer.specs.Tokens.{IsTokens}
use Rattle.sql_tree.specs.Fits.{IsTableOf, FitsTables, tables_of, if_written, cond_tables, scalar_tables, source_tables, from_tables, item_tables, when_tables, term_tables}
use Rattle.sql_tree.specs.declared.tree.SqlTable.{SqlTable}
use Rattle.sql_tree.specs.declared.tree.SqlPlace.{SqlPlace}
use Rattle.sql_tree.specs.declared.tree.SqlCond.{SqlCond}
use Rattle.sql_tree.specs.declared.tree.SqlCond.TheViews as views
use Rattle.sql_tree.specs.declared.tree.SqlScalar.{SqlScalar, Column, Number}
use Rattle.sql_tree.specs.declared.tree.SqlSource.{Derived}
use Rattle.sql_tree.specs.declared.tree.SqlFrom.{SqlFrom}
use Rattle.sql_tree.specs.declared.tree.SqlItem.{SqlItem}
use Rattle.sql_tree.specs.declared.tree.SqlQuery.{SqlQuery, out-SqlQuery, roll-out-SqlQuery}
use Rattle.sql_tree.specs.declared.tree.SqlWhen.{SqlWhen}
use Rattle.sql_tree.specs.declared.tree.SumTerm.{SumTerm}
use Rattle.sql_text.specs.declared.named.NamedCond.{NamedCond}
use Rattle.sql_text.specs.declared.named.NamedCond as named_cond
use Rattle.sql_text.specs.declared.named.NamedScalar.{NamedScalar}
use Rattle.sql_text.specs.declared.named.NamedScalar as named_scalar
use Rattle.sql_text.specs.declared.named.NamedSelect.{NamedSelect}
use Rattle.sql_text.specs.declared.named.NamedSelect as named_select
use Rattle.sql_text.specs.declared.named.NamedFrom.{NamedFrom}
use Rattle.sql_text.specs.declared.named.NamedFrom as named_from
use Rattle.sql_text.specs.declared.named.NamedItem.{NamedItem}
use Rattle.sql_text.specs.declared.named.NamedTerm.{NamedTerm}
use Rattle.sql_text.specs.declared.named.NamedWhen.{NamedWhen}
use Rattle.sql_text.specs.declared.named.NamedQuery.{NamedQuery}
use Rattle.sql_text.specs.declared.named.NamedStatement.{NamedStatement}
use Rattle.sql_text.specs.Grammar.{query_tree}
use Rattle.sql_text.specs.Scripts.{IsScript}
use Rattle.sql_resolver.specs.Statements.{KeyReading, key_reading, with_order, script_reading}
use Rattle.sql_resolver.specs.Scope.{Scopes, Scope, ScopeColumn, names_in}
use Rattle.sql_resolver.specs.NamesMeant.{places_of}
use Rattle.sql_resolver.specs.Owed.{Fault, fault, fault_if, first_spot, either_spot, is_text, differ}
use Rattle.sql_resolver.specs.Reading.{In, CondReading, ScalarReading, TermReading, WhenReading, ItemReading, OutputReading, FromReading, QueryReading, cond_reading, from_reading, scalar_reading, select_reading, item_reading, query_reading, term_reading, when_reading, column_reading, literal_reading, results_of, first_domain, tree_if, faults_if, unlike, bound_faults, output_of, outputs_from, column_output, columns_from, all_columns, own_scope, table_reading, repeated, cond_tree, cond_faults}
use Rattle.read_queries.proofs.Kept.{Where}
use Rattle.read_queries.proofs.Grammar.{Closed, statements_keep}
use Rattle.read_queries.proofs.Scripts.{queries_hold}
use Rattle.read_queries.proofs.Readings.{reading-And, reading-Or, reading-Not, reading-Compare, reading-Between, reading-OneOf, reading-IsNull, reading-Exists, reading-Column, reading-Literal, reading-Sum, reading-Case, last_reading, term_reading_is, when_reading_is, item_reading_is, reading-Items, reading-All, reading-Table, reading-Derived, filter_reading, own_scopes, by_parts}
use Rattle.sql_tree.proofs.RolledTables.{tables-And, tables-Or, tables-Not, tables-Compare, tables-Between, tables-OneOf, tables-IsNull, tables-Exists, tables-Column, tables-Number, tables-Chars, tables-Sum, tables-Case, tables-Table, tables-Derived, tables_from_is, tables_item_is, tables_when_is, tables_term_is, tables_query_is}
use Rattle.read_queries.proofs.FaultsNone.{some_none, none_left, none_right, first_none, either_first, either_second, inner_none, all_map, all_read, each_holds}

module _ (tables : Tables) where
  abbrev pub Stand : List SqlTable → Type 0
  Stand named = All (IsTableOf tables) named

  stand_none : Stand []
  stand_none = All-nil (IsTableOf tables)

  stand_both : (xs ys : List SqlTable) → Stand xs → Stand ys → Stand (xs ++ ys)
  stand_both = All-append (IsTableOf tables)

  stand_each : {A B : Type 0} (h : A → B) (g : B → List SqlTable) (xs : List A) → All (λ x. Stand (g (h x))) xs → Stand (flat_map (λ below. below) (map g (map h xs)))
  stand_each h g [] all = stand_none
  stand_each h g (x ∷ xs) all =
      let P : _ → Type 0 = λ x. Stand (g (h x)) in
      stand_both (g (h x)) (flat_map (λ below. below) (map g (map h xs))) (All-head P x xs all) (stand_each h g xs (All-tail P x xs all))

  -- ---- what is shown of each reading

  abbrev OfScalar : ScalarReading → Type 0
  OfScalar r = r.faults ≡ [] → Stand (scalar_tables r.tree)

  abbrev OfCond : CondReading → Type 0
  OfCond r = r.faults ≡ [] → Stand (cond_tables r.tree)

  abbrev OfOutput : OutputReading → Type 0
  OfOutput r = r.faults ≡ [] → Stand (item_tables r.item)

  abbrev OfFrom : FromReading → Type 0
  OfFrom r = r.faults ≡ [] → Stand (from_tables r.tree)

  abbrev OfQuery : QueryReading → Type 0
  OfQuery r = r.first ≡ None → Stand (tables_of r.tree)

  abbrev pub FitScalar : NamedScalar → Type 0
  FitScalar n = (scopes : Scopes) → OfScalar (scalar_reading tables n scopes)

  abbrev pub FitCond : NamedCond → Type 0
  FitCond n = (scopes : Scopes) → OfCond (cond_reading tables n scopes)

  abbrev pub FitSelect : NamedSelect → Type 0
  FitSelect n = (scopes : Scopes) → All OfOutput (select_reading tables n scopes)

  abbrev pub FitFrom : NamedFrom → Type 0
  FitFrom n = OfFrom (from_reading tables n)

  abbrev pub FitQuery : NamedQuery → Type 0
  FitQuery n = (scopes : Scopes) → OfQuery (query_reading tables n scopes)

  -- ---- scalars

  no_tables_column : (p : SqlPlace) → Stand (scalar_tables (Column p))
  no_tables_column p = subst Stand (sym (ap scalar_tables (sym (views.rolls-Column p)) ∙ tables-Column p)) stand_none

  column_fits : (name : NameTree) (scopes : Scopes) (places : List SqlPlace) → OfScalar (column_reading name scopes places)
  column_fits name scopes [] e = no_tables_column (record { up = 0; item = 0; column = 0 })
  column_fits name scopes (p ∷ []) e = no_tables_column p
  column_fits name scopes (p ∷ q ∷ more) e = no_tables_column p

  no_tables_number : (n : ℤ) → Stand (scalar_tables (Number n))
  no_tables_number n = subst Stand (sym (ap scalar_tables (sym (views.rolls-Number n)) ∙ tables-Number n)) stand_none

  literal_fits : (v : Value) (at : ℕ) → OfScalar (literal_reading v at)
  literal_fits (Num n) at e = no_tables_number n
  literal_fits (Str t) at e = subst Stand (sym (ap scalar_tables (sym (views.rolls-Chars t)) ∙ tables-Chars t)) stand_none
  literal_fits Null at e = no_tables_number _

  abbrev OfTermReading : TermReading → Type 0
  OfTermReading r = r.scalar.faults ++ fault_if (is_text r.scalar.domain) 305 r.scalar.at ≡ [] → Stand (term_tables (record { minus = r.minus; scalar = r.scalar.tree }))

  term_fits : (t : NamedTerm) → FitScalar t.scalar → (scopes : Scopes) → OfTermReading (term_reading tables t scopes)
  term_fits t is scopes =
      let s = scalar_reading tables t.scalar scopes in
      subst OfTermReading (sym (term_reading_is tables t scopes))
      (λ e. subst Stand (sym (tables_term_is (record { minus = t.minus; scalar = s.tree }))) (is scopes (none_left s.faults (fault_if (is_text s.domain) 305 s.at) e)))

  sum_fits : (ts : List NamedTerm) → All (λ (t : NamedTerm). FitScalar t.scalar) ts → (scopes : Scopes) → OfScalar (scalar_reading tables (named_scalar.Sum ts) scopes)
  sum_fits ts all scopes =
      let P : NamedTerm → Type 0 = λ t. FitScalar t.scalar in
      let rs : List TermReading = map (λ (term : In TermReading). term scopes) (map (term_reading tables) ts) in
      let f : TermReading → List Fault = λ term. term.scalar.faults ++ fault_if (is_text term.scalar.domain) 305 term.scalar.at in
      let h : TermReading → SumTerm = λ term. record { minus = term.minus; scalar = term.scalar.tree } in
      let each : All OfTermReading rs = all_read (term_reading tables) scopes P OfTermReading (λ t is. term_fits t is scopes) ts all in
      subst OfScalar (sym (reading-Sum tables ts scopes))
      (λ e. subst Stand (sym (ap scalar_tables (sym (views.rolls-Sum (map h rs))) ∙ tables-Sum (map h rs)))
      (stand_each h term_tables rs (each_holds f (λ r. Stand (term_tables (h r))) rs each (none_left (flat_map f rs) (bound_faults 0 rs) e))))

  abbrev OfWhenReading : WhenReading → Type 0
  OfWhenReading r = r.cond.faults ++ r.value.faults ≡ [] → Stand (when_tables (record { cond = r.cond.tree; value = r.value.tree }))

  when_fits : (w : NamedWhen) → FitCond w.cond × FitScalar w.value → (scopes : Scopes) → OfWhenReading (when_reading tables w scopes)
  when_fits w is scopes =
      let c = cond_reading tables w.cond scopes in
      let v = scalar_reading tables w.value scopes in
      subst OfWhenReading (sym (when_reading_is tables w scopes))
      (λ e. subst Stand (sym (tables_when_is (record { cond = c.tree; value = v.tree })))
      (stand_both (cond_tables c.tree) (scalar_tables v.tree) (is.0 scopes (none_left c.faults v.faults e)) (is.1 scopes (none_right c.faults v.faults e))))

  last_fits : (last : Option NamedScalar) → Where FitScalar last → (scopes : Scopes) → faults_if (last_reading tables last scopes) ≡ [] → Stand (if_written (option_map scalar_tables (tree_if (last_reading tables last scopes))))
  last_fits None is scopes e = stand_none
  last_fits (Some v) is scopes e = is scopes e

  choice_fits : (at : ℕ) (ws : List NamedWhen) (last : Option NamedScalar) → All (λ (w : NamedWhen). FitCond w.cond × FitScalar w.value) ws → Where FitScalar last → (scopes : Scopes) → OfScalar (scalar_reading tables (named_scalar.Case at ws last) scopes)
  choice_fits at ws last all is scopes =
      let P : NamedWhen → Type 0 = λ w. FitCond w.cond × FitScalar w.value in
      let rs : List WhenReading = map (λ (w : In WhenReading). w scopes) (map (when_reading tables) ws) in
      let l = last_reading tables last scopes in
      let f : WhenReading → List Fault = λ w. w.cond.faults ++ w.value.faults in
      let h : WhenReading → SqlWhen = λ w. record { cond = w.cond.tree; value = w.value.tree } in
      let each : All OfWhenReading rs = all_read (when_reading tables) scopes P OfWhenReading (λ w is. when_fits w is scopes) ws all in
      let unlikes = flat_map (λ (value : ScalarReading). fault_if (differ (first_domain (results_of rs l)) value.domain) 305 value.at) (results_of rs l) in
      subst OfScalar (sym (reading-Case tables at ws last scopes))
      (λ e. subst Stand (sym (ap scalar_tables (sym (views.rolls-Case (map h rs) (tree_if l))) ∙ tables-Case (map h rs) (tree_if l)))
      (stand_both (flat_map (λ below. below) (map when_tables (map h rs))) (if_written (option_map scalar_tables (tree_if l)))
      (stand_each h when_tables rs (each_holds f (λ r. Stand (when_tables (h r))) rs each (none_left (flat_map f rs) (faults_if l) (none_left (flat_map f rs ++ faults_if l) unlikes e))))
      (last_fits last is scopes (none_right (flat_map f rs) (faults_if l) (none_left (flat_map f rs ++ faults_if l) unlikes e)))))

  -- ---- conditions

  abbrev parts_of : List NamedCond → List (In CondReading)
  parts_of cs = map (cond_reading tables) cs

  parts_fit : (cs : List NamedCond) → All FitCond cs → (scopes : Scopes) → flat_map (λ (part : In CondReading). (part scopes).faults) (parts_of cs) ≡ [] →
      Stand (flat_map (λ below. below) (map cond_tables (map (λ (part : In CondReading). (part scopes).tree) (parts_of cs))))
  parts_fit cs all scopes e =
      let f : In CondReading → List Fault = λ part. (part scopes).faults in
      let h : In CondReading → SqlCond = λ part. (part scopes).tree in
      let Q : In CondReading → Type 0 = λ part. OfCond (part scopes) in
      stand_each h cond_tables (parts_of cs) (each_holds f (λ part. Stand (cond_tables (h part))) (parts_of cs) (all_map (cond_reading tables) FitCond Q (λ c is. is scopes) cs all) e)

  and_fits : (cs : List NamedCond) → All FitCond cs → FitCond (named_cond.And cs)
  and_fits cs all scopes =
      let trees = map (λ (part : In CondReading). (part scopes).tree) (parts_of cs) in
      subst OfCond (sym (reading-And tables cs scopes)) (λ e. subst Stand (sym (ap cond_tables (sym (views.rolls-And trees)) ∙ tables-And trees)) (parts_fit cs all scopes e))

  or_fits : (cs : List NamedCond) → All FitCond cs → FitCond (named_cond.Or cs)
  or_fits cs all scopes =
      let trees = map (λ (part : In CondReading). (part scopes).tree) (parts_of cs) in
      subst OfCond (sym (reading-Or tables cs scopes)) (λ e. subst Stand (sym (ap cond_tables (sym (views.rolls-Or trees)) ∙ tables-Or trees)) (parts_fit cs all scopes e))

  not_fits : (c : NamedCond) → FitCond c → FitCond (named_cond.Not c)
  not_fits c is scopes =
      let t = (cond_reading tables c scopes).tree in
      subst OfCond (sym (reading-Not tables c scopes)) (λ e. subst Stand (sym (ap cond_tables (sym (views.rolls-Not t)) ∙ tables-Not t)) (is scopes e))

  compare_fits : (op : CompareOp) (a b : NamedScalar) → FitScalar a → FitScalar b → FitCond (named_cond.Compare op a b)
  compare_fits op a b is also scopes =
      let r = scalar_reading tables a scopes in
      let s = scalar_reading tables b scopes in
      subst OfCond (sym (reading-Compare tables op a b scopes))
      (λ e. subst Stand (sym (ap cond_tables (sym (views.rolls-Compare op r.tree s.tree)) ∙ tables-Compare op r.tree s.tree))
      (let both = none_left (r.faults ++ s.faults) (unlike r s) e in
      stand_both (scalar_tables r.tree) (scalar_tables s.tree) (is scopes (none_left r.faults s.faults both)) (also scopes (none_right r.faults s.faults both))))

  between_fits : (negated : Bool) (a low high : NamedScalar) → FitScalar a → FitScalar low → FitScalar high → FitCond (named_cond.Between negated a low high)
  between_fits negated a low high is from upto scopes =
      let r = scalar_reading tables a scopes in
      let s = scalar_reading tables low scopes in
      let t = scalar_reading tables high scopes in
      subst OfCond (sym (reading-Between tables negated a low high scopes))
      (λ e. subst Stand (sym (ap cond_tables (sym (views.rolls-Between negated r.tree s.tree t.tree)) ∙ tables-Between negated r.tree s.tree t.tree))
      (let three = none_left (r.faults ++ s.faults ++ t.faults) (unlike r s) (none_left (r.faults ++ s.faults ++ t.faults ++ unlike r s) (unlike r t) e) in
      let two = none_left (r.faults ++ s.faults) t.faults three in
      stand_both (scalar_tables r.tree ++ scalar_tables s.tree) (scalar_tables t.tree)
      (stand_both (scalar_tables r.tree) (scalar_tables s.tree) (is scopes (none_left r.faults s.faults two)) (from scopes (none_right r.faults s.faults two))) (upto scopes (none_right (r.faults ++ s.faults) t.faults three))))

  member_fits : (negated : Bool) (a : NamedScalar) (list : List NamedScalar) → FitScalar a → All FitScalar list → FitCond (named_cond.OneOf negated a list)
  member_fits negated a list is all scopes =
      let r = scalar_reading tables a scopes in
      let rs : List (In ScalarReading) = map (scalar_reading tables) list in
      let f : In ScalarReading → List Fault = λ b. (b scopes).faults ++ unlike r (b scopes) in
      let h : In ScalarReading → SqlScalar = λ b. (b scopes).tree in
      let Q : In ScalarReading → Type 0 = λ b. f b ≡ [] → Stand (scalar_tables (h b)) in
      let each : All Q rs = all_map (scalar_reading tables) FitScalar Q (λ b of e. of scopes (none_left (scalar_reading tables b scopes).faults (unlike r (scalar_reading tables b scopes)) e)) list all in
      subst OfCond (sym (reading-OneOf tables negated a list scopes))
      (λ e. subst Stand (sym (ap cond_tables (sym (views.rolls-OneOf negated r.tree (map h rs))) ∙ tables-OneOf negated r.tree (map h rs)))
      (stand_both (scalar_tables r.tree) (flat_map (λ below. below) (map scalar_tables (map h rs))) (is scopes (none_left r.faults (flat_map f rs) e))
      (stand_each h scalar_tables rs (each_holds f (λ b. Stand (scalar_tables (h b))) rs each (none_right r.faults (flat_map f rs) e)))))

  null_fits : (negated : Bool) (a : NamedScalar) → FitScalar a → FitCond (named_cond.IsNull negated a)
  null_fits negated a is scopes =
      let t = (scalar_reading tables a scopes).tree in
      subst OfCond (sym (reading-IsNull tables negated a scopes)) (λ e. subst Stand (sym (ap cond_tables (sym (views.rolls-IsNull negated t)) ∙ tables-IsNull negated t)) (is scopes e))

  exists_fits : (q : NamedQuery) → FitQuery q → FitCond (named_cond.Exists q)
  exists_fits q is scopes =
      let r = query_reading tables q scopes in
      subst OfCond (sym (reading-Exists tables q scopes)) (λ e. subst Stand (sym (ap cond_tables (sym (views.rolls-Exists r.tree)) ∙ tables-Exists r.tree)) (is scopes (inner_none r.at r.first e)))

  -- ---- output columns

  column_output_fits : (item at : ℕ) (column : ScopeColumn) → OfOutput (column_output item at column)
  column_output_fits item at column e =
      let p : SqlPlace = record { up = 0; item = item; column = at } in
      subst Stand (sym (tables_item_is (record { value = Column p; name = column.name }))) (no_tables_column p)

  columns_fit : (item at : ℕ) (columns : List ScopeColumn) → All OfOutput (columns_from item at columns)
  columns_fit item at [] = All-nil OfOutput
  columns_fit item at (c ∷ columns) = All-cons OfOutput (column_output item at c) (columns_from item (at + 1) columns) (column_output_fits item at c) (columns_fit item (at + 1) columns)

  all_columns_fit : (at : ℕ) (scope : Scope) → All OfOutput (all_columns at scope)
  all_columns_fit at [] = All-nil OfOutput
  all_columns_fit at (i ∷ scope) = All-append OfOutput (columns_from at 0 i.columns) (all_columns (at + 1) scope) (columns_fit at 0 i.columns) (all_columns_fit (at + 1) scope)

  abbrev OfItemReading : ItemReading → Type 0
  OfItemReading r = OfScalar r.scalar

  outputs_fit : (at : ℕ) (rs : List ItemReading) → All OfItemReading rs → All OfOutput (outputs_from at rs)
  outputs_fit at [] all = All-nil OfOutput
  outputs_fit at (r ∷ rs) all =
      All-cons OfOutput (output_of at r) (outputs_from (at + 1) rs) (λ e. subst Stand (sym (tables_item_is (output_of at r).item)) (All-head OfItemReading r rs all e)) (outputs_fit (at + 1) rs (All-tail OfItemReading r rs all))

  every_column_fits : FitSelect named_select.All
  every_column_fits scopes = subst (All OfOutput) (sym (reading-All tables scopes)) (all_columns_fit 0 (own_scope scopes))

  items_fit : (is : List NamedItem) → All (λ (i : NamedItem). FitScalar i.value) is → FitSelect (named_select.Items is)
  items_fit is all scopes =
      let rs : List ItemReading = map (λ (item : In ItemReading). item scopes) (map (item_reading tables) is) in
      let P : NamedItem → Type 0 = λ i. FitScalar i.value in
      subst (All OfOutput) (sym (reading-Items tables is scopes))
      (outputs_fit 1 rs (all_read (item_reading tables) scopes P OfItemReading (λ i of. subst OfItemReading (sym (item_reading_is tables i scopes)) (of scopes)) is all))

  -- ---- FROM

  derived_fits : (q : NamedQuery) (name : List ℕ) (at : ℕ) → FitQuery q → FitFrom (named_from.Derived q name at)
  derived_fits q name at is =
      let r = query_reading tables q [] in
      subst OfFrom (sym (reading-Derived tables q name at))
      (λ e. subst Stand (sym (tables_from_is (record { name = name; source = Derived r.tree }) ∙ (ap source_tables (sym (views.rolls-Derived r.tree)) ∙ tables-Derived r.tree))) (is [] (inner_none r.at r.first e)))

  -- the table of this name stands where it is found
  pub found_there : (name : List ℕ) (index : ℕ) → table_place tables name ≡ Some index → IsTableOf tables (record { index = index; name = name; schema = record { columns = columns_of tables index } })
  found_there name index e =
      let p : NamedTable → Bool = λ named. bytes_eq name named.name in
      let n = position_or_len p tables in
      found n (nat_lt n (length tables)) refl (λ lt. passes_at_first p tables no_table lt) e
    where
      found : (n : ℕ) (t : Bool) → nat_lt n (length tables) ≡ t → (n < length tables → bytes_eq name (table_at tables n).name ≡ true) → cond {A = Option ℕ} t (Some n) None ≡ Some index →
          IsTableOf tables (record { index = index; name = name; schema = record { columns = columns_of tables index } })
      found n true lt passes e =
          let same : n ≡ index = cc in
          let within : n < length tables = ltb-true n (length tables) lt in
          subst (λ i. IsTableOf tables (record { index = i; name = name; schema = record { columns = columns_of tables i } })) same
          (record { there = within; name = sym ((bytes_eq-Decides name (table_at tables n).name).0 (passes within)); columns = refl })
      found n false lt passes e = absurd (let h : None ≡ Some index = e in cc)

  place_fits : (t : FromTree) (place : Option ℕ) → table_place tables t.table ≡ place → OfFrom (table_reading tables t place)
  place_fits t None is e = absurd (some_none (fault 301 t.at) [] e)
  place_fits t (Some index) is e =
      let s : SqlTable = record { index = index; name = t.table; schema = record { columns = columns_of tables index } } in
      let f : SqlFrom = (table_reading tables t (Some index)).tree in
      subst Stand (sym (tables_from_is f ∙ (ap source_tables (sym (views.rolls-Table s)) ∙ tables-Table s))) (All-cons (IsTableOf tables) s [] (found_there t.table index is) stand_none)

  table_fits : (t : FromTree) → FitFrom (named_from.Table t)
  table_fits t = subst OfFrom (sym (reading-Table tables t)) (place_fits t (table_place tables t.table) refl)

  -- ---- queries

  filter_fits : (o : Option NamedCond) → Where FitCond o → (scopes : Scopes) → cond_faults tables (filter_reading tables o scopes) ≡ [] → Stand (if_written (option_map cond_tables (cond_tree tables (filter_reading tables o scopes))))
  filter_fits None is scopes e = stand_none
  filter_fits (Some c) is scopes e = is scopes e

  query_fits : (at : ℕ) (distinct : Bool) (s : NamedSelect) (fs : List NamedFrom) (o : Option NamedCond) → FitSelect s → All FitFrom fs → Where FitCond o → FitQuery (query_tree (at, (distinct, (s, (fs, o)))))
  query_fits at distinct s fs o of all is outer =
      let scopes = own_scopes tables fs outer in
      let froms : List FromReading = map (from_reading tables) fs in
      let outputs : List OutputReading = select_reading tables s scopes in
      let filter = filter_reading tables o scopes in
      let from_faults = flat_map (λ (from : FromReading). from.faults) froms in
      let output_faults = flat_map (λ (output : OutputReading). output.faults) outputs in
      let g : FromReading → SqlFrom = λ from. from.tree in
      let h : OutputReading → SqlItem = λ output. output.item in
      subst OfQuery (sym (by_parts tables at distinct s fs o outer))
      (λ e.
      let first = first_spot (from_faults ++ repeated [] froms) in
      let second = first_spot output_faults in
      let third = first_spot (cond_faults tables filter) in
      let a = none_left from_faults (repeated [] froms) (first_none (from_faults ++ repeated [] froms) (either_first first (either_spot second third) e)) in
      let later = either_second first (either_spot second third) e in
      let b = first_none output_faults (either_first second third later) in
      let c = first_none (cond_faults tables filter) (either_second second third later) in
      let columns = stand_each h item_tables outputs (each_holds (λ output. output.faults) (λ output. Stand (item_tables (h output))) outputs (of scopes) b) in
      let sources = stand_each g from_tables froms (each_holds (λ from. from.faults) (λ from. Stand (from_tables (g from))) froms (all_map (from_reading tables) FitFrom OfFrom (λ f is. is) fs all) a) in
      let chosen = filter_fits o is scopes c in
      subst Stand (sym (tables_query_is distinct (map h outputs) (map g froms) (cond_tree tables filter) []))
      (stand_both (flat_map (λ below. below) (map item_tables (map h outputs)) ++ flat_map (λ below. below) (map from_tables (map g froms))) (if_written (option_map cond_tables (cond_tree tables filter)))
      (stand_both (flat_map (λ below. below) (map item_tables (map h outputs))) (flat_map (λ below. below) (map from_tables (map g froms))) columns sources) chosen))

  -- each way to put parts together keeps that their tables stand
  pub fitting : (most : ℕ) → Closed most FitScalar FitScalar FitCond FitSelect FitFrom FitQuery
  fitting most = record {
    column = λ n is scopes. subst OfScalar (sym (reading-Column tables n scopes)) (column_fits n scopes (places_of n.first n.second 0 (names_in scopes)));
    literal = λ l is scopes. subst OfScalar (sym (reading-Literal tables l scopes)) (literal_fits l.value l.at);
    choice = λ at ws last some all is. choice_fits at ws last all is;
    factor = λ s is. is;
    sum = λ first second more is all. sum_fits (record { minus = false; scalar = first } ∷ (second ∷ more)) (All-cons (λ (t : NamedTerm). FitScalar t.scalar) (record { minus = false; scalar = first }) (second ∷ more) is all);
    comparison = compare_fits;
    range = between_fits;
    member = λ negated a list is some all. member_fits negated a list is all;
    null = null_fits;
    existence = exists_fits;
    negation = not_fits;
    conjunction = λ cs two all. and_fits cs all;
    disjunction = λ cs two all. or_fits cs all;
    all_columns = every_column_fits;
    items = λ is some few all. items_fit is (all_to is all);
    table = λ t is. table_fits t;
    derived = λ q name at is named. derived_fits q name at is;
    query = λ at distinct s fs o of some all is. query_fits at distinct s fs o of all is;
  }
    where
      all_to : (is : List NamedItem) → All (λ (i : NamedItem). FitScalar i.value × Where IsName i.name) is → All (λ (i : NamedItem). FitScalar i.value) is
      all_to [] all = All-nil (λ (i : NamedItem). FitScalar i.value)
      all_to (i ∷ is) all =
          let P : NamedItem → Type 0 = λ i. FitScalar i.value × Where IsName i.name in
          All-cons (λ (i : NamedItem). FitScalar i.value) i is (All-head P i is all).0 (all_to is (All-tail P i is all))

  -- an order names no table
  order_fits : (keys : List SortKey) (q : SqlQuery) → Stand (tables_of q) → Stand (tables_of (with_order keys q))
  order_fits keys q is =
      let o = out-SqlQuery q in
      let same : tables_of q ≡ tables_of (with_order keys q) =
      ap tables_of (sym (roll-out-SqlQuery q)) ∙ (tables_query_is o.distinct o.items o.from o.filter o.order ∙ sym (tables_query_is o.distinct o.items o.from o.filter keys)) in
      subst Stand same is

  -- The queries of a script that is read name no table but those of the set.
  pub read_fits : (limit : ℕ) (text : List ℕ) (tokens : List Token) (statements : List NamedStatement) (queries : List SqlQuery) → IsTokens limit text tokens → IsScript tokens statements → script_reading tables statements ≡ Ok queries → All (FitsTables tables) queries
  read_fits limit text tokens statements queries are script read =
      let kept = statements_keep (length text) FitScalar FitScalar FitCond FitSelect FitFrom FitQuery (fitting (length text)) limit text tokens statements (omega arith) are script in
      queries_hold tables (λ (s : NamedStatement). FitQuery s.query) (FitsTables tables)
      (λ s q is of. subst (FitsTables tables) of.is (order_fits (map (λ (key : KeyReading). key.key) (map (key_reading (query_reading tables s.query []).columns) s.order)) (query_reading tables s.query []).tree (is [] of.first))) statements queries kept read
