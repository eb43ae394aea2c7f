-- What is written of a well-formed query means that query again, and no obligation is false.
use Rattle.std.proofs.Common.{◌≡◌, ℕ, ◌+◌, Bool, true, false, not, ◌&&◌, ◌||◌, List, [], ◌∷◌, ◌++◌, map, length, refl, sym, ap, ◌∙◌, subst, Option, Some, None}
use Rattle.std.specs.Prelude.{nat_le, nat_lt}
use Rattle.std.specs.List.{list_all, flat_map}
use Rattle.std.specs.Option.{option_map}
use Rattle.std.proofs.lemmas.Bool.{and_parts, false≢true, not-true}
use Rattle.prefsql_tables.specs.Table.{Tables, columns_of}
use Rattle.prefsql_tables.specs.Names.{table_place}
use Rattle.prefsql_tables.specs.declared.schema.Column.{Column}
use Rattle.query_tree.specs.declared.query.FromTree.{FromTree}
use Rattle.prefsql_values.specs.declared.value.Domain.{Domain}
use Rattle.prefsql_values.specs.declared.value.Domain.TheVariants.{Integer, Chars as CharsDomain}
use Rattle.prefsql_tables.specs.declared.place.SortKey.{SortKey}
use Rattle.sql_tree.specs.Shown.{View, ShownItem, ShownColumn, domain_shape, table_columns}
use Rattle.sql_tree.specs.declared.tree.SumTerm.{SumTerm}
use Rattle.sql_read_back.proofs.Judged.{judged_source, judged_from, judged_item, judged_cond, judged_scalar, judged_query}
use Rattle.sql_tree.specs.declared.tree.SqlQuery.{SqlQuery, roll-SqlQuery, out-SqlQuery, roll-out-SqlQuery, out-roll-SqlQuery}
use Rattle.sql_tree.specs.declared.tree.SqlSource.{SqlSource, roll-SqlSource}
use Rattle.sql_tree.specs.declared.tree.SqlSource as source_tree
use Rattle.sql_tree.specs.declared.tree.SqlFrom.{SqlFrom}
use Rattle.sql_text.specs.declared.named.NamedQuery.{NamedQuery}
use Rattle.sql_text.specs.declared.named.NamedFrom.{NamedFrom}
use Rattle.sql_text.specs.declared.named.NamedFrom as named_from
use Rattle.sql_tree.specs.declared.tree.SqlWhen.{SqlWhen}
use Rattle.sql_read_back.proofs.Round.{FromIs, ItemIs, FilterIs}
use Rattle.sql_read_back.proofs.NamesShown.{shown_names, item_of, written_items, fine_names_are}
use Rattle.sql_text.proofs.Equations.{inner_names}
use Rattle.sql_text.specs.Grammar.{query_tree}
use Rattle.sql_text.specs.declared.named.NamedItem.{NamedItem}
use Rattle.sql_text.specs.declared.named.NamedSelect as named_select
use Rattle.sql_tree.specs.declared.tree.SqlItem.{SqlItem}
use Rattle.prefsql_lexer.specs.declared.fault.Spot.{Spot}
use Rattle.std.specs.Str.{bytes_eq}
use Rattle.std.specs.List.{list_any}
use Rattle.std.proofs.lemmas.Slice.Eq.{bytes_eq-Decides}
use Rattle.sql_tree.specs.WellFormed.{JudgedSource, JudgedQuery, JudgedFrom, JudgedItem, all_differ, filter_well, is_name, some_key}
use Rattle.sql_tree.specs.declared.tree.SqlCond.{SqlCond, roll-SqlCond}
use Rattle.sql_tree.specs.declared.tree.SqlCond as tree
use Rattle.sql_tree.specs.declared.tree.SqlCond.TheOpen.{SqlCond-F, SqlSource-F, SqlQuery-F}
use Rattle.sql_tree.specs.declared.tree.SqlCond.TheViews as views
use Rattle.sql_tree.specs.declared.tree.SqlScalar.{SqlScalar}
use Rattle.sql_tree.specs.declared.tree.SqlTable.{SqlTable}
use Rattle.sql_text.specs.Text.{Names, ItemNames}
use Rattle.sql_read_back.proofs.Writable.{FineFrom, FineItem, fine_from, fine_item, filter_fine, fine_cond, fine_scalar, fine_source}
use Rattle.sql_text.specs.declared.named.NamedCond.{NamedCond}
use Rattle.sql_text.specs.declared.named.NamedCond as named_cond
use Rattle.sql_read_back.proofs.FineEquations.{fine-Exists, fine_from_is, fine_item_is, fine_query_is, fine-Table, fine-Derived}
use Rattle.sql_read_back.proofs.Placed.{Each}
use Rattle.sql_resolver.specs.Scope.{scope_names, ScopeColumn, ScopeItem, Scopes, names_in}
use Rattle.sql_resolver.specs.Owed.{first_spot, either_spot, Fault, fault_if, differ, inner_faults}
use Rattle.sql_resolver.specs.Reading.{cond_tree, cond_faults, In, FromReading, QueryReading, CondReading, from_reading, query_reading, table_column, table_reading, repeated, OutputReading, ItemReading, item_reading, outputs_from, output_of, scalar_reading}
use Rattle.sql_resolver.specs.Statements.{with_order}
use Rattle.sql_read_back.proofs.JudgedEquations.{judged-Exists, judged-Table, judged-Derived, judged_query_is, judged_parts, judged_from_is, judged_item_is, own_items}
use Rattle.sql_read_back.proofs.Readings.{query_reading_is, whole_reading, filter_reading, own_scopes, item_reading_is, reading-Exists, reading-Table, reading-Derived}
use Rattle.sql_read_back.proofs.Back.{CondBack, QC, QF, QQ, QS, ScalarBack, SourceBack, none_both, scope_column, scope_item, scopes_of}

module _ (ok : SqlTable → Bool) (tables : Tables) where
  -- ---- inner queries

  no_keys : (keys : List SortKey) → not (some_key keys) ≡ true → keys ≡ []
  no_keys [] e = refl
  no_keys (key ∷ keys) e = absurd (false≢true e)

  -- a query without order is itself without its order
  unordered : (q : SqlQuery) (view : View) → not (judged_query q view).has_order ≡ true → with_order [] q ≡ q
  unordered q view e =
      let o = out-SqlQuery q in
      let round : roll-SqlQuery o ≡ q = roll-out-SqlQuery q in
      let judged : judged_query q view ≡ judged_parts o.items o.from o.filter o.order view = ap (λ q. judged_query q view) (sym round) ∙ judged_query_is o.distinct o.items o.from o.filter o.order view in
      let none : o.order ≡ [] = no_keys o.order (sym (ap (λ (k : JudgedQuery). not k.has_order) judged) ∙ e) in
      ap (λ ks. roll-SqlQuery (record { distinct = o.distinct; items = o.items; from = o.from; filter = o.filter; order = ks })) (sym none) ∙ round

  pub existence_back : (names : Names) (q : SqlQuery) (n : NamedQuery) → QQ ok tables names q n → QC ok tables names (roll-SqlCond (SqlCond-F.Exists q)) (named_cond.Exists n)
  existence_back names q n p view same well fine =
      let w = and_parts (judged_query q view).well (not (judged_query q view).has_order) (sym (judged-Exists q view) ∙ well) in
      let back = p view same w.0 (sym (fine-Exists ok q names) ∙ fine) in
      let is = reading-Exists tables n (scopes_of view) in
      record {
        tree = ap (λ (r : CondReading). r.tree) is ∙ (ap tree.Exists (back.tree ∙ unordered q view w.1) ∙ sym (views.rolls-Exists q));
        faults = ap (λ (r : CondReading). r.faults) is ∙ ap (inner_faults (query_reading tables n (scopes_of view)).at) back.first;
      }

  pub derived_back : (q : SqlQuery) (name : List ℕ) (n : NamedQuery) (name_at : ℕ) → QQ ok tables [] q n → QF ok tables name (roll-SqlSource (SqlSource-F.Derived q)) (named_from.Derived n name name_at)
  derived_back q name n name_at p well fine =
      let j = judged-Derived q in
      let w = and_parts (judged_query q []).well (not (judged_query q []).has_order) (sym (ap (λ (k : JudgedSource). k.well) j) ∙ well) in
      let back = p [] refl w.0 (sym (fine-Derived ok q) ∙ fine) in
      let is = reading-Derived tables n name name_at in
      let F : SqlSource → SqlFrom = λ s. record { name = name; source = s } in
      let I : List ScopeColumn → ScopeItem = λ cs. record { name = name; columns = cs } in
      record {
        tree = ap (λ (r : FromReading). r.tree) is ∙ ap F (ap source_tree.Derived (back.tree ∙ unordered q [] w.1) ∙ sym (views.rolls-Derived q));
        item = ap (λ (r : FromReading). r.item) is ∙ ap I (back.columns ∙ ap (λ (k : JudgedSource). map scope_column k.columns) (sym j));
        faults = ap (λ (r : FromReading). r.faults) is ∙ ap (inner_faults (query_reading tables n []).at) back.first;
      }

  -- ---- FROM items

  -- of what can be written, each table stands under its name with its columns
  abbrev pub Meant : Type 0
  Meant = (t : SqlTable) → ok t ≡ true → (table_place tables t.name ≡ Some t.index) × (columns_of tables t.index ≡ t.schema.columns)

  shown_columns : (cs : List Column) → map table_column cs ≡ map scope_column (table_columns cs)
  shown_columns [] = refl
  shown_columns (c ∷ cs) = ap (λ x. x ∷ map table_column cs) (of_domain c.domain) ∙ ap (λ xs. scope_column (record { name = c.name; shape = domain_shape c.domain }) ∷ xs) (shown_columns cs)
    where
      of_domain : (d : Domain) → (let x : ScopeColumn = record { name = c.name; domain = Some d; bound = Some (domain_shape d).bound } in x) ≡ scope_column (record { name = c.name; shape = domain_shape d })
      of_domain Integer = refl
      of_domain CharsDomain = refl

  pub table_back : Meant → (t : SqlTable) (name : List ℕ) (at name_at : ℕ) → QF ok tables name (roll-SqlSource (SqlSource-F.Table t)) (named_from.Table (record { table = t.name; name = Some name; at = at; name_at = name_at }))
  table_back meant t name at name_at well fine =
      let tree : FromTree = record { table = t.name; name = Some name; at = at; name_at = name_at } in
      let f = and_parts (ok t) (is_name t.name) (sym (fine-Table ok t) ∙ fine) in
      let m = meant t f.0 in
      let is : from_reading tables (named_from.Table tree) ≡ table_reading tables tree (Some t.index) = reading-Table tables tree ∙ ap (table_reading tables tree) m.0 in
      let S : List Column → SqlSource = λ cs. source_tree.Table (record { index = t.index; name = t.name; schema = record { columns = cs } }) in
      let F : SqlSource → SqlFrom = λ s. record { name = name; source = s } in
      let I : List ScopeColumn → ScopeItem = λ cs. record { name = name; columns = cs } in
      record {
        tree = ap (λ (r : FromReading). r.tree) is ∙ ap F (ap S m.1 ∙ sym (views.rolls-Table t));
        item = ap (λ (r : FromReading). r.item) is ∙ ap I (ap (map table_column) m.1 ∙ (shown_columns t.schema.columns ∙ ap (λ (k : JudgedSource). map scope_column k.columns) (sym (judged-Table t))));
        faults = ap (λ (r : FromReading). r.faults) is;
      }

  pub record FromsBack (fs : List SqlFrom) (ns : List NamedFrom) : Type 0 where
    pub trees : map (λ (from : FromReading). from.tree) (map (from_reading tables) ns) ≡ fs
    pub items : map (λ (from : FromReading). from.item) (map (from_reading tables) ns) ≡ map scope_item (own_items fs)
    pub faults : flat_map (λ (from : FromReading). from.faults) (map (from_reading tables) ns) ≡ []

  froms_back : (fs : List SqlFrom) (ns : List NamedFrom) → Each (FromIs ok (QC ok tables) (QS ok tables) (QF ok tables) (QQ ok tables)) fs ns → list_all (λ (f : JudgedFrom). f.well) (map judged_from fs) ≡ true → list_all (λ (f : FineFrom). f.fine) (map (fine_from ok) fs) ≡ true → FromsBack fs ns
  froms_back [] [] each well fine = record { trees = refl; items = refl; faults = refl }
  froms_back [] (n ∷ ns) each well fine = absurd each
  froms_back (f ∷ fs) [] each well fine = absurd each
  froms_back (f ∷ fs) (n ∷ ns) each well fine =
      let a = and_parts (judged_from f).well (list_all (λ (f : JudgedFrom). f.well) (map judged_from fs)) well in
      let b = and_parts (is_name f.name) (judged_source f.source).well (sym (ap (λ (k : JudgedFrom). k.well) (judged_from_is f)) ∙ a.0) in
      let c = and_parts (fine_from ok f).fine (list_all (λ (f : FineFrom). f.fine) (map (fine_from ok) fs)) fine in
      let d = and_parts (is_name f.name) (fine_source ok f.source).fine (sym (fine_from_is ok f) ∙ c.0) in
      let one : SourceBack ok tables f.name f.source n = each.0 b.1 d.1 in
      let more = froms_back fs ns each.1 a.1 c.1 in
      let rest = map (from_reading tables) ns in
      record {
        trees = ap (λ t. t ∷ map (λ (from : FromReading). from.tree) rest) one.tree ∙ ap (λ ts. f ∷ ts) more.trees;
        items = ap (λ t. t ∷ map (λ (from : FromReading). from.item) rest) (one.item ∙ ap (λ (k : JudgedFrom). scope_item k.item) (sym (judged_from_is f))) ∙ ap (λ ts. scope_item (judged_from f).item ∷ ts) more.items;
        faults = none_both (from_reading tables n).faults (flat_map (λ (from : FromReading). from.faults) rest) one.faults more.faults;
      }

  -- names that differ from each other and from those before them
  AllApart : List (List ℕ) → List (List ℕ) → Type 0
  AllApart before names = list_all (λ name. not (list_any (bytes_eq name) before)) names ≡ true

  other_way : (m n : List ℕ) → bytes_eq n m ≡ false → bytes_eq m n ≡ false
  other_way m n e = by_cases (bytes_eq m n) refl
    where
      by_cases : (t : Bool) → bytes_eq m n ≡ t → bytes_eq m n ≡ false
      by_cases false is = is
      by_cases true is = absurd (false≢true (sym e ∙ (bytes_eq-Decides n m).1 (sym ((bytes_eq-Decides m n).0 is))))

  both_false : (a b : Bool) → not (a || b) ≡ true → (a ≡ false) × (b ≡ false)
  both_false true b e = absurd (false≢true e)
  both_false false true e = absurd (false≢true e)
  both_false false false e = (refl, refl)

  apart_more : (n : List ℕ) (before names : List (List ℕ)) → not (list_any (bytes_eq n) names) ≡ true → AllApart before names → AllApart (n ∷ before) names
  unfolding AllApart
  apart_more n before [] e apart = refl
  apart_more n before (m ∷ names) e apart =
      let parts = both_false (bytes_eq n m) (list_any (bytes_eq n) names) e in
      let a = and_parts (not (list_any (bytes_eq m) before)) (list_all (λ name. not (list_any (bytes_eq name) before)) names) apart in
      let rest = apart_more n before names (ap not parts.1) a.1 in
      ap (λ t. not (t || list_any (bytes_eq m) before) && list_all (λ name. not (list_any (bytes_eq name) (n ∷ before))) names) (other_way m n parts.0)
      ∙ (ap (λ t. t && list_all (λ name. not (list_any (bytes_eq name) (n ∷ before))) names) a.0 ∙ rest)

  none_repeated : (before : List (List ℕ)) (rs : List FromReading) → all_differ (map (λ (r : FromReading). r.item.name) rs) ≡ true → AllApart before (map (λ (r : FromReading). r.item.name) rs) → repeated before rs ≡ []
  unfolding AllApart
  none_repeated before [] differ apart = refl
  none_repeated before (r ∷ rs) differ apart =
      let names = map (λ (r : FromReading). r.item.name) rs in
      let d = and_parts (not (list_any (bytes_eq r.item.name) names)) (all_differ names) differ in
      let a = and_parts (not (list_any (bytes_eq r.item.name) before)) (list_all (λ name. not (list_any (bytes_eq name) before)) names) apart in
      let here : list_any (bytes_eq r.item.name) before ≡ false = not-true (list_any (bytes_eq r.item.name) before) a.0 in
      none_both (fault_if (list_any (bytes_eq r.item.name) before) 302 r.name_at) (repeated (r.item.name ∷ before) rs)
      (ap (λ t. fault_if t 302 r.name_at) here) (none_repeated (r.item.name ∷ before) rs d.1 (apart_more r.item.name before names d.0 a.1))

  apart_none : (names : List (List ℕ)) → AllApart [] names
  unfolding AllApart
  apart_none [] = refl
  apart_none (n ∷ names) = apart_none names

  -- ---- output columns

  pub record ItemsBack (at : ℕ) (is : List SqlItem) (ns : List NamedItem) (view : View) : Type 0 where
    pub items : map (λ (o : OutputReading). o.item) (outputs_from at (map (λ (item : In ItemReading). item (scopes_of view)) (map (item_reading tables) ns))) ≡ is
    pub columns : map (λ (o : OutputReading). o.column) (outputs_from at (map (λ (item : In ItemReading). item (scopes_of view)) (map (item_reading tables) ns)))
        ≡ map scope_column (map (λ (item : JudgedItem). item.column) (map (λ (item : View → JudgedItem). item view) (map judged_item is)))
    pub faults : flat_map (λ (o : OutputReading). o.faults) (outputs_from at (map (λ (item : In ItemReading). item (scopes_of view)) (map (item_reading tables) ns))) ≡ []

  items_back : (names : Names) (view : View) → names_in (scopes_of view) ≡ names → (at : ℕ) (is : List SqlItem) (ns : List NamedItem) → Each (ItemIs ok (QC ok tables) (QS ok tables) (QF ok tables) (QQ ok tables) names) is ns →
      list_all (λ (item : JudgedItem). item.well) (map (λ (item : View → JudgedItem). item view) (map judged_item is)) ≡ true → list_all (λ (item : FineItem). item.fine names) (map (fine_item ok) is) ≡ true → ItemsBack at is ns view
  items_back names view same at [] [] each well fine = record { items = refl; columns = refl; faults = refl }
  items_back names view same at [] (n ∷ ns) each well fine = absurd each
  items_back names view same at (i ∷ is) [] each well fine = absurd each
  items_back names view same at (i ∷ is) (n ∷ ns) each well fine =
      let scopes = scopes_of view in
      let J = judged_scalar i.value view in
      let ji = judged_item_is i view in
      let a = and_parts (judged_item i view).well (list_all (λ (item : JudgedItem). item.well) (map (λ (item : View → JudgedItem). item view) (map judged_item is))) well in
      let b = and_parts (is_name i.name) J.well (sym (ap (λ (k : JudgedItem). k.well) ji) ∙ a.0) in
      let c = and_parts ((fine_item ok i).fine names) (list_all (λ (item : FineItem). item.fine names) (map (fine_item ok) is)) fine in
      let d = and_parts (is_name i.name) (fine_scalar ok i.value names).fine (sym (fine_item_is ok i names) ∙ c.0) in
      let one : ScalarBack ok tables i.value n.value view = each.0.value view same b.1 d.1 in
      let more = items_back names view same (at + 1) is ns each.1 a.1 c.1 in
      let N = scalar_reading tables n.value scopes in
      let rest = outputs_from (at + 1) (map (λ (item : In ItemReading). item scopes) (map (item_reading tables) ns)) in
      let O : SqlScalar → Option Domain → Option ℕ → List Fault → OutputReading = λ s d b fs. record {
        item = record { value = s; name = i.name };
        column = record { name = i.name; domain = d; bound = b };
        faults = fs;
      } in
      let out : output_of at (item_reading tables n scopes) ≡ O i.value (Some J.shape.domain) (Some J.shape.bound) [] =
      ap (output_of at) (item_reading_is tables n scopes)
      ∙ (ap (λ m. let r : ItemReading = record { name = m; scalar = N } in output_of at r) each.0.name
      ∙ (ap (λ s. O s N.domain N.bound N.faults) one.tree ∙ (ap (λ d. O i.value d N.bound N.faults) one.domain ∙ (ap (λ b. O i.value (Some J.shape.domain) b N.faults) one.bound ∙ ap (λ fs. O i.value (Some J.shape.domain) (Some J.shape.bound) fs) one.faults)))) in
      record {
        items = ap (λ (o : OutputReading). o.item ∷ map (λ (o : OutputReading). o.item) rest) out ∙ ap (λ ts. i ∷ ts) more.items;
        columns = ap (λ (o : OutputReading). o.column ∷ map (λ (o : OutputReading). o.column) rest) out
            ∙ (ap (λ (k : JudgedItem). scope_column k.column ∷ map (λ (o : OutputReading). o.column) rest) (sym ji) ∙ ap (λ cs. scope_column (judged_item i view).column ∷ cs) more.columns);
        faults = none_both (output_of at (item_reading tables n scopes)).faults (flat_map (λ (o : OutputReading). o.faults) rest) (ap (λ (o : OutputReading). o.faults) out) more.faults;
      }

  pub record FilterBack (filter : Option SqlCond) (o : Option NamedCond) (view : View) : Type 0 where
    pub tree : cond_tree tables (filter_reading tables o (scopes_of view)) ≡ filter
    pub faults : cond_faults tables (filter_reading tables o (scopes_of view)) ≡ []

  filter_back : (names : Names) (view : View) → names_in (scopes_of view) ≡ names → (filter : Option SqlCond) (o : Option NamedCond) → FilterIs ok (QC ok tables) (QS ok tables) (QF ok tables) (QQ ok tables) names filter o →
      filter_well (option_map judged_cond filter) view ≡ true → filter_fine (option_map (fine_cond ok) filter) names ≡ true → FilterBack filter o view
  filter_back names view same None o is well fine = subst (λ o. FilterBack None o view) (sym is) (record { tree = refl; faults = refl })
  filter_back names view same (Some c) o is well fine =
      let back : CondBack ok tables c is.0 view = is.2 view same well fine in
      let K : FilterBack (Some c) (Some is.0) view = record { tree = ap Some back.tree; faults = back.faults } in
      subst (λ o. FilterBack (Some c) o view) (sym is.1) K

  -- ---- queries

  item_names_of : (rs : List FromReading) → map (λ (r : FromReading). r.item.name) rs ≡ map (λ (i : ScopeItem). i.name) (map (λ (r : FromReading). r.item) rs)
  item_names_of [] = refl
  item_names_of (r ∷ rs) = ap (λ ns. r.item.name ∷ ns) (item_names_of rs)

  scope_item_names : (is : List ShownItem) → map (λ (i : ScopeItem). i.name) (map scope_item is) ≡ map (λ (i : ShownItem). i.name) is
  scope_item_names [] = refl
  scope_item_names (i ∷ is) = ap (λ ns. i.name ∷ ns) (scope_item_names is)

  reading_names : (rs : List FromReading) (is : List ShownItem) → map (λ (r : FromReading). r.item) rs ≡ map scope_item is → map (λ (r : FromReading). r.item.name) rs ≡ map (λ (i : ShownItem). i.name) is
  reading_names rs is e = item_names_of rs ∙ (ap (map (λ (i : ScopeItem). i.name)) e ∙ scope_item_names is)

  in_view : (fs : List SqlFrom) (outer : Names) (view : View) → names_in (scopes_of view) ≡ outer → names_in (scopes_of (own_items fs ∷ view)) ≡ inner_names fs outer
  in_view fs outer view same = ap (λ ns. scope_names (map scope_item (own_items fs)) ∷ ns) same ∙ ap (λ ns. ns ∷ outer) (each_names (own_items fs) ∙ written_items fs)
    where
      column_names : (cs : List ShownColumn) → map (λ (column : ScopeColumn). column.name) (map scope_column cs) ≡ shown_names cs
      column_names [] = refl
      column_names (c ∷ cs) = ap (λ ns. c.name ∷ ns) (column_names cs)

      each_names : (is : List ShownItem) → scope_names (map scope_item is) ≡ map item_of is
      each_names [] = refl
      each_names (i ∷ is) =
          let N : List (List ℕ) → ItemNames = λ cs. record { name = i.name; columns = cs } in
          ap (λ cs. N cs ∷ scope_names (map scope_item is)) (column_names i.columns) ∙ ap (λ ns. item_of i ∷ ns) (each_names is)

  pub query_of_back : (outer : Names) (d : Bool) (items : List SqlItem) (froms : List SqlFrom) (filter : Option SqlCond) (order : List SortKey) (at : ℕ) (ns : List NamedItem) (fs : List NamedFrom) (o : Option NamedCond) →
      Each (ItemIs ok (QC ok tables) (QS ok tables) (QF ok tables) (QQ ok tables) (inner_names froms outer)) items ns → Each (FromIs ok (QC ok tables) (QS ok tables) (QF ok tables) (QQ ok tables)) froms fs → FilterIs ok (QC ok tables) (QS ok tables) (QF ok tables) (QQ ok tables) (inner_names froms outer) filter o →
      QQ ok tables outer (roll-SqlQuery (record { distinct = d; items = items; from = froms; filter = filter; order = order })) (query_tree (at, (d, (named_select.Items ns, (fs, o)))))
  query_of_back outer d items froms filter order at ns fs o each_item each_from filter_is view same well fine =
      let q : SqlQuery = roll-SqlQuery (record { distinct = d; items = items; from = froms; filter = filter; order = order }) in
      let inner : View = own_items froms ∷ view in
      let j = judged_query_is d items froms filter order view in
      let judged = map (λ (item : View → JudgedItem). item inner) (map judged_item items) in
      let n1 = nat_le 1 (length judged) in
      let w1 = list_all (λ (item : JudgedItem). item.well) judged in
      let n2 = nat_le 1 (length (map judged_from froms)) in
      let w2 = list_all (λ (f : JudgedFrom). f.well) (map judged_from froms) in
      let df = all_differ (map (λ (item : ShownItem). item.name) (own_items froms)) in
      let fw = filter_well (option_map judged_cond filter) inner in
      let ks = list_all (λ (key : SortKey). nat_lt key.column (length judged)) order in
      let a = and_parts (((((n1 && w1) && n2) && w2) && df) && fw) ks (sym (ap (λ (k : JudgedQuery). k.well) j) ∙ well) in
      let b = and_parts ((((n1 && w1) && n2) && w2) && df) fw a.0 in
      let c = and_parts (((n1 && w1) && n2) && w2) df b.0 in
      let e = and_parts ((n1 && w1) && n2) w2 c.0 in
      let g = and_parts (n1 && w1) n2 e.0 in
      let h = and_parts n1 w1 g.0 in
      let named = fine_names_are ok froms outer in
      let names = inner_names froms outer in
      let F : Names → Bool = λ names.
      (nat_le 1 (length (map (fine_item ok) items)) && list_all (λ (item : FineItem). item.fine names) (map (fine_item ok) items))
      && ((nat_le 1 (length (map (fine_from ok) froms)) && list_all (λ (f : FineFrom). f.fine) (map (fine_from ok) froms)) && filter_fine (option_map (fine_cond ok) filter) names) in
      let fine_parts : F names ≡ true = sym (ap F named) ∙ (sym (fine_query_is ok d items froms filter order outer) ∙ fine) in
      let fa = and_parts (nat_le 1 (length (map (fine_item ok) items)) && list_all (λ (item : FineItem). item.fine names) (map (fine_item ok) items))
      ((nat_le 1 (length (map (fine_from ok) froms)) && list_all (λ (f : FineFrom). f.fine) (map (fine_from ok) froms)) && filter_fine (option_map (fine_cond ok) filter) names) fine_parts in
      let fb = and_parts (nat_le 1 (length (map (fine_item ok) items))) (list_all (λ (item : FineItem). item.fine names) (map (fine_item ok) items)) fa.0 in
      let fc = and_parts (nat_le 1 (length (map (fine_from ok) froms)) && list_all (λ (f : FineFrom). f.fine) (map (fine_from ok) froms)) (filter_fine (option_map (fine_cond ok) filter) names) fa.1 in
      let fd = and_parts (nat_le 1 (length (map (fine_from ok) froms))) (list_all (λ (f : FineFrom). f.fine) (map (fine_from ok) froms)) fc.0 in
      let same_inner = in_view froms outer view same in
      let from_back = froms_back froms fs each_from e.1 fd.1 in
      let item_back = items_back names inner same_inner 1 items ns each_item h.1 fb.1 in
      let cond_back = filter_back names inner same_inner filter o filter_is b.1 fc.1 in
      let readings = map (from_reading tables) fs in
      let scopes : own_scopes tables fs (scopes_of view) ≡ scopes_of inner = ap (λ is. is ∷ scopes_of view) from_back.items in
      let W : Scopes → QueryReading = λ s. whole_reading tables at d readings (outputs_from 1 (map (λ (item : In ItemReading). item s) (map (item_reading tables) ns))) (filter_reading tables o s) in
      let is : query_reading tables (query_tree (at, (d, (named_select.Items ns, (fs, o))))) (scopes_of view) ≡ W (scopes_of inner) = query_reading_is tables at d ns fs o (scopes_of view) ∙ ap W scopes in
      let outputs = outputs_from 1 (map (λ (item : In ItemReading). item (scopes_of inner)) (map (item_reading tables) ns)) in
      let filtered = filter_reading tables o (scopes_of inner) in
      let R : List SqlItem → List SqlFrom → Option SqlCond → SqlQuery = λ is fs c. roll-SqlQuery (record { distinct = d; items = is; from = fs; filter = c; order = [] }) in
      let from_names : all_differ (map (λ (r : FromReading). r.item.name) readings) ≡ true = ap all_differ (reading_names readings (own_items froms) from_back.items) ∙ c.1 in
      let no_from : flat_map (λ (from : FromReading). from.faults) readings ++ repeated [] readings ≡ [] =
      none_both (flat_map (λ (from : FromReading). from.faults) readings) (repeated [] readings) from_back.faults (none_repeated [] readings from_names (apart_none (map (λ (r : FromReading). r.item.name) readings))) in
      let E : List Fault → List Fault → List Fault → Option Spot = λ xs ys zs. either_spot (first_spot xs) (either_spot (first_spot ys) (first_spot zs)) in
      record {
        tree = ap (λ (r : QueryReading). r.tree) is
            ∙ (ap (λ is. R is (map (λ (from : FromReading). from.tree) readings) (cond_tree tables filtered)) item_back.items ∙ (ap (λ fs. R items fs (cond_tree tables filtered)) from_back.trees ∙ (ap (λ c. R items froms c) cond_back.tree
            ∙ ap (λ (v : SqlQuery-F SqlCond SqlScalar SqlSource SqlFrom SqlItem SqlQuery SqlWhen SumTerm). roll-SqlQuery (record { distinct = v.distinct; items = v.items; from = v.from; filter = v.filter; order = [] }))
            (sym (out-roll-SqlQuery (record { distinct = d; items = items; from = froms; filter = filter; order = order }))))));
        columns = ap (λ (r : QueryReading). r.columns) is ∙ (item_back.columns ∙ ap (λ (k : JudgedQuery). map scope_column k.columns) (sym j));
        first = ap (λ (r : QueryReading). r.first) is
            ∙ (ap (λ xs. E xs (flat_map (λ (o : OutputReading). o.faults) outputs) (cond_faults tables filtered)) no_from ∙ (ap (λ ys. E [] ys (cond_faults tables filtered)) item_back.faults ∙ ap (λ zs. E [] [] zs) cond_back.faults));
      }
