-- What a script means, part by part.
use Rattle.std.proofs.Common.{◌≡◌, ℕ, Bool, rules, Option, Some, None, List, [], ◌∷◌, ◌++◌, map, sym, ap, ◌∙◌}
use Rattle.std.specs.List.{flat_map}
use Rattle.prefsql_values.specs.declared.value.CompareOp.{CompareOp}
use Rattle.prefsql_tables.specs.Table.{Tables}
use Rattle.prefsql_tables.specs.Names.{table_place}
use Rattle.query_tree.specs.declared.name.NameTree.{NameTree}
use Rattle.query_tree.specs.declared.name.LiteralTree.{LiteralTree}
use Rattle.query_tree.specs.declared.query.FromTree.{FromTree}
use Rattle.sql_resolver.specs.NamesMeant.{places_of}
use Rattle.sql_text.specs.declared.named.NamedCond.{NamedCond}
use Rattle.sql_text.specs.declared.named.NamedCond as named_cond
use Rattle.sql_text.specs.declared.named.NamedCond.TheOpen.{NamedCond-F, NamedFrom-F, NamedScalar-F, NamedSelect-F}
use Rattle.sql_text.specs.declared.named.NamedCond.TheFolds.{the_lemmas, fold-roll-NamedCond, fold-roll-NamedFrom, fold-roll-NamedScalar, fold-roll-NamedSelect, fold-roll-NamedQuery}
use Rattle.sql_text.specs.declared.named.NamedCond.TheViews as views
use Rattle.sql_text.specs.declared.named.NamedScalar.{NamedScalar}
use Rattle.sql_text.specs.declared.named.NamedScalar as named_scalar
use Rattle.sql_text.specs.declared.named.NamedSelect.{NamedSelect}
use Rattle.sql_text.specs.declared.named.NamedSelect as named_select
use Rattle.sql_text.specs.declared.named.NamedFrom.{NamedFrom}
use Rattle.sql_text.specs.declared.named.NamedFrom as named_from
use Rattle.sql_text.specs.declared.named.NamedItem.{NamedItem}
use Rattle.sql_text.specs.declared.named.NamedTerm.{NamedTerm}
use Rattle.sql_text.specs.declared.named.NamedWhen.{NamedWhen}
use Rattle.sql_text.specs.declared.named.NamedQuery.{NamedQuery}
use Rattle.sql_resolver.specs.Scope.{Scopes, names_in}
use Rattle.sql_resolver.specs.Owed.{either_spot, first_spot, inner_faults}
use Rattle.sql_resolver.specs.Reading.{repeated, cond_tree, cond_faults, In, CondReading, ScalarReading, TermReading, WhenReading, ItemReading, OutputReading, FromReading, QueryReading, cond_step, from_step, scalar_step, select_step, item_step, query_step, term_step, when_step, cond_reading, from_reading, scalar_reading, select_reading, item_reading, query_reading, term_reading, when_reading, column_reading, literal_reading, sum_reading, case_reading, unlike, outputs_from, all_columns, own_scope, table_reading}
use Rattle.sql_tree.specs.declared.tree.SqlCond as tree
use Rattle.sql_tree.specs.declared.tree.SqlSource as source
use Rattle.sql_tree.specs.declared.tree.SqlQuery.{roll-SqlQuery}
use Rattle.sql_text.specs.Grammar.{query_tree}

module _ (tables : Tables) where
  pub reading-And : (parts : List NamedCond) (scopes : Scopes) → cond_reading tables (named_cond.And parts) scopes ≡ record { tree = tree.And (map (λ (part : In CondReading). (part scopes).tree) (map (cond_reading tables) parts)); faults = flat_map (λ (part : In CondReading). (part scopes).faults) (map (cond_reading tables) parts) }
  unfolding cond_reading from_reading scalar_reading select_reading item_reading query_reading term_reading when_reading
  reading-And parts scopes = ap (λ n. cond_reading tables n scopes) (sym (views.rolls-And parts)) ∙ (λ j. fold-roll-NamedCond _ _ _ _ _ _ _ _ cond_step (from_step tables) scalar_step select_step item_step (query_step tables) term_step when_step (NamedCond-F.And parts) j scopes)

  pub reading-Or : (parts : List NamedCond) (scopes : Scopes) → cond_reading tables (named_cond.Or parts) scopes ≡ record { tree = tree.Or (map (λ (part : In CondReading). (part scopes).tree) (map (cond_reading tables) parts)); faults = flat_map (λ (part : In CondReading). (part scopes).faults) (map (cond_reading tables) parts) }
  unfolding cond_reading from_reading scalar_reading select_reading item_reading query_reading term_reading when_reading
  reading-Or parts scopes = ap (λ n. cond_reading tables n scopes) (sym (views.rolls-Or parts)) ∙ (λ j. fold-roll-NamedCond _ _ _ _ _ _ _ _ cond_step (from_step tables) scalar_step select_step item_step (query_step tables) term_step when_step (NamedCond-F.Or parts) j scopes)

  pub reading-Not : (part : NamedCond) (scopes : Scopes) → cond_reading tables (named_cond.Not part) scopes ≡ record { tree = tree.Not (cond_reading tables part scopes).tree; faults = (cond_reading tables part scopes).faults }
  unfolding cond_reading from_reading scalar_reading select_reading item_reading query_reading term_reading when_reading
  reading-Not part scopes = ap (λ n. cond_reading tables n scopes) (sym (views.rolls-Not part)) ∙ (λ j. fold-roll-NamedCond _ _ _ _ _ _ _ _ cond_step (from_step tables) scalar_step select_step item_step (query_step tables) term_step when_step (NamedCond-F.Not part) j scopes)

  pub reading-Compare : (op : CompareOp) (a b : NamedScalar) (scopes : Scopes) → cond_reading tables (named_cond.Compare op a b) scopes ≡ record { tree = tree.Compare op (scalar_reading tables a scopes).tree (scalar_reading tables b scopes).tree; faults = (scalar_reading tables a scopes).faults ++ (scalar_reading tables b scopes).faults ++ unlike (scalar_reading tables a scopes) (scalar_reading tables b scopes) }
  unfolding cond_reading from_reading scalar_reading select_reading item_reading query_reading term_reading when_reading
  reading-Compare op a b scopes = ap (λ n. cond_reading tables n scopes) (sym (views.rolls-Compare op a b)) ∙ (λ j. fold-roll-NamedCond _ _ _ _ _ _ _ _ cond_step (from_step tables) scalar_step select_step item_step (query_step tables) term_step when_step (NamedCond-F.Compare op a b) j scopes)

  pub reading-Between : (negated : Bool) (a low high : NamedScalar) (scopes : Scopes) → cond_reading tables (named_cond.Between negated a low high) scopes ≡ record { tree = tree.Between negated (scalar_reading tables a scopes).tree (scalar_reading tables low scopes).tree (scalar_reading tables high scopes).tree; faults = (scalar_reading tables a scopes).faults ++ (scalar_reading tables low scopes).faults ++ (scalar_reading tables high scopes).faults ++ unlike (scalar_reading tables a scopes) (scalar_reading tables low scopes) ++ unlike (scalar_reading tables a scopes) (scalar_reading tables high scopes) }
  unfolding cond_reading from_reading scalar_reading select_reading item_reading query_reading term_reading when_reading
  reading-Between negated a low high scopes = ap (λ n. cond_reading tables n scopes) (sym (views.rolls-Between negated a low high)) ∙ (λ j. fold-roll-NamedCond _ _ _ _ _ _ _ _ cond_step (from_step tables) scalar_step select_step item_step (query_step tables) term_step when_step (NamedCond-F.Between negated a low high) j scopes)

  pub reading-OneOf : (negated : Bool) (a : NamedScalar) (list : List NamedScalar) (scopes : Scopes) → cond_reading tables (named_cond.OneOf negated a list) scopes ≡ record { tree = tree.OneOf negated (scalar_reading tables a scopes).tree (map (λ (b : In ScalarReading). (b scopes).tree) (map (scalar_reading tables) list)); faults = (scalar_reading tables a scopes).faults ++ flat_map (λ (b : In ScalarReading). (b scopes).faults ++ unlike (scalar_reading tables a scopes) (b scopes)) (map (scalar_reading tables) list) }
  unfolding cond_reading from_reading scalar_reading select_reading item_reading query_reading term_reading when_reading
  reading-OneOf negated a list scopes = ap (λ n. cond_reading tables n scopes) (sym (views.rolls-OneOf negated a list)) ∙ (λ j. fold-roll-NamedCond _ _ _ _ _ _ _ _ cond_step (from_step tables) scalar_step select_step item_step (query_step tables) term_step when_step (NamedCond-F.OneOf negated a list) j scopes)

  pub reading-IsNull : (negated : Bool) (a : NamedScalar) (scopes : Scopes) → cond_reading tables (named_cond.IsNull negated a) scopes ≡ record { tree = tree.IsNull negated (scalar_reading tables a scopes).tree; faults = (scalar_reading tables a scopes).faults }
  unfolding cond_reading from_reading scalar_reading select_reading item_reading query_reading term_reading when_reading
  reading-IsNull negated a scopes = ap (λ n. cond_reading tables n scopes) (sym (views.rolls-IsNull negated a)) ∙ (λ j. fold-roll-NamedCond _ _ _ _ _ _ _ _ cond_step (from_step tables) scalar_step select_step item_step (query_step tables) term_step when_step (NamedCond-F.IsNull negated a) j scopes)

  pub reading-Exists : (query : NamedQuery) (scopes : Scopes) → cond_reading tables (named_cond.Exists query) scopes ≡ record { tree = tree.Exists (query_reading tables query scopes).tree; faults = inner_faults (query_reading tables query scopes).at (query_reading tables query scopes).first }
  unfolding cond_reading from_reading scalar_reading select_reading item_reading query_reading term_reading when_reading
  reading-Exists query scopes = ap (λ n. cond_reading tables n scopes) (sym (views.rolls-Exists query)) ∙ (λ j. fold-roll-NamedCond _ _ _ _ _ _ _ _ cond_step (from_step tables) scalar_step select_step item_step (query_step tables) term_step when_step (NamedCond-F.Exists query) j scopes)

  pub reading-Column : (name : NameTree) (scopes : Scopes) → scalar_reading tables (named_scalar.Column name) scopes ≡ column_reading name scopes (places_of name.first name.second 0 (names_in scopes))
  unfolding cond_reading from_reading scalar_reading select_reading item_reading query_reading term_reading when_reading
  reading-Column name scopes = ap (λ n. scalar_reading tables n scopes) (sym (views.rolls-Column name)) ∙ (λ j. fold-roll-NamedScalar _ _ _ _ _ _ _ _ cond_step (from_step tables) scalar_step select_step item_step (query_step tables) term_step when_step (NamedScalar-F.Column name) j scopes)

  pub reading-Literal : (literal : LiteralTree) (scopes : Scopes) → scalar_reading tables (named_scalar.Literal literal) scopes ≡ literal_reading literal.value literal.at
  unfolding cond_reading from_reading scalar_reading select_reading item_reading query_reading term_reading when_reading
  reading-Literal literal scopes = ap (λ n. scalar_reading tables n scopes) (sym (views.rolls-Literal literal)) ∙ (λ j. fold-roll-NamedScalar _ _ _ _ _ _ _ _ cond_step (from_step tables) scalar_step select_step item_step (query_step tables) term_step when_step (NamedScalar-F.Literal literal) j scopes)

  pub reading-Sum : (terms : List NamedTerm) (scopes : Scopes) → scalar_reading tables (named_scalar.Sum terms) scopes ≡ sum_reading (map (λ (term : In TermReading). term scopes) (map (term_reading tables) terms))
  unfolding cond_reading from_reading scalar_reading select_reading item_reading query_reading term_reading when_reading
  reading-Sum terms scopes = ap (λ n. scalar_reading tables n scopes) (sym (views.rolls-Sum terms)) ∙ (λ j. fold-roll-NamedScalar _ _ _ _ _ _ _ _ cond_step (from_step tables) scalar_step select_step item_step (query_step tables) term_step when_step (NamedScalar-F.Sum terms) j scopes)

  abbrev pub last_reading : Option NamedScalar → Scopes → Option ScalarReading
  last_reading None scopes = None
  last_reading (Some value) scopes = Some (scalar_reading tables value scopes)

  pub reading-Case : (at : ℕ) (whens : List NamedWhen) (last : Option NamedScalar) (scopes : Scopes) → scalar_reading tables (named_scalar.Case at whens last) scopes ≡ case_reading at (map (λ (w : In WhenReading). w scopes) (map (when_reading tables) whens)) (last_reading last scopes)
  unfolding cond_reading from_reading scalar_reading select_reading item_reading query_reading term_reading when_reading
  reading-Case at whens None scopes = ap (λ n. scalar_reading tables n scopes) (sym (views.rolls-Case at whens None)) ∙ (λ j. fold-roll-NamedScalar _ _ _ _ _ _ _ _ cond_step (from_step tables) scalar_step select_step item_step (query_step tables) term_step when_step (NamedScalar-F.Case at whens None) j scopes)
  reading-Case at whens (Some value) scopes = ap (λ n. scalar_reading tables n scopes) (sym (views.rolls-Case at whens (Some value))) ∙ (λ j. fold-roll-NamedScalar _ _ _ _ _ _ _ _ cond_step (from_step tables) scalar_step select_step item_step (query_step tables) term_step when_step (NamedScalar-F.Case at whens (Some value)) j scopes)

  pub term_reading_is : (term : NamedTerm) (scopes : Scopes) → term_reading tables term scopes ≡ record { minus = term.minus; scalar = scalar_reading tables term.scalar scopes }
  unfolding cond_reading from_reading scalar_reading select_reading item_reading query_reading term_reading when_reading
  term_reading_is term scopes = search (rules, the_lemmas)

  pub when_reading_is : (when : NamedWhen) (scopes : Scopes) → when_reading tables when scopes ≡ record { cond = cond_reading tables when.cond scopes; value = scalar_reading tables when.value scopes }
  unfolding cond_reading from_reading scalar_reading select_reading item_reading query_reading term_reading when_reading
  when_reading_is when scopes = search (rules, the_lemmas)

  pub item_reading_is : (item : NamedItem) (scopes : Scopes) → item_reading tables item scopes ≡ record { name = item.name; scalar = scalar_reading tables item.value scopes }
  unfolding cond_reading from_reading scalar_reading select_reading item_reading query_reading term_reading when_reading
  item_reading_is item scopes = search (rules, the_lemmas)

  pub reading-Items : (items : List NamedItem) (scopes : Scopes) → select_reading tables (named_select.Items items) scopes ≡ outputs_from 1 (map (λ (item : In ItemReading). item scopes) (map (item_reading tables) items))
  unfolding cond_reading from_reading scalar_reading select_reading item_reading query_reading term_reading when_reading
  reading-Items items scopes = ap (λ n. select_reading tables n scopes) (sym (views.rolls-Items items)) ∙ (λ j. fold-roll-NamedSelect _ _ _ _ _ _ _ _ cond_step (from_step tables) scalar_step select_step item_step (query_step tables) term_step when_step (NamedSelect-F.Items items) j scopes)

  pub reading-Table : (tree : FromTree) → from_reading tables (named_from.Table tree) ≡ table_reading tables tree (table_place tables tree.table)
  unfolding cond_reading from_reading scalar_reading select_reading item_reading query_reading term_reading when_reading
  reading-Table tree = ap (from_reading tables) (sym (views.rolls-Table tree)) ∙ fold-roll-NamedFrom _ _ _ _ _ _ _ _ cond_step (from_step tables) scalar_step select_step item_step (query_step tables) term_step when_step (NamedFrom-F.Table tree)

  pub reading-Derived : (query : NamedQuery) (name : List ℕ) (name_at : ℕ) → from_reading tables (named_from.Derived query name name_at) ≡ record {
    tree = record { name = name; source = source.Derived (query_reading tables query []).tree };
    item = record { name = name; columns = (query_reading tables query []).columns };
    name_at = name_at;
    faults = inner_faults (query_reading tables query []).at (query_reading tables query []).first;
  }
  unfolding cond_reading from_reading scalar_reading select_reading item_reading query_reading term_reading when_reading
  reading-Derived query name name_at = ap (from_reading tables) (sym (views.rolls-Derived query name name_at)) ∙ fold-roll-NamedFrom _ _ _ _ _ _ _ _ cond_step (from_step tables) scalar_step select_step item_step (query_step tables) term_step when_step (NamedFrom-F.Derived query name name_at)

  pub reading-All : (scopes : Scopes) → select_reading tables named_select.All scopes ≡ all_columns 0 (own_scope scopes)
  unfolding cond_reading from_reading scalar_reading select_reading item_reading query_reading term_reading when_reading
  reading-All scopes = ap (λ n. select_reading tables n scopes) (sym views.rolls-All) ∙ (λ j. fold-roll-NamedSelect _ _ _ _ _ _ _ _ cond_step (from_step tables) scalar_step select_step item_step (query_step tables) term_step when_step NamedSelect-F.All j scopes)

  abbrev pub filter_reading : Option NamedCond → Scopes → Option CondReading
  filter_reading None scopes = None
  filter_reading (Some cond) scopes = Some (cond_reading tables cond scopes)

  -- a query by the meaning of its parts
  abbrev pub whole_reading : ℕ → Bool → List FromReading → List OutputReading → Option CondReading → QueryReading
  whole_reading at distinct froms outputs filter = record {
    at = at;
    tree = roll-SqlQuery (record { distinct = distinct; items = map (λ (output : OutputReading). output.item) outputs; from = map (λ (from : FromReading). from.tree) froms; filter = cond_tree tables filter; order = [] });
    columns = map (λ (output : OutputReading). output.column) outputs;
    first = either_spot (first_spot (flat_map (λ (from : FromReading). from.faults) froms ++ repeated [] froms))
        (either_spot (first_spot (flat_map (λ (output : OutputReading). output.faults) outputs)) (first_spot (cond_faults tables filter)));
  }

  abbrev pub own_scopes : List NamedFrom → Scopes → Scopes
  own_scopes fs outer = map (λ (from : FromReading). from.item) (map (from_reading tables) fs) ∷ outer

  pub by_parts : (at : ℕ) (d : Bool) (s : NamedSelect) (fs : List NamedFrom) (o : Option NamedCond) (outer : Scopes) →
      query_reading tables (query_tree (at, (d, (s, (fs, o))))) outer ≡ whole_reading at d (map (from_reading tables) fs) (select_reading tables s (own_scopes fs outer)) (filter_reading o (own_scopes fs outer))
  unfolding cond_reading from_reading scalar_reading select_reading item_reading query_reading term_reading when_reading
  by_parts at d s fs None outer = λ j. fold-roll-NamedQuery _ _ _ _ _ _ _ _ cond_step (from_step tables) scalar_step select_step item_step (query_step tables) term_step when_step (record { at = at; distinct = d; select = s; from = fs; filter = None }) j outer
  by_parts at d s fs (Some c) outer = λ j. fold-roll-NamedQuery _ _ _ _ _ _ _ _ cond_step (from_step tables) scalar_step select_step item_step (query_step tables) term_step when_step (record { at = at; distinct = d; select = s; from = fs; filter = Some c }) j outer
