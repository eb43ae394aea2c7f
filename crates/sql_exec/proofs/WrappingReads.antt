-- The meaning of each part of a query with sums and signs in the range of a 128-bit number, by the meaning of the parts below it.
use Rattle.std.proofs.Common.{◌≡◌, ℤ, ℕ, Bool, true, Option, Some, None, List, [], ◌∷◌, map, cond, refl, sym, ap, ◌∙◌, rules}
use Rattle.std.specs.Option.{option_map}
use Rattle.std.specs.List.{filter, list_any}
use Rattle.std.proofs.lemmas.Simd.{map-map}
use Rattle.prefsql_values.specs.declared.value.Value.TheVariants.{Num, Str, Null}
use Rattle.prefsql_values.specs.declared.value.CompareOp.{CompareOp}
use Rattle.prefsql_values.specs.Truth.{negated, negated_if, all_true, any_true, is_true}
use Rattle.prefsql_values.specs.Value.{comparison, between, one_of, is_null, truth_of}
use Rattle.prefsql_tables.specs.Table.{Tables, rows_of}
use Rattle.prefsql_tables.specs.declared.table.AnswerRow.{AnswerRow}
use Rattle.prefsql_tables.specs.Product.{product}
use Rattle.prefsql_tables.specs.Distinct.{each_once}
use Rattle.sql_tree.specs.declared.tree.SqlCond.{SqlCond, And, Or, Not, Compare, Between, OneOf, IsNull, Exists}
use Rattle.sql_tree.specs.declared.tree.SqlCond.TheFolds.{the_lemmas, fold-roll-SqlScalar, fold_out-SqlQuery}
use Rattle.sql_tree.specs.declared.tree.SqlCond.TheOpen.{SqlScalar-F, SqlQuery-F}
use Rattle.sql_tree.specs.declared.tree.SqlCond.TheShapes.{former-SqlQuery-filter}
use Rattle.sql_tree.specs.declared.tree.SqlCond.TheViews.{rolls-Case}
use Rattle.sql_tree.specs.declared.tree.SqlScalar.{SqlScalar, Column, Number, Chars, Sum, Case}
use Rattle.sql_tree.specs.declared.tree.SqlPlace.{SqlPlace}
use Rattle.sql_tree.specs.declared.tree.SqlTable.{SqlTable}
use Rattle.sql_tree.specs.declared.tree.SqlSource.{SqlSource, Table, Derived}
use Rattle.sql_tree.specs.declared.tree.SqlFrom.{SqlFrom}
use Rattle.sql_tree.specs.declared.tree.SqlItem.{SqlItem}
use Rattle.sql_tree.specs.declared.tree.SqlQuery.{SqlQuery, out-SqlQuery, out-roll-SqlQuery}
use Rattle.sql_tree.specs.declared.tree.SumTerm.{SumTerm}
use Rattle.sql_tree.specs.declared.tree.SqlWhen.{SqlWhen}
use Rattle.prefsql_tables.specs.declared.place.SortKey.{SortKey}
use Rattle.sql_tree.specs.Select.{select}
use Rattle.sql_tree.specs.Meaning.{Scopes, Level, CondMeaning, cond_step, source_step, from_step, item_step, query_step, when_step, place_value, first_some, or_else, else_value, is_kept}
use Rattle.sql_exec.specs.Wrapping.{scalar_step, term_step, truth_in, value_in, source_rows, from_rows, item_value, rows_in, when_value, term_value, wrapped_sign, wrapped_sum}

-- the parts of a query
abbrev Parts : Type 0
Parts = SqlQuery-F SqlCond SqlScalar SqlSource SqlFrom SqlItem SqlQuery SqlWhen SumTerm

module _ (tables : Tables) where
  pub truth_in-And : (parts : List SqlCond) (scopes : Scopes) → truth_in tables (And parts) scopes ≡ all_true (map (λ part. truth_in tables part scopes) parts)
  unfolding truth_in value_in source_rows from_rows item_value rows_in when_value term_value
  truth_in-And parts scopes = search (rules, the_lemmas, map-map)

  pub truth_in-Or : (parts : List SqlCond) (scopes : Scopes) → truth_in tables (Or parts) scopes ≡ any_true (map (λ part. truth_in tables part scopes) parts)
  unfolding truth_in value_in source_rows from_rows item_value rows_in when_value term_value
  truth_in-Or parts scopes = search (rules, the_lemmas, map-map)

  pub truth_in-Not : (part : SqlCond) (scopes : Scopes) → truth_in tables (Not part) scopes ≡ negated (truth_in tables part scopes)
  unfolding truth_in value_in source_rows from_rows item_value rows_in when_value term_value
  truth_in-Not part scopes = search (rules, the_lemmas)

  pub truth_in-Compare : (op : CompareOp) (a b : SqlScalar) (scopes : Scopes) → truth_in tables (Compare op a b) scopes ≡ comparison op (value_in tables a scopes) (value_in tables b scopes)
  unfolding truth_in value_in source_rows from_rows item_value rows_in when_value term_value
  truth_in-Compare op a b scopes = search (rules, the_lemmas)

  pub truth_in-Between : (negate : Bool) (a low high : SqlScalar) (scopes : Scopes) → truth_in tables (Between negate a low high) scopes ≡ negated_if negate (between (value_in tables a scopes) (value_in tables low scopes) (value_in tables high scopes))
  unfolding truth_in value_in source_rows from_rows item_value rows_in when_value term_value
  truth_in-Between negate a low high scopes = search (rules, the_lemmas)

  pub truth_in-OneOf : (negate : Bool) (a : SqlScalar) (list : List SqlScalar) (scopes : Scopes) → truth_in tables (OneOf negate a list) scopes ≡ negated_if negate (one_of (value_in tables a scopes) (map (λ b. value_in tables b scopes) list))
  unfolding truth_in value_in source_rows from_rows item_value rows_in when_value term_value
  truth_in-OneOf negate a list scopes = search (rules, the_lemmas, map-map)

  pub truth_in-IsNull : (negate : Bool) (a : SqlScalar) (scopes : Scopes) → truth_in tables (IsNull negate a) scopes ≡ negated_if negate (truth_of (is_null (value_in tables a scopes)))
  unfolding truth_in value_in source_rows from_rows item_value rows_in when_value term_value
  truth_in-IsNull negate a scopes = search (rules, the_lemmas)

  pub truth_in-Exists : (query : SqlQuery) (scopes : Scopes) → truth_in tables (Exists query) scopes ≡ truth_of (list_any (λ _. true) (rows_in tables query scopes))
  unfolding truth_in value_in source_rows from_rows item_value rows_in when_value term_value
  truth_in-Exists query scopes = search (rules, the_lemmas)

  pub value_in-Column : (place : SqlPlace) (scopes : Scopes) → value_in tables (Column place) scopes ≡ place_value scopes place
  unfolding truth_in value_in source_rows from_rows item_value rows_in when_value term_value
  value_in-Column place scopes = search (rules, the_lemmas)

  pub value_in-Number : (n : ℤ) (scopes : Scopes) → value_in tables (Number n) scopes ≡ Num n
  unfolding truth_in value_in source_rows from_rows item_value rows_in when_value term_value
  value_in-Number n scopes = search (rules, the_lemmas)

  pub value_in-Chars : (text : List ℕ) (scopes : Scopes) → value_in tables (Chars text) scopes ≡ Str text
  unfolding truth_in value_in source_rows from_rows item_value rows_in when_value term_value
  value_in-Chars text scopes = search (rules, the_lemmas)

  pub value_in-Sum : (terms : List SumTerm) (scopes : Scopes) → value_in tables (Sum terms) scopes ≡ wrapped_sum (map (λ term. term_value tables term scopes) terms)
  unfolding truth_in value_in source_rows from_rows item_value rows_in when_value term_value
  value_in-Sum terms scopes = search (rules, the_lemmas, map-map)

  pub value_in-Case_None : (whens : List SqlWhen) (scopes : Scopes) → value_in tables (Case whens None) scopes ≡ or_else (first_some (map (λ w. when_value tables w scopes) whens)) Null
  unfolding truth_in value_in source_rows from_rows item_value rows_in when_value term_value
  value_in-Case_None whens scopes = search (rules, the_lemmas, map-map)

  pub value_in-Case_Some : (whens : List SqlWhen) (last : SqlScalar) (scopes : Scopes) → value_in tables (Case whens (Some last)) scopes ≡ or_else (first_some (map (λ w. when_value tables w scopes) whens)) (value_in tables last scopes)
  unfolding truth_in value_in source_rows from_rows item_value rows_in when_value term_value
  value_in-Case_Some whens last scopes =
      ap (λ s. value_in tables s scopes) (sym (rolls-Case whens (Some last)))
      ∙ (λ j. fold-roll-SqlScalar _ _ _ _ _ _ _ _ (cond_step tables) scalar_step (source_step tables) (from_step tables) (item_step tables) (query_step tables) (when_step tables) term_step (SqlScalar-F.Case whens (Some last)) j scopes)
      ∙ ap (λ vs. or_else (first_some vs) (value_in tables last scopes)) (map-map (λ w. w scopes) (when_value tables) whens)

  pub value_in-Case : (whens : List SqlWhen) (last : Option SqlScalar) (scopes : Scopes) → value_in tables (Case whens last) scopes ≡ or_else (first_some (map (λ w. when_value tables w scopes) whens)) (else_value (option_map (value_in tables) last) scopes)
  value_in-Case whens None scopes = value_in-Case_None whens scopes
  value_in-Case whens (Some last) scopes = value_in-Case_Some whens last scopes

  pub when_value_is : (when : SqlWhen) (scopes : Scopes) → when_value tables when scopes ≡ cond (is_true (truth_in tables when.cond scopes)) (Some (value_in tables when.value scopes)) None
  unfolding truth_in value_in source_rows from_rows item_value rows_in when_value term_value
  when_value_is when scopes = search (rules, the_lemmas)

  pub term_value_is : (term : SumTerm) (scopes : Scopes) → term_value tables term scopes ≡ wrapped_sign term.minus (value_in tables term.scalar scopes)
  unfolding truth_in value_in source_rows from_rows item_value rows_in when_value term_value
  term_value_is term scopes = search (rules, the_lemmas)

  pub item_value_is : (item : SqlItem) (scopes : Scopes) → item_value tables item scopes ≡ value_in tables item.value scopes
  unfolding truth_in value_in source_rows from_rows item_value rows_in when_value term_value
  item_value_is item scopes = search (rules, the_lemmas)

  pub from_rows_is : (from : SqlFrom) → from_rows tables from ≡ source_rows tables from.source
  unfolding truth_in value_in source_rows from_rows item_value rows_in when_value term_value
  from_rows_is from = search (rules, the_lemmas)

  pub source_rows-Table : (table : SqlTable) → source_rows tables (Table table) ≡ rows_of tables table.index
  unfolding truth_in value_in source_rows from_rows item_value rows_in when_value term_value
  source_rows-Table table = search (rules, the_lemmas)

  pub source_rows-Derived : (query : SqlQuery) → source_rows tables (Derived query) ≡ rows_in tables query []
  unfolding truth_in value_in source_rows from_rows item_value rows_in when_value term_value
  source_rows-Derived query = search (rules, the_lemmas)

  -- a query's rows before DISTINCT
  abbrev pub all_rows : SqlQuery → Scopes → List AnswerRow
  all_rows query scopes =
      map (λ scope. record { cells = map (λ item. item_value tables item (scope ∷ scopes)) (out-SqlQuery query).items })
      (filter (λ scope. is_kept (option_map (truth_in tables) (out-SqlQuery query).filter) (scope ∷ scopes)) (product (map (from_rows tables) (out-SqlQuery query).from)))

  abbrev with_filter : SqlQuery → Option CondMeaning → Level SqlQuery-F
  with_filter query filter = record {
    distinct = (out-SqlQuery query).distinct;
    items = map (item_value tables) (out-SqlQuery query).items;
    from = map (from_rows tables) (out-SqlQuery query).from;
    filter = filter;
    order = (out-SqlQuery query).order;
  }

  mapped_filter : (o : Option SqlCond) → former-SqlQuery-filter.map SqlCond CondMeaning (truth_in tables) o ≡ option_map (truth_in tables) o
  mapped_filter None = refl
  mapped_filter (Some cond) = refl

  rows_at : (query : SqlQuery) (scopes : Scopes) →
      map (λ scope. record { cells = map (λ item. item (scope ∷ scopes)) (map (item_value tables) (out-SqlQuery query).items) })
      (filter (λ scope. is_kept (option_map (truth_in tables) (out-SqlQuery query).filter) (scope ∷ scopes)) (product (map (from_rows tables) (out-SqlQuery query).from)))
      ≡ all_rows query scopes
  rows_at query scopes = λ j. map (λ scope. record { cells = map-map (λ item. item (scope ∷ scopes)) (item_value tables) (out-SqlQuery query).items j })
      (filter (λ scope. is_kept (option_map (truth_in tables) (out-SqlQuery query).filter) (scope ∷ scopes)) (product (map (from_rows tables) (out-SqlQuery query).from)))

  pub rows_in_is : (query : SqlQuery) (scopes : Scopes) → rows_in tables query scopes ≡ cond (out-SqlQuery query).distinct (each_once (all_rows query scopes)) (all_rows query scopes)
  unfolding truth_in value_in source_rows from_rows item_value rows_in when_value term_value
  rows_in_is query scopes =
      (λ j. fold_out-SqlQuery _ _ _ _ _ _ _ _ (cond_step tables) scalar_step (source_step tables) (from_step tables) (item_step tables) (query_step tables) (when_step tables) term_step query j scopes)
      ∙ (λ j. query_step tables (with_filter query (mapped_filter (out-SqlQuery query).filter j)) scopes)
      ∙ (λ j. cond (out-SqlQuery query).distinct (each_once (rows_at query scopes j)) (rows_at query scopes j))

  -- a query's rows, by its parts
  abbrev pub passes : Option SqlCond → Scopes → Bool
  passes filter scopes = is_kept (option_map (truth_in tables) filter) scopes

  abbrev pub row_of : List SqlItem → Scopes → AnswerRow
  row_of items scopes = record { cells = map (λ (item : SqlItem). value_in tables item.value scopes) items }

  abbrev pub selected : List SqlItem → List SqlFrom → Option SqlCond → Scopes → List AnswerRow
  selected items from kept scopes = map (λ scope. row_of items (scope ∷ scopes)) (filter (λ scope. passes kept (scope ∷ scopes)) (product (map (from_rows tables) from)))

  items_are : (items : List SqlItem) (scopes : Scopes) → map (λ item. item_value tables item scopes) items ≡ map (λ (item : SqlItem). value_in tables item.value scopes) items
  items_are [] scopes = refl
  items_are (item ∷ items) scopes = λ j. item_value_is item scopes j ∷ items_are items scopes j

  abbrev rows_by : Parts → Scopes → List AnswerRow
  rows_by parts scopes =
      map (λ scope. record { cells = map (λ item. item_value tables item (scope ∷ scopes)) parts.items })
      (filter (λ scope. is_kept (option_map (truth_in tables) parts.filter) (scope ∷ scopes)) (product (map (from_rows tables) parts.from)))

  pub rows_in-select : (distinct : Bool) (items : List SqlItem) (from : List SqlFrom) (kept : Option SqlCond) (order : List SortKey) (scopes : Scopes)
      → rows_in tables (select distinct items from kept order) scopes ≡ cond distinct (each_once (selected items from kept scopes)) (selected items from kept scopes)
  rows_in-select distinct items from kept order scopes =
      rows_in_is (select distinct items from kept order) scopes
      ∙ ap (λ (parts : Parts). cond parts.distinct (each_once (rows_by parts scopes)) (rows_by parts scopes)) (out-roll-SqlQuery (record { distinct = distinct; items = items; from = from; filter = kept; order = order }))
      ∙ (λ j. cond distinct (each_once (at j)) (at j))
    where
      at : map (λ scope. record { cells = map (λ item. item_value tables item (scope ∷ scopes)) items }) (filter (λ scope. passes kept (scope ∷ scopes)) (product (map (from_rows tables) from))) ≡ selected items from kept scopes
      at = λ j. map (λ scope. record { cells = items_are items (scope ∷ scopes) j }) (filter (λ scope. passes kept (scope ∷ scopes)) (product (map (from_rows tables) from)))
