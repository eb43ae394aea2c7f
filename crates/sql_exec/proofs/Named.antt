-- The tables that each part names, by those of the parts below it, and that they are there where
-- those of the whole are.
use Rattle.std.proofs.Common.{◌≡◌, ℕ, zero, suc, ◌<◌, length, get_or, Bool, Option, Some, None, List, [], ◌∷◌, ◌++◌, All, arith, refl, sym, ap, ◌∙◌, subst}
use Rattle.std.specs.List.{flat_map}
use Rattle.std.specs.Option.{option_map}
use Rattle.std.proofs.Math.Seq.{take-append_seam, drop-append_seam}
use Rattle.std.proofs.lemmas.List.Elements.{All-head, All-take, All-drop}
use Rattle.prefsql_values.specs.declared.value.CompareOp.{CompareOp}
use Rattle.sql_tree.specs.declared.tree.SqlTable.{SqlTable}
use Rattle.sql_tree.specs.declared.tree.SqlCond.{SqlCond, And, Or, Not, Compare, Between, OneOf, IsNull, Exists}
use Rattle.sql_tree.specs.declared.tree.SqlScalar.{SqlScalar, Sum, Case}
use Rattle.sql_tree.specs.declared.tree.SqlFrom.{SqlFrom}
use Rattle.sql_tree.specs.declared.tree.SqlItem.{SqlItem}
use Rattle.sql_tree.specs.declared.tree.SqlSource.{Table, Derived}
use Rattle.sql_tree.specs.declared.tree.SqlWhen.{SqlWhen}
use Rattle.sql_tree.specs.declared.tree.SumTerm.{SumTerm}
use Rattle.sql_tree.specs.declared.tree.SqlQuery.{SqlQuery, out-SqlQuery}
use Rattle.sql_tree.proofs.PartTables.{tables-And, tables-Between, tables-Case, tables-Compare, tables-Derived, tables-Exists, tables-IsNull, tables-Not, tables-OneOf, tables-Or, tables-Sum, tables-Table, tables-from, tables-item, tables-query, tables-term, tables-when}
use Rattle.sql_tree.specs.Fits.{filter_tables, if_written, tables_of}
use Rattle.sql_tree.specs.Fits.{cond_tables, scalar_tables, source_tables, from_tables, item_tables, when_tables, term_tables}

same_filter : (o : Option SqlCond) → filter_tables o ≡ if_written (option_map cond_tables o)
same_filter None = refl
same_filter (Some cond) = refl

of_query : (query : SqlQuery) → tables_of query ≡ flat_map item_tables (out-SqlQuery query).items ++ flat_map from_tables (out-SqlQuery query).from ++ if_written (option_map cond_tables (out-SqlQuery query).filter)
of_query query =
    tables-query query
    ∙ (λ j. flat_map item_tables (out-SqlQuery query).items ++ flat_map from_tables (out-SqlQuery query).from ++ same_filter (out-SqlQuery query).filter j)

-- ---- where the tables of the whole are there, so are those of each part

module _ (P : SqlTable → Type 0) where
  pub left : (xs ys : List SqlTable) → All P (xs ++ ys) → All P xs
  left xs ys all = subst (All P) (take-append_seam xs ys) (All-take P (length xs) (xs ++ ys) all)

  pub right : (xs ys : List SqlTable) → All P (xs ++ ys) → All P ys
  right xs ys all = subst (All P) (drop-append_seam xs ys) (All-drop P (length xs) (xs ++ ys) all)

  -- of one part of a list
  pub each_there : {X : Type 0} (f : X → List SqlTable) (xs : List X) (i : ℕ) (d x : X) → i < length xs → x ≡ get_or xs i d → All P (flat_map f xs) → All P (f x)
  each_there f [] i d x within is all = absurd (omega arith)
  each_there f (y ∷ ys) zero d x within is all = subst (λ z. All P (f z)) (sym is) (left (f y) (flat_map f ys) all)
  each_there f (y ∷ ys) (suc i) d x within is all = each_there f ys i d x (omega arith) is (right (f y) (flat_map f ys) all)

  pub And_there : (whole : SqlCond) (parts : List SqlCond) → whole ≡ And parts → All P (cond_tables whole) → All P (flat_map cond_tables parts)
  And_there whole parts is all = subst (All P) (ap cond_tables is ∙ tables-And parts) all

  pub Or_there : (whole : SqlCond) (parts : List SqlCond) → whole ≡ Or parts → All P (cond_tables whole) → All P (flat_map cond_tables parts)
  Or_there whole parts is all = subst (All P) (ap cond_tables is ∙ tables-Or parts) all

  pub Not_there : (whole part : SqlCond) → whole ≡ Not part → All P (cond_tables whole) → All P (cond_tables part)
  Not_there whole part is all = subst (All P) (ap cond_tables is ∙ tables-Not part) all

  Compare_both : (whole : SqlCond) (op : CompareOp) (a b : SqlScalar) → whole ≡ Compare op a b → All P (cond_tables whole) → All P (scalar_tables a ++ scalar_tables b)
  Compare_both whole op a b is all = subst (All P) (ap cond_tables is ∙ tables-Compare op a b) all

  pub Compare_left : (whole : SqlCond) (op : CompareOp) (a b : SqlScalar) → whole ≡ Compare op a b → All P (cond_tables whole) → All P (scalar_tables a)
  Compare_left whole op a b is all = left (scalar_tables a) (scalar_tables b) (Compare_both whole op a b is all)

  pub Compare_right : (whole : SqlCond) (op : CompareOp) (a b : SqlScalar) → whole ≡ Compare op a b → All P (cond_tables whole) → All P (scalar_tables b)
  Compare_right whole op a b is all = right (scalar_tables a) (scalar_tables b) (Compare_both whole op a b is all)

  Between_all : (whole : SqlCond) (negate : Bool) (a low high : SqlScalar) → whole ≡ Between negate a low high → All P (cond_tables whole) → All P (scalar_tables a ++ scalar_tables low ++ scalar_tables high)
  Between_all whole negate a low high is all = subst (All P) (ap cond_tables is ∙ tables-Between negate a low high) all

  pub Between_scalar : (whole : SqlCond) (negate : Bool) (a low high : SqlScalar) → whole ≡ Between negate a low high → All P (cond_tables whole) → All P (scalar_tables a)
  Between_scalar whole negate a low high is all = left (scalar_tables a) (scalar_tables low) (left (scalar_tables a ++ scalar_tables low) (scalar_tables high) (Between_all whole negate a low high is all))

  pub Between_low : (whole : SqlCond) (negate : Bool) (a low high : SqlScalar) → whole ≡ Between negate a low high → All P (cond_tables whole) → All P (scalar_tables low)
  Between_low whole negate a low high is all = right (scalar_tables a) (scalar_tables low) (left (scalar_tables a ++ scalar_tables low) (scalar_tables high) (Between_all whole negate a low high is all))

  pub Between_high : (whole : SqlCond) (negate : Bool) (a low high : SqlScalar) → whole ≡ Between negate a low high → All P (cond_tables whole) → All P (scalar_tables high)
  Between_high whole negate a low high is all = right (scalar_tables a ++ scalar_tables low) (scalar_tables high) (Between_all whole negate a low high is all)

  OneOf_all : (whole : SqlCond) (negate : Bool) (a : SqlScalar) (list : List SqlScalar) → whole ≡ OneOf negate a list → All P (cond_tables whole) → All P (scalar_tables a ++ flat_map scalar_tables list)
  OneOf_all whole negate a list is all = subst (All P) (ap cond_tables is ∙ tables-OneOf negate a list) all

  pub OneOf_scalar : (whole : SqlCond) (negate : Bool) (a : SqlScalar) (list : List SqlScalar) → whole ≡ OneOf negate a list → All P (cond_tables whole) → All P (scalar_tables a)
  OneOf_scalar whole negate a list is all = left (scalar_tables a) (flat_map scalar_tables list) (OneOf_all whole negate a list is all)

  pub OneOf_list : (whole : SqlCond) (negate : Bool) (a : SqlScalar) (list : List SqlScalar) → whole ≡ OneOf negate a list → All P (cond_tables whole) → All P (flat_map scalar_tables list)
  OneOf_list whole negate a list is all = right (scalar_tables a) (flat_map scalar_tables list) (OneOf_all whole negate a list is all)

  pub IsNull_there : (whole : SqlCond) (negate : Bool) (a : SqlScalar) → whole ≡ IsNull negate a → All P (cond_tables whole) → All P (scalar_tables a)
  IsNull_there whole negate a is all = subst (All P) (ap cond_tables is ∙ tables-IsNull negate a) all

  pub Exists_there : (whole : SqlCond) (query : SqlQuery) → whole ≡ Exists query → All P (cond_tables whole) → All P (tables_of query)
  Exists_there whole query is all = subst (All P) (ap cond_tables is ∙ tables-Exists query) all

  pub Sum_there : (whole : SqlScalar) (terms : List SumTerm) → whole ≡ Sum terms → All P (scalar_tables whole) → All P (flat_map term_tables terms)
  Sum_there whole terms is all = subst (All P) (ap scalar_tables is ∙ tables-Sum terms) all

  Case_all : (whole : SqlScalar) (whens : List SqlWhen) (last : Option SqlScalar) → whole ≡ Case whens last → All P (scalar_tables whole) → All P (flat_map when_tables whens ++ if_written (option_map scalar_tables last))
  Case_all whole whens last is all = subst (All P) (ap scalar_tables is ∙ tables-Case whens last) all

  pub Case_whens : (whole : SqlScalar) (whens : List SqlWhen) (last : Option SqlScalar) → whole ≡ Case whens last → All P (scalar_tables whole) → All P (flat_map when_tables whens)
  Case_whens whole whens last is all = left (flat_map when_tables whens) (if_written (option_map scalar_tables last)) (Case_all whole whens last is all)

  pub Case_last : (whole : SqlScalar) (whens : List SqlWhen) (last : Option SqlScalar) → whole ≡ Case whens last → All P (scalar_tables whole) → All P (if_written (option_map scalar_tables last))
  Case_last whole whens last is all = right (flat_map when_tables whens) (if_written (option_map scalar_tables last)) (Case_all whole whens last is all)

  pub when_cond : (when : SqlWhen) → All P (when_tables when) → All P (cond_tables when.cond)
  when_cond when all = left (cond_tables when.cond) (scalar_tables when.value) (subst (All P) (tables-when when) all)

  pub when_scalar : (when : SqlWhen) → All P (when_tables when) → All P (scalar_tables when.value)
  when_scalar when all = right (cond_tables when.cond) (scalar_tables when.value) (subst (All P) (tables-when when) all)

  pub term_there : (term : SumTerm) → All P (term_tables term) → All P (scalar_tables term.scalar)
  term_there term all = subst (All P) (tables-term term) all

  pub item_there : (item : SqlItem) → All P (item_tables item) → All P (scalar_tables item.value)
  item_there item all = subst (All P) (tables-item item) all

  pub Table_there : (from : SqlFrom) (table : SqlTable) → from.source ≡ Table table → All P (from_tables from) → P table
  Table_there from table is all = All-head P table [] (subst (All P) (tables-from from ∙ ap source_tables is ∙ tables-Table table) all)

  pub Derived_there : (from : SqlFrom) (query : SqlQuery) → from.source ≡ Derived query → All P (from_tables from) → All P (tables_of query)
  Derived_there from query is all = subst (All P) (tables-from from ∙ ap source_tables is ∙ tables-Derived query) all

  query_all : (query : SqlQuery) → All P (tables_of query) → All P (flat_map item_tables (out-SqlQuery query).items ++ flat_map from_tables (out-SqlQuery query).from ++ if_written (option_map cond_tables (out-SqlQuery query).filter))
  query_all query all = subst (All P) (of_query query) all

  pub query_filter : (query : SqlQuery) → All P (tables_of query) → All P (if_written (option_map cond_tables (out-SqlQuery query).filter))
  query_filter query all = right (flat_map item_tables (out-SqlQuery query).items ++ flat_map from_tables (out-SqlQuery query).from) (if_written (option_map cond_tables (out-SqlQuery query).filter)) (query_all query all)

  query_front : (query : SqlQuery) → All P (tables_of query) → All P (flat_map item_tables (out-SqlQuery query).items ++ flat_map from_tables (out-SqlQuery query).from)
  query_front query all = left (flat_map item_tables (out-SqlQuery query).items ++ flat_map from_tables (out-SqlQuery query).from) (if_written (option_map cond_tables (out-SqlQuery query).filter)) (query_all query all)

  pub query_items : (query : SqlQuery) → All P (tables_of query) → All P (flat_map item_tables (out-SqlQuery query).items)
  query_items query all = left (flat_map item_tables (out-SqlQuery query).items) (flat_map from_tables (out-SqlQuery query).from) (query_front query all)

  pub query_from : (query : SqlQuery) → All P (tables_of query) → All P (flat_map from_tables (out-SqlQuery query).from)
  query_from query all = right (flat_map item_tables (out-SqlQuery query).items) (flat_map from_tables (out-SqlQuery query).from) (query_front query all)

  pub some_scalar : (o : Option SqlScalar) (scalar : SqlScalar) → o ≡ Some scalar → All P (if_written (option_map scalar_tables o)) → All P (scalar_tables scalar)
  some_scalar o scalar is all = subst (λ (written : Option SqlScalar). All P (if_written (option_map scalar_tables written))) is all

  pub some_cond : (o : Option SqlCond) (part : SqlCond) → o ≡ Some part → All P (if_written (option_map cond_tables o)) → All P (cond_tables part)
  some_cond o part is all = subst (λ (written : Option SqlCond). All P (if_written (option_map cond_tables written))) is all
