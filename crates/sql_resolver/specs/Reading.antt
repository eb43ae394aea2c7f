-- What each part of an SQL query means over a set of tables: the tree that it is, and what it owes
-- and does not keep. The profile of SQL-92 (ISO/IEC 9075:1992), the codes, their places and their
-- order are this project's own.
use Rattle.std.specs.Prelude.{ℕ, ◌+◌, pos, Bool, if◌then◌else◌, nat_lt, List, [], ◌∷◌, ◌++◌, map}
use Rattle.std.specs.Prelude.{max, Option, Some, None, codes, slice_index_or}
use Rattle.std.specs.List.{flat_map, list_any}
use Rattle.std.specs.Str.{bytes_eq}
use Rattle.std.specs.Fmt.{decimal}
use Rattle.prefsql_lexer.specs.declared.fault.Spot.{Spot}
use Rattle.prefsql_values.specs.declared.value.Domain.{Domain}
use Rattle.prefsql_values.specs.declared.value.Domain.TheVariants.{Integer, Chars as CharsDomain}
use Rattle.prefsql_values.specs.declared.value.Value.{Value}
use Rattle.prefsql_values.specs.declared.value.Value.TheVariants.{Num, Str, Null}
use Rattle.prefsql_tables.specs.declared.schema.Column.{Column as TableColumn}
use Rattle.prefsql_tables.specs.Table.{Tables, columns_of}
use Rattle.prefsql_tables.specs.Names.{table_place}
use Rattle.query_tree.specs.declared.name.NameTree.{NameTree}
use Rattle.query_tree.specs.declared.query.FromTree.{FromTree}
use Rattle.sql_tree.specs.declared.tree.SqlPlace.{SqlPlace}
use Rattle.sql_tree.specs.declared.tree.SqlScalar.{SqlScalar, Column, Number, Chars, Sum, Case}
use Rattle.sql_tree.specs.declared.tree.SqlCond.{SqlCond, And, Or, Not, Compare, Between, OneOf}
use Rattle.sql_tree.specs.declared.tree.SqlCond.{IsNull, Exists}
use Rattle.sql_tree.specs.declared.tree.SqlSource.{Table, Derived}
use Rattle.sql_tree.specs.declared.tree.SqlItem.{SqlItem}
use Rattle.sql_tree.specs.declared.tree.SqlFrom.{SqlFrom}
use Rattle.sql_tree.specs.declared.tree.SqlQuery.{SqlQuery, roll-SqlQuery}
use Rattle.sql_tree.specs.Shown.{domain_shape, short_bound}
use Rattle.sql_text.specs.declared.named.NamedCond.{NamedCond, fold-NamedCond}
use Rattle.sql_text.specs.declared.named.NamedCond.TheOpen.{NamedCond-F, NamedFrom-F, NamedScalar-F}
use Rattle.sql_text.specs.declared.named.NamedCond.TheOpen.{NamedSelect-F, NamedItem-F}
use Rattle.sql_text.specs.declared.named.NamedCond.TheOpen.{NamedQuery-F, NamedTerm-F, NamedWhen-F}
use Rattle.sql_text.specs.declared.named.NamedFrom.{NamedFrom, fold-NamedFrom}
use Rattle.sql_text.specs.declared.named.NamedScalar.{NamedScalar, fold-NamedScalar}
use Rattle.sql_text.specs.declared.named.NamedSelect.{NamedSelect, fold-NamedSelect}
use Rattle.sql_text.specs.declared.named.NamedItem.{NamedItem, fold-NamedItem}
use Rattle.sql_text.specs.declared.named.NamedQuery.{NamedQuery, fold-NamedQuery}
use Rattle.sql_text.specs.declared.named.NamedTerm.{NamedTerm, fold-NamedTerm}
use Rattle.sql_text.specs.declared.named.NamedWhen.{NamedWhen, fold-NamedWhen}
use Rattle.sql_resolver.specs.NamesMeant.{column_part, places_of}
use Rattle.sql_resolver.specs.Scope.{ScopeColumn, ScopeItem, Scope, Scopes, names_in, column_at}
use Rattle.sql_resolver.specs.Owed.{Fault, fault, fault_if, first_spot, either_spot, inner_faults}
use Rattle.sql_resolver.specs.Owed.{differ, is_text, max_bound, both_bounds}

-- ---- what a part is

pub record ScalarReading : Type 0 where
  -- the place of its first byte
  pub at : ℕ
  pub tree : SqlScalar
  pub domain : Option Domain
  pub bound : Option ℕ
  -- the name of a column that stands by itself
  pub own_name : Option (List ℕ)
  pub faults : List Fault

pub record CondReading : Type 0 where
  pub tree : SqlCond
  pub faults : List Fault

pub record TermReading : Type 0 where
  pub minus : Bool
  pub scalar : ScalarReading

pub record WhenReading : Type 0 where
  pub cond : CondReading
  pub value : ScalarReading

pub record ItemReading : Type 0 where
  pub name : Option (List ℕ)
  pub scalar : ScalarReading

-- an output column
pub record OutputReading : Type 0 where
  pub item : SqlItem
  pub column : ScopeColumn
  pub faults : List Fault

pub record FromReading : Type 0 where
  pub tree : SqlFrom
  pub item : ScopeItem
  pub name_at : ℕ
  pub faults : List Fault

pub record QueryReading : Type 0 where
  pub at : ℕ
  pub tree : SqlQuery
  pub columns : List ScopeColumn
  pub first : Option Spot

-- ---- scalars

abbrev pub column_reading : NameTree → Scopes → List SqlPlace → ScalarReading
column_reading name scopes [] =
    record {
      at = name.at;
      tree = Column (record { up = 0; item = 0; column = 0 });
      domain = None;
      bound = None;
      own_name = Some (column_part name.first name.second);
      faults = fault 303 name.at ∷ [];
    }
column_reading name scopes (place ∷ []) =
    record {
      at = name.at;
      tree = Column place;
      domain = (column_at scopes place).domain;
      bound = (column_at scopes place).bound;
      own_name = Some (column_part name.first name.second);
      faults = [];
    }
column_reading name scopes (place ∷ other ∷ more) =
    record {
      at = name.at;
      tree = Column place;
      domain = None;
      bound = None;
      own_name = Some (column_part name.first name.second);
      faults = fault 304 name.at ∷ [];
    }

abbrev pub literal_reading : Value → ℕ → ScalarReading
literal_reading (Num n) at = record {
  at = at;
  tree = Number n;
  domain = Some Integer;
  bound = Some short_bound;
  own_name = None;
  faults = [];
}
literal_reading (Str text) at = record {
  at = at;
  tree = Chars text;
  domain = Some CharsDomain;
  bound = Some 0;
  own_name = None;
  faults = [];
}
literal_reading Null at = record {
  at = at;
  tree = Number (pos 0);
  domain = None;
  bound = None;
  own_name = None;
  faults = [];
}

-- after the terms whose bounds have this sum: the fault of the term at this place, or the faults of
-- what stands after it
abbrev pub bound_step : ℕ → ℕ → Option ℕ → (ℕ → List Fault) → List Fault
bound_step total at None later = []
bound_step total at (Some bound) later =
    if nat_lt max_bound (total + bound) then fault 401 at ∷ [] else later (total + bound)

-- the first term at which the bounds so far exceed the greatest one
abbrev pub bound_faults : ℕ → List TermReading → List Fault
bound_faults total [] = []
bound_faults total (term ∷ more) =
    bound_step total term.scalar.at term.scalar.bound (λ sum. bound_faults sum more)

abbrev pub place_of_terms : List TermReading → ℕ
place_of_terms [] = 0
place_of_terms (term ∷ more) = term.scalar.at

abbrev pub sum_bound : List TermReading → Option ℕ
sum_bound [] = Some 0
sum_bound (term ∷ more) = both_bounds (λ m n. m + n) term.scalar.bound (sum_bound more)

abbrev pub sum_reading : List TermReading → ScalarReading
sum_reading terms = record {
  at = place_of_terms terms;
  tree = Sum (map (λ term. record { minus = term.minus; scalar = term.scalar.tree }) terms);
  domain = Some Integer;
  bound = sum_bound terms;
  own_name = None;
  faults =
      flat_map
      (λ term. term.scalar.faults ++ fault_if (is_text term.scalar.domain) 305 term.scalar.at) terms
      ++ bound_faults 0 terms;
}

-- the values of a CASE, that of ELSE at the end
abbrev pub results_of : List WhenReading → Option ScalarReading → List ScalarReading
results_of whens None = map (λ when. when.value) whens
results_of whens (Some last) = map (λ when. when.value) whens ++ last ∷ []

abbrev pub first_domain : List ScalarReading → Option Domain
first_domain [] = None
first_domain (value ∷ more) = value.domain

abbrev pub greatest_bound : List ScalarReading → Option ℕ
greatest_bound [] = Some 0
greatest_bound (value ∷ more) = both_bounds max value.bound (greatest_bound more)

abbrev pub tree_if : Option ScalarReading → Option SqlScalar
tree_if None = None
tree_if (Some value) = Some value.tree

abbrev pub faults_if : Option ScalarReading → List Fault
faults_if None = []
faults_if (Some value) = value.faults

abbrev pub case_reading : ℕ → List WhenReading → Option ScalarReading → ScalarReading
case_reading at whens last =
    let results = results_of whens last in
    record {
      at = at;
      tree =
          Case (map (λ when. record { cond = when.cond.tree; value = when.value.tree }) whens)
          (tree_if last);
      domain = first_domain results;
      bound = greatest_bound results;
      own_name = None;
      faults = flat_map (λ when. when.cond.faults ++ when.value.faults) whens ++ faults_if last
          ++ flat_map
          (λ value. fault_if (differ (first_domain results) value.domain) 305 value.at) results;
    }

-- ---- what each part of a script means

-- in these scopes
abbrev pub In : Type 0 → Type 0
In A = Scopes → A

-- one layer of each part, with the meaning of the parts below it in their place
abbrev pub Layer :
    (Type 0 → Type 0 → Type 0 → Type 0 → Type 0 → Type 0 → Type 0 → Type 0 → Type 0) → Type 0
Layer F =
    F (In CondReading) FromReading (In ScalarReading) (In (List OutputReading)) (In ItemReading)
    (In QueryReading) (In TermReading) (In WhenReading)

abbrev pub scalar_step : Layer NamedScalar-F → In ScalarReading
scalar_step (NamedScalar-F.Column name) scopes =
    column_reading name scopes (places_of name.first name.second 0 (names_in scopes))
scalar_step (NamedScalar-F.Literal literal) scopes = literal_reading literal.value literal.at
scalar_step (NamedScalar-F.Sum terms) scopes = sum_reading (map (λ term. term scopes) terms)
scalar_step (NamedScalar-F.Case at whens last) scopes =
    case_reading at (map (λ when. when scopes) whens) (last_of last)
  where
    last_of : Option (In ScalarReading) → Option ScalarReading
    last_of None = None
    last_of (Some value) = Some (value scopes)

abbrev pub term_step : Layer NamedTerm-F → In TermReading
term_step term scopes = record { minus = term.minus; scalar = term.scalar scopes }

abbrev pub when_step : Layer NamedWhen-F → In WhenReading
when_step when scopes = record { cond = when.cond scopes; value = when.value scopes }

-- the second of two scalars has another domain
abbrev pub unlike : ScalarReading → ScalarReading → List Fault
unlike a b = fault_if (differ a.domain b.domain) 305 b.at

abbrev pub cond_step : Layer NamedCond-F → In CondReading
cond_step (NamedCond-F.And parts) scopes =
    record {
      tree = And (map (λ part. (part scopes).tree) parts);
      faults = flat_map (λ part. (part scopes).faults) parts;
    }
cond_step (NamedCond-F.Or parts) scopes =
    record {
      tree = Or (map (λ part. (part scopes).tree) parts);
      faults = flat_map (λ part. (part scopes).faults) parts;
    }
cond_step (NamedCond-F.Not part) scopes = record {
  tree = Not (part scopes).tree;
  faults = (part scopes).faults;
}
cond_step (NamedCond-F.Compare op a b) scopes =
    record {
      tree = Compare op (a scopes).tree (b scopes).tree;
      faults = (a scopes).faults ++ (b scopes).faults ++ unlike (a scopes) (b scopes);
    }
cond_step (NamedCond-F.Between negated a low high) scopes =
    record {
      tree = Between negated (a scopes).tree (low scopes).tree (high scopes).tree;
      faults =
          (a scopes).faults ++ (low scopes).faults ++ (high scopes).faults
          ++ unlike (a scopes) (low scopes) ++ unlike (a scopes) (high scopes);
    }
cond_step (NamedCond-F.OneOf negated a list) scopes =
    record {
      tree = OneOf negated (a scopes).tree (map (λ b. (b scopes).tree) list);
      faults =
          (a scopes).faults
          ++ flat_map (λ b. (b scopes).faults ++ unlike (a scopes) (b scopes)) list;
    }
cond_step (NamedCond-F.IsNull negated a) scopes = record {
  tree = IsNull negated (a scopes).tree;
  faults = (a scopes).faults;
}
cond_step (NamedCond-F.Exists query) scopes =
    record {
      tree = Exists (query scopes).tree;
      faults = inner_faults (query scopes).at (query scopes).first;
    }

-- ---- output columns

abbrev pub item_step : Layer NamedItem-F → In ItemReading
item_step item scopes = record { name = item.name; scalar = item.value scopes }

-- the name after AS, else the column's name, else COL and the position from 1
abbrev pub output_name : Option (List ℕ) → Option (List ℕ) → ℕ → List ℕ
output_name (Some name) own at = name
output_name None (Some name) at = name
output_name None None at = codes "COL" ++ decimal at

abbrev pub output_of : ℕ → ItemReading → OutputReading
output_of at item =
    let name = output_name item.name item.scalar.own_name at in
    record {
      item = record { value = item.scalar.tree; name = name };
      column = record { name = name; domain = item.scalar.domain; bound = item.scalar.bound };
      faults = item.scalar.faults;
    }

abbrev pub outputs_from : ℕ → List ItemReading → List OutputReading
outputs_from at [] = []
outputs_from at (item ∷ more) = output_of at item ∷ outputs_from (at + 1) more

-- a column of the scope as an output column
abbrev pub column_output : ℕ → ℕ → ScopeColumn → OutputReading
column_output item at column = record {
  item =
      record { value = Column (record { up = 0; item = item; column = at }); name = column.name };
  column = column;
  faults = [];
}

abbrev pub columns_from : ℕ → ℕ → List ScopeColumn → List OutputReading
columns_from item at [] = []
columns_from item at (column ∷ more) =
    column_output item at column ∷ columns_from item (at + 1) more

-- all columns of the scope, item by item
abbrev pub all_columns : ℕ → Scope → List OutputReading
all_columns at [] = []
all_columns at (item ∷ more) = columns_from at 0 item.columns ++ all_columns (at + 1) more

-- the innermost scope
abbrev pub own_scope : Scopes → Scope
own_scope scopes = slice_index_or scopes 0 []

abbrev pub select_step : Layer NamedSelect-F → In (List OutputReading)
select_step NamedSelect-F.All scopes = all_columns 0 (own_scope scopes)
select_step (NamedSelect-F.Items items) scopes = outputs_from 1 (map (λ item. item scopes) items)

-- ---- FROM

abbrev pub table_column : TableColumn → ScopeColumn
table_column column = record {
  name = column.name;
  domain = Some column.domain;
  bound = Some (domain_shape column.domain).bound;
}

-- the correlation name: the one that is written, else the table's
abbrev pub correlation : FromTree → List ℕ
correlation tree = called tree.name
  where
    called : Option (List ℕ) → List ℕ
    called None = tree.table
    called (Some name) = name

-- an earlier item has the name of a later one
abbrev pub repeated : List (List ℕ) → List FromReading → List Fault
repeated before [] = []
repeated before (from ∷ more) =
    fault_if (list_any (bytes_eq from.item.name) before) 302 from.name_at
    ++ repeated (from.item.name ∷ before) more

module _ (tables : Tables) where
  abbrev pub table_reading : FromTree → Option ℕ → FromReading
  table_reading tree None = record {
    tree =
        record {
          name = correlation tree;
          source =
              Table (record { index = 0; name = tree.table; schema = record { columns = [] } });
        };
    item = record { name = correlation tree; columns = [] };
    name_at = tree.name_at;
    faults = fault 301 tree.at ∷ [];
  }
  table_reading tree (Some index) = record {
    tree =
        record {
          name = correlation tree;
          source =
              Table (record {
                index = index;
                name = tree.table;
                schema = record { columns = columns_of tables index };
              });
        };
    item = record { name = correlation tree; columns = map table_column (columns_of tables index) };
    name_at = tree.name_at;
    faults = [];
  }

  -- a derived table sees its own scopes alone
  abbrev pub from_step : Layer NamedFrom-F → FromReading
  from_step (NamedFrom-F.Table tree) = table_reading tree (table_place tables tree.table)
  from_step (NamedFrom-F.Derived query name name_at) = record {
    tree = record { name = name; source = Derived (query []).tree };
    item = record { name = name; columns = (query []).columns };
    name_at = name_at;
    faults = inner_faults (query []).at (query []).first;
  }

  -- ---- queries

  abbrev pub filter_of : Option (In CondReading) → Scopes → Option CondReading
  filter_of None scopes = None
  filter_of (Some cond) scopes = Some (cond scopes)

  abbrev pub cond_tree : Option CondReading → Option SqlCond
  cond_tree None = None
  cond_tree (Some cond) = Some cond.tree

  abbrev pub cond_faults : Option CondReading → List Fault
  cond_faults None = []
  cond_faults (Some cond) = cond.faults

  -- the clauses in the order FROM, SELECT, WHERE
  abbrev pub query_step : Layer NamedQuery-F → In QueryReading
  query_step query outer =
      let scopes : Scopes = map (λ from. from.item) query.from ∷ outer in
      let outputs = query.select scopes in
      let filter = filter_of query.filter scopes in
      record {
        at = query.at;
        tree =
            roll-SqlQuery (record {
              distinct = query.distinct;
              items = map (λ output. output.item) outputs;
              from = map (λ from. from.tree) query.from;
              filter = cond_tree filter;
              order = [];
            });
        columns = map (λ output. output.column) outputs;
        first =
            either_spot
            (first_spot (flat_map (λ from. from.faults) query.from ++ repeated [] query.from))
            (either_spot (first_spot (flat_map (λ output. output.faults) outputs))
            (first_spot (cond_faults filter)));
      }

  unfoldable pub cond_reading : NamedCond → In CondReading
  cond_reading =
      fold-NamedCond _ _ _ _ _ _ _ _ cond_step from_step scalar_step select_step
      item_step query_step term_step when_step

  unfoldable pub from_reading : NamedFrom → FromReading
  from_reading =
      fold-NamedFrom _ _ _ _ _ _ _ _ cond_step from_step scalar_step select_step
      item_step query_step term_step when_step

  unfoldable pub scalar_reading : NamedScalar → In ScalarReading
  scalar_reading =
      fold-NamedScalar _ _ _ _ _ _ _ _ cond_step from_step scalar_step select_step
      item_step query_step term_step when_step

  unfoldable pub select_reading : NamedSelect → In (List OutputReading)
  select_reading =
      fold-NamedSelect _ _ _ _ _ _ _ _ cond_step from_step scalar_step select_step
      item_step query_step term_step when_step

  unfoldable pub item_reading : NamedItem → In ItemReading
  item_reading =
      fold-NamedItem _ _ _ _ _ _ _ _ cond_step from_step scalar_step select_step
      item_step query_step term_step when_step

  unfoldable pub query_reading : NamedQuery → In QueryReading
  query_reading =
      fold-NamedQuery _ _ _ _ _ _ _ _ cond_step from_step scalar_step select_step
      item_step query_step term_step when_step

  unfoldable pub term_reading : NamedTerm → In TermReading
  term_reading =
      fold-NamedTerm _ _ _ _ _ _ _ _ cond_step from_step scalar_step select_step
      item_step query_step term_step when_step

  unfoldable pub when_reading : NamedWhen → In WhenReading
  when_reading =
      fold-NamedWhen _ _ _ _ _ _ _ _ cond_step from_step scalar_step select_step
      item_step query_step term_step when_step
