-- What is found of each part of a query: what is read of it, with its first fault in place of all,
-- and a bound above the greatest one as that and one.
use Rattle.std.specs.Prelude.{ℕ, ◌+◌, ◌++◌, Bool, if◌then◌else◌, nat_lt, List, [], ◌∷◌, map, max}
use Rattle.std.specs.Prelude.{min, Option, Some, None, Result, Ok, Err}
use Rattle.std.specs.List.{list_any}
use Rattle.std.specs.Option.{option_map}
use Rattle.std.specs.Str.{bytes_eq}
use Rattle.prefsql_lexer.specs.declared.fault.Spot.{Spot}
use Rattle.prefsql_values.specs.declared.value.CompareOp.{CompareOp}
use Rattle.prefsql_values.specs.declared.value.Domain.{Domain}
use Rattle.prefsql_values.specs.declared.value.Domain.TheVariants.{Integer}
use Rattle.prefsql_tables.specs.Table.{Tables}
use Rattle.sql_tree.specs.declared.tree.SqlScalar.{SqlScalar, Sum, Case}
use Rattle.sql_tree.specs.declared.tree.SqlCond.{SqlCond, Compare, Between, OneOf, Exists}
use Rattle.sql_tree.specs.declared.tree.SqlFrom.{SqlFrom}
use Rattle.sql_tree.specs.declared.tree.SqlItem.{SqlItem}
use Rattle.sql_tree.specs.declared.tree.SqlSource.{Derived}
use Rattle.sql_tree.specs.declared.tree.SqlQuery.{roll-SqlQuery}
use Rattle.sql_tree.specs.declared.tree.SqlWhen.{SqlWhen}
use Rattle.sql_tree.specs.declared.tree.SumTerm.{SumTerm}
use Rattle.sql_text.specs.declared.named.NamedCond.{NamedCond}
use Rattle.sql_text.specs.declared.named.NamedFrom.{NamedFrom}
use Rattle.sql_text.specs.declared.named.NamedScalar.{NamedScalar}
use Rattle.sql_text.specs.declared.named.NamedSelect.{NamedSelect}
use Rattle.sql_text.specs.declared.named.NamedItem.{NamedItem}
use Rattle.sql_text.specs.declared.named.NamedQuery.{NamedQuery, out-NamedQuery}
use Rattle.sql_text.specs.declared.named.NamedTerm.{NamedTerm}
use Rattle.sql_text.specs.declared.named.NamedWhen.{NamedWhen}
use Rattle.sql_resolver.specs.declared.found.FoundScalar.{FoundScalar}
use Rattle.sql_resolver.specs.declared.found.FoundTerm.{FoundTerm}
use Rattle.sql_resolver.specs.declared.found.FoundWhen.{FoundWhen}
use Rattle.sql_resolver.specs.declared.found.FoundOutput.{FoundOutput}
use Rattle.sql_resolver.specs.declared.found.FoundFrom.{FoundFrom}
use Rattle.sql_resolver.specs.declared.found.FoundQuery.{FoundQuery}
use Rattle.sql_resolver.specs.declared.found.Selected.{Selected}
use Rattle.sql_resolver.specs.Scope.{ScopeColumn, ScopeItem, Scopes}
use Rattle.sql_resolver.specs.Owed.{Fault, both_bounds, differ, fault, is_text, max_bound}
use Rattle.sql_resolver.specs.Outcomes.{all_of, also, earlier_if, formed, outcome, paired}
use Rattle.sql_resolver.specs.Reading.{CondReading, FromReading, OutputReading, QueryReading}
use Rattle.sql_resolver.specs.Reading.{ScalarReading, TermReading, WhenReading, cond_reading}
use Rattle.sql_resolver.specs.Reading.{from_reading, output_name, query_reading, scalar_reading}
use Rattle.sql_resolver.specs.Reading.{select_reading, term_reading, when_reading}

-- ---- parts

abbrev pub capped : ℕ → ℕ
capped bound = min bound (max_bound + 1)

abbrev pub capped_column : ScopeColumn → ScopeColumn
capped_column column =
    record { name = column.name; domain = column.domain; bound = option_map capped column.bound }

abbrev pub found_scalar : ScalarReading → FoundScalar
found_scalar r = record {
  at = r.at;
  domain = r.domain;
  bound = option_map capped r.bound;
  own_name = r.own_name;
  tree = outcome r.tree r.faults;
}

abbrev pub found_cond : CondReading → Result SqlCond Fault
found_cond r = outcome r.tree r.faults

abbrev pub found_term : TermReading → FoundTerm
found_term r = record { minus = r.minus; scalar = found_scalar r.scalar }

abbrev pub found_when : WhenReading → FoundWhen
found_when r = record { cond = found_cond r.cond; value = found_scalar r.value }

abbrev pub found_output : OutputReading → FoundOutput
found_output r = record { item = outcome r.item r.faults; column = capped_column r.column }

abbrev pub found_from : FromReading → FoundFrom
found_from r =
    record { name = r.item.name; name_at = r.name_at; item = outcome (r.tree, r.item) r.faults }

abbrev pub unless_spot : {A : Type 0} → A → Option Spot → Result A Spot
unless_spot part None = Ok part
unless_spot part (Some spot) = Err spot

abbrev pub found_query : QueryReading → FoundQuery
found_query r = record {
  at = r.at;
  selected =
      unless_spot (record { tree = r.tree; columns = map capped_column r.columns }) r.first;
}

-- ---- parts of scripts

module _ (tables : Tables) where
  unfoldable pub scalar_found : NamedScalar → Scopes → FoundScalar
  scalar_found scalar scopes = found_scalar (scalar_reading tables scalar scopes)

  unfoldable pub cond_found : NamedCond → Scopes → Result SqlCond Fault
  cond_found cond scopes = found_cond (cond_reading tables cond scopes)

  unfoldable pub term_found : NamedTerm → Scopes → FoundTerm
  term_found term scopes = found_term (term_reading tables term scopes)

  unfoldable pub when_found : NamedWhen → Scopes → FoundWhen
  when_found when scopes = found_when (when_reading tables when scopes)

  unfoldable pub outputs_found : NamedSelect → Scopes → List FoundOutput
  outputs_found select scopes = map found_output (select_reading tables select scopes)

  unfoldable pub from_found : NamedFrom → FoundFrom
  from_found from = found_from (from_reading tables from)

  unfoldable pub query_found : NamedQuery → Scopes → FoundQuery
  query_found query scopes = found_query (query_reading tables query scopes)

-- ---- conditions

-- the fault of a scalar that has another domain
abbrev pub unlike : Option Domain → FoundScalar → Option Fault
unlike domain b = if differ domain b.domain then Some (fault 305 b.at) else None

-- the scalar, which is to have the domain
abbrev pub alike : Option Domain → FoundScalar → Result SqlScalar Fault
alike domain b = also b.tree (unlike domain b)

abbrev pub compared : CompareOp → FoundScalar → FoundScalar → Result SqlCond Fault
compared op a b = formed (λ both. Compare op both.0 both.1) (paired a.tree (alike a.domain b))

abbrev pub between : Bool → FoundScalar → FoundScalar → FoundScalar → Result SqlCond Fault
between negated a low high =
    formed (λ both. Between negated both.0 both.1.0 both.1.1)
    (paired a.tree
    (paired low.tree (also (also high.tree (unlike a.domain low)) (unlike a.domain high))))

abbrev pub one_of : Bool → FoundScalar → List FoundScalar → Result SqlCond Fault
one_of negated a list =
    formed (λ both. OneOf negated both.0 both.1)
    (paired a.tree (all_of (map (alike a.domain) list)))

-- a fault of the query stands at its SELECT
abbrev pub exists_at : ℕ → Result Selected Spot → Result SqlCond Fault
exists_at at (Ok selected) = Ok (Exists selected.tree)
exists_at at (Err spot) = Err (record { at = at; spot = spot })

abbrev pub exists : FoundQuery → Result SqlCond Fault
exists query = exists_at query.at query.selected

-- ---- scalars

-- the sum of two bounds, at most one above the greatest
abbrev pub added : Option ℕ → Option ℕ → Option ℕ
added = both_bounds (λ m n. capped (m + n))

abbrev pub sum_bound : List FoundTerm → Option ℕ
sum_bound [] = Some 0
sum_bound (term ∷ more) = added term.scalar.bound (sum_bound more)

-- the fault of the term that has this bound, after terms of this sum, or that of the later terms
abbrev pub above_step : ℕ → ℕ → Option ℕ → (ℕ → Option Fault) → Option Fault
above_step total at None later = None
above_step total at (Some bound) later =
    if nat_lt max_bound (total + bound) then Some (fault 401 at) else later (total + bound)

-- the fault of the first term at which the bounds so far exceed the greatest one
abbrev pub above : ℕ → List FoundTerm → Option Fault
above total [] = None
above total (term ∷ more) =
    above_step total term.scalar.at term.scalar.bound (λ sum. above sum more)

-- the fault of a term that is a text
abbrev pub text_fault : FoundScalar → Option Fault
text_fault scalar = if is_text scalar.domain then Some (fault 305 scalar.at) else None

abbrev pub term_tree : FoundTerm → Result SumTerm Fault
term_tree term =
    formed (λ scalar. record { minus = term.minus; scalar = scalar })
    (also term.scalar.tree (text_fault term.scalar))

abbrev pub place_of_terms : List FoundTerm → ℕ
place_of_terms [] = 0
place_of_terms (term ∷ more) = term.scalar.at

abbrev pub sum_tree : Result (List SumTerm) Fault → Option Fault → Result SqlScalar Fault
sum_tree terms above = also (formed Sum terms) above

abbrev pub sum_of : List FoundTerm → FoundScalar
sum_of terms = record {
  at = place_of_terms terms;
  domain = Some Integer;
  bound = sum_bound terms;
  own_name = None;
  tree = sum_tree (all_of (map term_tree terms)) (above 0 terms);
}

abbrev pub when_tree : FoundWhen → Result SqlWhen Fault
when_tree when =
    formed (λ both. record { cond = both.0; value = both.1 }) (paired when.cond when.value.tree)

-- the values of a CASE, that of ELSE at the end
abbrev pub results : List FoundWhen → Option FoundScalar → List FoundScalar
results [] None = []
results [] (Some last) = last ∷ []
results (when ∷ more) last = when.value ∷ results more last

abbrev pub first_domain : List FoundScalar → Option Domain
first_domain [] = None
first_domain (value ∷ more) = value.domain

abbrev pub greatest : List FoundScalar → Option ℕ
greatest [] = Some 0
greatest (value ∷ more) = both_bounds max value.bound (greatest more)

-- the first fault of a scalar that has another domain
abbrev pub first_unlike : Option Domain → List FoundScalar → Option Fault
first_unlike domain [] = None
first_unlike domain (value ∷ more) = earlier_if (unlike domain value) (first_unlike domain more)

abbrev pub last_tree : Option FoundScalar → Result (Option SqlScalar) Fault
last_tree None = Ok None
last_tree (Some last) = formed Some last.tree

abbrev pub choice : ℕ → List FoundWhen → Option FoundScalar → FoundScalar
choice at whens last =
    let values = results whens last in
    let domain = first_domain values in
    record {
      at = at;
      domain = domain;
      bound = greatest values;
      own_name = None;
      tree =
          formed (λ both. Case both.0 both.1)
          (paired (all_of (map when_tree whens))
          (also (last_tree last) (first_unlike domain values)));
    }

-- ---- output columns

-- an output column of this position from 1, with the name after AS if one is written
abbrev pub output : ℕ → Option (List ℕ) → FoundScalar → FoundOutput
output at written scalar =
    let name = output_name written scalar.own_name at in
    record {
      item = formed (λ tree. record { value = tree; name = name }) scalar.tree;
      column = record { name = name; domain = scalar.domain; bound = scalar.bound };
    }

-- ---- FROM

abbrev pub derived_item : ℕ → Result Selected Spot → List ℕ → Result (SqlFrom × ScopeItem) Fault
derived_item at (Ok selected) name =
    Ok (
      record { name = name; source = Derived selected.tree },
      record { name = name; columns = selected.columns },
    )
derived_item at (Err spot) name = Err (record { at = at; spot = spot })

-- a query in parentheses with its name
abbrev pub derived : FoundQuery → List ℕ → ℕ → FoundFrom
derived query name name_at = record {
  name = name;
  name_at = name_at;
  item = derived_item query.at query.selected name;
}

-- the first fault of an item that has the name of an earlier one
abbrev pub first_repeated : List (List ℕ) → List FoundFrom → Option Fault
first_repeated before [] = None
first_repeated before (from ∷ more) =
    earlier_if
    (if list_any (bytes_eq from.name) before then Some (fault 302 from.name_at) else None)
    (first_repeated (before ++ from.name ∷ []) more)

abbrev pub from_items : List FoundFrom → Result (List (SqlFrom × ScopeItem)) Fault
from_items froms =
    also (all_of (map (λ (from : FoundFrom). from.item) froms)) (first_repeated [] froms)

-- ---- queries

-- the fault of a clause as that of its query
abbrev pub spotted : {A : Type 0} → Result A Fault → Result A Spot
spotted (Ok part) = Ok part
spotted (Err fault) = Err fault.spot

-- both clauses, or the fault of the first that has one
abbrev pub in_turn : {A B : Type 0} → Result A Spot → Result B Spot → Result (A × B) Spot
in_turn (Ok a) (Ok b) = Ok (a, b)
in_turn (Ok a) (Err spot) = Err spot
in_turn (Err spot) later = Err spot

abbrev pub selected_of :
    Bool → List SqlFrom → List ScopeColumn → Result (List SqlItem × Option SqlCond) Spot →
    Result Selected Spot
selected_of distinct from columns (Ok both) =
    Ok (record {
      tree =
          roll-SqlQuery (record {
            distinct = distinct;
            items = both.0;
            from = from;
            filter = both.1;
            order = [];
          });
      columns = columns;
    })
selected_of distinct from columns (Err spot) = Err spot

-- a query by its FROM items, its output columns and its condition
abbrev pub selected :
    Bool → List SqlFrom → List FoundOutput → Result (Option SqlCond) Fault → Result Selected Spot
selected distinct from outputs filter =
    selected_of distinct from (map (λ (output : FoundOutput). output.column) outputs)
    (in_turn (spotted (all_of (map (λ (output : FoundOutput). output.item) outputs)))
    (spotted filter))

-- ---- queries by their clauses

module _ (tables : Tables) where
  abbrev pub outputs_of : ℕ → List NamedItem → Scopes → List FoundOutput
  outputs_of at [] scopes = []
  outputs_of at (item ∷ more) scopes =
      output at item.name (scalar_found tables item.value scopes) ∷ outputs_of (at + 1) more scopes

  abbrev pub filter_found : Option NamedCond → Scopes → Result (Option SqlCond) Fault
  filter_found None scopes = Ok None
  filter_found (Some cond) scopes = formed Some (cond_found tables cond scopes)

  -- a query in these scopes by the items of its FROM
  abbrev pub selected_in :
      NamedQuery → Scopes → Result (List (SqlFrom × ScopeItem)) Fault → Result Selected Spot
  selected_in query outer (Ok pairs) =
      let scopes : Scopes = map (λ (p : SqlFrom × ScopeItem). p.1) pairs ∷ outer in
      selected (out-NamedQuery query).distinct (map (λ (p : SqlFrom × ScopeItem). p.0) pairs)
      (outputs_found tables (out-NamedQuery query).select scopes)
      (filter_found (out-NamedQuery query).filter scopes)
  selected_in query outer (Err fault) = Err fault.spot
