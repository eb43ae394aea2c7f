-- Whether the tables that a part of a query names are there, by the parts below it.
use Rattle.std.proofs.Common.{◌≡◌, ◌<◌, ◌≤◌, ◌+◌, ℕ, zero, suc, ℤ, arith, drop, get_or, Bool, true, false, Option, List, [], ◌∷◌, ◌++◌, length, All, refl, sym, ap, ◌∙◌, subst}
use Rattle.std.specs.Prelude.{IsTrue, ◌↔◌}
use Rattle.std.specs.List.{flat_map}
use Rattle.std.proofs.lemmas.Bool.{false≢true}
use Rattle.std.proofs.lemmas.List.{at_drop_more}
use Rattle.std.proofs.lemmas.List.Elements.{All-append, All-cons, All-drop, All-head, All-nil, All-take}
use Rattle.std.proofs.Math.Seq.{drop-append_seam, take-append_seam}
use Rattle.prefsql_values.specs.declared.value.CompareOp.{CompareOp}
use Rattle.prefsql_tables.specs.Table.{Tables}
use Rattle.sql_tree.specs.declared.tree.SqlCond.{SqlCond, And, Or, Not, Compare, Between, OneOf, IsNull, Exists}
use Rattle.sql_tree.specs.declared.tree.SqlScalar.{SqlScalar, Number, Sum, Case}
use Rattle.sql_tree.specs.declared.tree.SqlScalar as scalar
use Rattle.sql_tree.specs.declared.tree.SqlPlace.{SqlPlace}
use Rattle.sql_tree.specs.declared.tree.SqlTable.{SqlTable}
use Rattle.sql_tree.specs.declared.tree.SqlSource.{SqlSource, Table, Derived}
use Rattle.sql_tree.specs.declared.tree.SqlFrom.{SqlFrom}
use Rattle.sql_tree.specs.declared.tree.SqlItem.{SqlItem}
use Rattle.sql_tree.specs.declared.tree.SqlQuery.{SqlQuery, out-SqlQuery}
use Rattle.sql_tree.specs.declared.tree.SumTerm.{SumTerm}
use Rattle.sql_tree.specs.declared.tree.SqlWhen.{SqlWhen}
use Rattle.sql_tree.specs.Fits.{AreThere, FitsTables, IsTableOf, cond_tables, filter_tables, from_tables, item_tables, otherwise_tables, scalar_tables, source_tables, tables_of, term_tables, when_tables}
use Rattle.sql_tree.proofs.PartTables.{tables-And, tables-Or, tables-Not, tables-Compare, tables-Between, tables-OneOf, tables-IsNull, tables-Exists, tables-Column, tables-Number, tables-Chars, tables-Sum, tables-Table, tables-Derived, tables-when, tables-term, tables-item, tables-from, tables-query, tables_case}

-- the test says whether the tables are there
abbrev pub Tells : Tables → Bool → List SqlTable → Type 0
Tells tables b named = IsTrue b ↔ AreThere tables named

pub fits_told : (tables : Tables) (query : SqlQuery) (b : Bool) → IsTrue b ↔ AreThere tables (tables_of query) → IsTrue b ↔ FitsTables tables query
unfolding AreThere
fits_told tables query b told = told

module _ (tables : Tables) where
  there-none : AreThere tables []
  unfolding AreThere
  there-none = All-nil (IsTableOf tables)

  there-both : (xs ys : List SqlTable) → AreThere tables xs → AreThere tables ys → AreThere tables (xs ++ ys)
  unfolding AreThere
  there-both xs ys first second = All-append (IsTableOf tables) xs ys first second

  there-first : (xs ys : List SqlTable) → AreThere tables (xs ++ ys) → AreThere tables xs
  unfolding AreThere
  there-first xs ys all = subst (All (IsTableOf tables)) (take-append_seam xs ys) (All-take (IsTableOf tables) (length xs) (xs ++ ys) all)

  there-second : (xs ys : List SqlTable) → AreThere tables (xs ++ ys) → AreThere tables ys
  unfolding AreThere
  there-second xs ys all = subst (All (IsTableOf tables)) (drop-append_seam xs ys) (All-drop (IsTableOf tables) (length xs) (xs ++ ys) all)

  pub told-none : Tells tables true []
  told-none = (λ _. there-none, λ _. refl)

  pub told-one : (table : SqlTable) (b : Bool) → IsTrue b ↔ IsTableOf tables table → Tells tables b (table ∷ [])
  unfolding AreThere
  told-one table b told =
      (λ held. All-cons (IsTableOf tables) table [] (told.0 held) (All-nil (IsTableOf tables)), λ all. told.1 (All-head (IsTableOf tables) table [] all))

  pub told-held : (xs ys : List SqlTable) (a b : Bool) → Tells tables a xs → a ≡ true → Tells tables b ys → Tells tables b (xs ++ ys)
  told-held xs ys a b first held second =
      (λ more. there-both xs ys (first.0 held) (second.0 more), λ all. second.1 (there-second xs ys all))

  pub told-missed : (xs ys : List SqlTable) (a : Bool) → Tells tables a xs → a ≡ false → Tells tables a (xs ++ ys)
  told-missed xs ys a first missed =
      (λ held. absurd (false≢true (sym missed ∙ held)), λ all. first.1 (there-first xs ys all))

  pub told_along : (xs ys : List SqlTable) (b : Bool) → xs ≡ ys → Tells tables b ys → Tells tables b xs
  told_along xs ys b same told = subst (λ named. Tells tables b named) (sym same) told

  -- what each form of a part is told by

  pub told-And : (part : SqlCond) (parts : List SqlCond) (parts' : List SqlCond) (b : Bool) → part ≡ And parts → Tells tables b (flat_map cond_tables parts') → parts' ≡ parts → Tells tables b (cond_tables part)
  told-And part parts parts' b is told is_parts =
      told_along (cond_tables part) (flat_map cond_tables parts') b (ap cond_tables is ∙ (λ j. cond_tables (And (sym is_parts j))) ∙ tables-And parts') told

  pub told-Or : (part : SqlCond) (parts : List SqlCond) (parts' : List SqlCond) (b : Bool) → part ≡ Or parts → Tells tables b (flat_map cond_tables parts') → parts' ≡ parts → Tells tables b (cond_tables part)
  told-Or part parts parts' b is told is_parts =
      told_along (cond_tables part) (flat_map cond_tables parts') b (ap cond_tables is ∙ (λ j. cond_tables (Or (sym is_parts j))) ∙ tables-Or parts') told

  pub told-Not : (part : SqlCond) (below : SqlCond) (below' : SqlCond) (b : Bool) → part ≡ Not below → Tells tables b (cond_tables below') → below' ≡ below → Tells tables b (cond_tables part)
  told-Not part below below' b is told is_below =
      told_along (cond_tables part) (cond_tables below') b (ap cond_tables is ∙ (λ j. cond_tables (Not (sym is_below j))) ∙ tables-Not below') told

  pub told-Compare : (part : SqlCond) (op : CompareOp) (x : SqlScalar) (y : SqlScalar) (b : Bool) → part ≡ Compare op x y → Tells tables b (scalar_tables x ++ scalar_tables y) → Tells tables b (cond_tables part)
  told-Compare part op x y b is told =
      told_along (cond_tables part) (scalar_tables x ++ scalar_tables y) b (ap cond_tables is ∙ tables-Compare op x y) told

  pub told-Between : (part : SqlCond) (negate : Bool) (x : SqlScalar) (low : SqlScalar) (high : SqlScalar) (b : Bool) → part ≡ Between negate x low high → Tells tables b (scalar_tables x ++ scalar_tables low ++ scalar_tables high) → Tells tables b (cond_tables part)
  told-Between part negate x low high b is told =
      told_along (cond_tables part) (scalar_tables x ++ scalar_tables low ++ scalar_tables high) b (ap cond_tables is ∙ tables-Between negate x low high) told

  pub told-OneOf : (part : SqlCond) (negate : Bool) (x : SqlScalar) (list : List SqlScalar) (list' : List SqlScalar) (b : Bool) → part ≡ OneOf negate x list → Tells tables b (scalar_tables x ++ flat_map scalar_tables list') → list' ≡ list → Tells tables b (cond_tables part)
  told-OneOf part negate x list list' b is told is_list =
      told_along (cond_tables part) (scalar_tables x ++ flat_map scalar_tables list') b (ap cond_tables is ∙ (λ j. cond_tables (OneOf negate x (sym is_list j))) ∙ tables-OneOf negate x list') told

  pub told-IsNull : (part : SqlCond) (negate : Bool) (x : SqlScalar) (b : Bool) → part ≡ IsNull negate x → Tells tables b (scalar_tables x) → Tells tables b (cond_tables part)
  told-IsNull part negate x b is told =
      told_along (cond_tables part) (scalar_tables x) b (ap cond_tables is ∙ tables-IsNull negate x) told

  pub told-Exists : (part : SqlCond) (query : SqlQuery) (query' : SqlQuery) (b : Bool) → part ≡ Exists query → Tells tables b (tables_of query') → query' ≡ query → Tells tables b (cond_tables part)
  told-Exists part query query' b is told is_query =
      told_along (cond_tables part) (tables_of query') b (ap cond_tables is ∙ (λ j. cond_tables (Exists (sym is_query j))) ∙ tables-Exists query') told

  pub told-Sum : (part : SqlScalar) (terms : List SumTerm) (terms' : List SumTerm) (b : Bool) → part ≡ Sum terms → Tells tables b (flat_map term_tables terms') → terms' ≡ terms → Tells tables b (scalar_tables part)
  told-Sum part terms terms' b is told is_terms =
      told_along (scalar_tables part) (flat_map term_tables terms') b (ap scalar_tables is ∙ (λ j. scalar_tables (Sum (sym is_terms j))) ∙ tables-Sum terms') told

  pub told-Case : (part : SqlScalar) (whens : List SqlWhen) (last : Option SqlScalar) (whens' : List SqlWhen) (b : Bool) → part ≡ Case whens last → Tells tables b (flat_map when_tables whens' ++ otherwise_tables last) → whens' ≡ whens → Tells tables b (scalar_tables part)
  told-Case part whens last whens' b is told is_whens =
      told_along (scalar_tables part) (flat_map when_tables whens' ++ otherwise_tables last) b (ap scalar_tables is ∙ (λ j. scalar_tables (Case (sym is_whens j) last)) ∙ tables_case whens' last) told

  pub told-Derived : (part : SqlSource) (query : SqlQuery) (query' : SqlQuery) (b : Bool) → part ≡ Derived query → Tells tables b (tables_of query') → query' ≡ query → Tells tables b (source_tables part)
  told-Derived part query query' b is told is_query =
      told_along (source_tables part) (tables_of query') b (ap source_tables is ∙ (λ j. source_tables (Derived (sym is_query j))) ∙ tables-Derived query') told

  pub told-Column : (part : SqlScalar) (at : SqlPlace) → part ≡ scalar.Column at → Tells tables true (scalar_tables part)
  told-Column part at is = told_along (scalar_tables part) [] true (ap scalar_tables is ∙ tables-Column at) told-none

  pub told-Number : (part : SqlScalar) (at : ℤ) → part ≡ Number at → Tells tables true (scalar_tables part)
  told-Number part at is = told_along (scalar_tables part) [] true (ap scalar_tables is ∙ tables-Number at) told-none

  pub told-Chars : (part : SqlScalar) (at : List ℕ) → part ≡ scalar.Chars at → Tells tables true (scalar_tables part)
  told-Chars part at is = told_along (scalar_tables part) [] true (ap scalar_tables is ∙ tables-Chars at) told-none

  pub told-Table : (part : SqlSource) (table : SqlTable) (b : Bool) → part ≡ Table table → IsTrue b ↔ IsTableOf tables table → Tells tables b (source_tables part)
  told-Table part table b is told =
      told_along (source_tables part) (table ∷ []) b (ap source_tables is ∙ tables-Table table) (told-one table b told)

  pub told-when : (w : SqlWhen) (b : Bool) → Tells tables b (cond_tables w.cond ++ scalar_tables w.value) → Tells tables b (when_tables w)
  told-when w b told = told_along (when_tables w) (cond_tables w.cond ++ scalar_tables w.value) b (tables-when w) told

  pub told-term : (term : SumTerm) (b : Bool) → Tells tables b (scalar_tables term.scalar) → Tells tables b (term_tables term)
  told-term term b told = told_along (term_tables term) (scalar_tables term.scalar) b (tables-term term) told

  pub told-item : (item : SqlItem) (b : Bool) → Tells tables b (scalar_tables item.value) → Tells tables b (item_tables item)
  told-item item b told = told_along (item_tables item) (scalar_tables item.value) b (tables-item item) told

  pub told-from : (from : SqlFrom) (b : Bool) → Tells tables b (source_tables from.source) → Tells tables b (from_tables from)
  told-from from b told = told_along (from_tables from) (source_tables from.source) b (tables-from from) told

  pub told-query : (query : SqlQuery) (items : List SqlItem) (from : List SqlFrom) (b : Bool) → items ≡ (out-SqlQuery query).items → from ≡ (out-SqlQuery query).from
      → Tells tables b (flat_map item_tables items ++ flat_map from_tables from ++ filter_tables (out-SqlQuery query).filter) → Tells tables b (tables_of query)
  told-query query items from b is_items is_from told =
      let filter = (out-SqlQuery query).filter in
      told_along (tables_of query) (flat_map item_tables items ++ flat_map from_tables from ++ filter_tables filter) b
      (tables-query query ∙ (λ j. flat_map item_tables (sym is_items j) ++ flat_map from_tables (sym is_from j) ++ filter_tables filter)) told

-- ---- going through a list

drop_past : {X : Type 0} (xs : List X) (i : ℕ) → length xs ≤ i → drop i xs ≡ []
drop_past [] zero past = refl
drop_past [] (suc i) past = refl
drop_past (x ∷ xs) zero past = absurd (omega arith)
drop_past (x ∷ xs) (suc i) past = drop_past xs i (omega arith)

-- all of a list are there exactly where those from the place on are
abbrev pub IsLeft : {X : Type 0} → Tables → (X → List SqlTable) → List X → ℕ → Type 0
IsLeft tables f xs k = AreThere tables (flat_map f xs) ↔ AreThere tables (flat_map f (drop k xs))

module _ {X : Type 0} (tables : Tables) (f : X → List SqlTable) (xs : List X) (i : ℕ) where
  abbrev rest : List SqlTable
  rest = flat_map f (drop (i + 1) xs)

  at_left : (x : X) → i < length xs → x ≡ get_or xs i x → flat_map f (drop i xs) ≡ f x ++ rest
  at_left x small is =
      at_drop_more (λ zs. flat_map f zs) xs i x small
      ∙ ap (λ y. f y ++ flat_map f (drop (i + 1) xs)) (sym is)

  pub stops : (x : X) (b : Bool) → i < length xs → x ≡ get_or xs i x → IsLeft tables f xs i → Tells tables b (f x) → b ≡ false → Tells tables false (flat_map f xs)
  stops x b small is left told missed = (
    λ held. absurd (false≢true held),
    λ all. absurd (false≢true (sym missed ∙ told.1 (there-first tables (f x) rest (subst (AreThere tables) (at_left x small is) (left.0 all))))),
  )

  pub goes_on : (x : X) (b : Bool) → i < length xs → x ≡ get_or xs i x → IsLeft tables f xs i → Tells tables b (f x) → b ≡ true → IsLeft tables f xs (i + 1)
  goes_on x b small is left told held = (
    λ all. there-second tables (f x) rest (subst (AreThere tables) (at_left x small is) (left.0 all)),
    λ more. left.1 (subst (AreThere tables) (sym (at_left x small is)) (there-both tables (f x) rest (told.0 held) more)),
  )

  pub ends : length xs ≤ i → IsLeft tables f xs i → Tells tables true (flat_map f xs)
  ends past left =
      (λ _. left.1 (subst (λ zs. AreThere tables (flat_map f zs)) (sym (drop_past xs i past)) (there-none tables)), λ _. refl)

pub ruleset none_told = (told-none)

pub ruleset literal_told = (told-Column, told-Number, told-Chars)
