-- What is made ready means what it was made of.
use Rattle.std.proofs.Common.{◌≡◌, ℤ, ℕ, Bool, true, false, Option, Some, None, List, [], ◌∷◌, map, cond, refl, sym, ap, ◌∙◌}
use Rattle.std.specs.List.{list_any}
use Rattle.std.specs.Option.{option_map}
use Rattle.std.proofs.lemmas.Simd.{map-map}
use Rattle.prefsql_values.specs.declared.value.CompareOp.{CompareOp}
use Rattle.prefsql_values.specs.declared.value.Value.TheVariants.{Num, Str, Null}
use Rattle.prefsql_values.specs.Truth.{negated, negated_if, all_true, any_true, is_true}
use Rattle.prefsql_values.specs.Value.{comparison, between, one_of, is_null, truth_of}
use Rattle.prefsql_tables.specs.declared.table.AnswerRow.{AnswerRow}
use Rattle.prefsql_tables.specs.Distinct.{each_once}
use Rattle.prefsql_tables.specs.Table.{Tables, rows_of}
use Rattle.prefsql_tables.proofs.ListLemmas.{list_any-map}
use Rattle.sql_tree.specs.declared.tree.SqlPlace.{SqlPlace}
use Rattle.sql_tree.specs.declared.tree.SqlCond.{SqlCond}
use Rattle.sql_tree.specs.declared.tree.SqlCond as cond_of
use Rattle.sql_tree.specs.declared.tree.SqlScalar.{SqlScalar}
use Rattle.sql_tree.specs.declared.tree.SqlScalar as scalar_of
use Rattle.sql_tree.specs.declared.tree.SqlQuery.{SqlQuery, out-SqlQuery}
use Rattle.sql_tree.specs.declared.tree.SqlFrom.{SqlFrom}
use Rattle.sql_tree.specs.declared.tree.SqlItem.{SqlItem}
use Rattle.sql_tree.specs.declared.tree.SqlSource as source_of
use Rattle.sql_tree.specs.declared.tree.SqlTable.{SqlTable}
use Rattle.sql_tree.specs.declared.tree.SqlWhen.{SqlWhen}
use Rattle.sql_tree.specs.declared.tree.SumTerm.{SumTerm}
use Rattle.sql_tree.specs.Meaning.{Scopes, else_value, or_else, first_some}
use Rattle.sql_exec.specs.Wrapping as meaning
use Rattle.sql_exec.specs.Wrapping.{truth_in, value_in, rows_in, from_rows, source_rows, item_value, term_value, wrapped_sign, wrapped_sum}
use Rattle.sql_exec.proofs.WrappingReads.{truth_in-And, truth_in-Or, truth_in-Not, truth_in-Compare, truth_in-Between, truth_in-OneOf, truth_in-IsNull, truth_in-Exists, value_in-Column, value_in-Number, value_in-Chars, value_in-Sum, value_in-Case, when_value_is, term_value_is, item_value_is, rows_in_is, from_rows_is, source_rows-Table, source_rows-Derived}
use Rattle.sql_exec.specs.declared.ready.ReadyCond.{ReadyCond, And, Or, Not, Compare, Between, OneOf, IsNull, Exists}
use Rattle.sql_exec.specs.declared.ready.ReadyScalar.{ReadyScalar, Column, Constant, Negative, Sum, Case}
use Rattle.sql_exec.specs.declared.ready.ReadySearch.{ReadySearch}
use Rattle.sql_exec.specs.declared.ready.ReadyWhen.{ReadyWhen}
use Rattle.sql_exec.specs.Preparing.{rows_selected, scopes_kept}
use Rattle.sql_exec.specs.Ready.{kept, row_of, truth, value, when_value}
use Rattle.sql_exec.proofs.ReadyReads as ready

-- the same for all scopes
everywhere : {V : Type 0} (f g : Scopes → V) → ((scopes : Scopes) → f scopes ≡ g scopes) → f ≡ g
everywhere f g same = λ j scopes. same scopes j

map_at : {X Y V : Type 0} (f : X → Scopes → V) (g : Y → Scopes → V) (xs : List X) (ys : List Y) (scopes : Scopes) → map f xs ≡ map g ys → map (λ x. f x scopes) xs ≡ map (λ y. g y scopes) ys
map_at {V = V} f g xs ys scopes same =
    let at : (Scopes → V) → V = λ h. h scopes in
    sym (map-map at f xs) ∙ ap (map at) same ∙ map-map at g ys

any_once : (d : Bool) (rows : List AnswerRow) → list_any (λ _. true) (cond d (each_once rows) rows) ≡ list_any (λ _. true) rows
any_once true [] = refl
any_once true (row ∷ rows) = refl
any_once false rows = refl

module _ (tables : Tables) where
  pub ready_And : (whole : SqlCond) (sources : List SqlCond) (parts : List ReadyCond) → whole ≡ cond_of.And sources → map truth parts ≡ map (truth_in tables) sources → truth (And parts) ≡ truth_in tables whole
  ready_And whole sources parts is same = everywhere _ _ (λ scopes.
      ready.truth-And parts scopes ∙ ap all_true (map_at truth (truth_in tables) parts sources scopes same)
      ∙ sym (truth_in-And tables sources scopes) ∙ ap (λ c. truth_in tables c scopes) (sym is))

  pub ready_Or : (whole : SqlCond) (sources : List SqlCond) (parts : List ReadyCond) → whole ≡ cond_of.Or sources → map truth parts ≡ map (truth_in tables) sources → truth (Or parts) ≡ truth_in tables whole
  ready_Or whole sources parts is same = everywhere _ _ (λ scopes.
      ready.truth-Or parts scopes ∙ ap any_true (map_at truth (truth_in tables) parts sources scopes same)
      ∙ sym (truth_in-Or tables sources scopes) ∙ ap (λ c. truth_in tables c scopes) (sym is))

  pub ready_Not : (whole source : SqlCond) (part : ReadyCond) → whole ≡ cond_of.Not source → truth part ≡ truth_in tables source → truth (Not part) ≡ truth_in tables whole
  ready_Not whole source part is same = everywhere _ _ (λ scopes.
      ready.truth-Not part scopes ∙ (λ j. negated (same j scopes))
      ∙ sym (truth_in-Not tables source scopes) ∙ ap (λ c. truth_in tables c scopes) (sym is))

  pub ready_Compare : (whole : SqlCond) (op : CompareOp) (a b : SqlScalar) (x y : ReadyScalar) → whole ≡ cond_of.Compare op a b → value x ≡ value_in tables a → value y ≡ value_in tables b
      → truth (Compare op x y) ≡ truth_in tables whole
  ready_Compare whole op a b x y is at_a at_b = everywhere _ _ (λ scopes.
      ready.truth-Compare op x y scopes ∙ (λ j. comparison op (at_a j scopes) (at_b j scopes))
      ∙ sym (truth_in-Compare tables op a b scopes) ∙ ap (λ c. truth_in tables c scopes) (sym is))

  pub ready_Between : (whole : SqlCond) (negate : Bool) (a low high : SqlScalar) (x y z : ReadyScalar) → whole ≡ cond_of.Between negate a low high
      → value x ≡ value_in tables a → value y ≡ value_in tables low → value z ≡ value_in tables high → truth (Between negate x y z) ≡ truth_in tables whole
  ready_Between whole negate a low high x y z is at_a at_low at_high = everywhere _ _ (λ scopes.
      ready.truth-Between negate x y z scopes ∙ (λ j. negated_if negate (between (at_a j scopes) (at_low j scopes) (at_high j scopes)))
      ∙ sym (truth_in-Between tables negate a low high scopes) ∙ ap (λ c. truth_in tables c scopes) (sym is))

  pub ready_OneOf : (whole : SqlCond) (negate : Bool) (a : SqlScalar) (list : List SqlScalar) (x : ReadyScalar) (xs : List ReadyScalar) → whole ≡ cond_of.OneOf negate a list
      → value x ≡ value_in tables a → map value xs ≡ map (value_in tables) list → truth (OneOf negate x xs) ≡ truth_in tables whole
  ready_OneOf whole negate a list x xs is at_a at_list = everywhere _ _ (λ scopes.
      ready.truth-OneOf negate x xs scopes ∙ (λ j. negated_if negate (one_of (at_a j scopes) (map_at value (value_in tables) xs list scopes at_list j)))
      ∙ sym (truth_in-OneOf tables negate a list scopes) ∙ ap (λ c. truth_in tables c scopes) (sym is))

  pub ready_IsNull : (whole : SqlCond) (negate : Bool) (a : SqlScalar) (x : ReadyScalar) → whole ≡ cond_of.IsNull negate a → value x ≡ value_in tables a → truth (IsNull negate x) ≡ truth_in tables whole
  ready_IsNull whole negate a x is at_a = everywhere _ _ (λ scopes.
      ready.truth-IsNull negate x scopes ∙ (λ j. negated_if negate (truth_of (is_null (at_a j scopes))))
      ∙ sym (truth_in-IsNull tables negate a scopes) ∙ ap (λ c. truth_in tables c scopes) (sym is))

  pub any_row : (query : SqlQuery) (scopes : Scopes) → list_any (λ _. true) (rows_in tables query scopes) ≡ list_any (λ _. true) (scopes_kept tables query scopes)
  any_row query scopes =
      ap (list_any (λ _. true)) (rows_in_is tables query scopes)
      ∙ any_once (out-SqlQuery query).distinct (rows_selected tables query scopes)
      ∙ list_any-map (λ _. true) (λ scope. let row : AnswerRow = record { cells = map (λ item. item_value tables item (scope ∷ scopes)) (out-SqlQuery query).items } in row) (scopes_kept tables query scopes)

  pub ready_Exists : (whole : SqlCond) (query : SqlQuery) (found : ReadySearch) → whole ≡ cond_of.Exists query → kept found ≡ scopes_kept tables query → truth (Exists found) ≡ truth_in tables whole
  ready_Exists whole query found is same = everywhere _ _ (λ scopes.
      ready.truth-Exists found scopes ∙ (λ j. truth_of (list_any (λ _. true) (same j scopes)))
      ∙ ap truth_of (sym (any_row query scopes))
      ∙ sym (truth_in-Exists tables query scopes) ∙ ap (λ c. truth_in tables c scopes) (sym is))

  pub ready_Column : (whole : SqlScalar) (place : SqlPlace) → whole ≡ scalar_of.Column place → value (Column place) ≡ value_in tables whole
  ready_Column whole place is = everywhere _ _ (λ scopes. ready.value-Column place scopes ∙ sym (value_in-Column tables place scopes) ∙ ap (λ s. value_in tables s scopes) (sym is))

  pub ready_Number : (whole : SqlScalar) (n made : ℤ) → whole ≡ scalar_of.Number n → made ≡ n → value (Constant (Num made)) ≡ value_in tables whole
  ready_Number whole n made is same = everywhere _ _ (λ scopes.
      ready.value-Constant (Num made) scopes ∙ ap Num same ∙ sym (value_in-Number tables n scopes) ∙ ap (λ s. value_in tables s scopes) (sym is))

  pub ready_Chars : (whole : SqlScalar) (text copy : List ℕ) → whole ≡ scalar_of.Chars text → copy ≡ text → value (Constant (Str copy)) ≡ value_in tables whole
  ready_Chars whole text copy is same = everywhere _ _ (λ scopes.
      ready.value-Constant (Str copy) scopes ∙ ap Str same ∙ sym (value_in-Chars tables text scopes) ∙ ap (λ s. value_in tables s scopes) (sym is))

  pub ready_Sum : (whole : SqlScalar) (sources : List SumTerm) (terms : List ReadyScalar) → whole ≡ scalar_of.Sum sources → map value terms ≡ map (term_value tables) sources → value (Sum terms) ≡ value_in tables whole
  ready_Sum whole sources terms is same = everywhere _ _ (λ scopes.
      ready.value-Sum terms scopes ∙ ap wrapped_sum (map_at value (term_value tables) terms sources scopes same)
      ∙ sym (value_in-Sum tables sources scopes) ∙ ap (λ s. value_in tables s scopes) (sym is))

  pub ready_Case : (whole : SqlScalar) (sources : List SqlWhen) (given : Option SqlScalar) (whens : List ReadyWhen) (last : ReadyScalar) → whole ≡ scalar_of.Case sources given
      → map when_value whens ≡ map (meaning.when_value tables) sources → value last ≡ else_value (option_map (value_in tables) given) → value (Case whens last) ≡ value_in tables whole
  ready_Case whole sources given whens last is same at_last = everywhere _ _ (λ scopes.
      ready.value-Case whens last scopes
      ∙ (λ j. or_else (first_some (map_at when_value (meaning.when_value tables) whens sources scopes same j)) (at_last j scopes))
      ∙ sym (value_in-Case tables sources given scopes) ∙ ap (λ s. value_in tables s scopes) (sym is))

  pub ready_when : (source : SqlWhen) (made : ReadyWhen) → truth made.cond ≡ truth_in tables source.cond → value made.value ≡ value_in tables source.value → when_value made ≡ meaning.when_value tables source
  ready_when source made at_cond at_value = everywhere _ _ (λ scopes.
      ready.when_value_is made scopes ∙ (λ j. cond (is_true (at_cond j scopes)) (Some (at_value j scopes)) None) ∙ sym (when_value_is tables source scopes))

  pub ready_minus : (source : SumTerm) (scalar : ReadyScalar) → source.minus ≡ true → value scalar ≡ value_in tables source.scalar → value (Negative scalar) ≡ term_value tables source
  ready_minus source scalar minus same = everywhere _ _ (λ scopes.
      ready.value-Negative scalar scopes ∙ (λ j. wrapped_sign true (same j scopes)) ∙ sym (ap (λ b. wrapped_sign b (value_in tables source.scalar scopes)) minus) ∙ sym (term_value_is tables source scopes))

  pub ready_plus : (source : SumTerm) (scalar : ReadyScalar) → source.minus ≡ false → value scalar ≡ value_in tables source.scalar → value scalar ≡ term_value tables source
  ready_plus source scalar plus same = everywhere _ _ (λ scopes.
      (λ j. same j scopes) ∙ sym (ap (λ b. wrapped_sign b (value_in tables source.scalar scopes)) plus) ∙ sym (term_value_is tables source scopes))

  pub ready_rows : (query : SqlQuery) (found : ReadySearch) (items : List ReadyScalar) → kept found ≡ scopes_kept tables query → map value items ≡ map (item_value tables) (out-SqlQuery query).items
      → map (λ scope. row_of items (scope ∷ [])) (kept found []) ≡ rows_selected tables query []
  ready_rows query found items same shown =
      λ j. map (λ scope. let row : AnswerRow = record { cells = map_at value (item_value tables) items (out-SqlQuery query).items (scope ∷ []) shown j } in row) (same j [])

  pub ready_no_else : value (Constant Null) ≡ else_value None
  ready_no_else = everywhere _ _ (λ scopes. ready.value-Constant Null scopes)

  pub item_same : (item : SqlItem) → value_in tables item.value ≡ item_value tables item
  item_same item = everywhere _ _ (λ scopes. sym (item_value_is tables item scopes))

  pub from_Table : (item : SqlFrom) (table : SqlTable) → item.source ≡ source_of.Table table → rows_of tables table.index ≡ from_rows tables item
  from_Table item table is = sym (from_rows_is tables item ∙ ap (source_rows tables) is ∙ source_rows-Table tables table)

  pub from_Derived : (item : SqlFrom) (query : SqlQuery) → item.source ≡ source_of.Derived query → rows_in tables query [] ≡ from_rows tables item
  from_Derived item query is = sym (from_rows_is tables item ∙ ap (source_rows tables) is ∙ source_rows-Derived tables query)

  pub all_kept : (query : SqlQuery) (rows : List AnswerRow) → (out-SqlQuery query).distinct ≡ false → rows ≡ rows_selected tables query [] → rows ≡ rows_in tables query []
  all_kept query rows plain are =
      are ∙ sym (rows_in_is tables query [] ∙ ap (λ d. cond d (each_once (rows_selected tables query [])) (rows_selected tables query [])) plain)

  pub once_kept : (query : SqlQuery) (rows : List AnswerRow) → (out-SqlQuery query).distinct ≡ true → rows ≡ rows_selected tables query [] → each_once rows ≡ rows_in tables query []
  once_kept query rows distinct are =
      ap each_once are ∙ sym (rows_in_is tables query [] ∙ ap (λ d. cond d (each_once (rows_selected tables query [])) (rows_selected tables query [])) distinct)
