-- What the conditions of WHERE judge, one by one, is what WHERE keeps.
use Rattle.std.proofs.Common.{◌≡◌, ℕ, ◌+◌, ◌<◌, ◌≤◌, All, Bool, true, false, ◌&&◌, List, [], ◌∷◌, length, get_or, take, map, arith, refl, sym, ap, ◌∙◌}
use Rattle.std.specs.List.{filter, list_all}
use Rattle.std.specs.Option.{option_map}
use Rattle.std.proofs.lemmas.List.{take_all, take_more}
use Rattle.std.proofs.lemmas.List.Elements.{All-map, All-nil, All-cons, All-weaker}
use Rattle.std.proofs.lemmas.List.Folds.{list_all-append}
use Rattle.prefsql_values.specs.declared.truth.Truth.{Truth}
use Rattle.prefsql_values.specs.declared.truth.Truth.TheVariants.{False, Unknown, True}
use Rattle.prefsql_values.specs.declared.value.CompareOp.{CompareOp}
use Rattle.prefsql_values.specs.declared.value.CompareOp.TheVariants.{Eq}
use Rattle.prefsql_values.specs.declared.value.Value.{Value}
use Rattle.prefsql_values.specs.Truth.{all_true, both_true, is_true}
use Rattle.prefsql_values.specs.Value.{comparison}
use Rattle.prefsql_tables.specs.declared.table.AnswerRow.{AnswerRow}
use Rattle.prefsql_tables.specs.Product.{product}
use Rattle.prefsql_tables.specs.Table.{Tables}
use Rattle.prefsql_tables.proofs.ListLemmas.{filter_on}
use Rattle.sql_tree.specs.declared.tree.SqlPlace.{SqlPlace}
use Rattle.sql_tree.specs.declared.tree.SqlCond.{SqlCond}
use Rattle.sql_tree.specs.declared.tree.SqlCond as cond_of
use Rattle.sql_tree.specs.declared.tree.SqlScalar.{SqlScalar}
use Rattle.sql_tree.specs.declared.tree.SqlScalar as scalar_of
use Rattle.sql_tree.specs.declared.tree.SqlQuery.{SqlQuery, out-SqlQuery}
use Rattle.sql_tree.specs.Meaning.{Scope, Scopes, is_kept, place_value}
use Rattle.sql_exec.specs.declared.steps.StepPlan.{StepPlan}
use Rattle.sql_exec.specs.Planned.{JudgesToo, item_count, plan_keeps}
use Rattle.sql_exec.specs.Preparing.{scopes_kept}
use Rattle.sql_exec.specs.RowKeys.{is_found}
use Rattle.sql_exec.specs.Wrapping.{from_rows, truth_in, value_in}
use Rattle.sql_exec.proofs.Fitted.{All-flat_map}
use Rattle.sql_exec.proofs.Grouping.{found_equal}
use Rattle.sql_exec.proofs.Planning.{and_grouped, and_last, equal_turned}
use Rattle.sql_exec.proofs.WrappingReads.{truth_in-And, truth_in-Compare, value_in-Column}

-- the same judged in other words
pub judged_as : (f g : Scope → Scopes → Bool) (old new : StepPlan) → ((scope : Scope) (scopes : Scopes) → f scope scopes ≡ g scope scopes) → JudgesToo f old new → JudgesToo g old new
judged_as f g old new same judged = λ scope scopes long. judged scope scopes long ∙ ap (λ b. plan_keeps old scope scopes && b) (same scope scopes)

both_is : (a b : Truth) → is_true (both_true a b) ≡ (is_true a && is_true b)
both_is False b = refl
both_is Unknown False = refl
both_is Unknown Unknown = refl
both_is Unknown True = refl
both_is True b = refl

pub all_is : {X : Type 0} (f : X → Truth) (xs : List X) → list_all (λ x. is_true (f x)) xs ≡ is_true (all_true (map f xs))
all_is f [] = refl
all_is f (x ∷ xs) = ap (λ b. is_true (f x) && b) (all_is f xs) ∙ sym (both_is (f x) (all_true (map f xs)))

module _ (tables : Tables) where
  pub And_judged : (whole : SqlCond) (parts given : List SqlCond) → whole ≡ cond_of.And parts → given ≡ parts → (scope : Scope) (scopes : Scopes)
      → list_all (λ part. is_true (truth_in tables part (scope ∷ scopes))) given ≡ is_true (truth_in tables whole (scope ∷ scopes))
  And_judged whole parts given is same scope scopes =
      ap (list_all (λ part. is_true (truth_in tables part (scope ∷ scopes)))) same
      ∙ all_is (λ part. truth_in tables part (scope ∷ scopes)) parts
      ∙ ap is_true (sym (ap (λ c. truth_in tables c (scope ∷ scopes)) is ∙ truth_in-And tables parts (scope ∷ scopes)))

  -- none of them yet
  pub none_judged : (plan : StepPlan) (conds : List SqlCond) → JudgesToo (λ scope scopes. list_all (λ cond. is_true (truth_in tables cond (scope ∷ scopes))) (take 0 conds)) plan plan
  none_judged plan conds = λ scope scopes long. and_last (plan_keeps plan scope scopes)

  -- one of them more
  pub one_judged : (first before now : StepPlan) (conds : List SqlCond) (i : ℕ) (d cond : SqlCond) → i < length conds → cond ≡ get_or conds i d → item_count before ≡ item_count first
      → JudgesToo (λ scope scopes. list_all (λ cond. is_true (truth_in tables cond (scope ∷ scopes))) (take i conds)) first before
      → JudgesToo (λ scope scopes. is_true (truth_in tables cond (scope ∷ scopes))) before now
      → JudgesToo (λ scope scopes. list_all (λ cond. is_true (truth_in tables cond (scope ∷ scopes))) (take (i + 1) conds)) first now
  one_judged first before now conds i d c small is same so_far judged = λ scope scopes long.
      let test : SqlCond → Bool = λ part. is_true (truth_in tables part (scope ∷ scopes)) in
      judged scope scopes (long ∙ sym same)
      ∙ ap (λ b. b && test c) (so_far scope scopes long)
      ∙ sym (and_grouped (plan_keeps first scope scopes) (list_all test (take i conds)) (test c))
      ∙ ap (λ b. plan_keeps first scope scopes && b)
      (ap (λ b. list_all test (take i conds) && b) (and_last (test c))
      ∙ ap (λ part. list_all test (take i conds) && list_all test (part ∷ [])) is
      ∙ sym (list_all-append test (take i conds) (get_or conds i d ∷ []))
      ∙ ap (list_all test) (sym (take_more conds i d small)))

  pub all_judged : (first now : StepPlan) (conds : List SqlCond) (i : ℕ) → length conds ≤ i
      → JudgesToo (λ scope scopes. list_all (λ cond. is_true (truth_in tables cond (scope ∷ scopes))) (take i conds)) first now
      → JudgesToo (λ scope scopes. list_all (λ cond. is_true (truth_in tables cond (scope ∷ scopes))) conds) first now
  all_judged first now conds i past judged = λ scope scopes long. judged scope scopes long ∙ ap (λ some. plan_keeps first scope scopes && list_all (λ cond. is_true (truth_in tables cond (scope ∷ scopes))) some) (take_all i conds past)

  pub Compare_judged : (whole : SqlCond) (op : CompareOp) (a b : SqlScalar) → whole ≡ cond_of.Compare op a b → op ≡ Eq → (scope : Scope) (scopes : Scopes)
      → is_found false (value_in tables a (scope ∷ scopes)) (value_in tables b (scope ∷ scopes)) ≡ is_true (truth_in tables whole (scope ∷ scopes))
  Compare_judged whole op a b is equal scope scopes =
      found_equal (value_in tables a (scope ∷ scopes)) (value_in tables b (scope ∷ scopes))
      ∙ sym (ap is_true (ap (λ c. truth_in tables c (scope ∷ scopes)) is ∙ truth_in-Compare tables op a b (scope ∷ scopes) ∙ ap (λ o. comparison o (value_in tables a (scope ∷ scopes)) (value_in tables b (scope ∷ scopes))) equal))

  pub Compare_turned : (whole : SqlCond) (op : CompareOp) (a b : SqlScalar) → whole ≡ cond_of.Compare op a b → op ≡ Eq → (scope : Scope) (scopes : Scopes)
      → is_found false (value_in tables b (scope ∷ scopes)) (value_in tables a (scope ∷ scopes)) ≡ is_true (truth_in tables whole (scope ∷ scopes))
  Compare_turned whole op a b is equal scope scopes =
      found_equal (value_in tables b (scope ∷ scopes)) (value_in tables a (scope ∷ scopes))
      ∙ equal_turned (value_in tables b (scope ∷ scopes)) (value_in tables a (scope ∷ scopes))
      ∙ sym (found_equal (value_in tables a (scope ∷ scopes)) (value_in tables b (scope ∷ scopes)))
      ∙ Compare_judged whole op a b is equal scope scopes

  pub Column_judged : (column : SqlScalar) (place : SqlPlace) (scalar : SqlScalar) → column ≡ scalar_of.Column place → (scope : Scope) (scopes : Scopes)
      → is_found false (place_value (scope ∷ scopes) place) (value_in tables scalar (scope ∷ scopes)) ≡ is_found false (value_in tables column (scope ∷ scopes)) (value_in tables scalar (scope ∷ scopes))
  Column_judged column place scalar is scope scopes =
      ap (λ (v : Value). is_found false v (value_in tables scalar (scope ∷ scopes))) (sym (ap (λ s. value_in tables s (scope ∷ scopes)) is ∙ value_in-Column tables place (scope ∷ scopes)))

  -- ---- a whole search

  one_each : (lists : List (List AnswerRow)) → All (λ (scope : Scope). length scope ≡ length lists) (product lists)
  one_each [] = All-cons (λ (scope : Scope). length scope ≡ 0) [] [] refl (All-nil (λ (scope : Scope). length scope ≡ 0))
  one_each (xs ∷ lists) =
      let P : Scope → Type 0 = λ scope. length scope ≡ length (xs ∷ lists) in
      let Q : Scope → Type 0 = λ scope. length scope ≡ length lists in
      All-flat_map P (λ x. map (λ rest. x ∷ rest) (product lists)) xs
      (λ k d small. All-map P (λ rest. get_or xs k d ∷ rest) (product lists) (All-weaker Q (λ rest. P (get_or xs k d ∷ rest)) (λ rest same. omega (arith, same)) (product lists) (one_each lists)))

  pub search_judged : (query : SqlQuery) (rows : List (List AnswerRow)) (empty plan : StepPlan) → rows ≡ map (from_rows tables) (out-SqlQuery query).from → item_count empty ≡ length rows
      → ((scope : Scope) (scopes : Scopes) → plan_keeps empty scope scopes ≡ true)
      → JudgesToo (λ scope scopes. is_kept (option_map (truth_in tables) (out-SqlQuery query).filter) (scope ∷ scopes)) empty plan
      → (f : Scopes → List Scope) → ((scopes : Scopes) → f scopes ≡ filter (λ scope. plan_keeps plan scope scopes) (product rows)) → f ≡ scopes_kept tables query
  search_judged query rows empty plan are count none judged f finds = λ j scopes.
      (finds scopes
      ∙ filter_on (λ scope. plan_keeps plan scope scopes) (λ scope. is_kept (option_map (truth_in tables) (out-SqlQuery query).filter) (scope ∷ scopes)) (product rows)
      (All-weaker (λ (scope : Scope). length scope ≡ length rows) (λ scope. plan_keeps plan scope scopes ≡ is_kept (option_map (truth_in tables) (out-SqlQuery query).filter) (scope ∷ scopes))
      (λ scope same. judged scope scopes (same ∙ sym count) ∙ ap (λ b. b && is_kept (option_map (truth_in tables) (out-SqlQuery query).filter) (scope ∷ scopes)) (none scope scopes)) (product rows) (one_each rows))
      ∙ ap (λ (all : List (List AnswerRow)). filter (λ scope. is_kept (option_map (truth_in tables) (out-SqlQuery query).filter) (scope ∷ scopes)) (product all)) are) j
