-- Plans of the steps, as more is judged.
use Rattle.std.proofs.Common.{◌≡◌, ℕ, zero, suc, ◌+◌, ◌<◌, ◌≤◌, min, All, Bool, true, false, not, ◌&&◌, Some, None, List, [], ◌∷◌, ◌++◌, length, get_or, set, take, map, cond, inl, inr, arith, refl, sym, ap, ◌∙◌, append-nil, append_assoc}
use Rattle.std.specs.List.{filter, flat_map}
use Rattle.std.proofs.lemmas.Bool.{cases_Bool}
use Rattle.std.proofs.lemmas.Bool.Decides.{leb_tells}
use Rattle.std.proofs.lemmas.List.{take_all, take_more}
use Rattle.std.proofs.lemmas.List.Elements.{All-drop, All-head}
use Rattle.std.proofs.lemmas.List.Folds.{list_all-append}
use Rattle.std.proofs.lemmas.Simd.{map-map}
use Rattle.prefsql_tables.specs.declared.table.AnswerRow.{AnswerRow}
use Rattle.prefsql_tables.specs.Product.{product}
use Rattle.prefsql_tables.specs.Table.{cell_in, no_row}
use Rattle.prefsql_values.specs.Truth.{is_true}
use Rattle.prefsql_values.specs.Value.{is_null, value_eq}
use Rattle.prefsql_values.specs.declared.value.Value.{Value}
use Rattle.prefsql_values.proofs.ValueEq.{value_eq-Decides}
use Rattle.sql_tree.specs.Meaning.{Scope, Scopes}
use Rattle.sql_exec.specs.declared.ready.ReadyCond.{ReadyCond}
use Rattle.sql_exec.specs.declared.ready.ReadyRows as ready_rows
use Rattle.sql_exec.specs.declared.ready.ReadyRows.{Equal}
use Rattle.sql_exec.specs.declared.ready.ReadyScalar.{ReadyScalar}
use Rattle.sql_exec.specs.declared.ready.ReadyStep.{ReadyStep}
use Rattle.sql_exec.specs.declared.ready.ReadySearch.{ReadySearch, out-ReadySearch}
use Rattle.sql_exec.specs.declared.row_groups.RowGroups.{RowGroups}
use Rattle.sql_exec.specs.declared.steps.ItemPlan.{ItemPlan}
use Rattle.sql_exec.specs.declared.steps.StepPlan.{StepPlan}
use Rattle.sql_exec.specs.Planned.{IsMade, is_found_by, item_keeps, items_keep, plan_keeps}
use Rattle.sql_exec.specs.Reach.{AreAlike, SpeaksOf}
use Rattle.sql_exec.specs.Ready.{all_keep, keeps, kept, row_choice, steps_at, truth, value}
use Rattle.sql_exec.specs.RowKeys.{are_equal, is_found, may_find, rows_at, same_rows}
use Rattle.sql_exec.specs.Walks.{walk}
use Rattle.sql_exec.proofs.Grouping.{are_equal_is}
use Rattle.sql_exec.proofs.Nested.{AreSteps, Test, passes, walked_all, where_passed}
use Rattle.sql_exec.proofs.ReadyReads.{kept_is, rows-All, rows-Equal, step_is}

-- ---- what is seen of the first rows of a scope

take_read : (k : ℕ) (row : Scope) (i : ℕ) → i < k → get_or (take k row) i no_row ≡ get_or row i no_row
take_read zero row i within = absurd (omega (arith, within))
take_read (suc k) [] i within = refl
take_read (suc k) (x ∷ row) zero within = refl
take_read (suc k) (x ∷ row) (suc i) within = take_read k row i (omega (arith, within))

-- the first rows of a scope show what the scope shows, of these items
pub front_alike : (k reach : ℕ) (row : Scope) (scopes : Scopes) → reach ≤ k → AreAlike 0 reach (take k row ∷ scopes) (row ∷ scopes)
front_alike k reach row scopes no_more = λ place small at. go place.up place.item place.column at
  where
    go : (up item column : ℕ) → (up ≡ 0 → item < reach) → cell_in (get_or (get_or (take k row ∷ scopes) up []) item no_row) column ≡ cell_in (get_or (get_or (row ∷ scopes) up []) item no_row) column
    go zero item column at = (let h : item < reach = at refl in ap (λ (r : AnswerRow). cell_in r column) (take_read k row item (omega (arith, h, no_more))))
    go (suc up) item column at = refl

pub front_says : {V : Type 0} (f : Scopes → V) (k reach : ℕ) (row : Scope) (scopes : Scopes) → SpeaksOf 0 reach f → reach ≤ k → f (take k row ∷ scopes) ≡ f (row ∷ scopes)
front_says f k reach row scopes speaks no_more = speaks (take k row ∷ scopes) (row ∷ scopes) (front_alike k reach row scopes no_more)

-- so do all of them
pub all_say : {V : Type 0} (f : Scopes → V) (k : ℕ) (row : Scope) (scopes : Scopes) → length row ≤ k → f (take k row ∷ scopes) ≡ f (row ∷ scopes)
all_say f k row scopes all = ap (λ (r : Scope). f (r ∷ scopes)) (take_all k row all)

-- the first so many rows are enough, or all
pub enough_says : {V : Type 0} (f : Scopes → V) (k reach : ℕ) (row : Scope) (scopes : Scopes) → SpeaksOf 0 reach f → k ≡ min reach (length row) → f (take k row ∷ scopes) ≡ f (row ∷ scopes)
enough_says f k reach row scopes speaks is = elim (leb_tells reach k) [ inl few ↦ front_says f k reach row scopes speaks few.1 | inr many ↦ all_say f k row scopes (let m = many.1 in omega (arith, is, m)) ]

-- ---- conjunctions

and_third : (a b c : Bool) → ((a && b) && c) ≡ ((a && c) && b)
and_third true true c = sym (and_true c)
  where
    and_true : (x : Bool) → (x && true) ≡ x
    and_true true = refl
    and_true false = refl
and_third true false true = refl
and_third true false false = refl
and_third false b c = refl

pub and_moved : (a b c : Bool) → ((a && c) && b) ≡ ((a && b) && c)
and_moved a b c = sym (and_third a b c)

pub and_grouped : (a b c : Bool) → (a && (b && c)) ≡ ((a && b) && c)
and_grouped true b c = refl
and_grouped false b c = refl

pub and_last : (a : Bool) → a ≡ (a && true)
and_last true = refl
and_last false = refl

-- ---- one item of a plan judges more

module _ (scopes : Scopes) (told : Bool) where
  pub item_set : (items : List ItemPlan) (k : ℕ) (d item : ItemPlan) (front rows : Scope) → k < length items → length rows ≡ length items
      → ((f : Scope) → f ≡ front ++ take k rows → item_keeps scopes item f (get_or rows k no_row) ≡ (item_keeps scopes (get_or items k d) f (get_or rows k no_row) && told))
      → items_keep (set items k item) front rows scopes ≡ (items_keep items front rows scopes && told)
  item_set [] k d item front rows within same judged = absurd (omega (arith, within))
  item_set (i ∷ items) k d item front [] within same judged = absurd (omega (arith, same))
  item_set (i ∷ items) zero d item front (row ∷ rows) within same judged =
      ap (λ b. b && items_keep items (front ++ row ∷ []) rows scopes) (judged front (sym (append-nil front)))
      ∙ and_third (item_keeps scopes i front row) told (items_keep items (front ++ row ∷ []) rows scopes)
  item_set (i ∷ items) (suc k) d item front (row ∷ rows) within same judged =
      ap (λ b. item_keeps scopes i front row && b)
      (item_set items k d item (front ++ row ∷ []) rows (omega (arith, within)) (omega (arith, same)) (λ f is. judged f (is ∙ append_assoc front (row ∷ []) (take k rows))))
      ∙ and_grouped (item_keeps scopes i front row) (items_keep items (front ++ row ∷ []) rows scopes) told

-- a test more
pub test_added : (item new : ItemPlan) (cond : ReadyCond) (scopes : Scopes) (front : Scope) (row : AnswerRow) → new.key ≡ item.key → new.tests ≡ item.tests ++ cond ∷ []
    → item_keeps scopes new front row ≡ (item_keeps scopes item front row && keeps cond ((front ++ row ∷ []) ∷ scopes))
test_added item new c scopes front row same_key more =
    let seen = (front ++ row ∷ []) ∷ scopes in
    (λ j. is_found_by (same_key j) front row scopes && all_keep (more j) seen)
    ∙ ap (λ b. is_found_by item.key front row scopes && b) (list_all-append (λ cond. keeps cond seen) item.tests (c ∷ []) ∙ ap (λ b. all_keep item.tests seen && b) (sym (and_last (keeps c seen))))
    ∙ and_grouped (is_found_by item.key front row scopes) (all_keep item.tests seen) (keeps c seen)

-- ---- equal values

turned_by : (a b : Value) → value_eq a b ≡ true → are_equal a b ≡ are_equal b a
turned_by a b same = let e : a ≡ b = (value_eq-Decides a b).0 same in (λ j. are_equal (e j) (sym e j))

unlike : (a b : Value) → value_eq a b ≡ false → are_equal a b ≡ false
unlike a b other = are_equal_is a b ∙ ap (λ c. not (is_null a) && c) other ∙ none (not (is_null a))
  where
    none : (c : Bool) → (c && false) ≡ false
    none true = refl
    none false = refl

pub equal_turned : (a b : Value) → are_equal a b ≡ are_equal b a
equal_turned a b =
    elim (cases_Bool (value_eq a b)) [
      | inl same ↦ turned_by a b same
      | inr other ↦
          elim (cases_Bool (value_eq b a)) [
            | inl same ↦ sym (turned_by b a same)
            | inr another ↦ unlike a b other ∙ sym (unlike b a another)
          ]
    ]

-- ---- a plan judges more

pub plan_test_before : (old new : StepPlan) (cond : ReadyCond) (reach : ℕ) (scope : Scope) (scopes : Scopes) → new.before ≡ old.before ++ cond ∷ [] → new.items.items ≡ old.items.items → 0 ≡ min reach (length scope)
    → SpeaksOf 0 reach (truth cond) → plan_keeps new scope scopes ≡ (plan_keeps old scope scopes && keeps cond (scope ∷ scopes))
plan_test_before old new c reach scope scopes more same none speaks =
    let rest = items_keep old.items.items [] scope scopes in
    let first = all_keep old.before ([] ∷ scopes) in
    (λ j. all_keep (more j) ([] ∷ scopes) && items_keep (same j) [] scope scopes)
    ∙ ap (λ b. b && rest) (list_all-append (λ cond. keeps cond ([] ∷ scopes)) old.before (c ∷ []) ∙ ap (λ b. first && b) (sym (and_last (keeps c ([] ∷ scopes)))))
    ∙ ap (λ b. (first && b) && rest) (ap is_true (enough_says (truth c) 0 reach scope scopes speaks none))
    ∙ and_moved first rest (keeps c (scope ∷ scopes))

pub plan_item : (old new : StepPlan) (k : ℕ) (had item : ItemPlan) (told : Bool) (scope : Scope) (scopes : Scopes) → new.before ≡ old.before → new.items.items ≡ set old.items.items k item → k < length old.items.items → length scope ≡ length old.items.items
    → ((f : Scope) → f ≡ take k scope → item_keeps scopes item f (get_or scope k no_row) ≡ (item_keeps scopes (get_or old.items.items k had) f (get_or scope k no_row) && told))
    → plan_keeps new scope scopes ≡ (plan_keeps old scope scopes && told)
plan_item old new k had item told scope scopes same more within long judged =
    (λ j. all_keep (same j) ([] ∷ scopes) && items_keep (more j) [] scope scopes)
    ∙ ap (λ b. all_keep old.before ([] ∷ scopes) && b) (item_set scopes told old.items.items k had item [] scope within long judged)
    ∙ and_grouped (all_keep old.before ([] ∷ scopes)) (items_keep old.items.items [] scope scopes) told

-- a test more at the item behind which all are chosen that it speaks of
pub plan_test : (old new : StepPlan) (k : ℕ) (had item : ItemPlan) (cond : ReadyCond) (reach : ℕ) (scope : Scope) (scopes : Scopes) → new.before ≡ old.before → new.items.items ≡ set old.items.items k item → k < length old.items.items
    → length scope ≡ length old.items.items → k + 1 ≡ min reach (length scope) → had ≡ get_or old.items.items k had → item.key ≡ had.key → item.tests ≡ had.tests ++ cond ∷ []
    → SpeaksOf 0 reach (truth cond) → plan_keeps new scope scopes ≡ (plan_keeps old scope scopes && keeps cond (scope ∷ scopes))
plan_test old new k had item c reach scope scopes same more within long is there same_key tests speaks =
    plan_item old new k had item (keeps c (scope ∷ scopes)) scope scopes same more within long
    (λ f at. test_added had item c scopes f (get_or scope k no_row) same_key tests
    ∙ ap (λ (front : Scope). item_keeps scopes had f (get_or scope k no_row) && keeps c (front ∷ scopes)) (ap (λ (front : Scope). front ++ get_or scope k no_row ∷ []) at ∙ sym (take_more scope k no_row (omega (arith, within, long))))
    ∙ (λ j. item_keeps scopes (there j) f (get_or scope k no_row) && is_true (enough_says (truth c) (k + 1) reach scope scopes speaks is j)))

turned : (a b : Bool) → (a && b) ≡ (b && a)
turned true true = refl
turned true false = refl
turned false true = refl
turned false false = refl

-- a key for an item that has none
pub plan_key : (old new : StepPlan) (k : ℕ) (had item : ItemPlan) (nulls : Bool) (column : ℕ) (scalar : ReadyScalar) (scope : Scope) (scopes : Scopes) → new.before ≡ old.before → new.items.items ≡ set old.items.items k item → k < length old.items.items
    → length scope ≡ length old.items.items → had ≡ get_or old.items.items k had → item.key ≡ Some (record { nulls = nulls; column = column; scalar = scalar }) → (get_or old.items.items k had).key ≡ None → item.tests ≡ had.tests
    → SpeaksOf 0 k (value scalar) → plan_keeps new scope scopes ≡ (plan_keeps old scope scopes && is_found nulls (cell_in (get_or scope k no_row) column) (value scalar (scope ∷ scopes)))
plan_key old new k had item nulls column scalar scope scopes same more within long there is none tests speaks =
    plan_item old new k had item (is_found nulls (cell_in (get_or scope k no_row) column) (value scalar (scope ∷ scopes))) scope scopes same more within long
    (λ f at.
    let x = get_or scope k no_row in
    let seen = (f ++ x ∷ []) ∷ scopes in
    let key_says : is_found_by item.key f x scopes ≡ is_found nulls (cell_in x column) (value scalar (scope ∷ scopes)) =
    ap (λ key. is_found_by key f x scopes) is
    ∙ ap (λ (front : Scope). is_found nulls (cell_in x column) (value scalar (front ∷ scopes))) at
    ∙ ap (is_found nulls (cell_in x column)) (front_says (value scalar) k k scope scopes speaks (omega arith)) in
    let had_none : had.key ≡ None = ap (λ (i : ItemPlan). i.key) there ∙ none in
    (λ j. key_says j && all_keep (tests j) seen)
    ∙ turned (is_found nulls (cell_in x column) (value scalar (scope ∷ scopes))) (all_keep had.tests seen)
    ∙ ap (λ b. b && is_found nulls (cell_in x column) (value scalar (scope ∷ scopes))) (sym (ap (λ key. is_found_by key f x scopes && all_keep had.tests seen) had_none))
    ∙ ap (λ (i : ItemPlan). item_keeps scopes i f x && is_found nulls (cell_in x column) (value scalar (scope ∷ scopes))) there)

-- where nothing is judged
abbrev pub IsIdle : ItemPlan → Type 0
IsIdle item = (item.key ≡ None) × (item.tests ≡ [])

pub idle_keep : (items : List ItemPlan) (front rows : Scope) (scopes : Scopes) → All IsIdle items → items_keep items front rows scopes ≡ true
idle_keep [] front rows scopes idle = refl
idle_keep (item ∷ items) front [] scopes idle = refl
idle_keep (item ∷ items) front (row ∷ rows) scopes idle =
    let here = All-head IsIdle item items idle in
    (λ j. (is_found_by (here.0 j) front row scopes && all_keep (here.1 j) ((front ++ row ∷ []) ∷ scopes)) && idle_keep items (front ++ row ∷ []) rows scopes (All-drop IsIdle 1 (item ∷ items) idle) j)

-- ---- the steps of a plan

narrowed : {X : Type 0} (p q : X → Bool) (h : X → List Scope) (xs : List X) → flat_map (λ x. cond (q x) (h x) []) (filter p xs) ≡ flat_map (λ x. cond (p x && q x) (h x) []) xs
narrowed p q h [] = refl
narrowed p q h (x ∷ xs) = go (p x) ∙ ap (λ rest. cond (p x && q x) (h x) [] ++ rest) (narrowed p q h xs)
  where
    go : (b : Bool) → flat_map (λ x. cond (q x) (h x) []) (cond b (x ∷ filter p xs) (filter p xs)) ≡ cond (b && q x) (h x) [] ++ flat_map (λ x. cond (q x) (h x) []) (filter p xs)
    go true = refl
    go false = refl

pub made_all : (rows : List AnswerRow) (item : ItemPlan) (step : ReadyStep) → item.key ≡ None → step.rows ≡ ready_rows.All rows → step.tests ≡ item.tests → IsMade rows item step
made_all rows item step none is same = λ front scopes behind.
    (λ j. flat_map (λ row. cond ((step_is step scopes j).1 (front ++ row ∷ [])) (behind row) []) ((step_is step scopes j).0 front))
    ∙ (λ j. flat_map (λ row. cond (all_keep (same j) ((front ++ row ∷ []) ∷ scopes)) (behind row) []) (row_choice (is j) (front ∷ scopes)))
    ∙ ap (flat_map (λ row. cond (all_keep item.tests ((front ++ row ∷ []) ∷ scopes)) (behind row) [])) (rows-All rows (front ∷ scopes))
    ∙ sym (λ j. flat_map (λ row. cond (is_found_by (none j) front row scopes && all_keep item.tests ((front ++ row ∷ []) ∷ scopes)) (behind row) []) rows)

pub made_equal : (rows : List AnswerRow) (item : ItemPlan) (step : ReadyStep) (nulls : Bool) (column : ℕ) (scalar : ReadyScalar) (groups : RowGroups) → item.key ≡ Some (record { nulls = nulls; column = column; scalar = scalar }) → step.rows ≡ Equal nulls scalar groups → step.tests ≡ item.tests
    → ((v : Value) → rows_at groups v ≡ same_rows rows column v) → IsMade rows item step
made_equal rows item step nulls column scalar groups some is same grouped = λ front scopes behind.
    let v = value scalar (front ∷ scopes) in
    (λ j. flat_map (λ row. cond ((step_is step scopes j).1 (front ++ row ∷ [])) (behind row) []) ((step_is step scopes j).0 front))
    ∙ (λ j. flat_map (λ row. cond (all_keep (same j) ((front ++ row ∷ []) ∷ scopes)) (behind row) []) (row_choice (is j) (front ∷ scopes)))
    ∙ ap (flat_map (λ row. cond (all_keep item.tests ((front ++ row ∷ []) ∷ scopes)) (behind row) [])) (rows-Equal nulls scalar groups (front ∷ scopes) ∙ ap (λ all. cond (may_find nulls v) all []) (grouped v) ∙ sym (where_passed (may_find nulls v) (λ row. value_eq (cell_in row column) v) rows))
    ∙ narrowed (λ row. is_found nulls (cell_in row column) v) (λ row. all_keep item.tests ((front ++ row ∷ []) ∷ scopes)) behind rows
    ∙ sym (λ j. flat_map (λ row. cond (is_found_by (some j) front row scopes && all_keep item.tests ((front ++ row ∷ []) ∷ scopes)) (behind row) []) rows)

-- the steps are made of the rows and the plans of the items, pair by pair
abbrev pub AreMade : List ReadyStep → List (List AnswerRow × ItemPlan) → Type 0
AreMade [] [] = Unit {0}
AreMade (step ∷ steps) (pair ∷ pairs) = IsMade pair.0 pair.1 step × AreMade steps pairs
AreMade _ _ = ⊥

pub made_more : (steps : List ReadyStep) (pairs : List (List AnswerRow × ItemPlan)) (step : ReadyStep) (pair : List AnswerRow × ItemPlan) → AreMade steps pairs → IsMade pair.0 pair.1 step → AreMade (steps ++ step ∷ []) (pairs ++ pair ∷ [])
made_more [] [] step pair are is = (is, tt)
made_more [] (q ∷ pairs) step pair are is = absurd are
made_more (s ∷ steps) [] step pair are is = absurd are
made_more (s ∷ steps) (q ∷ pairs) step pair are is = (are.0, made_more steps pairs step pair are.1 is)

as_steps : (scopes : Scopes) (steps : List ReadyStep) (pairs : List (List AnswerRow × ItemPlan)) → AreMade steps pairs → AreSteps (steps_at steps scopes) (map (λ pair. pair.0) pairs) (map (λ pair. item_keeps scopes pair.1) pairs)
as_steps scopes [] [] are = tt
as_steps scopes [] (q ∷ pairs) are = absurd are
as_steps scopes (s ∷ steps) [] are = absurd are
as_steps scopes (s ∷ steps) (q ∷ pairs) are = ((λ front behind. are.0 front scopes behind), as_steps scopes steps pairs are.1)

passed_is : (scopes : Scopes) (items : List ItemPlan) (front rows : Scope) → passes (map (item_keeps scopes) items) front rows ≡ items_keep items front rows scopes
passed_is scopes [] front rows = refl
passed_is scopes (item ∷ items) front [] = refl
passed_is scopes (item ∷ items) front (row ∷ rows) = ap (λ b. item_keeps scopes item front row && b) (passed_is scopes items (front ++ row ∷ []) rows)

pub made_search : (plan : StepPlan) (rows : List (List AnswerRow)) (made : ReadySearch) (pairs : List (List AnswerRow × ItemPlan)) → (out-ReadySearch made).before ≡ plan.before → AreMade (out-ReadySearch made).steps pairs
    → map (λ pair. pair.0) pairs ≡ rows → map (λ pair. pair.1) pairs ≡ plan.items.items → (scopes : Scopes) → kept made scopes ≡ filter (λ scope. plan_keeps plan scope scopes) (product rows)
made_search plan rows made pairs same are firsts seconds scopes =
    let b = all_keep plan.before ([] ∷ scopes) in
    let tests : List (Test AnswerRow) = map (λ (pair : List AnswerRow × ItemPlan). item_keeps scopes pair.1) pairs in
    let is_tests : tests ≡ map (item_keeps scopes) plan.items.items = sym (map-map (item_keeps scopes) (λ (pair : List AnswerRow × ItemPlan). pair.1) pairs) ∙ ap (map (item_keeps scopes)) seconds in
    kept_is made scopes
    ∙ ap (λ (conds : List ReadyCond). cond (all_keep conds ([] ∷ scopes)) (walk (steps_at (out-ReadySearch made).steps scopes) []) []) same
    ∙ ap (λ (all : List Scope). cond b all []) (walked_all (steps_at (out-ReadySearch made).steps scopes) (map (λ pair. pair.0) pairs) tests (as_steps scopes (out-ReadySearch made).steps pairs are))
    ∙ (λ j. cond b (filter (passes (is_tests j) []) (product (firsts j))) [])
    ∙ (λ j. cond b (filter (λ scope. passed_is scopes plan.items.items [] scope j) (product rows)) [])
    ∙ sym (where_passed b (λ scope. items_keep plan.items.items [] scope scopes) (product rows))
