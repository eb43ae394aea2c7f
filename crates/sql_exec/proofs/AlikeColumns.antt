-- A condition that holds where two columns have the same value, or both have none.
use Rattle.std.proofs.Common.{◌≡◌, ◌&&◌, eqb, Bool, true, false, List, [], ◌∷◌, length, get_or, map, arith, refl, sym, ap, ◌∙◌}
use Rattle.std.proofs.lemmas.Bool.{and_parts, eqb-true}
use Rattle.prefsql_values.specs.declared.truth.Truth.{Truth}
use Rattle.prefsql_values.specs.declared.truth.Truth.TheVariants.{False, Unknown, True}
use Rattle.prefsql_values.specs.declared.value.CompareOp.{CompareOp}
use Rattle.prefsql_values.specs.declared.value.CompareOp.TheVariants.{Eq}
use Rattle.prefsql_values.specs.declared.value.Value.{Value}
use Rattle.prefsql_values.specs.declared.value.Value.TheVariants.{Num, Str, Null}
use Rattle.prefsql_values.specs.Truth.{all_true, any_true, both_true, either_true, is_true, negated_if}
use Rattle.prefsql_values.specs.Value.{comparison, is_null, truth_of, value_eq}
use Rattle.std.specs.Cmp.{decided}
use Rattle.prefsql_values.proofs.ValueEq.{value_eq-Decides}
use Rattle.prefsql_tables.specs.Table.{Tables, cell_in, no_row}
use Rattle.sql_tree.specs.declared.tree.SqlPlace.{SqlPlace}
use Rattle.sql_tree.specs.declared.tree.SqlCond.{SqlCond}
use Rattle.sql_tree.specs.declared.tree.SqlCond as cond_of
use Rattle.sql_tree.specs.declared.tree.SqlScalar.{SqlScalar}
use Rattle.sql_tree.specs.declared.tree.SqlScalar as scalar_of
use Rattle.sql_tree.specs.Meaning.{Scope, Scopes, place_value}
use Rattle.sql_exec.specs.declared.ready.ReadyScalar.{Column}
use Rattle.sql_exec.specs.Ready.{value}
use Rattle.sql_exec.specs.RowKeys.{is_found}
use Rattle.sql_exec.proofs.ReadyReads.{value-Column}
use Rattle.sql_exec.specs.Wrapping.{truth_in, value_in}
use Rattle.sql_exec.proofs.Grouping.{are_equal_is}
use Rattle.sql_exec.proofs.WrappingReads.{truth_in-And, truth_in-Compare, truth_in-IsNull, truth_in-Or, value_in-Column}

some_or_none : (t : Truth) → is_true (either_true t (either_true (both_true False (both_true False True)) False)) ≡ is_true t
some_or_none False = refl
some_or_none Unknown = refl
some_or_none True = refl

alike_is : (a b : Value) → is_true (either_true (comparison Eq a b) (either_true (both_true (truth_of (is_null a)) (both_true (truth_of (is_null b)) True)) False)) ≡ value_eq a b
alike_is (Num m) (Num n) = some_or_none (comparison Eq (Num m) (Num n)) ∙ are_equal_is (Num m) (Num n)
alike_is (Num m) (Str t) = refl
alike_is (Num m) Null = refl
alike_is (Str s) (Num n) = refl
alike_is (Str s) (Str t) = some_or_none (comparison Eq (Str s) (Str t)) ∙ are_equal_is (Str s) (Str t)
alike_is (Str s) Null = refl
alike_is Null (Num n) = refl
alike_is Null (Str t) = refl
alike_is Null Null = refl

two : {X : Type 0} (xs : List X) (x y : X) → length xs ≡ 2 → x ≡ get_or xs 0 x → y ≡ get_or xs 1 y → xs ≡ x ∷ y ∷ []
two [] x y many is is_too = absurd (omega (arith, many))
two (p ∷ []) x y many is is_too = absurd (omega (arith, many))
two (p ∷ q ∷ []) x y many is is_too = λ j. sym is j ∷ sym is_too j ∷ []
two (p ∷ q ∷ r ∷ rest) x y many is is_too = absurd (omega (arith, many))

pub column_said : (scalar : SqlScalar) (place : SqlPlace) → scalar ≡ scalar_of.Column place → (tables : Tables) (scopes : Scopes) → value_in tables scalar scopes ≡ place_value scopes place
column_said scalar place is tables scopes = ap (λ s. value_in tables s scopes) is ∙ value_in-Column tables place scopes

pub equal_said : (whole : SqlCond) (op : CompareOp) (x y : SqlScalar) (a b : SqlPlace) → whole ≡ cond_of.Compare op x y → op ≡ Eq
    → ((tables : Tables) (scopes : Scopes) → value_in tables x scopes ≡ place_value scopes a) → ((tables : Tables) (scopes : Scopes) → value_in tables y scopes ≡ place_value scopes b)
    → (tables : Tables) (scopes : Scopes) → truth_in tables whole scopes ≡ comparison Eq (place_value scopes a) (place_value scopes b)
equal_said whole op x y a b is equal first second tables scopes =
    ap (λ c. truth_in tables c scopes) is ∙ truth_in-Compare tables op x y scopes ∙ (λ j. comparison (equal j) (first tables scopes j) (second tables scopes j))

pub null_said : (whole : SqlCond) (negate : Bool) (x : SqlScalar) (a : SqlPlace) → whole ≡ cond_of.IsNull negate x → negate ≡ false
    → ((tables : Tables) (scopes : Scopes) → value_in tables x scopes ≡ place_value scopes a) → (tables : Tables) (scopes : Scopes) → truth_in tables whole scopes ≡ truth_of (is_null (place_value scopes a))
null_said whole negate x a is plain first tables scopes =
    ap (λ c. truth_in tables c scopes) is ∙ truth_in-IsNull tables negate x scopes ∙ (λ j. negated_if (plain j) (truth_of (is_null (first tables scopes j))))

pub nulls_said : (whole : SqlCond) (parts given : List SqlCond) (x y : SqlCond) (a b : SqlPlace) → whole ≡ cond_of.And parts → given ≡ parts → length given ≡ 2 → x ≡ get_or given 0 x → y ≡ get_or given 1 y
    → ((tables : Tables) (scopes : Scopes) → truth_in tables x scopes ≡ truth_of (is_null (place_value scopes a))) → ((tables : Tables) (scopes : Scopes) → truth_in tables y scopes ≡ truth_of (is_null (place_value scopes b)))
    → (tables : Tables) (scopes : Scopes) → truth_in tables whole scopes ≡ both_true (truth_of (is_null (place_value scopes a))) (both_true (truth_of (is_null (place_value scopes b))) True)
nulls_said whole parts given x y a b is same many at_x at_y first second tables scopes =
    ap (λ c. truth_in tables c scopes) is ∙ truth_in-And tables parts scopes
    ∙ ap (λ all. all_true (map (λ part. truth_in tables part scopes) all)) (sym same ∙ two given x y many at_x at_y)
    ∙ (λ j. both_true (first tables scopes j) (both_true (second tables scopes j) True))

pub alike_said : (whole : SqlCond) (parts given : List SqlCond) (x y : SqlCond) (a b c d : SqlPlace) → whole ≡ cond_of.Or parts → given ≡ parts → length given ≡ 2 → x ≡ get_or given 0 x → y ≡ get_or given 1 y
    → ((tables : Tables) (scopes : Scopes) → truth_in tables x scopes ≡ comparison Eq (place_value scopes a) (place_value scopes b))
    → ((tables : Tables) (scopes : Scopes) → truth_in tables y scopes ≡ both_true (truth_of (is_null (place_value scopes c))) (both_true (truth_of (is_null (place_value scopes d))) True))
    → a ≡ c → b ≡ d → (tables : Tables) (scopes : Scopes) → is_true (truth_in tables whole scopes) ≡ value_eq (place_value scopes a) (place_value scopes b)
alike_said whole parts given x y a b c d is same many at_x at_y first second a_is b_is tables scopes =
    ap is_true
    (ap (λ e. truth_in tables e scopes) is ∙ truth_in-Or tables parts scopes
    ∙ ap (λ all. any_true (map (λ part. truth_in tables part scopes) all)) (sym same ∙ two given x y many at_x at_y)
    ∙ (λ j. either_true (first tables scopes j) (either_true (second tables scopes j) False))
    ∙ (λ j. either_true (comparison Eq (place_value scopes a) (place_value scopes b)) (either_true (both_true (truth_of (is_null (place_value scopes (sym a_is j)))) (both_true (truth_of (is_null (place_value scopes (sym b_is j)))) True)) False)))
    ∙ alike_is (place_value scopes a) (place_value scopes b)

-- places that are tested to be the same
pub same_place : (p q : SqlPlace) → true ≡ (eqb p.up q.up && (eqb p.item q.item && eqb p.column q.column)) → p ≡ q
same_place p q told =
    let first = and_parts (eqb p.up q.up) (eqb p.item q.item && eqb p.column q.column) (sym told) in
    let second = and_parts (eqb p.item q.item) (eqb p.column q.column) first.1 in
    let up = eqb-true p.up q.up first.0 in
    let item = eqb-true p.item q.item second.0 in
    let column = eqb-true p.column q.column second.1 in
    λ j. record { up = up j; item = item j; column = column j }

-- ---- found by another column

pub turned_about : (a b : Value) → value_eq a b ≡ value_eq b a
turned_about a b = (decided value_eq value_eq-Decides).symm a b

pub own_column : (place other : SqlPlace) → place.up ≡ 0 → (scope : Scope) (scopes : Scopes)
    → is_found true (cell_in (get_or scope place.item no_row) place.column) (value (Column other) (scope ∷ scopes)) ≡ value_eq (place_value (scope ∷ scopes) place) (place_value (scope ∷ scopes) other)
own_column place other own scope scopes =
    (λ j. value_eq (cell_in (get_or (get_or (scope ∷ scopes) (sym own j) []) place.item no_row) place.column) (value-Column other (scope ∷ scopes) j))
