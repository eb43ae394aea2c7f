-- Conditions by their parts as lists: what it is to be formed, the nesting, and the conditions that AND joins.
use Rattle.std.proofs.Common.{◌≡◌, ◌≤◌, Bool, List, [], ◌∷◌, map, length, All, refl, sym, ap, ◌∙◌, subst, rules, arith}
use Rattle.std.proofs.lemmas.List.Elements.{All-nil, All-cons, All-head, All-tail}
use Rattle.std.proofs.lemmas.Simd.{map-map}
use mathlib.Core.Former.{Count}
use Rattle.prefsql_values.specs.Nesting.{Standing, alone, in_and, in_or, after_not, wraps_and, wraps_or, wraps_not, in_parentheses, deepest}
use Rattle.prefsql_values.specs.declared.value.CompareOp.{CompareOp}
use Rattle.pref_terms.specs.declared.term.Leaf.{Leaf}
use Rattle.conditions.specs.declared.condition.Quality.{Quality}
use Rattle.conditions.specs.declared.condition.Scalar.{Scalar}
use Rattle.conditions.specs.declared.condition.Cond.{Cond, And, And', Or, Or', Not, Not', Compare, Between, OneOf, IsNull, Top, Row_of-Cond, end_of-Cond, more_of-Cond, items-the_row-Cond, items_hidden-the_row-Cond-0, items_hidden-the_row-Cond-1}
use Rattle.conditions.specs.declared.condition.Cond.TheFolds as folds
use Rattle.conditions.specs.declared.condition.Cond.TheViews as views
use Rattle.query_meaning.specs.Conjuncts.{conjuncts, joined}
use Rattle.query_meaning.specs.Nesting.{nesting_in}
use Rattle.query_meaning.specs.Valid.{AreConjuncts, AreFormed, AreSeveral, IsFormed, IsOverLeaves, part_count}
use Rattle.query_meaning.specs.declared.block.FromTable.{FromTable}

-- the parts of a condition, as it keeps them
abbrev row_of : Cond → (n : Count) × Row_of-Cond n
row_of (And' _ row) = (_, row)
row_of (Or' _ row) = (_, row)
row_of (Not' _ row) = (_, row)
row_of _ = (_, end_of-Cond)

count_is : (n : _) (row : Row_of-Cond n) → part_count row ≡ length (items-the_row-Cond n row)
count_is n end_of-Cond = refl
count_is n (more_of-Cond part rest) = let more = count_is _ rest in omega (arith, more)

module _ (from : List FromTable) where
  to_row : (n : _) (row : Row_of-Cond n) → All (IsFormed from) (items-the_row-Cond n row) → AreFormed from row
  to_row n end_of-Cond all = tt
  to_row n (more_of-Cond part rest) all = (All-head (IsFormed from) part _ all, to_row _ rest (All-tail (IsFormed from) part _ all))

  of_row : (n : _) (row : Row_of-Cond n) → AreFormed from row → All (IsFormed from) (items-the_row-Cond n row)
  of_row n end_of-Cond all = All-nil (IsFormed from)
  of_row n (more_of-Cond part rest) all = All-cons (IsFormed from) part _ all.0 (of_row _ rest all.1)

  pub IsFormed-And : (parts : List Cond) → AreSeveral (length parts) → All (IsFormed from) parts → IsFormed from (And parts)
  IsFormed-And parts several all =
      let row = row_of (And parts) in
      let same = items_hidden-the_row-Cond-0 parts in
      let count : length parts ≡ part_count row.1 = ap length (sym same) ∙ sym (count_is row.0 row.1) in
      (subst AreSeveral count several, to_row row.0 row.1 (subst (All (IsFormed from)) (sym same) all))

  pub IsFormed-Or : (parts : List Cond) → AreSeveral (length parts) → All (IsFormed from) parts → IsFormed from (Or parts)
  IsFormed-Or parts several all =
      let row = row_of (Or parts) in
      let same = items_hidden-the_row-Cond-0 parts in
      let count : length parts ≡ part_count row.1 = ap length (sym same) ∙ sym (count_is row.0 row.1) in
      (subst AreSeveral count several, to_row row.0 row.1 (subst (All (IsFormed from)) (sym same) all))

  pub IsFormed-Not : (part : Cond) → IsFormed from part → IsFormed from (Not part)
  IsFormed-Not part is =
      let row = row_of (Not part) in
      let same = items_hidden-the_row-Cond-1 part in
      to_row row.0 row.1 (subst (All (IsFormed from)) (sym same) (All-cons (IsFormed from) part [] is (All-nil (IsFormed from))))

  pub And-IsFormed : (parts : List Cond) → IsFormed from (And parts) → AreSeveral (length parts) × All (IsFormed from) parts
  And-IsFormed parts is =
      let row = row_of (And parts) in
      let same = items_hidden-the_row-Cond-0 parts in
      let count : part_count row.1 ≡ length parts = count_is row.0 row.1 ∙ ap length same in
      (subst AreSeveral count is.0, subst (All (IsFormed from)) same (of_row row.0 row.1 is.1))

  pub Or-IsFormed : (parts : List Cond) → IsFormed from (Or parts) → AreSeveral (length parts) × All (IsFormed from) parts
  Or-IsFormed parts is =
      let row = row_of (Or parts) in
      let same = items_hidden-the_row-Cond-0 parts in
      let count : part_count row.1 ≡ length parts = count_is row.0 row.1 ∙ ap length same in
      (subst AreSeveral count is.0, subst (All (IsFormed from)) same (of_row row.0 row.1 is.1))

  pub Not-IsFormed : (part : Cond) → IsFormed from (Not part) → IsFormed from part
  Not-IsFormed part is =
      let row = row_of (Not part) in
      All-head (IsFormed from) part [] (subst (All (IsFormed from)) (items_hidden-the_row-Cond-1 part) (of_row row.0 row.1 is))

-- ---- nesting

pub nesting_in-And : (parts : List Cond) (standing : Standing) → nesting_in (And parts) standing ≡ in_parentheses (wraps_and standing) (deepest (map (λ part. nesting_in part in_and) parts))
unfolding nesting_in
nesting_in-And parts standing = search (rules, folds.the_lemmas, map-map)

pub nesting_in-Or : (parts : List Cond) (standing : Standing) → nesting_in (Or parts) standing ≡ in_parentheses (wraps_or standing) (deepest (map (λ part. nesting_in part in_or) parts))
unfolding nesting_in
nesting_in-Or parts standing = search (rules, folds.the_lemmas, map-map)

pub nesting_in-Not : (part : Cond) (standing : Standing) → nesting_in (Not part) standing ≡ in_parentheses (wraps_not standing) (nesting_in part after_not)
unfolding nesting_in
nesting_in-Not part standing = search (rules, folds.the_lemmas)

pub nesting_in-Compare : (op : CompareOp) (a b : Scalar) (standing : Standing) → nesting_in (Compare op a b) standing ≡ 0
unfolding nesting_in
nesting_in-Compare op a b standing = search (rules, folds.the_lemmas)

pub nesting_in-Between : (negate : Bool) (a low high : Scalar) (standing : Standing) → nesting_in (Between negate a low high) standing ≡ 0
unfolding nesting_in
nesting_in-Between negate a low high standing = search (rules, folds.the_lemmas)

pub nesting_in-OneOf : (negate : Bool) (a : Scalar) (list : List Scalar) (standing : Standing) → nesting_in (OneOf negate a list) standing ≡ 1
unfolding nesting_in
nesting_in-OneOf negate a list standing = search (rules, folds.the_lemmas)

pub nesting_in-IsNull : (negate : Bool) (a : Scalar) (standing : Standing) → nesting_in (IsNull negate a) standing ≡ 0
unfolding nesting_in
nesting_in-IsNull negate a standing = search (rules, folds.the_lemmas)

pub nesting_in-Top : (quality : Quality) (standing : Standing) → nesting_in (Top quality) standing ≡ 0
unfolding nesting_in
nesting_in-Top quality standing = search (rules, folds.the_lemmas)

-- ---- the conditions that AND joins

pub conjuncts-And : (parts : List Cond) → conjuncts (And parts) ≡ parts
conjuncts-And parts = search (rules, views.the_lemmas)

pub conjuncts-Or : (parts : List Cond) → conjuncts (Or parts) ≡ Or parts ∷ []
conjuncts-Or parts = search (rules, views.the_lemmas)

pub conjuncts-Not : (part : Cond) → conjuncts (Not part) ≡ Not part ∷ []
conjuncts-Not part = search (rules, views.the_lemmas)

pub conjuncts-Compare : (op : CompareOp) (a b : Scalar) → conjuncts (Compare op a b) ≡ Compare op a b ∷ []
conjuncts-Compare op a b = search (rules, views.the_lemmas)

pub conjuncts-Between : (negate : Bool) (a low high : Scalar) → conjuncts (Between negate a low high) ≡ Between negate a low high ∷ []
conjuncts-Between negate a low high = search (rules, views.the_lemmas)

pub conjuncts-OneOf : (negate : Bool) (a : Scalar) (list : List Scalar) → conjuncts (OneOf negate a list) ≡ OneOf negate a list ∷ []
conjuncts-OneOf negate a list = search (rules, views.the_lemmas)

pub conjuncts-IsNull : (negate : Bool) (a : Scalar) → conjuncts (IsNull negate a) ≡ IsNull negate a ∷ []
conjuncts-IsNull negate a = search (rules, views.the_lemmas)

pub conjuncts-Top : (quality : Quality) → conjuncts (Top quality) ≡ Top quality ∷ []
conjuncts-Top quality = search (rules, views.the_lemmas)

-- two conditions or more are joined by an AND
pub joined-several : (conds : List Cond) → 2 ≤ length conds → joined conds ≡ And conds
joined-several [] several = absurd (omega (arith, several))
joined-several (cond ∷ []) several = absurd (omega (arith, several))
joined-several (cond ∷ other ∷ more) several = refl

-- no condition at all
pub no_conjuncts : (from : List FromTable) (leaves : List Leaf) → AreConjuncts from leaves []
no_conjuncts from leaves = record {
  few = omega arith;
  formed = All-nil (IsFormed from);
  scalars = All-nil (IsOverLeaves leaves);
  parts = conjuncts-And [];
  nested = (let none = nesting_in-And [] alone in omega (arith, none));
}
