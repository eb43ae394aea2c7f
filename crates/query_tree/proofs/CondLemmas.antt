-- Conditions by their parts as lists: what it is to be well made, the places and the nesting.
use Rattle.std.proofs.Common.{◌≡◌, Bool, List, [], ◌∷◌, ◌++◌, map, length, All, refl, sym, ap, ◌∙◌, subst, rules, arith}
use Rattle.std.specs.List.{concat, flat_map}
use Rattle.std.proofs.lemmas.List.Elements.{All-nil, All-cons, All-head, All-tail}
use mathlib.Core.Former.{Count}
use Rattle.prefsql_values.specs.declared.value.CompareOp.{CompareOp}
use Rattle.query_tree.specs.declared.name.NameTree.{NameTree}
use Rattle.query_tree.specs.declared.condition.ScalarTree.{ScalarTree}
use Rattle.query_tree.specs.declared.condition.CondTree.{CondTree, And, And', Or, Or', Not, Not', Compare, Between, OneOf, IsNull, Top, Row_of-CondTree, end_of-CondTree, more_of-CondTree, items-the_row-CondTree, items_hidden-the_row-CondTree-0, items_hidden-the_row-CondTree-1}
use Rattle.query_tree.specs.declared.condition.CondTree.TheFolds.{the_lemmas}
use Rattle.std.proofs.lemmas.Simd.{map-map}
use Rattle.prefsql_values.specs.Nesting.{Standing, in_and, in_or, after_not, wraps_and, wraps_or, wraps_not, in_parentheses, deepest}
use Rattle.query_tree.specs.Nesting.{nesting_in}
use Rattle.query_tree.specs.Places.{cond_places, scalar_places}
use Rattle.query_tree.specs.WellMade.{IsChain, IsCond, AreConds, cond_count}

-- the parts of a condition, as it keeps them
abbrev row_of : CondTree → (n : Count) × Row_of-CondTree n
row_of (And' _ row) = (_, row)
row_of (Or' _ row) = (_, row)
row_of (Not' _ row) = (_, row)
row_of _ = (_, end_of-CondTree)

count_is : (n : _) (row : Row_of-CondTree n) → cond_count row ≡ length (items-the_row-CondTree n row)
count_is n end_of-CondTree = refl
count_is n (more_of-CondTree part rest) = let more = count_is _ rest in omega (arith, more)

module _ (qualities : Bool) where
  to_row : (n : _) (row : Row_of-CondTree n) → All (IsCond qualities) (items-the_row-CondTree n row) → AreConds qualities row
  to_row n end_of-CondTree all = tt
  to_row n (more_of-CondTree part rest) all = (All-head (IsCond qualities) part _ all, to_row _ rest (All-tail (IsCond qualities) part _ all))

  of_row : (n : _) (row : Row_of-CondTree n) → AreConds qualities row → All (IsCond qualities) (items-the_row-CondTree n row)
  of_row n end_of-CondTree all = All-nil (IsCond qualities)
  of_row n (more_of-CondTree part rest) all = All-cons (IsCond qualities) part _ all.0 (of_row _ rest all.1)

  pub IsCond-And : (parts : List CondTree) → IsChain (length parts) → All (IsCond qualities) parts → IsCond qualities (And parts)
  IsCond-And parts chain all =
      let row = row_of (And parts) in
      let same = items_hidden-the_row-CondTree-0 parts in
      let count : length parts ≡ cond_count row.1 = ap length (sym same) ∙ sym (count_is row.0 row.1) in
      (subst IsChain count chain, to_row row.0 row.1 (subst (All (IsCond qualities)) (sym same) all))

  pub IsCond-Or : (parts : List CondTree) → IsChain (length parts) → All (IsCond qualities) parts → IsCond qualities (Or parts)
  IsCond-Or parts chain all =
      let row = row_of (Or parts) in
      let same = items_hidden-the_row-CondTree-0 parts in
      let count : length parts ≡ cond_count row.1 = ap length (sym same) ∙ sym (count_is row.0 row.1) in
      (subst IsChain count chain, to_row row.0 row.1 (subst (All (IsCond qualities)) (sym same) all))

  pub IsCond-Not : (part : CondTree) → IsCond qualities part → IsCond qualities (Not part)
  IsCond-Not part is =
      let row = row_of (Not part) in
      let same = items_hidden-the_row-CondTree-1 part in
      to_row row.0 row.1 (subst (All (IsCond qualities)) (sym same) (All-cons (IsCond qualities) part [] is (All-nil (IsCond qualities))))

  pub And-IsCond : (parts : List CondTree) → IsCond qualities (And parts) → IsChain (length parts) × All (IsCond qualities) parts
  And-IsCond parts is =
      let row = row_of (And parts) in
      let same = items_hidden-the_row-CondTree-0 parts in
      let count : cond_count row.1 ≡ length parts = count_is row.0 row.1 ∙ ap length same in
      (subst IsChain count is.0, subst (All (IsCond qualities)) same (of_row row.0 row.1 is.1))

  pub Or-IsCond : (parts : List CondTree) → IsCond qualities (Or parts) → IsChain (length parts) × All (IsCond qualities) parts
  Or-IsCond parts is =
      let row = row_of (Or parts) in
      let same = items_hidden-the_row-CondTree-0 parts in
      let count : cond_count row.1 ≡ length parts = count_is row.0 row.1 ∙ ap length same in
      (subst IsChain count is.0, subst (All (IsCond qualities)) same (of_row row.0 row.1 is.1))

  pub Not-IsCond : (part : CondTree) → IsCond qualities (Not part) → IsCond qualities part
  Not-IsCond part is =
      let row = row_of (Not part) in
      All-head (IsCond qualities) part [] (subst (All (IsCond qualities)) (items_hidden-the_row-CondTree-1 part) (of_row row.0 row.1 is))

-- ---- places

pub cond_places-And : (parts : List CondTree) → cond_places (And parts) ≡ concat (map cond_places parts)
unfolding cond_places
cond_places-And parts = search (rules, the_lemmas)

pub cond_places-Or : (parts : List CondTree) → cond_places (Or parts) ≡ concat (map cond_places parts)
unfolding cond_places
cond_places-Or parts = search (rules, the_lemmas)

pub cond_places-Not : (part : CondTree) → cond_places (Not part) ≡ cond_places part
unfolding cond_places
cond_places-Not part = search (rules, the_lemmas)

pub cond_places-Compare : (op : CompareOp) (a b : ScalarTree) → cond_places (Compare op a b) ≡ scalar_places a ++ scalar_places b
unfolding cond_places
cond_places-Compare op a b = search (rules, the_lemmas)

pub cond_places-Between : (negated : Bool) (a low high : ScalarTree) → cond_places (Between negated a low high) ≡ scalar_places a ++ scalar_places low ++ scalar_places high
unfolding cond_places
cond_places-Between negated a low high = search (rules, the_lemmas)

pub cond_places-OneOf : (negated : Bool) (a : ScalarTree) (list : List ScalarTree) → cond_places (OneOf negated a list) ≡ scalar_places a ++ flat_map scalar_places list
unfolding cond_places
cond_places-OneOf negated a list = search (rules, the_lemmas)

pub cond_places-IsNull : (negated : Bool) (a : ScalarTree) → cond_places (IsNull negated a) ≡ scalar_places a
unfolding cond_places
cond_places-IsNull negated a = search (rules, the_lemmas)

pub cond_places-Top : (name : NameTree) → cond_places (Top name) ≡ name.at ∷ []
unfolding cond_places
cond_places-Top name = search (rules, the_lemmas)

-- ---- nesting

pub nesting_in-And : (parts : List CondTree) (standing : Standing) → nesting_in (And parts) standing ≡ in_parentheses (wraps_and standing) (deepest (map (λ part. nesting_in part in_and) parts))
unfolding nesting_in
nesting_in-And parts standing = search (rules, the_lemmas, map-map)

pub nesting_in-Or : (parts : List CondTree) (standing : Standing) → nesting_in (Or parts) standing ≡ in_parentheses (wraps_or standing) (deepest (map (λ part. nesting_in part in_or) parts))
unfolding nesting_in
nesting_in-Or parts standing = search (rules, the_lemmas, map-map)

pub nesting_in-Not : (part : CondTree) (standing : Standing) → nesting_in (Not part) standing ≡ in_parentheses (wraps_not standing) (nesting_in part after_not)
unfolding nesting_in
nesting_in-Not part standing = search (rules, the_lemmas)

pub nesting_in-Compare : (op : CompareOp) (a b : ScalarTree) (standing : Standing) → nesting_in (Compare op a b) standing ≡ 0
unfolding nesting_in
nesting_in-Compare op a b standing = search (rules, the_lemmas)

pub nesting_in-Between : (negated : Bool) (a low high : ScalarTree) (standing : Standing) → nesting_in (Between negated a low high) standing ≡ 0
unfolding nesting_in
nesting_in-Between negated a low high standing = search (rules, the_lemmas)

pub nesting_in-OneOf : (negated : Bool) (a : ScalarTree) (list : List ScalarTree) (standing : Standing) → nesting_in (OneOf negated a list) standing ≡ 1
unfolding nesting_in
nesting_in-OneOf negated a list standing = search (rules, the_lemmas)

pub nesting_in-IsNull : (negated : Bool) (a : ScalarTree) (standing : Standing) → nesting_in (IsNull negated a) standing ≡ 0
unfolding nesting_in
nesting_in-IsNull negated a standing = search (rules, the_lemmas)

pub nesting_in-Top : (name : NameTree) (standing : Standing) → nesting_in (Top name) standing ≡ 0
unfolding nesting_in
nesting_in-Top name standing = search (rules, the_lemmas)
