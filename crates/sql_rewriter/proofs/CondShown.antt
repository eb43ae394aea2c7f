-- A condition put into SQL, where a value is known to be of a variant; and that its parts and scalars
-- have literals that can be written where it has.
use Rattle.std.proofs.Common.{◌≡◌, Bool, List, [], ◌∷◌, ◌++◌, map, All, refl, sym, ap, ◌∙◌, subst}
use Rattle.std.specs.List.{flat_map}
use Rattle.std.proofs.lemmas.List.Elements.{All-head, All-tail}
use Rattle.prefsql_values.specs.declared.value.CompareOp.{CompareOp}
use Rattle.prefsql_values.specs.declared.value.CompareOp.TheVariants.{Eq}
use Rattle.prefsql_tables.specs.declared.place.ColumnPlace.{ColumnPlace}
use Rattle.conditions.specs.declared.condition.Quality.{Quality}
use Rattle.conditions.specs.declared.condition.Scalar.{Scalar}
use Rattle.conditions.specs.declared.condition.Cond.{Cond}
use Rattle.conditions.specs.declared.condition.Cond as condition
use Rattle.conditions.specs.Meaning.{scalars_of}
use Rattle.conditions.proofs.CondReads.{scalars_of-And, scalars_of-Or, scalars_of-Not, scalars_of-Compare, scalars_of-Between, scalars_of-OneOf, scalars_of-IsNull}
use Rattle.sql_tree.specs.declared.tree.SqlCond as sql
use Rattle.sql_tree.specs.declared.tree.SqlScalar.{SqlScalar}
use Rattle.rewritten_query.specs.Conditions.{best_rank, cond_put, scalar_put}
use Rattle.rewritten_query.specs.Leaves.{number}
use Rattle.sql_rewriter.specs.Shown.{HasLiteral}
use Rattle.rewritten_query.proofs.ConditionReads.{put-And, put-Or, put-Not, put-Compare, put-Between, put-OneOf, put-IsNull, put-Top}

module _ (column : ColumnPlace → SqlScalar) (quality : Quality → SqlScalar) where
  pub shown-And : (cond : Cond) (parts : List Cond) → cond ≡ condition.And parts → sql.And (map (cond_put column quality) parts) ≡ cond_put column quality cond
  shown-And cond parts is = sym (ap (cond_put column quality) is ∙ put-And column quality parts)

  pub shown-Or : (cond : Cond) (parts : List Cond) → cond ≡ condition.Or parts → sql.Or (map (cond_put column quality) parts) ≡ cond_put column quality cond
  shown-Or cond parts is = sym (ap (cond_put column quality) is ∙ put-Or column quality parts)

  pub shown-Not : (cond part : Cond) → cond ≡ condition.Not part → sql.Not (cond_put column quality part) ≡ cond_put column quality cond
  shown-Not cond part is = sym (ap (cond_put column quality) is ∙ put-Not column quality part)

  pub shown-Compare : (cond : Cond) (op : CompareOp) (a b : Scalar) → cond ≡ condition.Compare op a b → sql.Compare op (scalar_put column quality a) (scalar_put column quality b) ≡ cond_put column quality cond
  shown-Compare cond op a b is = sym (ap (cond_put column quality) is ∙ put-Compare column quality op a b)

  pub shown-Between : (cond : Cond) (negate : Bool) (a low high : Scalar) → cond ≡ condition.Between negate a low high
      → sql.Between negate (scalar_put column quality a) (scalar_put column quality low) (scalar_put column quality high) ≡ cond_put column quality cond
  shown-Between cond negate a low high is = sym (ap (cond_put column quality) is ∙ put-Between column quality negate a low high)

  pub shown-OneOf : (cond : Cond) (negate : Bool) (a : Scalar) (list : List Scalar) → cond ≡ condition.OneOf negate a list
      → sql.OneOf negate (scalar_put column quality a) (map (scalar_put column quality) list) ≡ cond_put column quality cond
  shown-OneOf cond negate a list is = sym (ap (cond_put column quality) is ∙ put-OneOf column quality negate a list)

  pub shown-IsNull : (cond : Cond) (negate : Bool) (a : Scalar) → cond ≡ condition.IsNull negate a → sql.IsNull negate (scalar_put column quality a) ≡ cond_put column quality cond
  shown-IsNull cond negate a is = sym (ap (cond_put column quality) is ∙ put-IsNull column quality negate a)

  pub shown-Top : (cond : Cond) (q : Quality) → cond ≡ condition.Top q → sql.Compare Eq (quality q) (number (best_rank q.base)) ≡ cond_put column quality cond
  shown-Top cond q is = sym (ap (cond_put column quality) is ∙ put-Top column quality q)

joined : (parts : List Cond) → flat_map (λ scalars. scalars) (map scalars_of parts) ≡ flat_map scalars_of parts
joined [] = refl
joined (part ∷ parts) = ap (λ more. scalars_of part ++ more) (joined parts)

abbrev AllLiterals : List Scalar → Type 0
AllLiterals = All HasLiteral

pub literals-And : (cond : Cond) (parts : List Cond) → cond ≡ condition.And parts → All HasLiteral (scalars_of cond) → All HasLiteral (flat_map scalars_of parts)
literals-And cond parts is = subst AllLiterals (ap scalars_of is ∙ scalars_of-And parts ∙ joined parts)

pub literals-Or : (cond : Cond) (parts : List Cond) → cond ≡ condition.Or parts → All HasLiteral (scalars_of cond) → All HasLiteral (flat_map scalars_of parts)
literals-Or cond parts is = subst AllLiterals (ap scalars_of is ∙ scalars_of-Or parts ∙ joined parts)

pub literals-Not : (cond part : Cond) → cond ≡ condition.Not part → All HasLiteral (scalars_of cond) → All HasLiteral (scalars_of part)
literals-Not cond part is = subst AllLiterals (ap scalars_of is ∙ scalars_of-Not part)

two : (cond : Cond) (op : CompareOp) (a b : Scalar) → cond ≡ condition.Compare op a b → All HasLiteral (scalars_of cond) → All HasLiteral (a ∷ b ∷ [])
two cond op a b is = subst AllLiterals (ap scalars_of is ∙ scalars_of-Compare op a b)

three : (cond : Cond) (negate : Bool) (a low high : Scalar) → cond ≡ condition.Between negate a low high → All HasLiteral (scalars_of cond) → All HasLiteral (a ∷ low ∷ high ∷ [])
three cond negate a low high is = subst AllLiterals (ap scalars_of is ∙ scalars_of-Between negate a low high)

some : (cond : Cond) (negate : Bool) (a : Scalar) (list : List Scalar) → cond ≡ condition.OneOf negate a list → All HasLiteral (scalars_of cond) → All HasLiteral (a ∷ list)
some cond negate a list is = subst AllLiterals (ap scalars_of is ∙ scalars_of-OneOf negate a list)

pub literals-Compare_left : (cond : Cond) (op : CompareOp) (a b : Scalar) → cond ≡ condition.Compare op a b → All HasLiteral (scalars_of cond) → HasLiteral a
literals-Compare_left cond op a b is all = All-head HasLiteral a (b ∷ []) (two cond op a b is all)

pub literals-Compare_right : (cond : Cond) (op : CompareOp) (a b : Scalar) → cond ≡ condition.Compare op a b → All HasLiteral (scalars_of cond) → HasLiteral b
literals-Compare_right cond op a b is all = All-head HasLiteral b [] (All-tail HasLiteral a (b ∷ []) (two cond op a b is all))

pub literals-Between_scalar : (cond : Cond) (negate : Bool) (a low high : Scalar) → cond ≡ condition.Between negate a low high → All HasLiteral (scalars_of cond) → HasLiteral a
literals-Between_scalar cond negate a low high is all = All-head HasLiteral a (low ∷ high ∷ []) (three cond negate a low high is all)

pub literals-Between_low : (cond : Cond) (negate : Bool) (a low high : Scalar) → cond ≡ condition.Between negate a low high → All HasLiteral (scalars_of cond) → HasLiteral low
literals-Between_low cond negate a low high is all = All-head HasLiteral low (high ∷ []) (All-tail HasLiteral a (low ∷ high ∷ []) (three cond negate a low high is all))

pub literals-Between_high : (cond : Cond) (negate : Bool) (a low high : Scalar) → cond ≡ condition.Between negate a low high → All HasLiteral (scalars_of cond) → HasLiteral high
literals-Between_high cond negate a low high is all =
    All-head HasLiteral high [] (All-tail HasLiteral low (high ∷ []) (All-tail HasLiteral a (low ∷ high ∷ []) (three cond negate a low high is all)))

pub literals-OneOf_scalar : (cond : Cond) (negate : Bool) (a : Scalar) (list : List Scalar) → cond ≡ condition.OneOf negate a list → All HasLiteral (scalars_of cond) → HasLiteral a
literals-OneOf_scalar cond negate a list is all = All-head HasLiteral a list (some cond negate a list is all)

pub literals-OneOf_list : (cond : Cond) (negate : Bool) (a : Scalar) (list : List Scalar) → cond ≡ condition.OneOf negate a list → All HasLiteral (scalars_of cond) → All HasLiteral list
literals-OneOf_list cond negate a list is all = All-tail HasLiteral a list (some cond negate a list is all)

pub literals-IsNull : (cond : Cond) (negate : Bool) (a : Scalar) → cond ≡ condition.IsNull negate a → All HasLiteral (scalars_of cond) → HasLiteral a
literals-IsNull cond negate a is all = All-head HasLiteral a [] (subst AllLiterals (ap scalars_of is ∙ scalars_of-IsNull negate a) all)

pub ruleset cond_shown = (shown-And, shown-Or, shown-Not, shown-Compare, shown-Between, shown-OneOf, shown-IsNull, shown-Top, literals-And, literals-Or, literals-Not, literals-Compare_left, literals-Compare_right, literals-Between_scalar, literals-Between_low, literals-Between_high, literals-OneOf_scalar, literals-OneOf_list, literals-IsNull)
