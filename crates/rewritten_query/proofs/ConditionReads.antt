-- A condition put into SQL, variant by variant.
use Rattle.std.proofs.Common.{◌≡◌, Bool, List, map, rules}
use Rattle.prefsql_values.specs.declared.value.CompareOp.{CompareOp}
use Rattle.prefsql_values.specs.declared.value.CompareOp.TheVariants.{Eq}
use Rattle.prefsql_tables.specs.declared.place.ColumnPlace.{ColumnPlace}
use Rattle.conditions.specs.declared.condition.Quality.{Quality}
use Rattle.conditions.specs.declared.condition.Scalar.{Scalar}
use Rattle.conditions.specs.declared.condition.Cond.{Cond}
use Rattle.conditions.specs.declared.condition.Cond as condition
use Rattle.conditions.specs.declared.condition.Cond.TheFolds.{the_lemmas}
use Rattle.sql_tree.specs.declared.tree.SqlCond.{SqlCond}
use Rattle.sql_tree.specs.declared.tree.SqlCond as sql
use Rattle.sql_tree.specs.declared.tree.SqlScalar.{SqlScalar}
use Rattle.rewritten_query.specs.Conditions.{best_rank, cond_put, scalar_put}
use Rattle.rewritten_query.specs.Leaves.{number}

module _ (column : ColumnPlace → SqlScalar) (quality : Quality → SqlScalar) where
  abbrev pub put : Scalar → SqlScalar
  put = scalar_put column quality

  pub put-And : (parts : List Cond) → cond_put column quality (condition.And parts) ≡ sql.And (map (cond_put column quality) parts)
  unfolding cond_put
  put-And parts = search (rules, the_lemmas)

  pub put-Or : (parts : List Cond) → cond_put column quality (condition.Or parts) ≡ sql.Or (map (cond_put column quality) parts)
  unfolding cond_put
  put-Or parts = search (rules, the_lemmas)

  pub put-Not : (part : Cond) → cond_put column quality (condition.Not part) ≡ sql.Not (cond_put column quality part)
  unfolding cond_put
  put-Not part = search (rules, the_lemmas)

  pub put-Compare : (op : CompareOp) (a b : Scalar) → cond_put column quality (condition.Compare op a b) ≡ sql.Compare op (put a) (put b)
  unfolding cond_put
  put-Compare op a b = search (rules, the_lemmas)

  pub put-Between : (negate : Bool) (a low high : Scalar) → cond_put column quality (condition.Between negate a low high) ≡ sql.Between negate (put a) (put low) (put high)
  unfolding cond_put
  put-Between negate a low high = search (rules, the_lemmas)

  pub put-OneOf : (negate : Bool) (a : Scalar) (list : List Scalar) → cond_put column quality (condition.OneOf negate a list) ≡ sql.OneOf negate (put a) (map put list)
  unfolding cond_put
  put-OneOf negate a list = search (rules, the_lemmas)

  pub put-IsNull : (negate : Bool) (a : Scalar) → cond_put column quality (condition.IsNull negate a) ≡ sql.IsNull negate (put a)
  unfolding cond_put
  put-IsNull negate a = search (rules, the_lemmas)

  pub put-Top : (q : Quality) → cond_put column quality (condition.Top q) ≡ sql.Compare Eq (quality q) (number (best_rank q.base))
  unfolding cond_put
  put-Top q = search (rules, the_lemmas)
