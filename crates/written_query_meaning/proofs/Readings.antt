-- What literals, sets and choices of the written query mean.
use Rattle.std.proofs.Common.{◌≡◌, ℕ, ℤ, pos, neg_ℤ, ◌+ℤ◌, Bool, true, false, cond, Option, Some, None, List, [], ◌∷◌, map, All, refl, sym, ap, ◌∙◌}
use Rattle.prefsql_values.specs.declared.truth.Truth.{Truth}
use Rattle.prefsql_values.specs.declared.value.Value.{Value}
use Rattle.prefsql_values.specs.declared.value.Value.TheVariants.{Num, Str, Null}
use Rattle.prefsql_values.specs.Truth.{is_true}
use Rattle.prefsql_values.specs.Value.{one_of, truth_of}
use Rattle.prefsql_tables.specs.Table.{Tables}
use Rattle.base_prefs.specs.Values.{is_in}
use Rattle.sql_tree.specs.declared.tree.SqlCond.{SqlCond}
use Rattle.sql_tree.specs.declared.tree.SqlScalar.{SqlScalar}
use Rattle.sql_tree.specs.declared.tree.SqlWhen.{SqlWhen}
use Rattle.sql_tree.specs.Meaning.{Scopes, first_some, or_else, signed, sum_of, truth_in, value_in, when_value}
use Rattle.sql_tree.proofs.MeaningLemmas.{truth_in-OneOf, value_in-Number, value_in-Chars, value_in-Case_None, value_in-Case_Some, value_in-Sum, when_value_is, term_value_is}
use Rattle.rewritten_query.specs.Leaves.{cases, is_among, less, literal, number, when_so}
use Rattle.written_query_meaning.proofs.Compared.{IsValue, is_true_of, one_of_values}

first_case : (b : Bool) (v last : Value) (more : List (Option Value)) → or_else (first_some (cond b (Some v) None ∷ more)) last ≡ cond b v (or_else (first_some more) last)
first_case true v last more = refl
first_case false v last more = refl

module _ (tables : Tables) (scopes : Scopes) where
  abbrev value : SqlScalar → Value
  value s = value_in tables s scopes

  abbrev truth : SqlCond → Truth
  truth c = truth_in tables c scopes

  pub literal_read : (v : Value) → value_in tables (literal v) scopes ≡ v
  literal_read (Num n) = value_in-Number tables n scopes
  literal_read (Str text) = value_in-Chars tables text scopes
  literal_read Null = value_in-Case_None tables [] scopes

  pub literals_read : (values : List Value) → map (λ b. value_in tables b scopes) (map literal values) ≡ values
  literals_read [] = refl
  literals_read (v ∷ values) = λ j. literal_read v j ∷ literals_read values j

  pub number_read : (n : ℕ) → value_in tables (number n) scopes ≡ Num (pos n)
  number_read n = value_in-Number tables (pos n) scopes

  pub among_read : (x : SqlScalar) (v : Value) (values : List Value) → value_in tables x scopes ≡ v → IsValue v → All IsValue values → truth_in tables (is_among x values) scopes ≡ truth_of (is_in values v)
  among_read x v values is known all =
      truth_in-OneOf tables false x (map literal values) scopes
      ∙ (λ j. one_of (is j) (literals_read values j))
      ∙ one_of_values v values known all

  -- ---- choices

  pub cases_end : (last : SqlScalar) → value_in tables (cases [] last) scopes ≡ value_in tables last scopes
  cases_end last = value_in-Case_Some tables [] last scopes

  pub cases_read : (test : SqlCond) (s : SqlScalar) (whens : List SqlWhen) (last : SqlScalar) (b : Bool) → truth_in tables test scopes ≡ truth_of b
      → value_in tables (cases (when_so test s ∷ whens) last) scopes ≡ cond b (value_in tables s scopes) (value_in tables (cases whens last) scopes)
  cases_read test s whens last b is =
      let more = map (λ (w : SqlWhen). when_value tables w scopes) whens in
      value_in-Case_Some tables (when_so test s ∷ whens) last scopes
      ∙ ap (λ first. or_else (first_some (first ∷ more)) (value last)) (when_value_is tables (when_so test s) scopes)
      ∙ ap (λ t. or_else (first_some (cond (is_true t) (Some (value s)) None ∷ more)) (value last)) is
      ∙ ap (λ c. or_else (first_some (cond c (Some (value s)) None ∷ more)) (value last)) (is_true_of b)
      ∙ first_case b (value s) (value last) more
      ∙ ap (λ rest. cond b (value s) rest) (sym (value_in-Case_Some tables whens last scopes))

  -- ---- differences

  pub less_read : (a b : SqlScalar) (m n : ℤ) → value_in tables a scopes ≡ Num m → value_in tables b scopes ≡ Num n → value_in tables (less a b) scopes ≡ Num (m +ℤ (neg_ℤ n +ℤ pos 0))
  less_read a b m n a_is b_is =
      value_in-Sum tables (record { minus = false; scalar = a } ∷ record { minus = true; scalar = b } ∷ []) scopes
      ∙ (λ j. sum_of ((term_value_is tables (record { minus = false; scalar = a }) scopes ∙ ap (signed false) a_is) j ∷ (term_value_is tables (record { minus = true; scalar = b }) scopes ∙ ap (signed true) b_is) j ∷ []))
