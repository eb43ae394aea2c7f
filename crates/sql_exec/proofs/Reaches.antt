-- Of how many items a part speaks, by the parts below it.
use Rattle.std.proofs.Common.{◌≡◌, ℤ, ℕ, zero, suc, ◌+◌, ◌<◌, ◌≤◌, ◌^◌, Bool, true, Option, Some, None, List, [], ◌∷◌, ◌++◌, map, cond, get_or, length, take, min, ◌-◌, arith, refl, sym, ap, ◌∙◌}
use Rattle.std.specs.List.{filter, list_any}
use Rattle.std.proofs.lemmas.List.{map-append, take_all, take_more}
use Rattle.prefsql_values.specs.declared.value.Value.TheVariants.{Null}
use Rattle.std.specs.Option.{option_map}
use Rattle.prefsql_values.specs.declared.value.CompareOp.{CompareOp}
use Rattle.prefsql_values.specs.Truth.{negated, negated_if, all_true, any_true, is_true}
use Rattle.prefsql_values.specs.Value.{comparison, between, one_of, is_null, truth_of}
use Rattle.prefsql_tables.specs.Product.{product}
use Rattle.prefsql_tables.specs.Table.{Tables, cell_in, no_row}
use Rattle.sql_tree.specs.declared.tree.SqlPlace.{SqlPlace}
use Rattle.sql_tree.specs.declared.tree.SqlCond.{SqlCond}
use Rattle.sql_tree.specs.declared.tree.SqlCond as cond_of
use Rattle.sql_tree.specs.declared.tree.SqlScalar.{SqlScalar}
use Rattle.sql_tree.specs.declared.tree.SqlScalar as scalar_of
use Rattle.sql_tree.specs.declared.tree.SqlQuery.{SqlQuery, out-SqlQuery}
use Rattle.sql_tree.specs.declared.tree.SqlWhen.{SqlWhen}
use Rattle.sql_tree.specs.declared.tree.SumTerm.{SumTerm}
use Rattle.sql_tree.specs.Meaning.{Scope, Scopes, place_value, is_kept, else_value, or_else, first_some}
use Rattle.sql_exec.specs.Preparing.{scopes_kept}
use Rattle.sql_exec.specs.Reach.{AreAlike, SpeaksOf}
use Rattle.sql_exec.specs.Wrapping.{from_rows, truth_in, value_in, term_value, when_value, wrapped_sign, wrapped_sum}
use Rattle.sql_exec.proofs.WrappingReads.{truth_in-And, truth_in-Or, truth_in-Not, truth_in-Compare, truth_in-Between, truth_in-OneOf, truth_in-IsNull, truth_in-Exists, value_in-Column, value_in-Number, value_in-Chars, value_in-Sum, value_in-Case, when_value_is, term_value_is}
use Rattle.sql_exec.proofs.Prepared.{any_row}

-- what is alike for more items is alike for fewer
pub fewer : (depth less reach : ℕ) (scopes others : Scopes) → less ≤ reach → AreAlike depth reach scopes others → AreAlike depth less scopes others
fewer depth less reach scopes others no_more alike = λ place small at. alike place small (λ here. let h : place.item < less = at here in omega (arith, h, no_more))

module _ {V : Type 0} where
  pub more : (depth less reach : ℕ) (f : Scopes → V) → less ≤ reach → SpeaksOf depth less f → SpeaksOf depth reach f
  more depth less reach f no_more speaks = λ scopes others alike. speaks scopes others (fewer depth less reach scopes others no_more alike)

  pub constant : (depth reach : ℕ) (v : V) → SpeaksOf depth reach (λ _. v)
  constant depth reach v = λ scopes others alike. refl

  pub along : (depth reach : ℕ) (f g : Scopes → V) → ((scopes : Scopes) → g scopes ≡ f scopes) → SpeaksOf depth reach f → SpeaksOf depth reach g
  along depth reach f g same speaks = λ scopes others alike. same scopes ∙ speaks scopes others alike ∙ sym (same others)

-- the parts of a list, one after the other
module _ {X V : Type 0} (means : X → Scopes → V) where
  pub one_more : (depth before reach here : ℕ) (xs : List X) (i : ℕ) (d x : X) → i < length xs → x ≡ get_or xs i d → before ≤ reach → here ≤ reach
      → SpeaksOf depth before (λ scopes. map (λ y. means y scopes) (take i xs)) → SpeaksOf depth here (means x) → SpeaksOf depth reach (λ scopes. map (λ y. means y scopes) (take (i + 1) xs))
  one_more depth before reach here xs i d x small is no_more_before no_more_here front last = λ scopes others alike.
      let at : Scopes → List V = λ seen. map (λ y. means y seen) (take (i + 1) xs) in
      let split : (seen : Scopes) → at seen ≡ map (λ y. means y seen) (take i xs) ++ means x seen ∷ [] = λ seen.
      ap (map (λ y. means y seen)) (take_more xs i d small) ∙ map-append (λ y. means y seen) (take i xs) (get_or xs i d ∷ [])
      ∙ ap (λ y. map (λ y. means y seen) (take i xs) ++ means y seen ∷ []) (sym is) in
      let first = front scopes others (fewer depth before reach scopes others no_more_before alike) in
      let next = last scopes others (fewer depth here reach scopes others no_more_here alike) in
      split scopes ∙ (λ j. first j ++ next j ∷ []) ∙ sym (split others)

  pub all_through : (depth reach : ℕ) (xs : List X) (i : ℕ) → length xs ≤ i → SpeaksOf depth reach (λ scopes. map (λ y. means y scopes) (take i xs)) → SpeaksOf depth reach (λ scopes. map (λ y. means y scopes) xs)
  all_through depth reach xs i past front = λ scopes others alike.
      let at : (seen : Scopes) → map (λ y. means y seen) xs ≡ map (λ y. means y seen) (take i xs) = λ seen. ap (map (λ y. means y seen)) (sym (take_all i xs past)) in
      at scopes ∙ front scopes others alike ∙ sym (at others)

-- one query further in, the rows of that query are seen too
pub further_in : (depth inner reach : ℕ) (scope : Scope) (scopes others : Scopes) → depth < 2 ^ 32 → inner ≡ min (depth + 1) (2 ^ 32 - 1) → AreAlike depth reach scopes others → AreAlike inner reach (scope ∷ scopes) (scope ∷ others)
further_in depth inner reach scope scopes others fits is alike = λ place small at. go place.up place.item place.column small at
  where
    go : (up item column : ℕ) → up < 2 ^ 32 → (up ≡ inner → item < reach)
        → cell_in (get_or (get_or (scope ∷ scopes) up []) item no_row) column ≡ cell_in (get_or (get_or (scope ∷ others) up []) item no_row) column
    go zero item column small at = refl
    go (suc up) item column small at =
        alike (record { up = up; item = item; column = column }) (omega (arith, small)) (λ here. at (omega (arith, small, here, is)))

module _ (tables : Tables) (depth : ℕ) where
  pub speaks_And : (whole : SqlCond) (parts given : List SqlCond) (reach : ℕ) → whole ≡ cond_of.And parts → given ≡ parts → SpeaksOf depth reach (λ scopes. map (λ part. truth_in tables part scopes) given) → SpeaksOf depth reach (truth_in tables whole)
  speaks_And whole parts given reach is same speaks = λ scopes others alike.
      let at : (seen : Scopes) → truth_in tables whole seen ≡ all_true (map (λ part. truth_in tables part seen) given) = λ seen.
      ap (λ c. truth_in tables c seen) is ∙ truth_in-And tables parts seen ∙ ap (λ all. all_true (map (λ part. truth_in tables part seen) all)) (sym same) in
      at scopes ∙ ap all_true (speaks scopes others alike) ∙ sym (at others)

  pub speaks_Or : (whole : SqlCond) (parts given : List SqlCond) (reach : ℕ) → whole ≡ cond_of.Or parts → given ≡ parts → SpeaksOf depth reach (λ scopes. map (λ part. truth_in tables part scopes) given) → SpeaksOf depth reach (truth_in tables whole)
  speaks_Or whole parts given reach is same speaks = λ scopes others alike.
      let at : (seen : Scopes) → truth_in tables whole seen ≡ any_true (map (λ part. truth_in tables part seen) given) = λ seen.
      ap (λ c. truth_in tables c seen) is ∙ truth_in-Or tables parts seen ∙ ap (λ all. any_true (map (λ part. truth_in tables part seen) all)) (sym same) in
      at scopes ∙ ap any_true (speaks scopes others alike) ∙ sym (at others)

  pub speaks_Not : (whole part given : SqlCond) (reach : ℕ) → whole ≡ cond_of.Not part → given ≡ part → SpeaksOf depth reach (truth_in tables given) → SpeaksOf depth reach (truth_in tables whole)
  speaks_Not whole part given reach is same speaks = λ scopes others alike.
      let at : (seen : Scopes) → truth_in tables whole seen ≡ negated (truth_in tables given seen) = λ seen.
      ap (λ c. truth_in tables c seen) is ∙ truth_in-Not tables part seen ∙ ap (λ c. negated (truth_in tables c seen)) (sym same) in
      at scopes ∙ ap negated (speaks scopes others alike) ∙ sym (at others)

  pub speaks_Compare : (whole : SqlCond) (op : CompareOp) (a b : SqlScalar) (at_a at_b reach : ℕ) → whole ≡ cond_of.Compare op a b → at_a ≤ reach → at_b ≤ reach
      → SpeaksOf depth at_a (value_in tables a) → SpeaksOf depth at_b (value_in tables b) → SpeaksOf depth reach (truth_in tables whole)
  speaks_Compare whole op a b at_a at_b reach is in_a in_b speaks_a speaks_b = λ scopes others alike.
      let at : (seen : Scopes) → truth_in tables whole seen ≡ comparison op (value_in tables a seen) (value_in tables b seen) = λ seen. ap (λ c. truth_in tables c seen) is ∙ truth_in-Compare tables op a b seen in
      let x = speaks_a scopes others (fewer depth at_a reach scopes others in_a alike) in
      let y = speaks_b scopes others (fewer depth at_b reach scopes others in_b alike) in
      at scopes ∙ (λ j. comparison op (x j) (y j)) ∙ sym (at others)

  pub speaks_Between : (whole : SqlCond) (negate : Bool) (a low high : SqlScalar) (at_a at_low at_high bounds reach : ℕ) → whole ≡ cond_of.Between negate a low high
      → at_low ≤ bounds → at_high ≤ bounds → at_a ≤ reach → bounds ≤ reach
      → SpeaksOf depth at_a (value_in tables a) → SpeaksOf depth at_low (value_in tables low) → SpeaksOf depth at_high (value_in tables high) → SpeaksOf depth reach (truth_in tables whole)
  speaks_Between whole negate a low high at_a at_low at_high bounds reach is in_low in_high in_a in_bounds speaks_a speaks_low speaks_high = λ scopes others alike.
      let at : (seen : Scopes) → truth_in tables whole seen ≡ negated_if negate (between (value_in tables a seen) (value_in tables low seen) (value_in tables high seen)) = λ seen.
      ap (λ c. truth_in tables c seen) is ∙ truth_in-Between tables negate a low high seen in
      let x = speaks_a scopes others (fewer depth at_a reach scopes others in_a alike) in
      let y = speaks_low scopes others (fewer depth at_low reach scopes others (omega (arith, in_low, in_bounds)) alike) in
      let z = speaks_high scopes others (fewer depth at_high reach scopes others (omega (arith, in_high, in_bounds)) alike) in
      at scopes ∙ (λ j. negated_if negate (between (x j) (y j) (z j))) ∙ sym (at others)

  pub speaks_OneOf : (whole : SqlCond) (negate : Bool) (a : SqlScalar) (list given : List SqlScalar) (at_a at_list reach : ℕ) → whole ≡ cond_of.OneOf negate a list → given ≡ list → at_a ≤ reach → at_list ≤ reach
      → SpeaksOf depth at_a (value_in tables a) → SpeaksOf depth at_list (λ scopes. map (λ b. value_in tables b scopes) given) → SpeaksOf depth reach (truth_in tables whole)
  speaks_OneOf whole negate a list given at_a at_list reach is same in_a in_list speaks_a speaks_list = λ scopes others alike.
      let at : (seen : Scopes) → truth_in tables whole seen ≡ negated_if negate (one_of (value_in tables a seen) (map (λ b. value_in tables b seen) given)) = λ seen.
      ap (λ c. truth_in tables c seen) is ∙ truth_in-OneOf tables negate a list seen ∙ ap (λ all. negated_if negate (one_of (value_in tables a seen) (map (λ b. value_in tables b seen) all))) (sym same) in
      let x = speaks_a scopes others (fewer depth at_a reach scopes others in_a alike) in
      let y = speaks_list scopes others (fewer depth at_list reach scopes others in_list alike) in
      at scopes ∙ (λ j. negated_if negate (one_of (x j) (y j))) ∙ sym (at others)

  pub speaks_IsNull : (whole : SqlCond) (negate : Bool) (a : SqlScalar) (reach : ℕ) → whole ≡ cond_of.IsNull negate a → SpeaksOf depth reach (value_in tables a) → SpeaksOf depth reach (truth_in tables whole)
  speaks_IsNull whole negate a reach is speaks = λ scopes others alike.
      let at : (seen : Scopes) → truth_in tables whole seen ≡ negated_if negate (truth_of (is_null (value_in tables a seen))) = λ seen. ap (λ c. truth_in tables c seen) is ∙ truth_in-IsNull tables negate a seen in
      at scopes ∙ ap (λ v. negated_if negate (truth_of (is_null v))) (speaks scopes others alike) ∙ sym (at others)

  pub speaks_Exists : (whole : SqlCond) (query given : SqlQuery) (reach : ℕ) → whole ≡ cond_of.Exists query → given ≡ query → SpeaksOf depth reach (scopes_kept tables given) → SpeaksOf depth reach (truth_in tables whole)
  speaks_Exists whole query given reach is same speaks = λ scopes others alike.
      let at : (seen : Scopes) → truth_in tables whole seen ≡ truth_of (list_any (λ _. true) (scopes_kept tables given seen)) = λ seen.
      ap (λ c. truth_in tables c seen) is ∙ truth_in-Exists tables query seen ∙ ap truth_of (any_row tables query seen) ∙ ap (λ q. truth_of (list_any (λ _. true) (scopes_kept tables q seen))) (sym same) in
      at scopes ∙ ap (λ found. truth_of (list_any (λ _. true) found)) (speaks scopes others alike) ∙ sym (at others)

  pub speaks_Column : (whole : SqlScalar) (place : SqlPlace) (reach : ℕ) → whole ≡ scalar_of.Column place → SpeaksOf depth reach (λ scopes. place_value scopes place) → SpeaksOf depth reach (value_in tables whole)
  speaks_Column whole place reach is speaks = along depth reach _ _ (λ seen. ap (λ s. value_in tables s seen) is ∙ value_in-Column tables place seen) speaks

  pub speaks_Number : (whole : SqlScalar) (n : ℤ) (reach : ℕ) → whole ≡ scalar_of.Number n → SpeaksOf depth reach (value_in tables whole)
  speaks_Number whole n reach is = along depth reach _ _ (λ seen. ap (λ s. value_in tables s seen) is ∙ value_in-Number tables n seen) (constant depth reach _)

  pub speaks_Chars : (whole : SqlScalar) (text : List ℕ) (reach : ℕ) → whole ≡ scalar_of.Chars text → SpeaksOf depth reach (value_in tables whole)
  speaks_Chars whole text reach is = along depth reach _ _ (λ seen. ap (λ s. value_in tables s seen) is ∙ value_in-Chars tables text seen) (constant depth reach _)

  pub speaks_Sum : (whole : SqlScalar) (terms given : List SumTerm) (reach : ℕ) → whole ≡ scalar_of.Sum terms → given ≡ terms → SpeaksOf depth reach (λ scopes. map (λ term. term_value tables term scopes) given) → SpeaksOf depth reach (value_in tables whole)
  speaks_Sum whole terms given reach is same speaks = λ scopes others alike.
      let at : (seen : Scopes) → value_in tables whole seen ≡ wrapped_sum (map (λ term. term_value tables term seen) given) = λ seen.
      ap (λ s. value_in tables s seen) is ∙ value_in-Sum tables terms seen ∙ ap (λ all. wrapped_sum (map (λ term. term_value tables term seen) all)) (sym same) in
      at scopes ∙ ap wrapped_sum (speaks scopes others alike) ∙ sym (at others)

  pub speaks_Case : (whole : SqlScalar) (whens given : List SqlWhen) (last : Option SqlScalar) (at_whens at_last reach : ℕ) → whole ≡ scalar_of.Case whens last → given ≡ whens → at_whens ≤ reach → at_last ≤ reach
      → SpeaksOf depth at_whens (λ scopes. map (λ w. when_value tables w scopes) given) → SpeaksOf depth at_last (else_value (option_map (value_in tables) last)) → SpeaksOf depth reach (value_in tables whole)
  speaks_Case whole whens given last at_whens at_last reach is same in_whens in_last speaks_whens speaks_last = λ scopes others alike.
      let at : (seen : Scopes) → value_in tables whole seen ≡ or_else (first_some (map (λ w. when_value tables w seen) given)) (else_value (option_map (value_in tables) last) seen) = λ seen.
      ap (λ s. value_in tables s seen) is ∙ value_in-Case tables whens last seen ∙ ap (λ all. or_else (first_some (map (λ w. when_value tables w seen) all)) (else_value (option_map (value_in tables) last) seen)) (sym same) in
      let x = speaks_whens scopes others (fewer depth at_whens reach scopes others in_whens alike) in
      let y = speaks_last scopes others (fewer depth at_last reach scopes others in_last alike) in
      at scopes ∙ (λ j. or_else (first_some (x j)) (y j)) ∙ sym (at others)

  pub speaks_when : (w : SqlWhen) (at_cond at_value reach : ℕ) → at_cond ≤ reach → at_value ≤ reach → SpeaksOf depth at_cond (truth_in tables w.cond) → SpeaksOf depth at_value (value_in tables w.value) → SpeaksOf depth reach (when_value tables w)
  speaks_when w at_cond at_value reach in_cond in_value speaks_cond speaks_value = λ scopes others alike.
      let x = speaks_cond scopes others (fewer depth at_cond reach scopes others in_cond alike) in
      let y = speaks_value scopes others (fewer depth at_value reach scopes others in_value alike) in
      when_value_is tables w scopes ∙ (λ j. cond (is_true (x j)) (Some (y j)) None) ∙ sym (when_value_is tables w others)

  pub speaks_term : (term : SumTerm) (reach : ℕ) → SpeaksOf depth reach (value_in tables term.scalar) → SpeaksOf depth reach (term_value tables term)
  speaks_term term reach speaks = λ scopes others alike.
      term_value_is tables term scopes ∙ ap (wrapped_sign term.minus) (speaks scopes others alike) ∙ sym (term_value_is tables term others)

  pub speaks_else : (last : Option SqlScalar) (scalar given : SqlScalar) (reach : ℕ) → last ≡ Some scalar → given ≡ scalar → SpeaksOf depth reach (value_in tables given) → SpeaksOf depth reach (else_value (option_map (value_in tables) last))
  speaks_else last scalar given reach is same speaks =
      along depth reach _ _ (λ seen. (ap (λ o. else_value (option_map (value_in tables) o) seen) is ∙ ap (λ s. value_in tables s seen) (sym same))) speaks

  pub no_else : (last : Option SqlScalar) (reach : ℕ) → last ≡ None → SpeaksOf depth reach (else_value (option_map (value_in tables) last))
  no_else last reach is = along depth reach _ _ (λ seen. ap (λ o. else_value (option_map (value_in tables) o) seen) is) (constant depth reach Null)

  pub speaks_query : (query : SqlQuery) (cond : SqlCond) (inner reach : ℕ) → depth < 2 ^ 32 → inner ≡ min (depth + 1) (2 ^ 32 - 1) → (out-SqlQuery query).filter ≡ Some cond → SpeaksOf inner reach (truth_in tables cond) → SpeaksOf depth reach (scopes_kept tables query)
  speaks_query query cond inner reach fits is filtered speaks = λ scopes others alike.
      let rows = product (map (from_rows tables) (out-SqlQuery query).from) in
      let tested : (o : Option SqlCond) → o ≡ Some cond → (scope : Scope) → is_kept (option_map (truth_in tables) o) (scope ∷ scopes) ≡ is_kept (option_map (truth_in tables) o) (scope ∷ others) = λ o some scope.
      ap (λ o. is_kept (option_map (truth_in tables) o) (scope ∷ scopes)) some
      ∙ ap is_true (speaks (scope ∷ scopes) (scope ∷ others) (further_in depth inner reach scope scopes others fits is alike))
      ∙ sym (ap (λ o. is_kept (option_map (truth_in tables) o) (scope ∷ others)) some) in
      (λ j. filter (λ scope. tested (out-SqlQuery query).filter filtered scope j) rows)

  pub no_query : (query : SqlQuery) (reach : ℕ) → (out-SqlQuery query).filter ≡ None → SpeaksOf depth reach (scopes_kept tables query)
  no_query query reach none = λ scopes others alike.
      let rows = product (map (from_rows tables) (out-SqlQuery query).from) in
      ap (λ o. filter (λ scope. is_kept (option_map (truth_in tables) o) (scope ∷ scopes)) rows) none
      ∙ sym (ap (λ o. filter (λ scope. is_kept (option_map (truth_in tables) o) (scope ∷ others)) rows) none)
