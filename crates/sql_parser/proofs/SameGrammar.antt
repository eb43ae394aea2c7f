-- The productions as they are written stand for the same as the forms that are read, with the same fronts.
use Rattle.std.proofs.Common.{List, [], ◌∷◌}
use Rattle.grammar_forms.specs.Form.{both, either, option, many, map, rule, Wholes, Fronts}
use Rattle.grammar_forms.proofs.Equal.{Equal, Equal-refl, Equal-sym, Equal-trans, Equal-both, Equal-either, Equal-option, Equal-many, Equal-map, Equal-swap, Equal-choices, Equal-factor, Equal-factor_map}
use Rattle.prefsql_lexer.specs.declared.token.Token.{Token}
use Rattle.prefsql_lexer.specs.declared.token.Keyword.TheVariants as word
use Rattle.prefsql_lexer.specs.declared.token.Symbol.TheVariants as symbol
use Rattle.token_forms.specs.Classes.{class}
use Rattle.sql_text.specs.declared.named.NamedCond.{And, Or}
use Rattle.sql_text.specs.declared.named.NamedWhen.{NamedWhen}
use Rattle.sql_text.specs.Grammar.{Grammar, Rule, condition_rule, sum, comparison, between, member, null_test, exists, negated_rest, test_tree, negated_tree, when_tree, list, from_items, query_tree, statement_tree, rest, test, neg, conj, cond, when, whens, results, filter, query, statement}
use Rattle.sql_parser.specs.ReadGrammar.{negatable, rest_form, compared, test_form, negated, conjuncts, conjunction, disjuncts, condition, when_form, whens_form, otherwise, results_form, filter_form, query_form, statement_form}
use Rattle.token_forms.specs.Forms.{◌⨟>◌, ◌<⨟◌, word_at, symbol_only, word_only, separated, in_parens, chain}
use Rattle.token_forms.specs.Phrases.{distinctness, negation, ordering}

module _ (R : (A : Type 0) → Rule A → Wholes Token A) (S : (A : Type 0) → Rule A → Fronts Token) (none : (A : Type 0) (p : Rule A) → S A p []) where
  abbrev pub Same : {A : Type 0} → Grammar A → Grammar A → Type 0
  Same f g = Equal Token Rule class R S f g

  pub same : {A : Type 0} (f : Grammar A) → Same f f
  same f = Equal-refl Token Rule class R S f

  pub flip : {A : Type 0} (f g : Grammar A) → Same f g → Same g f
  flip f g p = Equal-sym Token Rule class R S f g p

  pub then : {A : Type 0} (f g h : Grammar A) → Same f g → Same g h → Same f h
  then f g h p q = Equal-trans Token Rule class R S f g h p q

  pub seq : {A B : Type 0} (f g : Grammar A) (h k : Grammar B) → Same f g → Same h k → Same (both f h) (both g k)
  seq f g h k p q = Equal-both Token Rule class R S f g h k p q

  pub sides : {A : Type 0} (f g h k : Grammar A) → Same f g → Same h k → Same (either f h) (either g k)
  sides f g h k p q = Equal-either Token Rule class R S f g h k p q

  pub under : {A B : Type 0} (h : A → B) (f g : Grammar A) → Same f g → Same (map h f) (map h g)
  under h f g p = Equal-map Token Rule class R S h f g p

  pub swap : {A : Type 0} (f g : Grammar A) → Same (either f g) (either g f)
  swap f g = Equal-swap Token Rule class R S f g

  pub maybe : {A : Type 0} (f g : Grammar A) → Same f g → Same (option f) (option g)
  maybe f g p = Equal-option Token Rule class R S f g p

  -- one after the other, with the value of the second or of the first
  pub seq_second : {A B : Type 0} (f g : Grammar A) (h k : Grammar B) → Same f g → Same h k → Same (f ⨟> h) (g ⨟> k)
  seq_second {A} {B} f g h k p q = under {A = A × B} (λ z. z.1) (both f h) (both g k) (seq f g h k p q)

  pub seq_first : {A B : Type 0} (f g : Grammar A) (h k : Grammar B) → Same f g → Same h k → Same (f <⨟ h) (g <⨟ k)
  seq_first {A} {B} f g h k p q = under {A = A × B} (λ z. z.0) (both f h) (both g k) (seq f g h k p q)

  pub listed : {A : Type 0} (s : Grammar (Unit {0})) (f g : Grammar A) → Same f g → Same (separated s f) (separated s g)
  listed {A} s f g p =
      under {A = A × List A} (λ z. z.0 ∷ z.1) (both f (many (s ⨟> f))) (both g (many (s ⨟> g)))
      (seq f g (many (s ⨟> f)) (many (s ⨟> g)) p (Equal-many Token Rule class R S (s ⨟> f) (s ⨟> g) (seq_second s s f g (same s) p)))

  pub enclosed : {A : Type 0} (f g : Grammar A) → Same f g → Same (in_parens f) (in_parens g)
  enclosed f g p =
      let left = symbol_only symbol.LeftParen in
      let right = symbol_only symbol.RightParen in
      seq_second left left (f <⨟ right) (g <⨟ right) (same left) (seq_first f g right right p (same right))

  -- a first part and a change of values that two sides have in common
  pub factor : {A B C : Type 0} (h : A × B → C) (c : Grammar A) (f g : Grammar B) → Same (either (map h (both c f)) (map h (both c g))) (map h (both c (either f g)))
  factor h c f g =
      then (either (map h (both c f)) (map h (both c g))) (map h (either (both c f) (both c g))) (map h (both c (either f g)))
      (Equal-factor_map Token Rule class R S h (both c f) (both c g))
      (under h (either (both c f) (both c g)) (both c (either f g)) (Equal-factor Token Rule class R S c f g))

  -- ---- conditions

  Same-rest : Same rest rest_form
  unfolding rest rest_form negatable
  Same-rest =
      let c = comparison in
      let b = map negated_rest (both negation between) in
      let m = map negated_rest (both negation member) in
      let n = null_test in
      let j = map negated_rest (both negation (either between member)) in
      then (either c (either b (either m n))) (either c (either j n)) (either n (either j c))
      (sides c c (either b (either m n)) (either j n) (same c)
      (then (either b (either m n)) (either (either b m) n) (either j n) (flip (either (either b m) n) (either b (either m n)) (Equal-choices Token Rule class R S b m n))
      (sides (either b m) j n n (factor negated_rest negation between member) (same n))))
      (then (either c (either j n)) (either (either j n) c) (either n (either j c)) (swap c (either j n))
      (then (either (either j n) c) (either (either n j) c) (either n (either j c)) (sides (either j n) (either n j) c c (swap j n) (same c)) (Equal-choices Token Rule class R S n j c)))

  Same-test : Same test test_form
  unfolding test compared test_form
  Same-test =
      let p = in_parens (rule condition_rule) in
      let s = map test_tree (both sum rest) in
      let r = map test_tree (both sum rest_form) in
      sides p p (either s exists) (either r exists) (same p)
      (sides s r exists exists (under test_tree (both sum rest) (both sum rest_form) (seq sum sum rest rest_form (same sum) Same-rest)) (same exists))

  Same-neg : Same neg negated
  unfolding neg negated
  Same-neg = under negated_tree (both negation test) (both negation test_form) (seq negation negation test test_form (same negation) Same-test)

  Same-conj : Same conj conjunction
  unfolding conj conjuncts conjunction
  Same-conj = under (chain And) (separated (word_only word.And) neg) (separated (word_only word.And) negated) (listed (word_only word.And) neg negated Same-neg)

  pub Same-cond : Same cond condition
  unfolding cond disjuncts condition
  Same-cond = under (chain Or) (separated (word_only word.Or) conj) (separated (word_only word.Or) conjunction) (listed (word_only word.Or) conj conjunction Same-conj)

  -- ---- results

  Same-when : Same when when_form
  unfolding when when_form
  Same-when =
      let w = word_only word.When in
      let t = word_only word.Then ⨟> sum in
      under when_tree (both (w ⨟> cond) t) (both (w ⨟> condition) t) (seq (w ⨟> cond) (w ⨟> condition) t t (seq_second w w cond condition (same w) Same-cond) (same t))

  Same-whens : Same whens whens_form
  unfolding whens whens_form
  Same-whens =
      under {A = NamedWhen × List NamedWhen} (λ p. p.0 ∷ p.1) (both when (many when)) (both when_form (many when_form))
      (seq when when_form (many when) (many when_form) Same-when (Equal-many Token Rule class R S when when_form Same-when))

  pub Same-results : Same results results_form
  unfolding results otherwise results_form
  Same-results =
      let e = option (word_only word.Else ⨟> sum) in
      seq whens whens_form e e Same-whens (same e)

  -- ---- queries

  Same-filter : Same filter filter_form
  unfolding filter filter_form
  Same-filter =
      let h = word_only word.Where in
      maybe (h ⨟> cond) (h ⨟> condition) (seq_second h h cond condition (same h) Same-cond)

  pub Same-query : Same query query_form
  unfolding query query_form
  Same-query =
      let w = word_at word.Select in
      let f = word_only word.From ⨟> from_items in
      let p3 : Same (both f filter) (both f filter_form) = seq f f filter filter_form (same f) Same-filter in
      let p2 : Same (both list (both f filter)) (both list (both f filter_form)) = seq list list (both f filter) (both f filter_form) (same list) p3 in
      let p1 : Same (both distinctness (both list (both f filter))) (both distinctness (both list (both f filter_form))) = seq distinctness distinctness (both list (both f filter)) (both list (both f filter_form)) (same distinctness) p2 in
      let a = both w (both distinctness (both list (both f filter))) in
      let b = both w (both distinctness (both list (both f filter_form))) in
      under query_tree a b (seq w w (both distinctness (both list (both f filter))) (both distinctness (both list (both f filter_form))) (same w) p1)

  pub Same-statement : Same statement statement_form
  unfolding statement statement_form
  Same-statement = under statement_tree (both query ordering) (both query_form ordering) (seq query query_form ordering ordering Same-query (same ordering))
