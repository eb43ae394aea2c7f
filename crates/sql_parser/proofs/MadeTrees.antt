-- The trees that the grammar builds from tokens within the limits are well made.
use Rattle.std.proofs.Common.{◌≡◌, ◌≤◌, ◌&&◌, ℕ, zero, suc, ℤ, Bool, true, false, not, List, [], ◌∷◌, length, map, All, refl, ap, ◌∙◌, arith, Option, Some, None}
use Rattle.std.proofs.lemmas.Bool.{and_from}
use Rattle.std.proofs.lemmas.List.Elements.{All-nil, All-cons, All-head, All-tail}
use Rattle.grammar_forms.specs.Form.{Wholes, WholeRule, both, either, option, many, rule, map as map_form}
use Rattle.prefsql_lexer.specs.Bounds.{IsNameShort, IsNumberSmall, AreTokensOf}
use Rattle.prefsql_lexer.specs.declared.token.Token.{Token}
use Rattle.prefsql_lexer.specs.declared.token.Keyword.TheVariants as word
use Rattle.prefsql_lexer.specs.declared.token.Symbol.TheVariants as symbol
use Rattle.prefsql_values.specs.declared.value.CompareOp.{CompareOp}
use Rattle.prefsql_values.specs.Limits.{IsUnsignedShort}
use Rattle.query_tree.specs.declared.name.LiteralTree.{LiteralTree}
use Rattle.query_tree.specs.declared.query.FromTree.{FromTree}
use Rattle.query_tree.specs.declared.query.OrderName.{OrderName}
use Rattle.query_tree.specs.declared.query.OrderTree.{OrderTree}
use Rattle.token_forms.specs.Classes.{class}
use Rattle.token_forms.specs.Forms.{Named, name, number, chars, text_of, or_none, chain, comma, symbol_only, word_at, word_only, separated, in_parens, ◌⨟>◌, ◌<⨟◌}
use Rattle.token_forms.specs.Columns.{column, column_tree, optional_sign, number_literal, text_literal, number_form, literal, op, direction, order, order_tree, orders, named_key, position_key}
use Rattle.token_forms.specs.Phrases.{alias, distinctness, negation, ordering, from as table, from_tree}
use Rattle.sql_tree.specs.WellFormed.{is_name}
use Rattle.sql_text.specs.declared.named.NamedCond.{NamedCond, And, Or, Exists}
use Rattle.sql_text.specs.declared.named.NamedScalar.{NamedScalar, Column, Literal}
use Rattle.sql_text.specs.declared.named.NamedSelect.{NamedSelect, All as every_column, Items}
use Rattle.sql_text.specs.declared.named.NamedFrom.{NamedFrom, Table}
use Rattle.sql_text.specs.declared.named.NamedItem.{NamedItem}
use Rattle.sql_text.specs.declared.named.NamedTerm.{NamedTerm}
use Rattle.sql_text.specs.declared.named.NamedWhen.{NamedWhen}
use Rattle.sql_text.specs.declared.named.NamedQuery.{NamedQuery}
use Rattle.sql_text.specs.declared.named.NamedStatement.{NamedStatement}
use Rattle.sql_text.specs.Grammar.{Grammar, Rule, Results, Rest, condition_rule, results_rule, query_rule, case_tree, case, factor, sum_sign, term_tree, later_term, sum_tree, sum, compare_rest, comparison, between_rest, between, sums, member_rest, member, null_rest, null_test, negated_rest, rest, test_tree, exists, test, negated_tree, neg, conj, cond, when_tree, when, whens, results, item_tree, item, list, derived_tree, derived, from, from_items, filter, query_tree, query, statement_tree, statement, ended, with_last, script, production}
use Rattle.sql_text.specs.Scripts.{IsScript}
use Rattle.sql_parser.specs.WellMade.{is_name_if, is_column, is_literal, all_of, MadeScalar, MadeTerm, is_term, first_is_plus, is_otherwise, is_filter, cond_made, from_made, scalar_made, select_made, item_made, query_made, term_made, when_made, is_key, is_statement, AreWellMade}
use Rattle.sql_parser.proofs.MadeEquations.{made-And, made-Or, made-Not, made-Compare, made-Between, made-OneOf, made-IsNull, made-Exists, made-Column, made-Literal, made-Sum, last_made, made-Case, term_made_is, when_made_is, item_made_is, made-Items, made-Table, made-Derived, made-All, filter_made, query_made_is}
use Rattle.sql_parser.proofs.MadeForms.{Each, each_to, each_map, each_append, Some_of, If, all_true, list_true, same_length, Fine, short_true, short_negative, Makes, makes_any, makes_name, makes_number, makes_both, makes_map, makes_either, makes_option, makes_many, makes_second, makes_first, makes_separated, makes_enclosed}

-- ---- what is said of each part

abbrev GoodCond : NamedCond → Type 0
GoodCond c = cond_made c ≡ true

abbrev GoodScalar : NamedScalar → Type 0
GoodScalar s = (scalar_made s).well ≡ true

-- and it is no sum
abbrev GoodFactor : NamedScalar → Type 0
GoodFactor s = ((scalar_made s).well ≡ true) × ((scalar_made s).is_sum ≡ false)

abbrev GoodTerm : NamedTerm → Type 0
GoodTerm t = GoodFactor t.scalar

abbrev GoodWhen : NamedWhen → Type 0
GoodWhen w = when_made w ≡ true

abbrev GoodResults : Results → Type 0
GoodResults r = Some_of GoodWhen r.0 × If GoodScalar r.1

abbrev GoodRest : Rest → Type 0
GoodRest h = (left : NamedScalar) → GoodScalar left → GoodCond (h left)

abbrev GoodNegatable : (Bool → Rest) → Type 0
GoodNegatable h = (negated : Bool) → GoodRest (h negated)

abbrev GoodQuery : NamedQuery → Type 0
GoodQuery q = query_made q ≡ true

abbrev GoodName : Named → Type 0
GoodName n = is_name n.0 ≡ true

abbrev GoodTable : FromTree → Type 0
GoodTable t = (is_name t.table && is_name_if t.name) ≡ true

abbrev GoodKey : OrderTree → Type 0
GoodKey o = is_key o.key ≡ true

abbrev GoodStatement : NamedStatement → Type 0
GoodStatement s = is_statement s ≡ true

-- ---- steps

well_of : (s t : MadeScalar) → s ≡ t → t.well ≡ true → s.well ≡ true
well_of s t e w = ap (λ (z : MadeScalar). z.well) e ∙ w

no_sum : (s t : MadeScalar) → s ≡ t → t.is_sum ≡ false → s.is_sum ≡ false
no_sum s t e w = ap (λ (z : MadeScalar). z.is_sum) e ∙ w

named_if : (o : Option Named) → If GoodName o → is_name_if (text_of o) ≡ true
named_if None e = refl
named_if (Some n) e = e

number_to : (p : Option (Bool × ℕ) × (ℤ × ℕ)) → Unit {0} × IsUnsignedShort p.1.0 → is_literal (number_literal p).value ≡ true
number_to (None, n) e = short_true n.0 e.1
number_to (Some (false, at), n) e = short_true n.0 e.1
number_to (Some (true, at), n) e = short_negative n.0 e.1

otherwise_to : (o : Option NamedScalar) → If GoodScalar o → is_otherwise (last_made o) ≡ true
otherwise_to None e = refl
otherwise_to (Some s) e = e

case_to : (p : ℕ × Results) → Unit {0} × GoodResults p.1 → GoodFactor (case_tree p)
case_to p e =
    let same = made-Case p.0 p.1.0 p.1.1 in
    let well = and_from (all_of 1 (map when_made p.1.0)) (is_otherwise (last_made p.1.1)) (all_true when_made 1 p.1.0 e.1.0.0 e.1.0.1) (otherwise_to p.1.1 e.1.1) in
    (well_of _ _ same well, no_sum _ _ same refl)

term_true : (t : NamedTerm) → GoodTerm t → is_term (term_made t) ≡ true
term_true t e = rw (term_made_is t) (and_from (scalar_made t.scalar).well (not (scalar_made t.scalar).is_sum) e.0 (rw e.1 refl))

sum_to : (first : NamedScalar) (more : List NamedTerm) → GoodFactor first → Each GoodTerm more → GoodScalar (sum_tree (first, more))
sum_to first [] e all = e.0
sum_to first (second ∷ more) e all =
    let head : NamedTerm = record { minus = false; scalar = first } in
    let terms : List NamedTerm = head ∷ (second ∷ more) in
    let plus : first_is_plus (map term_made terms) ≡ true = ap (λ (t : MadeTerm). not t.minus) (term_made_is head) in
    let each : Each (λ t. is_term t ≡ true) (map term_made terms) = each_map (λ t. is_term t ≡ true) term_made terms (each_to GoodTerm (λ t. is_term (term_made t) ≡ true) term_true terms (e, all)) in
    let count : 2 ≤ length (map term_made terms) = rw (same_length term_made terms) (omega arith) in
    let well = and_from (first_is_plus (map term_made terms)) (all_of 2 (map is_term (map term_made terms))) plus (all_true is_term 2 (map term_made terms) count each) in
    well_of _ _ (made-Sum terms) well

member_to : (list : List NamedScalar) → Some_of GoodScalar list → GoodNegatable (member_rest list)
member_to list e negated left g =
    let each : Each (λ (b : MadeScalar). b.well ≡ true) (map scalar_made list) = each_map (λ (b : MadeScalar). b.well ≡ true) scalar_made list e.1 in
    let count : 1 ≤ length (map scalar_made list) = rw (same_length scalar_made list) e.0 in
    made-OneOf negated left list ∙ and_from (scalar_made left).well _ g (all_true (λ (b : MadeScalar). b.well) 1 (map scalar_made list) count each)

negated_to : (p : Bool × NamedCond) → Unit {0} × GoodCond p.1 → GoodCond (negated_tree p)
negated_to (false, c) e = e.1
negated_to (true, c) e = made-Not c ∙ e.1

-- a chain of one part is that part, and a longer one a node of two or more
chain_to : (node : List NamedCond → NamedCond) → ((parts : List NamedCond) → cond_made (node parts) ≡ all_of 2 (map cond_made parts)) → (parts : List NamedCond) → Some_of GoodCond parts → GoodCond (chain node parts)
chain_to node same [] e = absurd (let k = e.0 in omega arith)
chain_to node same (c ∷ []) e = e.1.0
chain_to node same (c ∷ d ∷ more) e = same (c ∷ d ∷ more) ∙ all_true cond_made 2 (c ∷ d ∷ more) (omega arith) e.1

table_to : (p : Named × Option Named) → GoodName p.0 × If GoodName p.1 → GoodTable (from_tree p)
table_to (n, None) e = and_from (is_name n.0) true e.0 refl
table_to (n, Some m) e = and_from (is_name n.0) (is_name m.0) e.0 e.1

filter_to : (o : Option NamedCond) → If GoodCond o → is_filter (filter_made o) ≡ true
filter_to None e = refl
filter_to (Some c) e = e

orders_to : (o : Option (List OrderTree)) → If (Some_of GoodKey) o → Each GoodKey (or_none o)
orders_to None e = tt
orders_to (Some os) e = e.1

last_to : (p : List NamedStatement × Option NamedStatement) → Each GoodStatement p.0 × If GoodStatement p.1 → Each GoodStatement (with_last p)
last_to (ss, None) e = e.0
last_to (ss, Some s) e = each_append GoodStatement ss (s ∷ []) e.0 (e.1, tt)

-- ---- production by production

module _ (R : (A : Type 0) → Rule A → Wholes Token A)
    (conds : Makes R GoodCond (rule condition_rule)) (choices : Makes R GoodResults (rule results_rule)) (queries : Makes R GoodQuery (rule query_rule)) where
  alias_made : Makes R (If GoodName) alias
  unfolding alias
  alias_made = makes_option R GoodName (option (word_only word.As) ⨟> name) (makes_second R GoodName (option (word_only word.As)) name (makes_name R))

  column_made : Makes R (λ n. is_column n ≡ true) column
  unfolding column
  column_made =
      let second : Grammar Named = symbol_only symbol.Dot ⨟> name in
      makes_map R {A = Named × Option Named} (λ p. GoodName p.0 × If GoodName p.1) (λ n. is_column n ≡ true) column_tree (both name (option second))
      (λ p e. and_from (is_name p.0.0) (is_name_if (text_of p.1)) e.0 (named_if p.1 e.1))
      (makes_both R GoodName (If GoodName) name (option second) (makes_name R) (makes_option R GoodName second (makes_second R GoodName (symbol_only symbol.Dot) name (makes_name R))))

  literal_made : Makes R (λ l. is_literal l.value ≡ true) literal
  unfolding number_form literal
  literal_made =
      let P : LiteralTree → Type 0 = λ l. is_literal l.value ≡ true in
      makes_either R P (map_form text_literal chars) (map_form number_literal (both optional_sign number))
      (makes_map R (λ n. Unit {0}) P text_literal chars (λ n e. refl) (makes_any R chars))
      (makes_map R {A = Option (Bool × ℕ) × (ℤ × ℕ)} (λ p. Unit {0} × IsUnsignedShort p.1.0) P number_literal (both optional_sign number) number_to
      (makes_both R (λ s. Unit {0}) (λ n. IsUnsignedShort n.0) optional_sign number (makes_any R optional_sign) (makes_number R)))

  case_made : Makes R GoodFactor case
  unfolding case
  case_made =
      let inner : Grammar Results = rule results_rule <⨟ word_only word.End in
      makes_map R {A = ℕ × Results} (λ p. Unit {0} × GoodResults p.1) GoodFactor case_tree (both (word_at word.Case) inner) case_to
      (makes_both R (λ at. Unit {0}) GoodResults (word_at word.Case) inner (makes_any R (word_at word.Case)) (makes_first R GoodResults (rule results_rule) (word_only word.End) choices))

  factor_made : Makes R GoodFactor factor
  unfolding factor
  factor_made =
      let literals : Grammar NamedScalar = map_form Literal literal in
      makes_either R GoodFactor (map_form Column column) (either literals case)
      (makes_map R (λ n. is_column n ≡ true) GoodFactor Column column (λ n e. (well_of _ _ (made-Column n) e, no_sum _ _ (made-Column n) refl)) column_made)
      (makes_either R GoodFactor literals case
      (makes_map R (λ (l : LiteralTree). is_literal l.value ≡ true) GoodFactor Literal literal (λ l e. (well_of _ _ (made-Literal l) e, no_sum _ _ (made-Literal l) refl)) literal_made)
      case_made)

  later_term_made : Makes R GoodTerm later_term
  unfolding later_term
  later_term_made =
      makes_map R {A = Bool × NamedScalar} (λ p. Unit {0} × GoodFactor p.1) GoodTerm term_tree (both sum_sign factor) (λ p e. e.1)
      (makes_both R (λ b. Unit {0}) GoodFactor sum_sign factor (makes_any R sum_sign) factor_made)

  sum_made : Makes R GoodScalar sum
  unfolding sum
  sum_made =
      makes_map R {A = NamedScalar × List NamedTerm} (λ p. GoodFactor p.0 × Each GoodTerm p.1) GoodScalar sum_tree (both factor (many later_term)) (λ p e. sum_to p.0 p.1 e.0 e.1)
      (makes_both R GoodFactor (Each GoodTerm) factor (many later_term) factor_made (makes_many R GoodTerm later_term later_term_made))

  -- ---- conditions

  comparison_made : Makes R GoodRest comparison
  unfolding comparison
  comparison_made =
      makes_map R {A = CompareOp × NamedScalar} (λ p. Unit {0} × GoodScalar p.1) GoodRest compare_rest (both op sum) (λ p e left g. made-Compare p.0 left p.1 ∙ and_from (scalar_made left).well (scalar_made p.1).well g e.1)
      (makes_both R (λ o. Unit {0}) GoodScalar op sum (makes_any R op) sum_made)

  between_made : Makes R GoodNegatable between
  unfolding between
  between_made =
      let upper : Grammar NamedScalar = word_only word.And ⨟> sum in
      let P : NamedScalar × NamedScalar → Type 0 = λ p. GoodScalar p.0 × GoodScalar p.1 in
      makes_map R P GoodNegatable between_rest (word_only word.Between ⨟> both sum upper)
      (λ p e negated left g. made-Between negated left p.0 p.1 ∙ and_from (scalar_made left).well _ g (and_from (scalar_made p.0).well (scalar_made p.1).well e.0 e.1))
      (makes_second R P (word_only word.Between) (both sum upper) (makes_both R GoodScalar GoodScalar sum upper sum_made (makes_second R GoodScalar (word_only word.And) sum sum_made)))

  member_made : Makes R GoodNegatable member
  unfolding sums member
  member_made =
      let sums_form : Grammar (List NamedScalar) = separated comma sum in
      makes_map R (Some_of GoodScalar) GoodNegatable member_rest (word_only word.In ⨟> in_parens sums_form) member_to
      (makes_second R (Some_of GoodScalar) (word_only word.In) (in_parens sums_form) (makes_enclosed R (Some_of GoodScalar) sums_form (makes_separated R GoodScalar comma sum sum_made)))

  null_test_made : Makes R GoodRest null_test
  unfolding null_test
  null_test_made =
      makes_map R (λ b. Unit {0}) GoodRest null_rest (word_only word.Is ⨟> (negation <⨟ word_only word.Null)) (λ b e left g. made-IsNull b left ∙ g) (makes_any R (word_only word.Is ⨟> (negation <⨟ word_only word.Null)))

  negatable_made : (f : Grammar (Bool → Rest)) → Makes R GoodNegatable f → Makes R GoodRest (map_form negated_rest (both negation f))
  negatable_made f k =
      makes_map R {A = Bool × (Bool → Rest)} (λ p. Unit {0} × GoodNegatable p.1) GoodRest negated_rest (both negation f) (λ p e. e.1 p.0)
      (makes_both R (λ b. Unit {0}) GoodNegatable negation f (makes_any R negation) k)

  rest_made : Makes R GoodRest rest
  unfolding rest
  rest_made =
      let range : Grammar Rest = map_form negated_rest (both negation between) in
      let one_of : Grammar Rest = map_form negated_rest (both negation member) in
      makes_either R GoodRest comparison (either range (either one_of null_test)) comparison_made
      (makes_either R GoodRest range (either one_of null_test) (negatable_made between between_made) (makes_either R GoodRest one_of null_test (negatable_made member member_made) null_test_made))

  exists_made : Makes R GoodCond exists
  unfolding exists
  exists_made =
      let inner : Grammar NamedQuery = in_parens (rule query_rule) in
      makes_map R GoodQuery GoodCond Exists (word_only word.Exists ⨟> inner) (λ q e. made-Exists q ∙ e)
      (makes_second R GoodQuery (word_only word.Exists) inner (makes_enclosed R GoodQuery (rule query_rule) queries))

  test_made : Makes R GoodCond test
  unfolding test
  test_made =
      let compared : Grammar NamedCond = map_form test_tree (both sum rest) in
      makes_either R GoodCond (in_parens (rule condition_rule)) (either compared exists) (makes_enclosed R GoodCond (rule condition_rule) conds)
      (makes_either R GoodCond compared exists
      (makes_map R {A = NamedScalar × Rest} (λ p. GoodScalar p.0 × GoodRest p.1) GoodCond test_tree (both sum rest) (λ p e. e.1 p.0 e.0) (makes_both R GoodScalar GoodRest sum rest sum_made rest_made))
      exists_made)

  neg_made : Makes R GoodCond neg
  unfolding neg
  neg_made =
      makes_map R {A = Bool × NamedCond} (λ p. Unit {0} × GoodCond p.1) GoodCond negated_tree (both negation test) negated_to
      (makes_both R (λ b. Unit {0}) GoodCond negation test (makes_any R negation) test_made)

  conj_made : Makes R GoodCond conj
  unfolding conj
  conj_made =
      makes_map R (Some_of GoodCond) GoodCond (chain And) (separated (word_only word.And) neg) (chain_to And made-And) (makes_separated R GoodCond (word_only word.And) neg neg_made)

  pub cond_is_made : Makes R GoodCond cond
  unfolding cond
  cond_is_made =
      makes_map R (Some_of GoodCond) GoodCond (chain Or) (separated (word_only word.Or) conj) (chain_to Or made-Or) (makes_separated R GoodCond (word_only word.Or) conj conj_made)

  -- ---- the results of a CASE

  when_is_made : Makes R GoodWhen when
  unfolding when
  when_is_made =
      let if_true : Grammar NamedCond = word_only word.When ⨟> cond in
      let value : Grammar NamedScalar = word_only word.Then ⨟> sum in
      makes_map R {A = NamedCond × NamedScalar} (λ p. GoodCond p.0 × GoodScalar p.1) GoodWhen when_tree (both if_true value)
      (λ p e. when_made_is (when_tree p) ∙ and_from (cond_made p.0) (scalar_made p.1).well e.0 e.1)
      (makes_both R GoodCond GoodScalar if_true value (makes_second R GoodCond (word_only word.When) cond cond_is_made) (makes_second R GoodScalar (word_only word.Then) sum sum_made))

  whens_made : Makes R (Some_of GoodWhen) whens
  unfolding whens
  whens_made =
      makes_map R {A = NamedWhen × List NamedWhen} (λ p. GoodWhen p.0 × Each GoodWhen p.1) (Some_of GoodWhen) (λ p. p.0 ∷ p.1) (both when (many when)) (λ p e. (omega arith, (e.0, e.1)))
      (makes_both R GoodWhen (Each GoodWhen) when (many when) when_is_made (makes_many R GoodWhen when when_is_made))

  pub results_made : Makes R GoodResults results
  unfolding results
  results_made =
      let last : Grammar NamedScalar = word_only word.Else ⨟> sum in
      makes_both R (Some_of GoodWhen) (If GoodScalar) whens (option last) whens_made (makes_option R GoodScalar last (makes_second R GoodScalar (word_only word.Else) sum sum_made))

  -- ---- queries

  abbrev GoodItem : NamedItem → Type 0
  GoodItem i = item_made i ≡ true

  abbrev GoodSelect : NamedSelect → Type 0
  GoodSelect s = select_made s ≡ true

  abbrev GoodFrom : NamedFrom → Type 0
  GoodFrom f = from_made f ≡ true

  item_is_made : Makes R GoodItem item
  unfolding item
  item_is_made =
      makes_map R {A = NamedScalar × Option Named} (λ p. GoodScalar p.0 × If GoodName p.1) GoodItem item_tree (both sum alias)
      (λ p e. item_made_is (item_tree p) ∙ and_from (scalar_made p.0).well (is_name_if (text_of p.1)) e.0 (named_if p.1 e.1))
      (makes_both R GoodScalar (If GoodName) sum alias sum_made alias_made)

  list_made : Makes R GoodSelect list
  unfolding list
  list_made =
      makes_either R GoodSelect (map_form (λ s. every_column) (symbol_only symbol.Star)) (map_form Items (separated comma item))
      (makes_map R (λ s. Unit {0}) GoodSelect (λ s. every_column) (symbol_only symbol.Star) (λ s e. made-All) (makes_any R (symbol_only symbol.Star)))
      (makes_map R (Some_of GoodItem) GoodSelect Items (separated comma item) (λ items e. made-Items items ∙ all_true item_made 1 items e.0 e.1) (makes_separated R GoodItem comma item item_is_made))

  table_made : Makes R GoodTable table
  unfolding table
  table_made =
      makes_map R {A = Named × Option Named} (λ p. GoodName p.0 × If GoodName p.1) GoodTable from_tree (both name alias) table_to
      (makes_both R GoodName (If GoodName) name alias (makes_name R) alias_made)

  derived_made : Makes R GoodFrom derived
  unfolding derived
  derived_made =
      let named : Grammar Named = option (word_only word.As) ⨟> name in
      let inner : Grammar NamedQuery = in_parens (rule query_rule) in
      makes_map R {A = NamedQuery × Named} (λ p. GoodQuery p.0 × GoodName p.1) GoodFrom derived_tree (both inner named)
      (λ p e. made-Derived p.0 p.1.0 p.1.1 ∙ and_from (query_made p.0) (is_name p.1.0) e.0 e.1)
      (makes_both R GoodQuery GoodName inner named (makes_enclosed R GoodQuery (rule query_rule) queries) (makes_second R GoodName (option (word_only word.As)) name (makes_name R)))

  from_is_made : Makes R GoodFrom from
  unfolding from
  from_is_made =
      makes_either R GoodFrom (map_form Table table) derived (makes_map R GoodTable GoodFrom Table table (λ t e. made-Table t ∙ e) table_made) derived_made

  pub query_is_made : Makes R GoodQuery query
  unfolding from_items filter query
  query_is_made =
      let tables : Grammar (List NamedFrom) = separated comma from in
      let where_form : Grammar NamedCond = word_only word.Where ⨟> cond in
      let first_form : Grammar (List NamedFrom) = word_only word.From ⨟> tables in
      let P3 : List NamedFrom × Option NamedCond → Type 0 = λ p. Some_of GoodFrom p.0 × If GoodCond p.1 in
      let f3 : Grammar (List NamedFrom × Option NamedCond) = both first_form (option where_form) in
      let m3 : Makes R P3 f3 =
      makes_both R (Some_of GoodFrom) (If GoodCond) first_form (option where_form) (makes_second R (Some_of GoodFrom) (word_only word.From) tables (makes_separated R GoodFrom comma from from_is_made))
      (makes_option R GoodCond where_form (makes_second R GoodCond (word_only word.Where) cond cond_is_made)) in
      let P2 : NamedSelect × (List NamedFrom × Option NamedCond) → Type 0 = λ p. GoodSelect p.0 × P3 p.1 in
      let f2 : Grammar (NamedSelect × (List NamedFrom × Option NamedCond)) = both list f3 in
      let m2 : Makes R P2 f2 = makes_both R GoodSelect P3 list f3 list_made m3 in
      let P1 : Bool × (NamedSelect × (List NamedFrom × Option NamedCond)) → Type 0 = λ p. Unit {0} × P2 p.1 in
      let f1 : Grammar (Bool × (NamedSelect × (List NamedFrom × Option NamedCond))) = both distinctness f2 in
      let m1 : Makes R P1 f1 = makes_both R (λ b. Unit {0}) P2 distinctness f2 (makes_any R distinctness) m2 in
      let P0 : ℕ × (Bool × (NamedSelect × (List NamedFrom × Option NamedCond))) → Type 0 = λ p. Unit {0} × P1 p.1 in
      makes_map R P0 GoodQuery query_tree (both (word_at word.Select) f1)
      (λ p e.
      query_made_is p.0 p.1.0 p.1.1.0 p.1.1.1.0 p.1.1.1.1
      ∙ and_from (select_made p.1.1.0) _ e.1.1.0 (and_from (all_of 1 (map from_made p.1.1.1.0)) (is_filter (filter_made p.1.1.1.1)) (all_true from_made 1 p.1.1.1.0 e.1.1.1.0.0 e.1.1.1.0.1) (filter_to p.1.1.1.1 e.1.1.1.1)))
      (makes_both R (λ at. Unit {0}) P1 (word_at word.Select) f1 (makes_any R (word_at word.Select)) m1)

  -- ---- scripts

  order_made : Makes R GoodKey order
  unfolding order
  order_made =
      let named : Grammar (OrderName × ℕ) = map_form named_key name in
      let numbered : Grammar (OrderName × ℕ) = map_form position_key number in
      let P : OrderName × ℕ → Type 0 = λ k. is_key k.0 ≡ true in
      makes_map R {A = (OrderName × ℕ) × Bool} (λ p. P p.0 × Unit {0}) GoodKey order_tree (both (either named numbered) direction) (λ p e. e.0)
      (makes_both R P (λ b. Unit {0}) (either named numbered) direction
      (makes_either R P named numbered (makes_map R GoodName P named_key name (λ n e. e) (makes_name R))
      (makes_map R (λ n. IsUnsignedShort n.0) P position_key number (λ n e. short_true n.0 e) (makes_number R)))
      (makes_any R direction))

  ordering_made : Makes R (Each GoodKey) ordering
  unfolding orders ordering
  ordering_made =
      let keys : Grammar (List OrderTree) = separated comma order in
      let by : Grammar (List OrderTree) = word_only word.By ⨟> keys in
      makes_map R (If (Some_of GoodKey)) (Each GoodKey) or_none (option (word_only word.Order ⨟> by)) orders_to
      (makes_option R (Some_of GoodKey) (word_only word.Order ⨟> by)
      (makes_second R (Some_of GoodKey) (word_only word.Order) by (makes_second R (Some_of GoodKey) (word_only word.By) keys (makes_separated R GoodKey comma order order_made))))

  statement_made : Makes R GoodStatement statement
  unfolding statement
  statement_made =
      makes_map R {A = NamedQuery × List OrderTree} (λ p. GoodQuery p.0 × Each GoodKey p.1) GoodStatement statement_tree (both query ordering)
      (λ p e. and_from (query_made p.0) _ e.0 (list_true (λ (o : OrderTree). is_key o.key) p.1 e.1))
      (makes_both R GoodQuery (Each GoodKey) query ordering query_is_made ordering_made)

  pub script_is_made : Makes R (Each GoodStatement) script
  unfolding ended script
  script_is_made =
      let closed : Grammar NamedStatement = statement <⨟ symbol_only symbol.Semicolon in
      makes_map R {A = List NamedStatement × Option NamedStatement} (λ p. Each GoodStatement p.0 × If GoodStatement p.1) (Each GoodStatement) with_last (both (many closed) (option statement)) last_to
      (makes_both R (Each GoodStatement) (If GoodStatement) (many closed) (option statement)
      (makes_many R GoodStatement closed (makes_first R GoodStatement statement (symbol_only symbol.Semicolon) statement_made))
      (makes_option R GoodStatement statement statement_made))

-- ---- however deep productions stand inside one another

abbrev Good : (A : Type 0) → Rule A → A → Type 0
Good A condition_rule v = GoodCond v
Good A results_rule v = GoodResults v
Good A query_rule v = GoodQuery v

rules_made : (n : ℕ) (A : Type 0) (p : Rule A) (ts : List Token) (v : A) → Each Fine ts → WholeRule Token Rule class production n A p ts v → Good A p v
unfolding WholeRule
rules_made zero A p ts v fine w = absurd w
rules_made (suc n) A condition_rule ts v fine w =
    cond_is_made (WholeRule Token Rule class production n) (rules_made n NamedCond condition_rule) (rules_made n Results results_rule) (rules_made n NamedQuery query_rule) ts v fine w
rules_made (suc n) A results_rule ts v fine w =
    results_made (WholeRule Token Rule class production n) (rules_made n NamedCond condition_rule) (rules_made n Results results_rule) (rules_made n NamedQuery query_rule) ts v fine w
rules_made (suc n) A query_rule ts v fine w =
    query_is_made (WholeRule Token Rule class production n) (rules_made n NamedCond condition_rule) (rules_made n Results results_rule) (rules_made n NamedQuery query_rule) ts v fine w

each_fine : (ts : List Token) → All (λ token. IsNameShort token.kind) ts → All (λ token. IsNumberSmall token.kind) ts → Each Fine ts
each_fine [] names numbers = tt
each_fine (t ∷ ts) names numbers =
    let N : Token → Type 0 = λ token. IsNameShort token.kind in
    let M : Token → Type 0 = λ token. IsNumberSmall token.kind in
    ((All-head N t ts names, All-head M t ts numbers), each_fine ts (All-tail N t ts names) (All-tail M t ts numbers))

all_good : (ss : List NamedStatement) → Each GoodStatement ss → AreWellMade ss
all_good [] e = All-nil GoodStatement
all_good (s ∷ ss) e = All-cons GoodStatement s ss e.0 (all_good ss e.1)

pub script_well_made : (limit end : ℕ) (ts : List Token) (statements : List NamedStatement) → AreTokensOf limit end ts → IsScript ts statements → AreWellMade statements
script_well_made limit end ts statements tokens script_is =
    let n = script_is.1.0 in
    all_good statements
    (script_is_made (WholeRule Token Rule class production n) (rules_made n NamedCond condition_rule) (rules_made n Results results_rule) (rules_made n NamedQuery query_rule) ts statements
    (each_fine ts tokens.names tokens.numbers) script_is.1.1)
