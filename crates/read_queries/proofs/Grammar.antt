-- What holds of the parts of a script, where each production keeps it, holds of every statement that is read. What it is is left
-- open: it is any family of properties that each way to put parts together keeps.
use Rattle.std.proofs.Common.{◌≤◌, ◌+◌, ℕ, zero, suc, Bool, true, false, List, [], ◌∷◌, ◌++◌, length, All, arith, Option, Some, None, Ok}
use Rattle.std.proofs.lemmas.List.Elements.{All-nil, All-cons, All-head, All-tail}
use Rattle.grammar_forms.specs.Form.{WholeRule, option, many, rule}
use Rattle.prefsql_lexer.specs.declared.token.Keyword.TheVariants as word
use Rattle.prefsql_lexer.specs.declared.token.Symbol.TheVariants as symbol
use Rattle.prefsql_lexer.specs.declared.token.Token.{Token}
use Rattle.prefsql_lexer.specs.Bounds.{IsNameShort, IsNumberSmall, SpansAscend}
use Rattle.prefsql_lexer.specs.Tokens.{IsTokens}
use Rattle.prefsql_lexer.proofs.Bounded.{lexes_bounded}
use Rattle.prefsql_values.specs.Limits.{IsName, IsLiteralValue}
use Rattle.prefsql_values.specs.declared.value.CompareOp.{CompareOp}
use Rattle.query_tree.specs.declared.name.NameTree.{NameTree}
use Rattle.query_tree.specs.declared.name.LiteralTree.{LiteralTree}
use Rattle.query_tree.specs.declared.query.FromTree.{FromTree}
use Rattle.token_forms.specs.Classes.{class, symbol_class, word_class}
use Rattle.token_forms.specs.Columns.{column, literal, op}
use Rattle.token_forms.specs.Forms.{name, symbol_only, word_at, word_only, separated, comma, in_parens, chain, ◌⨟◌, ◌⨟>◌, ◌<⨟◌, ◌<$>◌, ◌∣◌}
use Rattle.token_forms.specs.Phrases.{alias, distinctness, negation, ordering, from as table}
use Rattle.sql_text.specs.declared.named.NamedCond.{NamedCond, And, Or, Not, Compare, Between, OneOf, IsNull, Exists}
use Rattle.sql_text.specs.declared.named.NamedScalar.{NamedScalar, Column, Literal, Sum, Case}
use Rattle.sql_text.specs.declared.named.NamedSelect.{NamedSelect}
use Rattle.sql_text.specs.declared.named.NamedSelect as named_select
use Rattle.sql_text.specs.declared.named.NamedFrom.{NamedFrom, Table, Derived}
use Rattle.sql_text.specs.declared.named.NamedItem.{NamedItem}
use Rattle.sql_text.specs.declared.named.NamedTerm.{NamedTerm}
use Rattle.sql_text.specs.declared.named.NamedWhen.{NamedWhen}
use Rattle.sql_text.specs.declared.named.NamedQuery.{NamedQuery}
use Rattle.sql_text.specs.declared.named.NamedStatement.{NamedStatement}
use Rattle.sql_text.specs.Grammar.{Grammar, Rule, Results, Rest, condition_rule, results_rule, query_rule, production, case, case_tree, factor, sum_sign, term_tree, later_term, sum_of, sum_tree, sum, compare_rest, comparison, between_rest, between, sums, member_rest, member, null_rest, null_test, negated_rest, rest, test_tree, exists, test, negated_tree, neg, conj, cond, when_tree, when, whens, results, item_tree, item, list, derived_tree, derived, from, from_items, filter, query_tree, query, statement_tree, statement, ended, with_last, script}
use Rattle.sql_text.specs.Scripts.{IsScript}
use Rattle.read_queries.proofs.Kept.{Within, Few, Where, IsNamePath, IsTableName, Listed, Keeps, both_keeps, map_keeps, either_keeps, option_keeps, many_keep, anything, second_keeps, first_keeps, enclosed_keeps, separated_keeps, name_keeps, IsNamed, text_written, column_keeps, IsWrittenLiteral, literal_keeps, alias_keeps, table_keeps}

-- what holds of a factor, a scalar, a condition, an output list, a FROM item and a query
module _ (most : ℕ) (PX PS : NamedScalar → Type 0) (PC : NamedCond → Type 0) (PL : NamedSelect → Type 0) (PF : NamedFrom → Type 0) (PQ : NamedQuery → Type 0) where
  abbrev pub OfTerm : NamedTerm → Type 0
  OfTerm t = PX t.scalar

  abbrev pub OfWhen : NamedWhen → Type 0
  OfWhen w = PC w.cond × PS w.value

  abbrev pub OfItem : NamedItem → Type 0
  OfItem i = PS i.value × Where IsName i.name

  -- each way to put parts together keeps what holds of them
  pub record Closed : Type 0 where
    pub column : (n : NameTree) → IsNamePath n → PX (Column n)
    pub literal : (l : LiteralTree) → IsLiteralValue l.value → PX (Literal l)
    pub choice : (at : ℕ) (ws : List NamedWhen) (last : Option NamedScalar) → 1 ≤ length ws → All OfWhen ws → Where PS last → PX (Case at ws last)
    pub factor : (s : NamedScalar) → PX s → PS s
    pub sum : (first : NamedScalar) (second : NamedTerm) (more : List NamedTerm) → PX first → All OfTerm (second ∷ more) → PS (Sum (record { minus = false; scalar = first } ∷ (second ∷ more)))
    pub comparison : (o : CompareOp) (a b : NamedScalar) → PS a → PS b → PC (Compare o a b)
    pub range : (negated : Bool) (a low high : NamedScalar) → PS a → PS low → PS high → PC (Between negated a low high)
    pub member : (negated : Bool) (a : NamedScalar) (list : List NamedScalar) → PS a → 1 ≤ length list → All PS list → PC (OneOf negated a list)
    pub null : (negated : Bool) (a : NamedScalar) → PS a → PC (IsNull negated a)
    pub existence : (q : NamedQuery) → PQ q → PC (Exists q)
    pub negation : (c : NamedCond) → PC c → PC (Not c)
    pub conjunction : (cs : List NamedCond) → 2 ≤ length cs → All PC cs → PC (And cs)
    pub disjunction : (cs : List NamedCond) → 2 ≤ length cs → All PC cs → PC (Or cs)
    pub all_columns : PL named_select.All
    pub items : (is : List NamedItem) → 1 ≤ length is → length is ≤ most + 1 → All OfItem is → PL (named_select.Items is)
    pub table : (t : FromTree) → IsTableName t → PF (Table t)
    pub derived : (q : NamedQuery) (name : List ℕ) (at : ℕ) → PQ q → IsName name → PF (Derived q name at)
    pub query : (at : ℕ) (distinct : Bool) (s : NamedSelect) (fs : List NamedFrom) (o : Option NamedCond) → PL s → 1 ≤ length fs → All PF fs → Where PC o → PQ (query_tree (at, (distinct, (s, (fs, o)))))

  abbrev pub OfResults : Results → Type 0
  OfResults r = (1 ≤ length r.0) × All OfWhen r.0 × Where PS r.1

  abbrev pub OfStatement : NamedStatement → Type 0
  OfStatement s = PQ s.query

  -- the condition that it makes of a scalar
  abbrev OfRest : Rest → Type 0
  OfRest r = (s : NamedScalar) → PS s → PC (r s)

  abbrev OfEither : (Bool → Rest) → Type 0
  OfEither r = (negated : Bool) → OfRest (r negated)

  abbrev pub Good : (A : Type 0) → Rule A → A → Type 0
  Good A condition_rule c = PC c
  Good A results_rule r = OfResults r
  Good A query_rule q = PQ q

  module _ (closed : Closed) where
    sum_kept : (first : NamedScalar) (more : List NamedTerm) → PX first → All OfTerm more → PS (sum_of first more)
    sum_kept first [] is all = closed.factor first is
    sum_kept first (t ∷ more) is all = closed.sum first t more is all

    chain_kept : (node : List NamedCond → NamedCond) → ((cs : List NamedCond) → 2 ≤ length cs → All PC cs → PC (node cs)) → (cs : List NamedCond) → Listed most PC cs → PC (chain node cs)
    chain_kept node join [] l = absurd (let k = l.some in omega arith)
    chain_kept node join (c ∷ []) l = All-head PC c [] l.all
    chain_kept node join (c ∷ d ∷ cs) l = join (c ∷ d ∷ cs) (omega arith) l.all

    negated_kept : (negated : Bool) (c : NamedCond) → PC c → PC (negated_tree (negated, c))
    negated_kept false c is = is
    negated_kept true c is = closed.negation c is

    module _ (R : (A : Type 0) → Rule A → List Token → A → Type 0) (rules : (A : Type 0) (p : Rule A) (ts : List Token) (v : A) → Few most ts → R A p ts v → Good A p v) where
      abbrev Kept : {A : Type 0} → Grammar A → (A → Type 0) → Type 0
      Kept f P = Keeps most R f P

      -- ---- scalars

      case_keeps : Kept case PX
      unfolding case
      case_keeps =
          map_keeps most R case_tree (word_at word.Case ⨟ (rule results_rule <⨟ word_only word.End)) (λ v. Unit {0} × OfResults v.1) PX
          (both_keeps most R (word_at word.Case) (rule results_rule <⨟ word_only word.End) (λ v. Unit {0}) OfResults (anything most R (word_at word.Case))
          (first_keeps most R (rule results_rule) (word_only word.End) OfResults (rules Results results_rule)))
          (λ v is. closed.choice v.0 v.1.0 v.1.1 is.1.0 is.1.1 is.1.2)

      factor_keeps : Kept factor PX
      unfolding factor
      factor_keeps =
          either_keeps most R (Column <$> column) (Literal <$> literal ∣ case) PX (map_keeps most R Column column IsNamePath PX (column_keeps most R) closed.column)
          (either_keeps most R (Literal <$> literal) case PX (map_keeps most R Literal literal IsWrittenLiteral PX (literal_keeps most R) closed.literal) case_keeps)

      later_term_keeps : Kept later_term OfTerm
      unfolding later_term
      later_term_keeps =
          map_keeps most R term_tree (sum_sign ⨟ factor) (λ v. Unit {0} × PX v.1) OfTerm
          (both_keeps most R sum_sign factor (λ v. Unit {0}) PX (anything most R sum_sign) factor_keeps) (λ v is. is.1)

      sum_keeps : Kept sum PS
      unfolding sum
      sum_keeps =
          map_keeps most R sum_tree (factor ⨟ many later_term) (λ v. PX v.0 × All OfTerm v.1) PS
          (both_keeps most R factor (many later_term) PX (All OfTerm) factor_keeps (many_keep most R later_term OfTerm later_term_keeps))
          (λ v is. sum_kept v.0 v.1 is.0 is.1)

      -- ---- conditions

      comparison_keeps : Kept comparison OfRest
      unfolding comparison
      comparison_keeps =
          map_keeps most R compare_rest (op ⨟ sum) (λ v. Unit {0} × PS v.1) OfRest
          (both_keeps most R op sum (λ v. Unit {0}) PS (anything most R op) sum_keeps) (λ v is s of. closed.comparison v.0 s v.1 of is.1)

      between_keeps : Kept between OfEither
      unfolding between
      between_keeps =
          map_keeps most R between_rest (word_only word.Between ⨟> (sum ⨟ (word_only word.And ⨟> sum))) (λ v. PS v.0 × PS v.1) OfEither
          (second_keeps most R (word_only word.Between) (sum ⨟ (word_only word.And ⨟> sum)) (λ v. PS v.0 × PS v.1)
          (both_keeps most R sum (word_only word.And ⨟> sum) PS PS sum_keeps (second_keeps most R (word_only word.And) sum PS sum_keeps)))
          (λ v is negated s of. closed.range negated s v.0 v.1 of is.0 is.1)

      sums_keep : Kept sums (Listed most PS)
      unfolding sums
      sums_keep = separated_keeps most R (symbol_class symbol.Comma) sum PS sum_keeps

      member_keeps : Kept member OfEither
      unfolding member
      member_keeps =
          map_keeps most R member_rest (word_only word.In ⨟> in_parens sums) (Listed most PS) OfEither
          (second_keeps most R (word_only word.In) (in_parens sums) (Listed most PS) (enclosed_keeps most R sums (Listed most PS) sums_keep))
          (λ v is negated s of. closed.member negated s v of is.some is.all)

      null_test_keeps : Kept null_test OfRest
      unfolding null_test
      null_test_keeps =
          map_keeps most R null_rest (word_only word.Is ⨟> (negation <⨟ word_only word.Null)) (λ v. Unit {0}) OfRest
          (anything most R (word_only word.Is ⨟> (negation <⨟ word_only word.Null))) (λ v is s of. closed.null v s of)

      negated_rest_keeps : (f : Grammar (Bool → Rest)) → Kept f OfEither → Kept (negated_rest <$> negation ⨟ f) OfRest
      negated_rest_keeps f p =
          map_keeps most R negated_rest (negation ⨟ f) (λ v. Unit {0} × OfEither v.1) OfRest
          (both_keeps most R negation f (λ v. Unit {0}) OfEither (anything most R negation) p) (λ v is. is.1 v.0)

      rest_keeps : Kept rest OfRest
      unfolding rest
      rest_keeps =
          let b : Grammar Rest = negated_rest <$> negation ⨟ between in
          let m : Grammar Rest = negated_rest <$> negation ⨟ member in
          either_keeps most R comparison (b ∣ (m ∣ null_test)) OfRest comparison_keeps
          (either_keeps most R b (m ∣ null_test) OfRest (negated_rest_keeps between between_keeps)
          (either_keeps most R m null_test OfRest (negated_rest_keeps member member_keeps) null_test_keeps))

      exists_keeps : Kept exists PC
      unfolding exists
      exists_keeps =
          map_keeps most R Exists (word_only word.Exists ⨟> in_parens (rule query_rule)) PQ PC
          (second_keeps most R (word_only word.Exists) (in_parens (rule query_rule)) PQ (enclosed_keeps most R (rule query_rule) PQ (rules NamedQuery query_rule)))
          closed.existence

      test_keeps : Kept test PC
      unfolding test
      test_keeps =
          either_keeps most R (in_parens (rule condition_rule)) (test_tree <$> sum ⨟ rest ∣ exists) PC (enclosed_keeps most R (rule condition_rule) PC (rules NamedCond condition_rule))
          (either_keeps most R (test_tree <$> sum ⨟ rest) exists PC
          (map_keeps most R test_tree (sum ⨟ rest) (λ v. PS v.0 × OfRest v.1) PC (both_keeps most R sum rest PS OfRest sum_keeps rest_keeps) (λ v is. is.1 v.0 is.0)) exists_keeps)

      neg_keeps : Kept neg PC
      unfolding neg
      neg_keeps =
          map_keeps most R negated_tree (negation ⨟ test) (λ v. Unit {0} × PC v.1) PC
          (both_keeps most R negation test (λ v. Unit {0}) PC (anything most R negation) test_keeps) (λ v is. negated_kept v.0 v.1 is.1)

      conj_keeps : Kept conj PC
      unfolding conj
      conj_keeps =
          map_keeps most R (chain And) (separated (word_only word.And) neg) (Listed most PC) PC (separated_keeps most R (word_class word.And) neg PC neg_keeps)
          (chain_kept And closed.conjunction)

      cond_keeps : Kept cond PC
      unfolding cond
      cond_keeps =
          map_keeps most R (chain Or) (separated (word_only word.Or) conj) (Listed most PC) PC (separated_keeps most R (word_class word.Or) conj PC conj_keeps)
          (chain_kept Or closed.disjunction)

      -- ---- the results of a CASE

      when_keeps : Kept when OfWhen
      unfolding when
      when_keeps =
          map_keeps most R when_tree ((word_only word.When ⨟> cond) ⨟ (word_only word.Then ⨟> sum)) (λ v. PC v.0 × PS v.1) OfWhen
          (both_keeps most R (word_only word.When ⨟> cond) (word_only word.Then ⨟> sum) PC PS (second_keeps most R (word_only word.When) cond PC cond_keeps) (second_keeps most R (word_only word.Then) sum PS sum_keeps))
          (λ v is. is)

      abbrev Whens : List NamedWhen → Type 0
      Whens ws = (1 ≤ length ws) × All OfWhen ws

      whens_keep : Kept whens Whens
      unfolding whens
      whens_keep =
          map_keeps most R (λ p. p.0 ∷ p.1) (when ⨟ many when) (λ v. OfWhen v.0 × All OfWhen v.1) Whens
          (both_keeps most R when (many when) OfWhen (All OfWhen) when_keeps (many_keep most R when OfWhen when_keeps))
          (λ v is. (omega arith, All-cons OfWhen v.0 v.1 is.0 is.1))

      pub results_keep : Kept results OfResults
      unfolding results
      results_keep ts v few w =
          let is = both_keeps most R whens (option (word_only word.Else ⨟> sum)) Whens (Where PS) whens_keep
          (option_keeps most R (word_only word.Else ⨟> sum) PS (second_keeps most R (word_only word.Else) sum PS sum_keeps)) ts v few w in
          (is.0.0, is.0.1, is.1)

      -- ---- queries

      item_keeps : Kept item OfItem
      unfolding item
      item_keeps =
          map_keeps most R item_tree (sum ⨟ alias) (λ v. PS v.0 × Where IsNamed v.1) OfItem
          (both_keeps most R sum alias PS (Where IsNamed) sum_keeps (alias_keeps most R)) (λ v is. (is.0, text_written most R v.1 is.1))

      list_keeps : Kept list PL
      unfolding list
      list_keeps =
          either_keeps most R ((λ _. named_select.All) <$> symbol_only symbol.Star) (named_select.Items <$> separated comma item) PL
          (map_keeps most R (λ _. named_select.All) (symbol_only symbol.Star) (λ v. Unit {0}) PL (anything most R (symbol_only symbol.Star)) (λ v is. closed.all_columns))
          (map_keeps most R named_select.Items (separated comma item) (Listed most OfItem) PL (separated_keeps most R (symbol_class symbol.Comma) item OfItem item_keeps)
          (λ v is. closed.items v is.some is.few is.all))

      derived_keeps : Kept derived PF
      unfolding derived
      derived_keeps =
          map_keeps most R derived_tree (in_parens (rule query_rule) ⨟ (option (word_only word.As) ⨟> name)) (λ v. PQ v.0 × IsNamed v.1) PF
          (both_keeps most R (in_parens (rule query_rule)) (option (word_only word.As) ⨟> name) PQ IsNamed (enclosed_keeps most R (rule query_rule) PQ (rules NamedQuery query_rule))
          (second_keeps most R (option (word_only word.As)) name IsNamed (name_keeps most R)))
          (λ v is. closed.derived v.0 v.1.0 v.1.1 is.0 is.1)

      from_keeps : Kept from PF
      unfolding from
      from_keeps = either_keeps most R (Table <$> table) derived PF (map_keeps most R Table table IsTableName PF (table_keeps most R) closed.table) derived_keeps

      from_items_keep : Kept from_items (Listed most PF)
      unfolding from_items
      from_items_keep = separated_keeps most R (symbol_class symbol.Comma) from PF from_keeps

      filter_keeps : Kept filter (Where PC)
      unfolding filter
      filter_keeps = option_keeps most R (word_only word.Where ⨟> cond) PC (second_keeps most R (word_only word.Where) cond PC cond_keeps)

      pub query_keeps : Kept query PQ
      unfolding query
      query_keeps =
          let last = (word_only word.From ⨟> from_items) ⨟ filter in
          let PLast : List NamedFrom × Option NamedCond → Type 0 = λ v. Listed most PF v.0 × Where PC v.1 in
          let PRest : NamedSelect × (List NamedFrom × Option NamedCond) → Type 0 = λ v. PL v.0 × PLast v.1 in
          map_keeps most R query_tree (word_at word.Select ⨟ (distinctness ⨟ (list ⨟ last))) (λ v. Unit {0} × (Unit {0} × PRest v.1.1)) PQ
          (both_keeps most R (word_at word.Select) (distinctness ⨟ (list ⨟ last)) (λ v. Unit {0}) (λ v. Unit {0} × PRest v.1) (anything most R (word_at word.Select))
          (both_keeps most R distinctness (list ⨟ last) (λ v. Unit {0}) PRest (anything most R distinctness)
          (both_keeps most R list last PL PLast list_keeps
          (both_keeps most R (word_only word.From ⨟> from_items) filter (Listed most PF) (Where PC) (second_keeps most R (word_only word.From) from_items (Listed most PF) from_items_keep) filter_keeps))))
          (λ v is. let s = is.1.1 in closed.query v.0 v.1.0 v.1.1.0 v.1.1.1.0 v.1.1.1.1 s.0 s.1.0.some s.1.0.all s.1.1)

      -- ---- scripts

      statement_keeps : Kept statement OfStatement
      unfolding statement
      statement_keeps =
          map_keeps most R statement_tree (query ⨟ ordering) (λ v. PQ v.0 × Unit {0}) OfStatement
          (both_keeps most R query ordering PQ (λ v. Unit {0}) query_keeps (anything most R ordering)) (λ v is. is.0)

      ended_keeps : Kept ended OfStatement
      unfolding ended
      ended_keeps = first_keeps most R statement (symbol_only symbol.Semicolon) OfStatement statement_keeps

      all_last : (vs : List NamedStatement) (v : NamedStatement) → All OfStatement vs → OfStatement v → All OfStatement (vs ++ v ∷ [])
      all_last [] v all is = All-cons OfStatement v [] is (All-nil OfStatement)
      all_last (x ∷ vs) v all is = All-cons OfStatement x (vs ++ v ∷ []) (All-head OfStatement x vs all) (all_last vs v (All-tail OfStatement x vs all) is)

      with_last_kept : (vs : List NamedStatement) (o : Option NamedStatement) → All OfStatement vs → Where OfStatement o → All OfStatement (with_last (vs, o))
      with_last_kept vs None all is = all
      with_last_kept vs (Some v) all is = all_last vs v all is

      pub script_keeps : Kept script (All OfStatement)
      unfolding script
      script_keeps =
          map_keeps most R with_last (many ended ⨟ option statement) (λ v. All OfStatement v.0 × Where OfStatement v.1) (All OfStatement)
          (both_keeps most R (many ended) (option statement) (All OfStatement) (Where OfStatement) (many_keep most R ended OfStatement ended_keeps) (option_keeps most R statement OfStatement statement_keeps))
          (λ v is. with_last_kept v.0 v.1 is.0 is.1)

    abbrev whole : ℕ → (A : Type 0) → Rule A → List Token → A → Type 0
    whole n A p ts v = WholeRule Token Rule class production n A p ts v

    rules_keep : (n : ℕ) (A : Type 0) (p : Rule A) (ts : List Token) (v : A) → Few most ts → whole n A p ts v → Good A p v
    unfolding WholeRule
    rules_keep zero A p ts v few w = absurd w
    rules_keep (suc n) A condition_rule ts v few w = cond_keeps (whole n) (rules_keep n) ts v few w
    rules_keep (suc n) A results_rule ts v few w = results_keep (whole n) (rules_keep n) ts v few w
    rules_keep (suc n) A query_rule ts v few w = query_keeps (whole n) (rules_keep n) ts v few w

    -- ---- from the text

    both_within : (ts : List Token) → All (λ t. IsNameShort t.kind) ts → All (λ t. IsNumberSmall t.kind) ts → All Within ts
    both_within [] names numbers = All-nil Within
    both_within (t ∷ ts) names numbers =
        All-cons Within t ts (All-head (λ u. IsNameShort u.kind) t ts names, All-head (λ u. IsNumberSmall u.kind) t ts numbers)
        (both_within ts (All-tail (λ u. IsNameShort u.kind) t ts names) (All-tail (λ u. IsNumberSmall u.kind) t ts numbers))

    -- no token is empty
    tokens_few : (ts : List Token) (at end : ℕ) → SpansAscend at end ts → at + length ts ≤ end
    tokens_few [] at end spans = omega (arith, spans)
    tokens_few (t ∷ ts) at end spans = let more = tokens_few ts t.end end spans.2 in omega (arith, more, spans.0, spans.1)

    -- what holds where the parts are put together holds of each statement of a script whose text is as long at most
    pub statements_keep : (limit : ℕ) (text : List ℕ) (ts : List Token) (statements : List NamedStatement) → length text ≤ most → IsTokens limit text ts → IsScript ts statements → All OfStatement statements
    statements_keep limit text ts statements short tokens w =
        let of = lexes_bounded limit text (Ok ts) tokens in
        let few = tokens_few ts 0 (length text) of.spans in
        script_keeps (whole w.1.0) (rules_keep w.1.0) ts statements (record { all = both_within ts of.names of.numbers; few = omega (arith, few, short) }) w.1.1
