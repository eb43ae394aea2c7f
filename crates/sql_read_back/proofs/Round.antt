-- The text of a query that can be written is a whole one of the grammar, with a tree whose parts are those of the query. What a tree
-- with names has to do with a part of a query is left open: it is any family of relations that each way to put parts together keeps.
use Rattle.std.proofs.Common.{◌≡◌, ℕ, ℤ, ◌≤◌, Bool, true, false, not, ◌&&◌, List, [], ◌∷◌, map, length, refl, sym, ap, ◌∙◌, subst, arith, Option, Some, None}
use Rattle.std.specs.Prelude.{nat_le, slice_index_or}
use Rattle.std.specs.Str.{chars}
use Rattle.std.specs.List.{list_all}
use Rattle.std.specs.Option.{option_map}
use Rattle.std.proofs.lemmas.Bool.{and_parts, false≢true, not-true}
use Rattle.std.proofs.lemmas.Bool.Decides.{nat_tests}
use Rattle.prefsql_lexer.specs.declared.token.Keyword.TheVariants as word
use Rattle.prefsql_values.specs.Limits.{IsName, IsShort}
use Rattle.prefsql_values.specs.declared.value.CompareOp.{CompareOp}
use Rattle.prefsql_values.specs.declared.value.Value.TheVariants.{Num, Str}
use Rattle.prefsql_tables.specs.declared.place.SortKey.{SortKey}
use Rattle.sql_tree.specs.WellFormed.{is_name, is_short}
use Rattle.sql_tree.specs.declared.tree.SqlCond.{SqlCond, roll-SqlCond, map-SqlCond}
use Rattle.sql_tree.specs.declared.tree.SqlCond.TheOpen.{SqlCond-F, SqlScalar-F, SqlSource-F, SqlQuery-F}
use Rattle.sql_tree.specs.declared.tree.SqlCond.TheFolds.{ind-SqlQuery}
use Rattle.sql_tree.specs.declared.tree.SqlScalar.{SqlScalar, roll-SqlScalar, map-SqlScalar}
use Rattle.sql_tree.specs.declared.tree.SqlPlace.{SqlPlace}
use Rattle.sql_tree.specs.declared.tree.SqlTable.{SqlTable}
use Rattle.sql_tree.specs.declared.tree.SqlSource.{SqlSource, roll-SqlSource, map-SqlSource}
use Rattle.sql_tree.specs.declared.tree.SqlFrom.{SqlFrom, roll-SqlFrom}
use Rattle.sql_tree.specs.declared.tree.SqlItem.{SqlItem, roll-SqlItem}
use Rattle.sql_tree.specs.declared.tree.SqlQuery.{SqlQuery, roll-SqlQuery, map-SqlQuery}
use Rattle.sql_tree.specs.declared.tree.SqlWhen.{SqlWhen, roll-SqlWhen}
use Rattle.sql_tree.specs.declared.tree.SumTerm.{SumTerm, roll-SumTerm}
use Rattle.sql_text.specs.declared.named.NamedCond.{NamedCond}
use Rattle.sql_text.specs.declared.named.NamedCond as named_cond
use Rattle.sql_text.specs.declared.named.NamedScalar.{NamedScalar}
use Rattle.sql_text.specs.declared.named.NamedScalar as named_scalar
use Rattle.sql_text.specs.declared.named.NamedSelect.{NamedSelect}
use Rattle.sql_text.specs.declared.named.NamedSelect as named_select
use Rattle.sql_text.specs.declared.named.NamedFrom.{NamedFrom}
use Rattle.sql_text.specs.declared.named.NamedFrom as named_from
use Rattle.sql_text.specs.declared.named.NamedItem.{NamedItem}
use Rattle.sql_text.specs.declared.named.NamedQuery.{NamedQuery}
use Rattle.sql_text.specs.declared.named.NamedTerm.{NamedTerm}
use Rattle.sql_text.specs.declared.named.NamedWhen.{NamedWhen}
use Rattle.prefsql_values.specs.Nesting.{Standing, alone, in_and, in_or, after_not}
use Rattle.grammar_forms.specs.Form.{option}
use Rattle.sql_text.specs.Grammar.{Grammar, conj, neg, test, sum, factor, when, item, filter, from, query, query_tree}
use Rattle.sql_read_back.proofs.Apart.{Follows, follows_none, follows_space}
use Rattle.sql_text.specs.Pieces.{Piece}
use Rattle.sql_text.specs.Text.{Names, ItemNames, item_at, cond_pieces, scalar_pieces, source_pieces, from_pieces, item_pieces, query_pieces, when_pieces, term_pieces, all_joined, any_joined, negated_pieces, sum_pieces, else_pieces, filter_pieces, listed, word_of, name_mark, ◌⎵◌, WrittenItem}
use Rattle.sql_read_back.proofs.Found.{is_found, written_name}
use Rattle.sql_read_back.proofs.Writable.{FineScalar, FineTerm, FineItem, FineFrom, is_term, last_fine, filter_fine, fine_cond, fine_scalar, fine_source, fine_from, fine_item, fine_query, fine_when, fine_term}
use Rattle.sql_text.proofs.Equations.{pieces-And, pieces-Or, pieces-Not, pieces-Compare, pieces-Between, pieces-OneOf, pieces-IsNull, pieces-Exists, pieces-Column, pieces-Number, pieces-Chars, pieces-Sum, pieces-Case, term_is, when_is, item_name_is, item_is, from_names_is, from_is, source-Table, source-Derived, inner_names, query_is, columns-Table, columns-Derived, columns-query}
use Rattle.sql_read_back.proofs.FineEquations.{fine-And, fine-Or, fine-Not, fine-Compare, fine-Between, fine-OneOf, fine-IsNull, fine-Exists, fine-Column, fine-Number, fine-Sum, fine-Case, fine_term_is, fine_when_is, fine_item_is, fine_from_is, fine-Table, fine-Derived, fine_names, fine_query_is, fine_item_name_is, fine_from_names_is, fine_columns-Table, fine_columns-Derived, fine_columns-query}
use Rattle.sql_read_back.proofs.Placed.{Each}
use Rattle.sql_read_back.proofs.WrittenForms.{Written, AllWritten}
use Rattle.sql_read_back.proofs.ScalarsWritten.{IsTerm, column_written, chars_written, number_written, factor_in_sum, sum_written, when_written, case_written, no_else, some_else}
use Rattle.sql_read_back.proofs.CondsWritten.{and_written, or_written, not_written, compare_written, between_written, member_written, null_written, exists_written}
use Rattle.sql_read_back.proofs.QueriesWritten.{item_written, list_written, table_written, derived_written, query_written, no_filter, some_filter}
use Rattle.token_forms.specs.Forms.{◌⨟>◌, word_only}
use Rattle.sql_read_back.proofs.Standings.{form_at, place_and, place_not, place_or, place_test}

name_is : (name : List ℕ) → is_name name ≡ true → IsName name
name_is name e =
    let p = and_parts (nat_le 1 (length (chars name))) (nat_le (length (chars name)) 64) e in
    let low = p.0 in
    let high = p.1 in
    record { not_empty = grind (arith, nat_tests); short = grind (arith, nat_tests) }

short_is : (n : ℤ) → is_short n ≡ true → IsShort n
short_is n e = grind (arith, nat_tests)

-- ---- what a tree with names has to do with a part of a query, by the names in scope

module _ (ok : SqlTable → Bool) (QC : Names → SqlCond → NamedCond → Type 0) (QS : Names → SqlScalar → NamedScalar → Type 0) (QF : List ℕ → SqlSource → NamedFrom → Type 0) (QQ : Names → SqlQuery → NamedQuery → Type 0) where
  pub record WhenIs (names : Names) (when : SqlWhen) (n : NamedWhen) : Type 0 where
    pub cond : QC names when.cond n.cond
    pub value : QS names when.value n.value

  pub record ItemIs (names : Names) (item : SqlItem) (n : NamedItem) : Type 0 where
    pub name : n.name ≡ Some item.name
    pub value : QS names item.value n.value

  abbrev pub FromIs : SqlFrom → NamedFrom → Type 0
  FromIs f n = QF f.name f.source n

  abbrev pub ElseIs : Names → Option SqlScalar → Option NamedScalar → Type 0
  ElseIs names None o = o ≡ None
  ElseIs names (Some value) o = (s : NamedScalar) × (o ≡ Some s) × QS names value s

  abbrev pub FilterIs : Names → Option SqlCond → Option NamedCond → Type 0
  FilterIs names None o = o ≡ None
  FilterIs names (Some c) o = (n : NamedCond) × (o ≡ Some n) × QC names c n

  -- each way to put parts together keeps the relations
  pub record Closed : Type 0 where
    pub conjunction : (names : Names) (parts : List SqlCond) (ns : List NamedCond) → Each (QC names) parts ns → QC names (roll-SqlCond (SqlCond-F.And parts)) (named_cond.And ns)
    pub disjunction : (names : Names) (parts : List SqlCond) (ns : List NamedCond) → Each (QC names) parts ns → QC names (roll-SqlCond (SqlCond-F.Or parts)) (named_cond.Or ns)
    pub negation : (names : Names) (part : SqlCond) (n : NamedCond) → QC names part n → QC names (roll-SqlCond (SqlCond-F.Not part)) (named_cond.Not n)
    pub comparison : (names : Names) (op : CompareOp) (a b : SqlScalar) (m n : NamedScalar) → QS names a m → QS names b n → QC names (roll-SqlCond (SqlCond-F.Compare op a b)) (named_cond.Compare op m n)
    pub range : (names : Names) (negated : Bool) (a low high : SqlScalar) (m n o : NamedScalar) → QS names a m → QS names low n → QS names high o → QC names (roll-SqlCond (SqlCond-F.Between negated a low high)) (named_cond.Between negated m n o)
    pub member : (names : Names) (negated : Bool) (a : SqlScalar) (list : List SqlScalar) (m : NamedScalar) (ns : List NamedScalar) → QS names a m → Each (QS names) list ns → QC names (roll-SqlCond (SqlCond-F.OneOf negated a list)) (named_cond.OneOf negated m ns)
    pub null : (names : Names) (negated : Bool) (a : SqlScalar) (m : NamedScalar) → QS names a m → QC names (roll-SqlCond (SqlCond-F.IsNull negated a)) (named_cond.IsNull negated m)
    pub existence : (names : Names) (q : SqlQuery) (n : NamedQuery) → QQ names q n → QC names (roll-SqlCond (SqlCond-F.Exists q)) (named_cond.Exists n)
    pub column : (names : Names) (place : SqlPlace) (at : ℕ) → QS names (roll-SqlScalar (SqlScalar-F.Column place)) (named_scalar.Column (written_name names place at))
    pub number : (names : Names) (n : ℤ) (at : ℕ) → QS names (roll-SqlScalar (SqlScalar-F.Number n)) (named_scalar.Literal (record { value = Num n; at = at }))
    pub text : (names : Names) (t : List ℕ) (at : ℕ) → QS names (roll-SqlScalar (SqlScalar-F.Chars t)) (named_scalar.Literal (record { value = Str t; at = at }))
    pub sum_of : (names : Names) (t u : SumTerm) (ts : List SumTerm) (s : NamedScalar) (n : NamedTerm) (ns : List NamedTerm) → t.minus ≡ false → QS names t.scalar s → Each (IsTerm (λ (z : SumTerm). z.minus) (λ (z : SumTerm). QS names z.scalar)) (u ∷ ts) (n ∷ ns) →
        QS names (roll-SqlScalar (SqlScalar-F.Sum (t ∷ (u ∷ ts)))) (named_scalar.Sum (record { minus = false; scalar = s } ∷ (n ∷ ns)))
    pub choice : (names : Names) (whens : List SqlWhen) (last : Option SqlScalar) (at : ℕ) (ns : List NamedWhen) (o : Option NamedScalar) → Each (WhenIs names) whens ns → ElseIs names last o → QS names (roll-SqlScalar (SqlScalar-F.Case whens last)) (named_scalar.Case at ns o)
    pub table : (t : SqlTable) (name : List ℕ) (at name_at : ℕ) → QF name (roll-SqlSource (SqlSource-F.Table t)) (named_from.Table (record { table = t.name; name = Some name; at = at; name_at = name_at }))
    pub derived : (q : SqlQuery) (name : List ℕ) (n : NamedQuery) (name_at : ℕ) → QQ [] q n → QF name (roll-SqlSource (SqlSource-F.Derived q)) (named_from.Derived n name name_at)
    pub query_of : (outer : Names) (d : Bool) (items : List SqlItem) (froms : List SqlFrom) (filter : Option SqlCond) (order : List SortKey) (at : ℕ) (ns : List NamedItem) (fs : List NamedFrom) (o : Option NamedCond) →
        Each (ItemIs (inner_names froms outer)) items ns → Each FromIs froms fs → FilterIs (inner_names froms outer) filter o →
        QQ outer (roll-SqlQuery (record { distinct = d; items = items; from = froms; filter = filter; order = order })) (query_tree (at, (d, (named_select.Items ns, (fs, o)))))

  module _ (closed : Closed) where
    abbrev PC : SqlCond → Type 0
    PC c = (names : Names) → (fine_cond ok) c names ≡ true → (standing : Standing) → Written (form_at standing) (cond_pieces c names standing) (QC names c)

    -- as a sum, and as a factor where it is none
    pub record ScalarWritten (s : SqlScalar) (names : Names) : Type 0 where
      pub as_sum : Written sum (scalar_pieces s names) (QS names s)
      pub as_factor : ((fine_scalar ok) s names).is_sum ≡ false → Written factor (scalar_pieces s names) (QS names s)

    abbrev PS : SqlScalar → Type 0
    PS s = (names : Names) → ((fine_scalar ok) s names).fine ≡ true → ScalarWritten s names

    pub record SourceWritten (s : SqlSource) : Type 0 where
      pub columns : ((fine_source ok) s).columns ≡ (source_pieces s).columns
      pub written : ((fine_source ok) s).fine ≡ true → (name : List ℕ) → is_name name ≡ true → Written from ((source_pieces s).pieces ⎵ word_of word.As ⎵ (name_mark name ∷ [])) (QF name s)

    abbrev PO : SqlSource → Type 0
    PO s = SourceWritten s

    abbrev PF : SqlFrom → Type 0
    PF f = SourceWritten f.source

    abbrev PI : SqlItem → Type 0
    PI i = PS i.value

    pub record QueryWritten (q : SqlQuery) : Type 0 where
      pub columns : ((fine_query ok) q).columns ≡ (query_pieces q).columns
      pub written : (outer : Names) → ((fine_query ok) q).fine outer ≡ true → Written query ((query_pieces q).pieces outer) (QQ outer q)

    abbrev PQ : SqlQuery → Type 0
    PQ q = QueryWritten q

    pub record WhenWritten (w : SqlWhen) : Type 0 where
      pub cond : PC w.cond
      pub value : PS w.value

    abbrev PW : SqlWhen → Type 0
    PW w = WhenWritten w

    abbrev PT : SumTerm → Type 0
    PT t = PS t.scalar

    abbrev C : Type 0
    C = (x : SqlCond) × PC x

    abbrev S : Type 0
    S = (x : SqlScalar) × PS x

    abbrev O : Type 0
    O = (x : SqlSource) × PO x

    abbrev F : Type 0
    F = (x : SqlFrom) × PF x

    abbrev I : Type 0
    I = (x : SqlItem) × PI x

    abbrev Q : Type 0
    Q = (x : SqlQuery) × PQ x

    abbrev W : Type 0
    W = (x : SqlWhen) × PW x

    abbrev T : Type 0
    T = (x : SumTerm) × PT x

    -- ---- conditions

    conds : (form : Grammar NamedCond) (standing : Standing) → form ≡ form_at standing → (names : Names) (parts : List C) → list_all (λ (part : Names → Bool). part names) (map (fine_cond ok) (map (λ e. e.0) parts)) ≡ true →
        AllWritten form (λ p. cond_pieces p names standing) (QC names) (map (λ e. e.0) parts)
    conds form standing is names [] fine = tt
    conds form standing is names (p ∷ parts) fine =
        let both = and_parts ((fine_cond ok) p.0 names) (list_all (λ (part : Names → Bool). part names) (map (fine_cond ok) (map (λ e. e.0) parts))) fine in
        let K : Grammar NamedCond → Type 0 = λ f. Written f (cond_pieces p.0 names standing) (QC names p.0) in
        (subst K (sym is) (p.1 names both.0 standing), conds form standing is names parts both.1)

    two_parts : {X Y : Type 0} (f : X → Y) (xs : List X) → nat_le 2 (length (map f xs)) ≡ true → 2 ≤ length xs
    two_parts f [] e = absurd (false≢true e)
    two_parts f (x ∷ []) e = absurd (false≢true e)
    two_parts f (x ∷ (y ∷ xs)) e = omega arith

    and_case : (parts : List C) → PC (roll-SqlCond (SqlCond-F.And (map (λ e. e.0) parts)))
    and_case parts names fine standing =
        let ps : List SqlCond = map (λ e. e.0) parts in
        let R = QC names (roll-SqlCond (SqlCond-F.And ps)) in
        let is = and_parts (nat_le 2 (length (map (fine_cond ok) ps))) (list_all (λ (part : Names → Bool). part names) (map (fine_cond ok) ps)) (sym (fine-And ok ps names) ∙ fine) in
        let base = and_written (λ p. cond_pieces p names in_and) (QC names) R ps (two_parts (fine_cond ok) ps is.0) (λ ns each. closed.conjunction names ps ns each) (conds neg in_and refl names parts is.1) in
        let K : List Piece → Type 0 = λ z. Written (form_at standing) z R in
        subst K (sym (pieces-And ps names standing)) (place_and (all_joined (map (λ p. cond_pieces p names in_and) ps)) R base standing)

    or_case : (parts : List C) → PC (roll-SqlCond (SqlCond-F.Or (map (λ e. e.0) parts)))
    or_case parts names fine standing =
        let ps : List SqlCond = map (λ e. e.0) parts in
        let R = QC names (roll-SqlCond (SqlCond-F.Or ps)) in
        let is = and_parts (nat_le 2 (length (map (fine_cond ok) ps))) (list_all (λ (part : Names → Bool). part names) (map (fine_cond ok) ps)) (sym (fine-Or ok ps names) ∙ fine) in
        let base = or_written (λ p. cond_pieces p names in_or) (QC names) R ps (two_parts (fine_cond ok) ps is.0) (λ ns each. closed.disjunction names ps ns each) (conds conj in_or refl names parts is.1) in
        let K : List Piece → Type 0 = λ z. Written (form_at standing) z R in
        subst K (sym (pieces-Or ps names standing)) (place_or (any_joined (map (λ p. cond_pieces p names in_or) ps)) R base standing)

    not_case : (part : C) → PC (roll-SqlCond (SqlCond-F.Not part.0))
    not_case part names fine standing =
        let R = QC names (roll-SqlCond (SqlCond-F.Not part.0)) in
        let ps = cond_pieces part.0 names after_not in
        let base = not_written ps (QC names part.0) R (λ n q. closed.negation names part.0 n q) (part.1 names (sym (fine-Not ok part.0 names) ∙ fine) after_not) in
        let K : List Piece → Type 0 = λ z. Written (form_at standing) z R in
        subst K (sym (pieces-Not part.0 names standing)) (place_not (negated_pieces ps) R base standing)

    -- a test stands as it is
    test_case : (c : SqlCond) (names : Names) (standing : Standing) (ps : List Piece) → cond_pieces c names standing ≡ ps → Written test ps (QC names c) → Written (form_at standing) (cond_pieces c names standing) (QC names c)
    test_case c names standing ps is w = let K : List Piece → Type 0 = λ z. Written (form_at standing) z (QC names c) in subst K (sym is) (place_test ps (QC names c) w standing)

    compare_case : (op : CompareOp) (a b : S) → PC (roll-SqlCond (SqlCond-F.Compare op a.0 b.0))
    compare_case op a b names fine standing =
        let is = and_parts ((fine_scalar ok) a.0 names).fine ((fine_scalar ok) b.0 names).fine (sym (fine-Compare ok op a.0 b.0 names) ∙ fine) in
        let c = roll-SqlCond (SqlCond-F.Compare op a.0 b.0) in
        test_case c names standing _ (pieces-Compare op a.0 b.0 names standing)
        (compare_written op (scalar_pieces a.0 names) (scalar_pieces b.0 names) (QS names a.0) (QS names b.0) (QC names c) (λ m n p q. closed.comparison names op a.0 b.0 m n p q) (a.1 names is.0).as_sum (b.1 names is.1).as_sum)

    between_case : (negated : Bool) (a low high : S) → PC (roll-SqlCond (SqlCond-F.Between negated a.0 low.0 high.0))
    between_case negated a low high names fine standing =
        let is = and_parts ((fine_scalar ok) a.0 names).fine (((fine_scalar ok) low.0 names).fine && ((fine_scalar ok) high.0 names).fine) (sym (fine-Between ok negated a.0 low.0 high.0 names) ∙ fine) in
        let more = and_parts ((fine_scalar ok) low.0 names).fine ((fine_scalar ok) high.0 names).fine is.1 in
        let c = roll-SqlCond (SqlCond-F.Between negated a.0 low.0 high.0) in
        test_case c names standing _ (pieces-Between negated a.0 low.0 high.0 names standing)
        (between_written negated (scalar_pieces a.0 names) (scalar_pieces low.0 names) (scalar_pieces high.0 names) (QS names a.0) (QS names low.0) (QS names high.0) (QC names c) (λ m n o p q r. closed.range names negated a.0 low.0 high.0 m n o p q r)
        (a.1 names is.0).as_sum (low.1 names more.0).as_sum (high.1 names more.1).as_sum)

    sums : (names : Names) (list : List S) → list_all (λ (b : Names → FineScalar). (b names).fine) (map (fine_scalar ok) (map (λ e. e.0) list)) ≡ true → AllWritten sum (λ b. scalar_pieces b names) (QS names) (map (λ e. e.0) list)
    sums names [] fine = tt
    sums names (b ∷ list) fine =
        let is = and_parts ((fine_scalar ok) b.0 names).fine (list_all (λ (b : Names → FineScalar). (b names).fine) (map (fine_scalar ok) (map (λ e. e.0) list))) fine in
        ((b.1 names is.0).as_sum, sums names list is.1)

    member_case : (negated : Bool) (a : S) (list : List S) → PC (roll-SqlCond (SqlCond-F.OneOf negated a.0 (map (λ e. e.0) list)))
    member_case negated a [] names fine standing =
        let is = and_parts ((fine_scalar ok) a.0 names).fine false (sym (fine-OneOf ok negated a.0 [] names) ∙ fine) in
        absurd (false≢true is.1)
    member_case negated a (b ∷ list) names fine standing =
        let bs : List SqlScalar = map (λ e. e.0) list in
        let each_fine = list_all (λ (b : Names → FineScalar). (b names).fine) (map (fine_scalar ok) (b.0 ∷ bs)) in
        let some = nat_le 1 (length (map (fine_scalar ok) (b.0 ∷ bs))) in
        let is = and_parts ((fine_scalar ok) a.0 names).fine (some && each_fine) (sym (fine-OneOf ok negated a.0 (b.0 ∷ bs) names) ∙ fine) in
        let all = and_parts some each_fine is.1 in
        let c = roll-SqlCond (SqlCond-F.OneOf negated a.0 (b.0 ∷ bs)) in
        test_case c names standing _ (pieces-OneOf negated a.0 (b.0 ∷ bs) names standing)
        (member_written negated (scalar_pieces a.0 names) (λ b. scalar_pieces b names) (QS names a.0) (QS names) (QC names c) b.0 bs (λ m ns p each. closed.member names negated a.0 (b.0 ∷ bs) m ns p each) (a.1 names is.0).as_sum (sums names (b ∷ list) all.1))

    null_case : (negated : Bool) (a : S) → PC (roll-SqlCond (SqlCond-F.IsNull negated a.0))
    null_case negated a names fine standing =
        let c = roll-SqlCond (SqlCond-F.IsNull negated a.0) in
        test_case c names standing _ (pieces-IsNull negated a.0 names standing)
        (null_written negated (scalar_pieces a.0 names) (QS names a.0) (QC names c) (λ m p. closed.null names negated a.0 m p) (a.1 names (sym (fine-IsNull ok negated a.0 names) ∙ fine)).as_sum)

    exists_case : (q : Q) → PC (roll-SqlCond (SqlCond-F.Exists q.0))
    exists_case q names fine standing =
        let c = roll-SqlCond (SqlCond-F.Exists q.0) in
        test_case c names standing _ (pieces-Exists q.0 names standing)
        (exists_written ((query_pieces q.0).pieces names) (QQ names q.0) (QC names c) (λ n p. closed.existence names q.0 n p) (q.1.written names (sym (fine-Exists ok q.0 names) ∙ fine)))

    -- ---- scalars

    -- a scalar that is no sum
    factor_case : (s : SqlScalar) (names : Names) (ps : List Piece) → scalar_pieces s names ≡ ps → Written factor ps (QS names s) → ScalarWritten s names
    factor_case s names ps is w =
        let K : List Piece → Type 0 = λ z. Written sum z (QS names s) in
        let L : List Piece → Type 0 = λ z. Written factor z (QS names s) in
        record { as_sum = subst K (sym is) (factor_in_sum ps (QS names s) w); as_factor = λ h. subst L (sym is) w }

    column_case : (place : SqlPlace) → PS (roll-SqlScalar (SqlScalar-F.Column place))
    column_case place names fine =
        let item = item_at names place in
        let name = slice_index_or item.columns place.column [] in
        let all = and_parts (is_found names place) (is_name item.name && is_name name) (sym (ap (λ (f : FineScalar). f.fine) (fine-Column ok place names)) ∙ fine) in
        let is = and_parts (is_name item.name) (is_name name) all.1 in
        let s = roll-SqlScalar (SqlScalar-F.Column place) in
        factor_case s names _ (pieces-Column place names) (column_written item.name name (QS names s) (name_is item.name is.0) (name_is name is.1) (λ at. closed.column names place at))

    number_case : (n : ℤ) → PS (roll-SqlScalar (SqlScalar-F.Number n))
    number_case n names fine =
        let is : is_short n ≡ true = sym (ap (λ (f : FineScalar). f.fine) (fine-Number ok n names)) ∙ fine in
        let s = roll-SqlScalar (SqlScalar-F.Number n) in
        factor_case s names _ (pieces-Number n names) (number_written (QS names s) n (short_is n is) (λ at. closed.number names n at))

    chars_case : (t : List ℕ) → PS (roll-SqlScalar (SqlScalar-F.Chars t))
    chars_case t names fine =
        let s = roll-SqlScalar (SqlScalar-F.Chars t) in
        factor_case s names _ (pieces-Chars t names) (chars_written t (QS names s) (λ at. closed.text names t at))

    factors : (names : Names) (ts : List T) → list_all is_term (map (λ (term : Names → FineTerm). term names) (map (fine_term ok) (map (λ e. e.0) ts))) ≡ true →
        AllWritten factor (λ (z : SumTerm). scalar_pieces z.scalar names) (λ (z : SumTerm). QS names z.scalar) (map (λ e. e.0) ts)
    factors names [] fine = tt
    factors names (t ∷ ts) fine =
        let is = and_parts (is_term ((fine_term ok) t.0 names)) (list_all is_term (map (λ (term : Names → FineTerm). term names) (map (fine_term ok) (map (λ e. e.0) ts)))) fine in
        let one = and_parts ((fine_scalar ok) t.0.scalar names).fine (not ((fine_scalar ok) t.0.scalar names).is_sum) (sym (ap is_term (fine_term_is ok t.0 names)) ∙ is.0) in
        ((t.1 names one.0).as_factor (not-true ((fine_scalar ok) t.0.scalar names).is_sum one.1), factors names ts is.1)

    sum_case : (ts : List T) → PS (roll-SqlScalar (SqlScalar-F.Sum (map (λ e. e.0) ts)))
    sum_case [] names fine = absurd (false≢true (sym (ap (λ (f : FineScalar). f.fine) (fine-Sum ok [] names)) ∙ fine))
    sum_case (t ∷ []) names fine =
        let e = sym (ap (λ (f : FineScalar). f.fine) (fine-Sum ok (t.0 ∷ []) names)) ∙ fine in
        let is = and_parts (not ((fine_term ok) t.0 names).minus) false e in
        absurd (false≢true is.1)
    sum_case (t ∷ (u ∷ ts)) names fine =
        let xs : List SumTerm = map (λ e. e.0) ts in
        let whole = t.0 ∷ (u.0 ∷ xs) in
        let s = roll-SqlScalar (SqlScalar-F.Sum whole) in
        let e = sym (ap (λ (f : FineScalar). f.fine) (fine-Sum ok whole names)) ∙ fine in
        let each_fine = list_all is_term (map (λ (term : Names → FineTerm). term names) (map (fine_term ok) whole)) in
        let some = nat_le 1 (length (map (λ (term : Names → FineTerm). term names) (map (fine_term ok) (u.0 ∷ xs)))) in
        let is = and_parts (not ((fine_term ok) t.0 names).minus) (some && each_fine) e in
        let all = and_parts some each_fine is.1 in
        let plus : t.0.minus ≡ false = sym (ap (λ (f : FineTerm). f.minus) (fine_term_is ok t.0 names)) ∙ not-true ((fine_term ok) t.0 names).minus is.0 in
        let signed : sum_pieces (map (λ term. term_pieces term names) whole) ≡ sum_pieces (map (λ (z : SumTerm). (z.minus, scalar_pieces z.scalar names)) whole) = λ j. sum_pieces (map (λ (z : SumTerm). term_is z names j) whole) in
        let base = sum_written (λ (z : SumTerm). z.minus) (λ (z : SumTerm). scalar_pieces z.scalar names) (λ (z : SumTerm). QS names z.scalar) (QS names s) t.0 u.0 xs (λ m n ns p each. closed.sum_of names t.0 u.0 xs m n ns plus p each) (factors names (t ∷ (u ∷ ts)) all.1) in
        let K : List Piece → Type 0 = λ z. Written sum z (QS names s) in
        record {
          as_sum = subst K (sym (pieces-Sum whole names ∙ signed)) base;
          as_factor = λ h. absurd (false≢true (sym h ∙ ap (λ (f : FineScalar). f.is_sum) (fine-Sum ok whole names)));
        }

    whens_of : (names : Names) (ws : List W) → list_all (λ (when : Names → Bool). when names) (map (fine_when ok) (map (λ e. e.0) ws)) ≡ true → AllWritten when (λ w. when_pieces w names) (WhenIs names) (map (λ e. e.0) ws)
    whens_of names [] fine = tt
    whens_of names (w ∷ ws) fine =
        let is = and_parts ((fine_when ok) w.0 names) (list_all (λ (when : Names → Bool). when names) (map (fine_when ok) (map (λ e. e.0) ws))) fine in
        let one = and_parts ((fine_cond ok) w.0.cond names) ((fine_scalar ok) w.0.value names).fine (sym (fine_when_is ok w.0 names) ∙ is.0) in
        let K : List Piece → Type 0 = λ z. Written when z (WhenIs names w.0) in
        (subst K (sym (when_is w.0 names)) (when_written (cond_pieces w.0.cond names alone) (scalar_pieces w.0.value names) (QC names w.0.cond) (QS names w.0.value) (WhenIs names w.0) (λ a b p q. record { cond = p; value = q }) (w.1.cond names one.0 alone) (w.1.value names one.1).as_sum), whens_of names ws is.1)

    else_case : (names : Names) (last : Option S) → last_fine (option_map (fine_scalar ok) (option_map (λ e. e.0) last)) names ≡ true →
        Written (option (word_only word.Else ⨟> sum)) (else_pieces (option_map (λ value. scalar_pieces value names) (option_map (λ e. e.0) last))) (ElseIs names (option_map (λ e. e.0) last))
    else_case names None fine = no_else (ElseIs names None) refl
    else_case names (Some v) fine = some_else (scalar_pieces v.0 names) (QS names v.0) (ElseIs names (Some v.0)) (λ s q. (s, refl, q)) (v.1 names fine).as_sum

    choice_case : (ws : List W) (last : Option S) → PS (roll-SqlScalar (SqlScalar-F.Case (map (λ e. e.0) ws) (option_map (λ e. e.0) last)))
    choice_case [] last names fine = absurd (false≢true (sym (ap (λ (f : FineScalar). f.fine) (fine-Case ok [] (option_map (λ e. e.0) last) names)) ∙ fine))
    choice_case (w ∷ ws) last names fine =
        let xs : List SqlWhen = map (λ e. e.0) ws in
        let l : Option SqlScalar = option_map (λ e. e.0) last in
        let s = roll-SqlScalar (SqlScalar-F.Case (w.0 ∷ xs) l) in
        let each_fine = list_all (λ (when : Names → Bool). when names) (map (fine_when ok) (w.0 ∷ xs)) in
        let some = nat_le 1 (length (map (fine_when ok) (w.0 ∷ xs))) in
        let all = and_parts some (each_fine && last_fine (option_map (fine_scalar ok) l) names) (sym (ap (λ (f : FineScalar). f.fine) (fine-Case ok (w.0 ∷ xs) l names)) ∙ fine) in
        let is = and_parts each_fine (last_fine (option_map (fine_scalar ok) l) names) all.1 in
        factor_case s names _ (pieces-Case (w.0 ∷ xs) l names)
        (case_written (λ w. when_pieces w names) (WhenIs names) (ElseIs names l) (option_map (λ value. scalar_pieces value names) l) (QS names s) w.0 xs (λ at ns o each e. closed.choice names (w.0 ∷ xs) l at ns o each e) (whens_of names (w ∷ ws) is.0) (else_case names last is.1))

    -- ---- FROM items and queries

    table_case : (t : SqlTable) → PO (roll-SqlSource (SqlSource-F.Table t))
    table_case t = record {
      columns = fine_columns-Table ok t ∙ sym (columns-Table t);
      written = (λ fine name is.
          let s = roll-SqlSource (SqlSource-F.Table t) in
          let K : List Piece → Type 0 = λ z. Written from (z ⎵ word_of word.As ⎵ (name_mark name ∷ [])) (QF name s) in
          subst K (sym (source-Table t)) (table_written t.name name (QF name s) (name_is t.name (and_parts (ok t) (is_name t.name) (sym (fine-Table ok t) ∙ fine)).1) (name_is name is) (λ at name_at. closed.table t name at name_at)));
    }

    derived_case : (q : Q) → PO (roll-SqlSource (SqlSource-F.Derived q.0))
    derived_case q = record {
      columns = fine_columns-Derived ok q.0 ∙ (q.1.columns ∙ sym (columns-Derived q.0));
      written = (λ fine name is.
          let s = roll-SqlSource (SqlSource-F.Derived q.0) in
          let K : List Piece → Type 0 = λ z. Written from (z ⎵ word_of word.As ⎵ (name_mark name ∷ [])) (QF name s) in
          subst K (sym (source-Derived q.0)) (derived_written ((query_pieces q.0).pieces []) name (QQ [] q.0) (QF name s) (name_is name is) (λ n name_at p. closed.derived q.0 name n name_at p) (q.1.written [] (sym (fine-Derived ok q.0) ∙ fine))));
    }

    names_same : (fs : List F) → map (λ (f : FineFrom). f.names) (map (fine_from ok) (map (λ e. e.0) fs)) ≡ map (λ item. (from_pieces item).names) (map (λ e. e.0) fs)
    names_same [] = refl
    names_same (f ∷ fs) =
        let N : List (List ℕ) → ItemNames = λ cs. record { name = f.0.name; columns = cs } in
        let one : ((fine_from ok) f.0).names ≡ (from_pieces f.0).names = fine_from_names_is ok f.0 ∙ (ap N f.1.columns ∙ sym (from_names_is f.0)) in
        ap (λ n. n ∷ map (λ (f : FineFrom). f.names) (map (fine_from ok) (map (λ e. e.0) fs))) one ∙ ap (λ ns. (from_pieces f.0).names ∷ ns) (names_same fs)

    items_of : (names : Names) (is : List I) → list_all (λ (item : FineItem). item.fine names) (map (fine_item ok) (map (λ e. e.0) is)) ≡ true → AllWritten item (λ i. (item_pieces i).pieces names) (ItemIs names) (map (λ e. e.0) is)
    items_of names [] fine = tt
    items_of names (i ∷ is) fine =
        let both = and_parts (((fine_item ok) i.0).fine names) (list_all (λ (item : FineItem). item.fine names) (map (fine_item ok) (map (λ e. e.0) is))) fine in
        let one = and_parts (is_name i.0.name) ((fine_scalar ok) i.0.value names).fine (sym (fine_item_is ok i.0 names) ∙ both.0) in
        let K : List Piece → Type 0 = λ z. Written item z (ItemIs names i.0) in
        (subst K (sym (item_is i.0 names)) (item_written (scalar_pieces i.0.value names) i.0.name (QS names i.0.value) (ItemIs names i.0) (name_is i.0.name one.0) (λ s q. record { name = refl; value = q }) (i.1 names one.1).as_sum), items_of names is both.1)

    froms_of : (fs : List F) → list_all (λ (f : FineFrom). f.fine) (map (fine_from ok) (map (λ e. e.0) fs)) ≡ true → AllWritten from (λ f. (from_pieces f).pieces) FromIs (map (λ e. e.0) fs)
    froms_of [] fine = tt
    froms_of (f ∷ fs) fine =
        let both = and_parts ((fine_from ok) f.0).fine (list_all (λ (f : FineFrom). f.fine) (map (fine_from ok) (map (λ e. e.0) fs))) fine in
        let one = and_parts (is_name f.0.name) ((fine_source ok) f.0.source).fine (sym (fine_from_is ok f.0) ∙ both.0) in
        let K : List Piece → Type 0 = λ z. Written from z (FromIs f.0) in
        (subst K (sym (from_is f.0)) (f.1.written one.1 f.0.name one.0), froms_of fs both.1)

    filter_case : (names : Names) (c : Option C) → filter_fine (option_map (fine_cond ok) (option_map (λ e. e.0) c)) names ≡ true →
        Written filter (filter_pieces (option_map cond_pieces (option_map (λ e. e.0) c)) names) (FilterIs names (option_map (λ e. e.0) c))
    filter_case names None fine = no_filter (FilterIs names None) refl
    filter_case names (Some c) fine = some_filter (cond_pieces c.0 names alone) (QC names c.0) (FilterIs names (Some c.0)) (λ n q. (n, refl, q)) (c.1 names fine alone)

    filter_follows : (names : Names) (c : Option SqlCond) → Follows (filter_pieces (option_map cond_pieces c) names)
    filter_follows names None = follows_none
    filter_follows names (Some c) = follows_space (word_of word.Where ⎵ cond_pieces c names alone)

    item_names_same : (is : List SqlItem) → map (λ (item : FineItem). item.name) (map (fine_item ok) is) ≡ map (λ (item : WrittenItem). item.name) (map item_pieces is)
    item_names_same [] = refl
    item_names_same (i ∷ is) =
        ap (λ n. n ∷ map (λ (item : FineItem). item.name) (map (fine_item ok) is)) (fine_item_name_is ok i ∙ sym (item_name_is i)) ∙ ap (λ ns. (item_pieces i).name ∷ ns) (item_names_same is)

    module _ (d : Bool) (order : List SortKey) (c : Option C) where
      abbrev cond0 : Option SqlCond
      cond0 = option_map (λ e. e.0) c

      abbrev query0 : List SqlItem → List SqlFrom → SqlQuery
      query0 items froms = roll-SqlQuery (record { distinct = d; items = items; from = froms; filter = cond0; order = order })

      query_case : (is : List I) (fs : List F) → PQ (query0 (map (λ e. e.0) is) (map (λ e. e.0) fs))
      query_case is fs = record { columns = same_columns; written = (λ outer fine. whole is fs outer (sym (fine_query_is ok d (map (λ e. e.0) is) (map (λ e. e.0) fs) cond0 order outer) ∙ fine)) }
        where
          same_columns : ((fine_query ok) (query0 (map (λ e. e.0) is) (map (λ e. e.0) fs))).columns ≡ (query_pieces (query0 (map (λ e. e.0) is) (map (λ e. e.0) fs))).columns
          same_columns = fine_columns-query ok d (map (λ e. e.0) is) (map (λ e. e.0) fs) cond0 order ∙ (item_names_same (map (λ e. e.0) is) ∙ sym (columns-query d (map (λ e. e.0) is) (map (λ e. e.0) fs) cond0 order))

          parts : List SqlItem → List SqlFrom → Names → Bool
          parts items froms names =
              (nat_le 1 (length (map (fine_item ok) items)) && list_all (λ (item : FineItem). item.fine names) (map (fine_item ok) items))
              && ((nat_le 1 (length (map (fine_from ok) froms)) && list_all (λ (f : FineFrom). f.fine) (map (fine_from ok) froms)) && filter_fine (option_map (fine_cond ok) cond0) names)

          whole : (is : List I) (fs : List F) (outer : Names) → parts (map (λ e. e.0) is) (map (λ e. e.0) fs) (fine_names ok (map (λ e. e.0) fs) outer) ≡ true →
              Written query ((query_pieces (query0 (map (λ e. e.0) is) (map (λ e. e.0) fs))).pieces outer) (QQ outer (query0 (map (λ e. e.0) is) (map (λ e. e.0) fs)))
          whole [] fs outer e = absurd (false≢true e)
          whole (i ∷ is) [] outer e =
              let names = fine_names ok [] outer in
              let items = i.0 ∷ map (λ e. e.0) is in
              let p = and_parts (nat_le 1 (length (map (fine_item ok) items)) && list_all (λ (item : FineItem). item.fine names) (map (fine_item ok) items)) false e in
              absurd (false≢true p.1)
          whole (i ∷ is) (f ∷ fs) outer e =
              let items : List SqlItem = i.0 ∷ map (λ e. e.0) is in
              let froms : List SqlFrom = f.0 ∷ map (λ e. e.0) fs in
              let names = inner_names froms outer in
              let same : fine_names ok froms outer ≡ names = ap (λ ns. ns ∷ outer) (names_same (f ∷ fs)) in
              let E : Names → Type 0 = λ n. parts items froms n ≡ true in
              let some_items = nat_le 1 (length (map (fine_item ok) items)) in
              let all_items = list_all (λ (item : FineItem). item.fine names) (map (fine_item ok) items) in
              let some_froms = nat_le 1 (length (map (fine_from ok) froms)) in
              let all_froms = list_all (λ (f : FineFrom). f.fine) (map (fine_from ok) froms) in
              let fine_filter = filter_fine (option_map (fine_cond ok) cond0) names in
              let p = and_parts (some_items && all_items) ((some_froms && all_froms) && fine_filter) (subst E same e) in
              let a = and_parts some_items all_items p.0 in
              let q = and_parts (some_froms && all_froms) fine_filter p.1 in
              let b = and_parts some_froms all_froms q.0 in
              let R = QQ outer (query0 items froms) in
              let L : NamedSelect → Type 0 = λ s. (ns : List NamedItem) × (s ≡ named_select.Items ns) × Each (ItemIs names) items ns in
              let listed_items = list_written (λ i. (item_pieces i).pieces names) (ItemIs names) L i.0 (map (λ e. e.0) is) (λ ns each. (ns, refl, each)) (items_of names (i ∷ is) a.1) in
              let base = query_written d (listed (map (λ i. (item_pieces i).pieces names) items)) (λ g. (from_pieces g).pieces) f.0 (map (λ e. e.0) fs) (filter_pieces (option_map cond_pieces cond0) names) L FromIs (FilterIs names cond0) R
              (λ at s ns o p each l. let K : NamedSelect → Type 0 = λ z. QQ outer (query0 items froms) (query_tree (at, (d, (z, (ns, o))))) in subst K (sym p.1) (closed.query_of outer d items froms cond0 order at p.0 ns o p.2 each l))
              (filter_follows names cond0) listed_items (froms_of (f ∷ fs) b.1) (filter_case names c q.1) in
              let K : List Piece → Type 0 = λ z. Written query z R in
              subst K (sym (query_is d items froms cond0 order outer)) base

    -- ---- every query

    cond_any : (y : SqlCond-F C S O F I Q W T) → PC (roll-SqlCond (map-SqlCond C S O F I Q W T SqlCond SqlScalar SqlSource SqlFrom SqlItem SqlQuery SqlWhen SumTerm (λ e. e.0) (λ e. e.0) (λ e. e.0) (λ e. e.0) (λ e. e.0) (λ e. e.0) (λ e. e.0) (λ e. e.0) y))
    cond_any (SqlCond-F.And parts) = and_case parts
    cond_any (SqlCond-F.Or parts) = or_case parts
    cond_any (SqlCond-F.Not part) = not_case part
    cond_any (SqlCond-F.Compare op a b) = compare_case op a b
    cond_any (SqlCond-F.Between negated a low high) = between_case negated a low high
    cond_any (SqlCond-F.OneOf negated a list) = member_case negated a list
    cond_any (SqlCond-F.IsNull negated a) = null_case negated a
    cond_any (SqlCond-F.Exists q) = exists_case q

    scalar_any : (y : SqlScalar-F C S O F I Q W T) → PS (roll-SqlScalar (map-SqlScalar C S O F I Q W T SqlCond SqlScalar SqlSource SqlFrom SqlItem SqlQuery SqlWhen SumTerm (λ e. e.0) (λ e. e.0) (λ e. e.0) (λ e. e.0) (λ e. e.0) (λ e. e.0) (λ e. e.0) (λ e. e.0) y))
    scalar_any (SqlScalar-F.Column place) = column_case place
    scalar_any (SqlScalar-F.Number n) = number_case n
    scalar_any (SqlScalar-F.Chars t) = chars_case t
    scalar_any (SqlScalar-F.Sum ts) = sum_case ts
    scalar_any (SqlScalar-F.Case ws last) = by_last last
      where
        by_last : (last : Option S) → PS (roll-SqlScalar (map-SqlScalar C S O F I Q W T SqlCond SqlScalar SqlSource SqlFrom SqlItem SqlQuery SqlWhen SumTerm (λ e. e.0) (λ e. e.0) (λ e. e.0) (λ e. e.0) (λ e. e.0) (λ e. e.0) (λ e. e.0) (λ e. e.0) (SqlScalar-F.Case ws last)))
        by_last None = choice_case ws None
        by_last (Some v) = choice_case ws (Some v)

    source_any : (y : SqlSource-F C S O F I Q W T) → PO (roll-SqlSource (map-SqlSource C S O F I Q W T SqlCond SqlScalar SqlSource SqlFrom SqlItem SqlQuery SqlWhen SumTerm (λ e. e.0) (λ e. e.0) (λ e. e.0) (λ e. e.0) (λ e. e.0) (λ e. e.0) (λ e. e.0) (λ e. e.0) y))
    source_any (SqlSource-F.Table t) = table_case t
    source_any (SqlSource-F.Derived q) = derived_case q

    query_any : (y : SqlQuery-F C S O F I Q W T) → PQ (roll-SqlQuery (map-SqlQuery C S O F I Q W T SqlCond SqlScalar SqlSource SqlFrom SqlItem SqlQuery SqlWhen SumTerm (λ e. e.0) (λ e. e.0) (λ e. e.0) (λ e. e.0) (λ e. e.0) (λ e. e.0) (λ e. e.0) (λ e. e.0) y))
    query_any y = by_filter y.filter
      where
        by_filter : (c : Option C) → PQ (roll-SqlQuery (map-SqlQuery C S O F I Q W T SqlCond SqlScalar SqlSource SqlFrom SqlItem SqlQuery SqlWhen SumTerm (λ e. e.0) (λ e. e.0) (λ e. e.0) (λ e. e.0) (λ e. e.0) (λ e. e.0) (λ e. e.0) (λ e. e.0) (record { distinct = y.distinct; items = y.items; from = y.from; filter = c; order = y.order })))
        by_filter None = query_case y.distinct y.order None y.items y.from
        by_filter (Some c) = query_case y.distinct y.order (Some c) y.items y.from

    pub query_round : (q : SqlQuery) → QueryWritten q
    query_round = ind-SqlQuery PC PS PO PF PI PQ PW PT
        (λ x y is. subst (λ z. PC (roll-SqlCond z)) is (cond_any y))
        (λ x y is. subst (λ z. PS (roll-SqlScalar z)) is (scalar_any y))
        (λ x y is. subst (λ z. PO (roll-SqlSource z)) is (source_any y))
        (λ x y is. subst (λ z. PF (roll-SqlFrom z)) is y.source.1)
        (λ x y is. subst (λ z. PI (roll-SqlItem z)) is y.value.1)
        (λ x y is. subst (λ z. PQ (roll-SqlQuery z)) is (query_any y))
        (λ x y is. subst (λ z. PW (roll-SqlWhen z)) is (record { cond = y.cond.1; value = y.value.1 }))
        (λ x y is. subst (λ z. PT (roll-SumTerm z)) is y.scalar.1)
