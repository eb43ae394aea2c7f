-- What is written of each part of a query, as its variants are named.
use Rattle.std.proofs.Common.{◌≡◌, ℕ, ℤ, Bool, true, false, cond, Option, Some, None, List, [], ◌∷◌, ◌++◌, map, refl, sym, ap, ◌∙◌, append_assoc, append-nil, pos, negsuc, suc}
use Rattle.std.specs.Option.{option_map}
use Rattle.std.specs.Fmt.{signed_decimal}
use Rattle.prefsql_values.specs.declared.value.CompareOp.{CompareOp}
use Rattle.prefsql_lexer.specs.declared.token.Keyword.TheVariants as word
use Rattle.prefsql_lexer.specs.declared.token.Symbol.TheVariants as symbol
use Rattle.prefsql_lexer.specs.declared.token.TokenKind.TheVariants.{Chars as CharsKind}
use Rattle.sql_tree.specs.declared.tree.SqlCond.{SqlCond, And, Or, Not, Compare, Between, OneOf, IsNull, Exists}
use Rattle.sql_tree.specs.declared.tree.SqlCond.TheViews.{rolls-And, rolls-Or, rolls-Not, rolls-Compare, rolls-Between, rolls-OneOf, rolls-IsNull, rolls-Exists, rolls-Column, rolls-Number, rolls-Chars, rolls-Sum, rolls-Case, rolls-Table, rolls-Derived}
use Rattle.sql_tree.specs.declared.tree.SqlScalar.{SqlScalar, Column, Number, Chars, Sum, Case}
use Rattle.sql_tree.specs.declared.tree.SqlPlace.{SqlPlace}
use Rattle.sql_tree.specs.declared.tree.SqlTable.{SqlTable}
use Rattle.sql_tree.specs.declared.tree.SqlSource.{Table, Derived}
use Rattle.sql_tree.specs.declared.tree.SqlQuery.{SqlQuery, out-SqlQuery}
use Rattle.sql_tree.specs.declared.tree.SqlCond.TheFolds.{fold_out-SqlQuery}
use Rattle.sql_tree.specs.declared.tree.SqlCond.TheShapes.{former-SqlQuery-filter}
use Rattle.std.specs.Prelude.{codes}
use Rattle.sql_tree.specs.declared.tree.SumTerm.{SumTerm}
use Rattle.sql_tree.specs.declared.tree.SqlWhen.{SqlWhen}
use Rattle.prefsql_values.specs.Nesting.{Standing, in_and, in_or, after_not, wraps_and, wraps_or, wraps_not}
use Rattle.sql_text.specs.Pieces.{Piece, space, mark, bytes_of}
use Rattle.sql_text.specs.Text.{Names, cond_pieces, scalar_pieces, source_pieces, from_pieces, item_pieces, query_pieces, when_pieces, term_pieces, in_parentheses, in_parentheses_if, all_joined, any_joined, negated_pieces, compare_pieces, between_pieces, member_pieces, null_pieces, word_of, name_mark, symbol_mark, ◌⎵◌, column_pieces, item_at, number_pieces, sum_pieces, case_pieces, whens_joined, else_pieces, later_pieces, listed, distinct_if, filter_pieces, word_mark, SignedPieces, WrittenCond, WrittenFrom, WrittenItem, cond_step, scalar_step, source_step, from_step, item_step, query_step, when_step, term_step}
use Rattle.sql_text.proofs.PieceBytes.{bytes_append}
use Rattle.sql_text.proofs.Equations.{pieces-And, pieces-Or, pieces-Not, pieces-Compare, pieces-Between, pieces-OneOf, pieces-IsNull, pieces-Exists, pieces-Column, pieces-Number, pieces-Chars, pieces-Sum, pieces-Case, source-Table, source-Derived, when_is, item_is, from_is, term_is, whole, whole_same, inner_names}
use Rattle.sql_text.specs.Spelling.{between_text, in_text, null_text, select_text, sign_text}

-- parentheses, where they stand
pub bytes_if : (b : Bool) (ps : List Piece) → bytes_of (in_parentheses_if b ps) ≡ cond b (40 ∷ []) [] ++ (bytes_of ps ++ cond b (41 ∷ []) [])
bytes_if false ps = sym (append-nil (bytes_of ps))
bytes_if true ps = ap (λ bs. 40 ∷ bs) (bytes_append ps (symbol_mark (symbol.RightParen) ∷ []))

pub written-Compare : (op : CompareOp) (a b : SqlScalar) (names : Names) (standing : Standing) → cond_pieces (Compare op a b) names standing ≡ compare_pieces op (scalar_pieces a names) (scalar_pieces b names)
written-Compare op a b names standing = ap (λ c. cond_pieces c names standing) (sym (rolls-Compare op a b)) ∙ pieces-Compare op a b names standing

pub written-Between : (negated : Bool) (a low high : SqlScalar) (names : Names) (standing : Standing) → cond_pieces (Between negated a low high) names standing ≡ scalar_pieces a names ++ between_pieces negated (scalar_pieces low names) (scalar_pieces high names)
written-Between negated a low high names standing = ap (λ c. cond_pieces c names standing) (sym (rolls-Between negated a low high)) ∙ pieces-Between negated a low high names standing

pub written-OneOf : (negated : Bool) (a : SqlScalar) (list : List SqlScalar) (names : Names) (standing : Standing) → cond_pieces (OneOf negated a list) names standing ≡ scalar_pieces a names ++ member_pieces negated (map (λ b. scalar_pieces b names) list)
written-OneOf negated a list names standing = ap (λ c. cond_pieces c names standing) (sym (rolls-OneOf negated a list)) ∙ pieces-OneOf negated a list names standing

pub written-IsNull : (negated : Bool) (a : SqlScalar) (names : Names) (standing : Standing) → cond_pieces (IsNull negated a) names standing ≡ scalar_pieces a names ++ null_pieces negated
written-IsNull negated a names standing = ap (λ c. cond_pieces c names standing) (sym (rolls-IsNull negated a)) ∙ pieces-IsNull negated a names standing

pub written-Exists : (query : SqlQuery) (names : Names) (standing : Standing) → cond_pieces (Exists query) names standing ≡ word_of word.Exists ⎵ in_parentheses ((query_pieces query).pieces names)
written-Exists query names standing = ap (λ c. cond_pieces c names standing) (sym (rolls-Exists query)) ∙ pieces-Exists query names standing

pub bytes-And : (parts : List SqlCond) (names : Names) (standing : Standing) → bytes_of (cond_pieces (And parts) names standing) ≡ cond (wraps_and standing) (40 ∷ []) [] ++ (bytes_of (all_joined (map (λ part. cond_pieces part names in_and) parts)) ++ cond (wraps_and standing) (41 ∷ []) [])
bytes-And parts names standing = ap bytes_of (ap (λ c. cond_pieces c names standing) (sym (rolls-And parts)) ∙ pieces-And parts names standing) ∙ bytes_if (wraps_and standing) (all_joined (map (λ part. cond_pieces part names in_and) parts))

pub bytes-Or : (parts : List SqlCond) (names : Names) (standing : Standing) → bytes_of (cond_pieces (Or parts) names standing) ≡ cond (wraps_or standing) (40 ∷ []) [] ++ (bytes_of (any_joined (map (λ part. cond_pieces part names in_or) parts)) ++ cond (wraps_or standing) (41 ∷ []) [])
bytes-Or parts names standing = ap bytes_of (ap (λ c. cond_pieces c names standing) (sym (rolls-Or parts)) ∙ pieces-Or parts names standing) ∙ bytes_if (wraps_or standing) (any_joined (map (λ part. cond_pieces part names in_or) parts))

pub bytes-Not : (part : SqlCond) (names : Names) (standing : Standing) → bytes_of (cond_pieces (Not part) names standing) ≡ cond (wraps_not standing) (40 ∷ []) [] ++ (bytes_of (negated_pieces (cond_pieces part names after_not)) ++ cond (wraps_not standing) (41 ∷ []) [])
bytes-Not part names standing = ap bytes_of (ap (λ c. cond_pieces c names standing) (sym (rolls-Not part)) ∙ pieces-Not part names standing) ∙ bytes_if (wraps_not standing) (negated_pieces (cond_pieces part names after_not))

pub written-Column : (place : SqlPlace) (names : Names) → scalar_pieces (Column place) names ≡ column_pieces (item_at names place) place.column
written-Column place names = ap (λ s. scalar_pieces s names) (sym (rolls-Column place)) ∙ pieces-Column place names

pub written-Number : (n : ℤ) (names : Names) → scalar_pieces (Number n) names ≡ number_pieces n
written-Number n names = ap (λ s. scalar_pieces s names) (sym (rolls-Number n)) ∙ pieces-Number n names

pub written-Chars : (text : List ℕ) (names : Names) → scalar_pieces (Chars text) names ≡ mark (CharsKind text) ∷ []
written-Chars text names = ap (λ s. scalar_pieces s names) (sym (rolls-Chars text)) ∙ pieces-Chars text names

pub written-Sum : (terms : List SumTerm) (names : Names) → scalar_pieces (Sum terms) names ≡ sum_pieces (map (λ term. term_pieces term names) terms)
written-Sum terms names = ap (λ s. scalar_pieces s names) (sym (rolls-Sum terms)) ∙ pieces-Sum terms names

pub written-Case : (whens : List SqlWhen) (last : Option SqlScalar) (names : Names) → scalar_pieces (Case whens last) names ≡ case_pieces (map (λ when. when_pieces when names) whens) (option_map (λ value. scalar_pieces value names) last)
written-Case whens last names = ap (λ s. scalar_pieces s names) (sym (rolls-Case whens last)) ∙ pieces-Case whens last names

pub written-Table : (table : SqlTable) → (source_pieces (Table table)).pieces ≡ name_mark table.name ∷ []
written-Table table = ap (λ s. (source_pieces s).pieces) (sym (rolls-Table table)) ∙ source-Table table

pub written-Derived : (query : SqlQuery) → (source_pieces (Derived query)).pieces ≡ in_parentheses ((query_pieces query).pieces [])
written-Derived query = ap (λ s. (source_pieces s).pieces) (sym (rolls-Derived query)) ∙ source-Derived query

-- a number, and a text in quotes, alone
pub bytes_number : (n : ℤ) → bytes_of (number_pieces n) ≡ signed_decimal n
bytes_number (pos n) = append-nil (signed_decimal (pos n))
bytes_number (negsuc n) = ap (λ bs. 45 ∷ bs) (append-nil (signed_decimal (pos (suc n))))

pub bytes-Case : (whens : List SqlWhen) (last : Option SqlScalar) (names : Names) → bytes_of (scalar_pieces (Case whens last) names)
    ≡ codes "CASE " ++ (bytes_of (whens_joined (map (λ when. when_pieces when names) whens)) ++ (bytes_of (else_pieces (option_map (λ value. scalar_pieces value names) last)) ++ codes " END"))
bytes-Case whens last names =
    let ws = whens_joined (map (λ when. when_pieces when names) whens) in
    let es = else_pieces (option_map (λ value. scalar_pieces value names) last) in
    ap bytes_of (written-Case whens last names)
    ∙ ap (λ bs. codes "CASE " ++ bs) (bytes_append (ws ++ es) (space ∷ word_of word.End) ∙ (ap (λ bs. bs ++ codes " END") (bytes_append ws es) ∙ append_assoc (bytes_of ws) (bytes_of es) (codes " END")))

between_bytes : (negated : Bool) (low high : List Piece) → bytes_of (between_pieces negated low high) ≡ between_text negated ++ (bytes_of low ++ (codes " AND " ++ bytes_of high))
between_bytes true low high = ap (λ bs. codes " NOT BETWEEN " ++ bs) (bytes_append low (space ∷ word_mark word.And ∷ space ∷ high))
between_bytes false low high = ap (λ bs. codes " BETWEEN " ++ bs) (bytes_append low (space ∷ word_mark word.And ∷ space ∷ high))

pub bytes-Between : (negated : Bool) (a low high : SqlScalar) (names : Names) (standing : Standing) → bytes_of (cond_pieces (Between negated a low high) names standing)
    ≡ bytes_of (scalar_pieces a names) ++ (between_text negated ++ (bytes_of (scalar_pieces low names) ++ (codes " AND " ++ bytes_of (scalar_pieces high names))))
bytes-Between negated a low high names standing =
    ap bytes_of (written-Between negated a low high names standing)
    ∙ (bytes_append (scalar_pieces a names) (between_pieces negated (scalar_pieces low names) (scalar_pieces high names)) ∙ ap (λ bs. bytes_of (scalar_pieces a names) ++ bs) (between_bytes negated (scalar_pieces low names) (scalar_pieces high names)))

null_bytes : (negated : Bool) → bytes_of (null_pieces negated) ≡ null_text negated
null_bytes true = refl
null_bytes false = refl

pub bytes-IsNull : (negated : Bool) (a : SqlScalar) (names : Names) (standing : Standing) → bytes_of (cond_pieces (IsNull negated a) names standing) ≡ bytes_of (scalar_pieces a names) ++ null_text negated
bytes-IsNull negated a names standing =
    ap bytes_of (written-IsNull negated a names standing) ∙ (bytes_append (scalar_pieces a names) (null_pieces negated) ∙ ap (λ bs. bytes_of (scalar_pieces a names) ++ bs) (null_bytes negated))

pub bytes_member : (negated : Bool) (list : List (List Piece)) → bytes_of (member_pieces negated list) ≡ in_text negated ++ (bytes_of (listed list) ++ codes ")")
bytes_member true list = ap (λ bs. codes " NOT IN (" ++ bs) (bytes_append (listed list) (symbol_mark symbol.RightParen ∷ []))
bytes_member false list = ap (λ bs. codes " IN (" ++ bs) (bytes_append (listed list) (symbol_mark symbol.RightParen ∷ []))

pub bytes_later : (term : SumTerm) (names : Names) → bytes_of (later_pieces (term_pieces term names)) ≡ sign_text term.minus ++ bytes_of (scalar_pieces term.scalar names)
bytes_later term names = ap (λ t. bytes_of (later_pieces t)) (term_is term names) ∙ by_sign term.minus
  where
    by_sign : (minus : Bool) → bytes_of (later_pieces (minus, scalar_pieces term.scalar names)) ≡ sign_text minus ++ bytes_of (scalar_pieces term.scalar names)
    by_sign true = refl
    by_sign false = refl

pub first_term : (term : SumTerm) (names : Names) → (term_pieces term names).1 ≡ scalar_pieces term.scalar names
first_term term names = ap (λ (t : SignedPieces). t.1) (term_is term names)

-- a query, by its parts
mapped_filter : (o : Option SqlCond) → former-SqlQuery-filter.map SqlCond WrittenCond cond_pieces o ≡ option_map cond_pieces o
mapped_filter None = refl
mapped_filter (Some c) = refl

distinct_bytes : (d : Bool) (ps : List Piece) → bytes_of (word_of word.Select ⎵ distinct_if d ps) ≡ select_text d ++ bytes_of ps
distinct_bytes true ps = refl
distinct_bytes false ps = refl

pub bytes_query : (q : SqlQuery) (outer : Names) → bytes_of ((query_pieces q).pieces outer)
    ≡ select_text (out-SqlQuery q).distinct ++ (bytes_of (listed (map (λ item. (item_pieces item).pieces (inner_names (out-SqlQuery q).from outer)) (out-SqlQuery q).items))
    ++ (codes " FROM " ++ (bytes_of (listed (map (λ item. (from_pieces item).pieces) (out-SqlQuery q).from)) ++ bytes_of (filter_pieces (option_map cond_pieces (out-SqlQuery q).filter) (inner_names (out-SqlQuery q).from outer)))))
unfolding cond_pieces scalar_pieces source_pieces from_pieces item_pieces query_pieces when_pieces term_pieces
bytes_query q outer =
    let o = out-SqlQuery q in
    let items = listed (map (λ item. (item_pieces item).pieces (inner_names o.from outer)) o.items) in
    let froms = listed (map (λ item. (from_pieces item).pieces) o.from) in
    let filters = filter_pieces (option_map cond_pieces o.filter) (inner_names o.from outer) in
    let parts : (query_pieces q).pieces outer ≡ word_of word.Select ⎵ distinct_if o.distinct (items ⎵ word_of word.From ⎵ (froms ++ filters)) =
    (λ j. (fold_out-SqlQuery _ _ _ _ _ _ _ _ cond_step scalar_step source_step from_step item_step query_step when_step term_step q j).pieces outer)
    ∙ (ap (λ f. whole o.distinct f outer (map (λ (f : WrittenFrom). f.names) (map from_pieces o.from)) (map (λ (item : WrittenItem). item.pieces (map (λ (f : WrittenFrom). f.names) (map from_pieces o.from) ∷ outer)) (map item_pieces o.items)) (map (λ (f : WrittenFrom). f.pieces) (map from_pieces o.from))) (mapped_filter o.filter)
    ∙ whole_same o.distinct o.items o.from (option_map cond_pieces o.filter) outer) in
    ap bytes_of parts
    ∙ (distinct_bytes o.distinct (items ⎵ word_of word.From ⎵ (froms ++ filters))
    ∙ ap (λ bs. select_text o.distinct ++ bs) (bytes_append items (space ∷ word_mark word.From ∷ space ∷ (froms ++ filters)) ∙ ap (λ bs. bytes_of items ++ (codes " FROM " ++ bs)) (bytes_append froms filters)))

pub ruleset scalar_rules = (written-Column, written-Number, written-Chars, written-Sum, bytes-Case, bytes_number, append_assoc, append-nil)

pub ruleset cond_rules = (written-Compare, bytes-Between, written-OneOf, bytes-IsNull, written-Exists, bytes-And, bytes-Or, bytes-Not, bytes_append, append_assoc, append-nil)

pub ruleset part_rules = (when_is, item_is, from_is, written-Table, written-Derived, bytes_append, append_assoc, append-nil)

pub ruleset query_rules = (bytes_query, append_assoc)

pub ruleset sum_rules = (bytes_later, first_term, bytes_append, append_assoc)
