-- The tokens of a written query nest no deeper than the query says.
use Rattle.std.proofs.Common.{◌≡◌, ◌≤◌, ℕ, ℤ, ◌+◌, ◌-◌, pos, negsuc, Bool, true, false, Option, Some, None, List, [], ◌∷◌, ◌++◌, map, length, refl, sym, ap, subst, arith, append_assoc, suc}
use Rattle.std.specs.Prelude.{max}
use Rattle.std.specs.List.{flat_map}
use Rattle.std.specs.Option.{option_map}
use Rattle.prefsql_lexer.specs.Bounds.{NestWithin}
use Rattle.prefsql_lexer.specs.Tokens.{depth_after}
use Rattle.prefsql_lexer.specs.declared.token.TokenKind.{TokenKind}
use Rattle.prefsql_lexer.specs.declared.token.TokenKind.TheVariants.{Word, Name, Number, Chars as CharsKind, Symbol as SymbolKind}
use Rattle.prefsql_lexer.specs.declared.token.Keyword.TheVariants as word
use Rattle.prefsql_lexer.specs.declared.token.Symbol.TheVariants as symbol
use Rattle.prefsql_values.specs.Nesting as nest
use Rattle.prefsql_values.specs.Nesting.{deepest}
use Rattle.sql_text.specs.Pieces.{Piece, space, mark, token_bytes, tokens_from}
use Rattle.sql_text.specs.Text.{Names, ItemNames, item_at, joined, listed, in_parentheses, in_parentheses_if, word_of, name_mark, ◌⎵◌, all_joined, any_joined, negated_pieces, not_if, compare_pieces, op_symbol, between_pieces, null_pieces, column_pieces, number_pieces, SignedPieces, later_pieces, else_pieces, whens_joined, distinct_if, filter_pieces, cond_pieces, scalar_pieces, source_pieces, from_pieces, item_pieces, query_pieces, when_pieces, term_pieces}
use Rattle.sql_text.proofs.Equations.{pieces-And, pieces-Or, pieces-Not, pieces-Compare, pieces-Between, pieces-OneOf, pieces-IsNull, pieces-Exists, pieces-Column, pieces-Number, pieces-Chars, pieces-Sum, pieces-Case, term_is, when_is, item_is, from_is, source-Table, source-Derived, inner_names, query_is}
use Rattle.prefsql_lexer.specs.declared.token.Keyword.{Keyword}
use Rattle.prefsql_values.specs.Nesting.{Standing, alone, in_and, in_or, after_not, wraps_and, wraps_or, wraps_not}
use Rattle.prefsql_values.specs.declared.value.CompareOp.{CompareOp}
use Rattle.prefsql_values.specs.declared.value.CompareOp.TheVariants.{Eq, Ne, Lt, Le, Gt, Ge}
use Rattle.prefsql_tables.specs.declared.place.SortKey.{SortKey}
use Rattle.sql_tree.specs.Nesting.{nesting, depth_if, where_depth}
use Rattle.sql_tree.specs.declared.tree.SqlCond.{SqlCond, roll-SqlCond, map-SqlCond}
use Rattle.sql_tree.specs.declared.tree.SqlCond.TheOpen.{SqlCond-F, SqlScalar-F, SqlSource-F, SqlQuery-F}
use Rattle.sql_tree.specs.declared.tree.SqlCond.TheFolds.{ind-SqlQuery}
use Rattle.sql_tree.specs.declared.tree.SqlScalar.{SqlScalar, roll-SqlScalar, map-SqlScalar}
use Rattle.sql_tree.specs.declared.tree.SqlPlace.{SqlPlace}
use Rattle.sql_tree.specs.declared.tree.SqlSource.{SqlSource, roll-SqlSource, map-SqlSource}
use Rattle.sql_tree.specs.declared.tree.SqlFrom.{SqlFrom, roll-SqlFrom}
use Rattle.sql_tree.specs.declared.tree.SqlItem.{SqlItem, roll-SqlItem}
use Rattle.sql_tree.specs.declared.tree.SqlQuery.{SqlQuery, roll-SqlQuery, map-SqlQuery}
use Rattle.sql_tree.specs.declared.tree.SqlWhen.{SqlWhen, roll-SqlWhen}
use Rattle.sql_tree.specs.declared.tree.SumTerm.{SumTerm, roll-SumTerm}
use Rattle.sql_read_back.proofs.WrittenTokens.{depth_behind}
use Rattle.sql_read_back.proofs.Depths.{depth_cond, depth_scalar, depth_source, depth_from, depth_item, depth_when, depth_term, depth-And, depth-Or, depth-Not, depth-Compare, depth-Between, depth-OneOf, depth-IsNull, depth-Exists, depth-Column, depth-Number, depth-Chars, depth-Sum, depth-Case, depth-Table, depth-Derived, depth_from_is, depth_item_is, depth_when_is, depth_term_is, depth_query_is}

-- after each token the depth is within the limit, and at the end nothing is open
abbrev pub PiecesNest : ℕ → ℕ → List Piece → Type 0
PiecesNest limit d [] = d ≡ 0
PiecesNest limit d (space ∷ ps) = PiecesNest limit d ps
PiecesNest limit d (mark kind ∷ ps) = (depth_after d kind ≤ limit) × PiecesNest limit (depth_after d kind) ps

pub tokens_nest : (limit d at : ℕ) (ps : List Piece) → PiecesNest limit d ps → NestWithin limit d (tokens_from at ps)
tokens_nest limit d at [] n = tt
tokens_nest limit d at (space ∷ ps) n = tokens_nest limit d (at + 1) ps n
tokens_nest limit d at (mark kind ∷ ps) n = (n.0, tokens_nest limit (depth_after d kind) (at + length (token_bytes kind)) ps n.1)

pub pieces_close : (limit d : ℕ) (ps : List Piece) → PiecesNest limit d ps → depth_behind d ps ≡ 0
pieces_close limit d [] n = n
pieces_close limit d (space ∷ ps) n = pieces_close limit d ps n
pieces_close limit d (mark kind ∷ ps) n = pieces_close limit (depth_after d kind) ps n.1

module _ (limit : ℕ) where
  -- pieces that raise the depth by at most this, and leave it as it was
  abbrev pub Nests : ℕ → List Piece → Type 0
  Nests k ps = (d : ℕ) → d + k ≤ limit → (rest : List Piece) → PiecesNest limit d rest → PiecesNest limit d (ps ++ rest)

  pub nests_none : (k : ℕ) → Nests k []
  nests_none k d le rest r = r

  pub nests_weaker : (k m : ℕ) (ps : List Piece) → k ≤ m → Nests k ps → Nests m ps
  nests_weaker k m ps le n d fits rest r = n d (omega arith) rest r

  pub nests_append : (k : ℕ) (ps qs : List Piece) → Nests k ps → Nests k qs → Nests k (ps ++ qs)
  nests_append k ps qs a b d le rest r = subst (λ z. PiecesNest limit d z) (sym (append_assoc ps qs rest)) (a d le (qs ++ rest) (b d le rest r))

  pub nests_space : (k : ℕ) (ps : List Piece) → Nests k ps → Nests k (space ∷ ps)
  nests_space k ps n d le rest r = n d le rest r

  pub nests_spaced : (k : ℕ) (ps qs : List Piece) → Nests k ps → Nests k qs → Nests k (ps ⎵ qs)
  nests_spaced k ps qs a b = nests_append k ps (space ∷ qs) a (nests_space k qs b)

  -- a token that leaves the depth as it is
  pub nests_mark : (k : ℕ) (kind : TokenKind) (ps : List Piece) → ((d : ℕ) → depth_after d kind ≡ d) → Nests k ps → Nests k (mark kind ∷ ps)
  nests_mark k kind ps same n d le rest r =
      let here : depth_after d kind ≤ limit = omega (arith, same d) in
      (here, subst (λ z. PiecesNest limit z (ps ++ rest)) (sym (same d)) (n d le rest r))

  back_down : (d : ℕ) → (d + 1) - 1 ≡ d
  back_down d = omega arith

  pub nests_parens : (k : ℕ) (ps : List Piece) → Nests k ps → Nests (k + 1) (in_parentheses ps)
  nests_parens k ps n d le rest r =
      let fits : (d + 1) + k ≤ limit = omega arith in
      let end : List Piece = mark (SymbolKind symbol.RightParen) ∷ rest in
      let low : (d + 1) - 1 ≤ limit = omega arith in
      let after : PiecesNest limit (d + 1) end = (low, subst (λ z. PiecesNest limit z rest) (sym (back_down d)) r) in
      let high : d + 1 ≤ limit = omega arith in
      (high, subst (λ z. PiecesNest limit (d + 1) z) (sym (append_assoc ps (mark (SymbolKind symbol.RightParen) ∷ []) rest)) (n (d + 1) fits end after))

  pub nests_case : (k : ℕ) (ps : List Piece) → Nests k ps → Nests (k + 1) (word_of word.Case ⎵ ps ⎵ word_of word.End)
  nests_case k ps n d le rest r =
      let fits : (d + 1) + k ≤ limit = omega arith in
      let end : List Piece = space ∷ mark (Word word.End) ∷ rest in
      let low : (d + 1) - 1 ≤ limit = omega arith in
      let after : PiecesNest limit (d + 1) end = (low, subst (λ z. PiecesNest limit z rest) (sym (back_down d)) r) in
      let high : d + 1 ≤ limit = omega arith in
      (high, subst (λ z. PiecesNest limit (d + 1) z) (sym (append_assoc ps (space ∷ mark (Word word.End) ∷ []) rest)) (n (d + 1) fits end after))

  pub nests_if : (b : Bool) (k : ℕ) (ps : List Piece) → Nests k ps → Nests (nest.in_parentheses b k) (in_parentheses_if b ps)
  nests_if true k ps n = nests_parens k ps n
  nests_if false k ps n = n

  pub nests_as : (k m : ℕ) (ps qs : List Piece) → k ≡ m → ps ≡ qs → Nests m qs → Nests k ps
  nests_as k m ps qs e f n = subst (λ z. Nests z ps) (sym e) (subst (λ z. Nests m z) (sym f) n)

  -- ---- several parts

  abbrev pub EachNests : {X : Type 0} → (X → ℕ) → (X → List Piece) → List X → Type 0
  EachNests depth pieces [] = Unit {0}
  EachNests depth pieces (x ∷ xs) = Nests (depth x) (pieces x) × EachNests depth pieces xs

  max_left : (m n : ℕ) → m ≤ max m n
  max_left m n = omega arith

  max_right : (m n : ℕ) → n ≤ max m n
  max_right m n = omega arith

  pub nests_left : (m n : ℕ) (ps : List Piece) → Nests m ps → Nests (max m n) ps
  nests_left m n ps a = nests_weaker m (max m n) ps (max_left m n) a

  pub nests_right : (m n : ℕ) (ps : List Piece) → Nests n ps → Nests (max m n) ps
  nests_right m n ps a = nests_weaker n (max m n) ps (max_right m n) a

  pub nests_many : {X : Type 0} (depth : X → ℕ) (pieces around : X → List Piece) → ((k : ℕ) (x : X) → Nests k (pieces x) → Nests k (around x)) → (xs : List X) → EachNests depth pieces xs → Nests (deepest (map depth xs)) (flat_map around xs)
  nests_many depth pieces around to [] each = nests_none 0
  nests_many depth pieces around to (x ∷ xs) each =
      let m = depth x in
      let n = deepest (map depth xs) in
      nests_append (max m n) (around x) (flat_map around xs) (nests_left m n (around x) (to m x each.0)) (nests_right m n (flat_map around xs) (nests_many depth pieces around to xs each.1))

  flat_map_over : {X : Type 0} (pieces : X → List Piece) (between : List Piece) (xs : List X) → flat_map (λ next. between ++ next) (map pieces xs) ≡ flat_map (λ x. between ++ pieces x) xs
  flat_map_over pieces between [] = refl
  flat_map_over pieces between (x ∷ xs) = ap (λ z. (between ++ pieces x) ++ z) (flat_map_over pieces between xs)

  pub nests_joined : {X : Type 0} (between : List Piece) → ((k : ℕ) → Nests k between) → (depth : X → ℕ) (pieces : X → List Piece) (xs : List X) → EachNests depth pieces xs → Nests (deepest (map depth xs)) (joined between (map pieces xs))
  nests_joined between sep depth pieces [] each = nests_none 0
  nests_joined between sep depth pieces (x ∷ xs) each =
      let m = depth x in
      let n = deepest (map depth xs) in
      let more = nests_many depth pieces (λ x. between ++ pieces x) (λ k x p. nests_append k between (pieces x) (sep k) p) xs each.1 in
      let rest : Nests n (flat_map (λ next. between ++ next) (map pieces xs)) = subst (λ z. Nests n z) (sym (flat_map_over pieces between xs)) more in
      nests_append (max m n) (pieces x) (flat_map (λ next. between ++ next) (map pieces xs)) (nests_left m n (pieces x) each.0) (nests_right m n (flat_map (λ next. between ++ next) (map pieces xs)) rest)

  -- ---- words of the text

  pub word_then : (k : ℕ) (w : Keyword) (ps : List Piece) → ((d : ℕ) → depth_after d (Word w) ≡ d) → Nests k ps → Nests k (word_of w ⎵ ps)
  word_then k w ps same n = nests_mark k (Word w) (space ∷ ps) same (nests_space k ps n)

  pub word_end : (k : ℕ) (w : Keyword) → ((d : ℕ) → depth_after d (Word w) ≡ d) → Nests k (word_of w)
  word_end k w same = nests_mark k (Word w) [] same (nests_none k)

  name_end : (k : ℕ) (name : List ℕ) → Nests k (name_mark name ∷ [])
  name_end k name = nests_mark k (Name name) [] (λ d. refl) (nests_none k)

  between_and : (k : ℕ) → Nests k (space ∷ mark (Word word.And) ∷ space ∷ [])
  between_and k = nests_mark k (Word word.And) (space ∷ []) (λ d. refl) (nests_none k)

  between_or : (k : ℕ) → Nests k (space ∷ mark (Word word.Or) ∷ space ∷ [])
  between_or k = nests_mark k (Word word.Or) (space ∷ []) (λ d. refl) (nests_none k)

  pub comma : (k : ℕ) → Nests k (mark (SymbolKind symbol.Comma) ∷ space ∷ [])
  comma k = nests_mark k (SymbolKind symbol.Comma) (space ∷ []) (λ d. refl) (nests_none k)

  one_space : (k : ℕ) → Nests k (space ∷ [])
  one_space k = nests_none k

  nests_not_if : (negated : Bool) (k : ℕ) (ps : List Piece) → Nests k ps → Nests k (not_if negated ps)
  nests_not_if true k ps n = word_then k word.Not ps (λ d. refl) n
  nests_not_if false k ps n = n

  op_flat : (op : CompareOp) (d : ℕ) → depth_after d (SymbolKind (op_symbol op)) ≡ d
  op_flat Eq d = refl
  op_flat Ne d = refl
  op_flat Lt d = refl
  op_flat Le d = refl
  op_flat Gt d = refl
  op_flat Ge d = refl

  nests_compare : (op : CompareOp) (m n : ℕ) (a b : List Piece) → Nests m a → Nests n b → Nests (max m n) (compare_pieces op a b)
  nests_compare op m n a b p q =
      let k = max m n in
      nests_spaced k a (mark (SymbolKind (op_symbol op)) ∷ space ∷ b) (nests_left m n a p) (nests_mark k (SymbolKind (op_symbol op)) (space ∷ b) (op_flat op) (nests_right m n b q))

  nests_between : (negated : Bool) (m n : ℕ) (low high : List Piece) → Nests m low → Nests n high → Nests (max m n) (between_pieces negated low high)
  nests_between negated m n low high p q =
      let k = max m n in
      let tail = word_of word.And ⎵ high in
      let body = nests_spaced k low tail (nests_left m n low p) (word_then k word.And high (λ d. refl) (nests_right m n high q)) in
      nests_not_if negated k (word_of word.Between ⎵ low ⎵ tail) (word_then k word.Between (low ⎵ tail) (λ d. refl) body)

  nests_member : (negated : Bool) (k : ℕ) (list : List Piece) → Nests k list → Nests (k + 1) (space ∷ not_if negated (word_of word.In ⎵ in_parentheses list))
  nests_member negated k list n = nests_not_if negated (k + 1) (word_of word.In ⎵ in_parentheses list) (word_then (k + 1) word.In (in_parentheses list) (λ d. refl) (nests_parens k list n))

  nests_null : (negated : Bool) (k : ℕ) → Nests k (null_pieces negated)
  nests_null negated k = word_then k word.Is (not_if negated (word_of word.Null)) (λ d. refl) (nests_not_if negated k (word_of word.Null) (word_end k word.Null (λ d. refl)))

  nests_number : (k : ℕ) (n : ℤ) → Nests k (number_pieces n)
  nests_number k (pos n) = nests_mark k (Number (pos n)) [] (λ d. refl) (nests_none k)
  nests_number k (negsuc n) = nests_mark k (SymbolKind symbol.Minus) (mark (Number (pos (suc n))) ∷ []) (λ d. refl) (nests_mark k (Number (pos (suc n))) [] (λ d. refl) (nests_none k))

  nests_column : (k : ℕ) (item : ItemNames) (column : ℕ) → Nests k (column_pieces item column)
  nests_column k item column d le rest r = let fits : d ≤ limit = omega arith in (fits, (fits, (fits, r)))

  nests_later : (k : ℕ) (term : SignedPieces) → Nests k term.1 → Nests k (later_pieces term)
  nests_later k (true, ps) n = nests_mark k (SymbolKind symbol.Minus) (space ∷ ps) (λ d. refl) n
  nests_later k (false, ps) n = nests_mark k (SymbolKind symbol.Plus) (space ∷ ps) (λ d. refl) n

  -- ---- every query

  abbrev PC : SqlCond → Type 0
  PC c = (names : Names) (standing : Standing) → Nests (depth_cond c standing) (cond_pieces c names standing)

  abbrev PS : SqlScalar → Type 0
  PS s = (names : Names) → Nests (depth_scalar s) (scalar_pieces s names)

  abbrev PO : SqlSource → Type 0
  PO s = Nests (depth_source s) (source_pieces s).pieces

  abbrev PF : SqlFrom → Type 0
  PF f = PO f.source

  abbrev PI : SqlItem → Type 0
  PI i = PS i.value

  abbrev PQ : SqlQuery → Type 0
  PQ q = (names : Names) → Nests (nesting q) ((query_pieces q).pieces names)

  pub record WhenNests (w : SqlWhen) : Type 0 where
    pub cond : PC w.cond
    pub value : PS w.value

  abbrev PW : SqlWhen → Type 0
  PW w = WhenNests w

  abbrev PT : SumTerm → Type 0
  PT t = PS t.scalar

  abbrev C : Type 0
  C = (x : SqlCond) × PC x

  abbrev S : Type 0
  S = (x : SqlScalar) × PS x

  abbrev O : Type 0
  O = (x : SqlSource) × PO x

  abbrev F : Type 0
  F = (x : SqlFrom) × PF x

  abbrev I : Type 0
  I = (x : SqlItem) × PI x

  abbrev Q : Type 0
  Q = (x : SqlQuery) × PQ x

  abbrev W : Type 0
  W = (x : SqlWhen) × PW x

  abbrev T : Type 0
  T = (x : SumTerm) × PT x

  conds : (names : Names) (standing : Standing) (parts : List C) → EachNests (λ p. depth_cond p standing) (λ p. cond_pieces p names standing) (map (λ e. e.0) parts)
  conds names standing [] = tt
  conds names standing (p ∷ parts) = (p.1 names standing, conds names standing parts)

  and_case : (parts : List C) → PC (roll-SqlCond (SqlCond-F.And (map (λ e. e.0) parts)))
  and_case parts names standing =
      let ps : List SqlCond = map (λ e. e.0) parts in
      let body = nests_joined (space ∷ mark (Word word.And) ∷ space ∷ []) between_and (λ p. depth_cond p in_and) (λ p. cond_pieces p names in_and) ps (conds names in_and parts) in
      nests_as _ _ _ _ (depth-And ps standing) (pieces-And ps names standing)
      (nests_if (wraps_and standing) (deepest (map (λ p. depth_cond p in_and) ps)) (all_joined (map (λ p. cond_pieces p names in_and) ps)) body)

  or_case : (parts : List C) → PC (roll-SqlCond (SqlCond-F.Or (map (λ e. e.0) parts)))
  or_case parts names standing =
      let ps : List SqlCond = map (λ e. e.0) parts in
      let body = nests_joined (space ∷ mark (Word word.Or) ∷ space ∷ []) between_or (λ p. depth_cond p in_or) (λ p. cond_pieces p names in_or) ps (conds names in_or parts) in
      nests_as _ _ _ _ (depth-Or ps standing) (pieces-Or ps names standing)
      (nests_if (wraps_or standing) (deepest (map (λ p. depth_cond p in_or) ps)) (any_joined (map (λ p. cond_pieces p names in_or) ps)) body)

  not_case : (part : C) → PC (roll-SqlCond (SqlCond-F.Not part.0))
  not_case part names standing =
      let ps = cond_pieces part.0 names after_not in
      let k = depth_cond part.0 after_not in
      nests_as _ _ _ _ (depth-Not part.0 standing) (pieces-Not part.0 names standing)
      (nests_if (wraps_not standing) k (negated_pieces ps) (word_then k word.Not ps (λ d. refl) (part.1 names after_not)))

  compare_case : (op : CompareOp) (a b : S) → PC (roll-SqlCond (SqlCond-F.Compare op a.0 b.0))
  compare_case op a b names standing =
      nests_as _ _ _ _ (depth-Compare op a.0 b.0 standing) (pieces-Compare op a.0 b.0 names standing)
      (nests_compare op (depth_scalar a.0) (depth_scalar b.0) (scalar_pieces a.0 names) (scalar_pieces b.0 names) (a.1 names) (b.1 names))

  between_case : (negated : Bool) (a low high : S) → PC (roll-SqlCond (SqlCond-F.Between negated a.0 low.0 high.0))
  between_case negated a low high names standing =
      let m = depth_scalar a.0 in
      let n = max (depth_scalar low.0) (depth_scalar high.0) in
      let ps = scalar_pieces a.0 names in
      let qs = between_pieces negated (scalar_pieces low.0 names) (scalar_pieces high.0 names) in
      let more = nests_between negated (depth_scalar low.0) (depth_scalar high.0) (scalar_pieces low.0 names) (scalar_pieces high.0 names) (low.1 names) (high.1 names) in
      nests_as _ _ _ _ (depth-Between negated a.0 low.0 high.0 standing) (pieces-Between negated a.0 low.0 high.0 names standing)
      (nests_append (max m n) ps qs (nests_left m n ps (a.1 names)) (nests_right m n qs more))

  scalars : (names : Names) (list : List S) → EachNests depth_scalar (λ b. scalar_pieces b names) (map (λ e. e.0) list)
  scalars names [] = tt
  scalars names (b ∷ list) = (b.1 names, scalars names list)

  member_case : (negated : Bool) (a : S) (list : List S) → PC (roll-SqlCond (SqlCond-F.OneOf negated a.0 (map (λ e. e.0) list)))
  member_case negated a list names standing =
      let bs : List SqlScalar = map (λ e. e.0) list in
      let m = depth_scalar a.0 in
      let n = deepest (map depth_scalar bs) in
      let ps = scalar_pieces a.0 names in
      let inside = listed (map (λ b. scalar_pieces b names) bs) in
      let qs = space ∷ not_if negated (word_of word.In ⎵ in_parentheses inside) in
      let more = nests_member negated n inside (nests_joined (mark (SymbolKind symbol.Comma) ∷ space ∷ []) comma depth_scalar (λ b. scalar_pieces b names) bs (scalars names list)) in
      nests_as _ _ _ _ (depth-OneOf negated a.0 bs standing) (pieces-OneOf negated a.0 bs names standing)
      (nests_append (max m (n + 1)) ps qs (nests_left m (n + 1) ps (a.1 names)) (nests_right m (n + 1) qs more))

  null_case : (negated : Bool) (a : S) → PC (roll-SqlCond (SqlCond-F.IsNull negated a.0))
  null_case negated a names standing =
      let k = depth_scalar a.0 in
      nests_as _ _ _ _ (depth-IsNull negated a.0 standing) (pieces-IsNull negated a.0 names standing)
      (nests_append k (scalar_pieces a.0 names) (null_pieces negated) (a.1 names) (nests_null negated k))

  exists_case : (q : Q) → PC (roll-SqlCond (SqlCond-F.Exists q.0))
  exists_case q names standing =
      let k = nesting q.0 in
      let ps = (query_pieces q.0).pieces names in
      nests_as _ _ _ _ (depth-Exists q.0 standing) (pieces-Exists q.0 names standing)
      (word_then (k + 1) word.Exists (in_parentheses ps) (λ d. refl) (nests_parens k ps (q.1 names)))

  -- ---- scalars

  terms_nest : (names : Names) (ts : List T) → EachNests depth_term (λ t. (term_pieces t names).1) (map (λ e. e.0) ts)
  terms_nest names [] = tt
  terms_nest names (t ∷ ts) =
      (nests_as _ _ _ _ (depth_term_is t.0) (ap (λ (p : SignedPieces). p.1) (term_is t.0 names)) (t.1 names), terms_nest names ts)

  later_over : (names : Names) (ts : List SumTerm) → flat_map later_pieces (map (λ term. term_pieces term names) ts) ≡ flat_map (λ t. later_pieces (term_pieces t names)) ts
  later_over names [] = refl
  later_over names (t ∷ ts) = ap (λ z. later_pieces (term_pieces t names) ++ z) (later_over names ts)

  sum_case : (ts : List T) → PS (roll-SqlScalar (SqlScalar-F.Sum (map (λ e. e.0) ts)))
  sum_case [] names = nests_as _ _ _ _ (depth-Sum []) (pieces-Sum [] names) (nests_none 0)
  sum_case (t ∷ ts) names =
      let xs : List SumTerm = map (λ e. e.0) ts in
      let each = terms_nest names (t ∷ ts) in
      let m = depth_term t.0 in
      let n = deepest (map depth_term xs) in
      let first = (term_pieces t.0 names).1 in
      let rest = flat_map later_pieces (map (λ term. term_pieces term names) xs) in
      let more = nests_many depth_term (λ z. (term_pieces z names).1) (λ z. later_pieces (term_pieces z names)) (λ k z p. nests_later k (term_pieces z names) p) xs each.1 in
      nests_as _ _ _ _ (depth-Sum (t.0 ∷ xs)) (pieces-Sum (t.0 ∷ xs) names)
      (nests_append (max m n) first rest (nests_left m n first each.0) (nests_right m n rest (subst (λ z. Nests n z) (sym (later_over names xs)) more)))

  whens_nest : (names : Names) (ws : List W) → EachNests depth_when (λ w. when_pieces w names) (map (λ e. e.0) ws)
  whens_nest names [] = tt
  whens_nest names (w ∷ ws) =
      let m = depth_cond w.0.cond alone in
      let n = depth_scalar w.0.value in
      let k = max m n in
      let cs = cond_pieces w.0.cond names alone in
      let vs = scalar_pieces w.0.value names in
      let body = nests_spaced k cs (word_of word.Then ⎵ vs) (nests_left m n cs (w.1.cond names alone)) (word_then k word.Then vs (λ d. refl) (nests_right m n vs (w.1.value names))) in
      (nests_as _ _ _ _ (depth_when_is w.0) (when_is w.0 names) (word_then k word.When (cs ⎵ word_of word.Then ⎵ vs) (λ d. refl) body), whens_nest names ws)

  else_nests : (names : Names) (last : Option S) → Nests (depth_if (option_map depth_scalar (option_map (λ e. e.0) last))) (else_pieces (option_map (λ value. scalar_pieces value names) (option_map (λ e. e.0) last)))
  else_nests names None = nests_none 0
  else_nests names (Some v) = word_then (depth_scalar v.0) word.Else (scalar_pieces v.0 names) (λ d. refl) (v.1 names)

  choice_case : (ws : List W) (last : Option S) → PS (roll-SqlScalar (SqlScalar-F.Case (map (λ e. e.0) ws) (option_map (λ e. e.0) last)))
  choice_case ws last names =
      let xs : List SqlWhen = map (λ e. e.0) ws in
      let l : Option SqlScalar = option_map (λ e. e.0) last in
      let m = deepest (map depth_when xs) in
      let n = depth_if (option_map depth_scalar l) in
      let ps = whens_joined (map (λ w. when_pieces w names) xs) in
      let qs = else_pieces (option_map (λ value. scalar_pieces value names) l) in
      let body = nests_append (max m n) ps qs (nests_left m n ps (nests_joined (space ∷ []) one_space depth_when (λ w. when_pieces w names) xs (whens_nest names ws))) (nests_right m n qs (else_nests names last)) in
      nests_as _ _ _ _ (depth-Case xs l) (pieces-Case xs l names) (nests_case (max m n) (ps ++ qs) body)

  column_case : (place : SqlPlace) → PS (roll-SqlScalar (SqlScalar-F.Column place))
  column_case place names = nests_as _ _ _ _ (depth-Column place) (pieces-Column place names) (nests_column 0 (item_at names place) place.column)

  number_case : (n : ℤ) → PS (roll-SqlScalar (SqlScalar-F.Number n))
  number_case n names = nests_as _ _ _ _ (depth-Number n) (pieces-Number n names) (nests_number 0 n)

  chars_case : (t : List ℕ) → PS (roll-SqlScalar (SqlScalar-F.Chars t))
  chars_case t names = nests_as _ _ _ _ (depth-Chars t) (pieces-Chars t names) (nests_mark 0 (CharsKind t) [] (λ d. refl) (nests_none 0))

  -- ---- FROM items and queries

  froms_nest : (fs : List F) → EachNests depth_from (λ f. (from_pieces f).pieces) (map (λ e. e.0) fs)
  froms_nest [] = tt
  froms_nest (f ∷ fs) =
      let k = depth_source f.0.source in
      let ps = (source_pieces f.0.source).pieces in
      (nests_as _ _ _ _ (depth_from_is f.0) (from_is f.0) (nests_spaced k ps (word_of word.As ⎵ (name_mark f.0.name ∷ [])) f.1 (word_then k word.As (name_mark f.0.name ∷ []) (λ d. refl) (name_end k f.0.name))), froms_nest fs)

  items_nest : (names : Names) (is : List I) → EachNests depth_item (λ i. (item_pieces i).pieces names) (map (λ e. e.0) is)
  items_nest names [] = tt
  items_nest names (i ∷ is) =
      let k = depth_scalar i.0.value in
      let ps = scalar_pieces i.0.value names in
      (nests_as _ _ _ _ (depth_item_is i.0) (item_is i.0 names) (nests_spaced k ps (word_of word.As ⎵ (name_mark i.0.name ∷ [])) (i.1 names) (word_then k word.As (name_mark i.0.name ∷ []) (λ d. refl) (name_end k i.0.name))), items_nest names is)

  filter_nests : (names : Names) (c : Option C) → Nests (where_depth (option_map depth_cond (option_map (λ e. e.0) c))) (filter_pieces (option_map cond_pieces (option_map (λ e. e.0) c)) names)
  filter_nests names None = nests_none 0
  filter_nests names (Some c) = word_then (depth_cond c.0 alone) word.Where (cond_pieces c.0 names alone) (λ d. refl) (c.1 names alone)

  distinct_nests : (d : Bool) (k : ℕ) (ps : List Piece) → Nests k ps → Nests k (distinct_if d ps)
  distinct_nests true k ps n = word_then k word.Distinct ps (λ d. refl) n
  distinct_nests false k ps n = n

  query_case : (d : Bool) (order : List SortKey) (c : Option C) (is : List I) (fs : List F) →
      PQ (roll-SqlQuery (record { distinct = d; items = map (λ e. e.0) is; from = map (λ e. e.0) fs; filter = option_map (λ e. e.0) c; order = order }))
  query_case d order c is fs outer =
      let items : List SqlItem = map (λ e. e.0) is in
      let froms : List SqlFrom = map (λ e. e.0) fs in
      let filter : Option SqlCond = option_map (λ e. e.0) c in
      let names = inner_names froms outer in
      let l = deepest (map depth_item items) in
      let m = deepest (map depth_from froms) in
      let n = where_depth (option_map depth_cond filter) in
      let k = max l (max m n) in
      let ips = listed (map (λ i. (item_pieces i).pieces names) items) in
      let fps = listed (map (λ f. (from_pieces f).pieces) froms) in
      let wps = filter_pieces (option_map cond_pieces filter) names in
      let comma_space : List Piece = mark (SymbolKind symbol.Comma) ∷ space ∷ [] in
      let a = nests_joined comma_space comma depth_item (λ i. (item_pieces i).pieces names) items (items_nest names is) in
      let b = nests_joined comma_space comma depth_from (λ f. (from_pieces f).pieces) froms (froms_nest fs) in
      let back = nests_append (max m n) fps wps (nests_left m n fps b) (nests_right m n wps (filter_nests names c)) in
      let rest = word_then k word.From (fps ++ wps) (λ d. refl) (nests_right l (max m n) (fps ++ wps) back) in
      let body = nests_spaced k ips (word_of word.From ⎵ (fps ++ wps)) (nests_left l (max m n) ips a) rest in
      nests_as _ _ _ _ (depth_query_is d items froms filter order) (query_is d items froms filter order outer)
      (word_then k word.Select (distinct_if d (ips ⎵ word_of word.From ⎵ (fps ++ wps))) (λ d. refl) (distinct_nests d k (ips ⎵ word_of word.From ⎵ (fps ++ wps)) body))

  cond_any : (y : SqlCond-F C S O F I Q W T) → PC (roll-SqlCond (map-SqlCond C S O F I Q W T SqlCond SqlScalar SqlSource SqlFrom SqlItem SqlQuery SqlWhen SumTerm (λ e. e.0) (λ e. e.0) (λ e. e.0) (λ e. e.0) (λ e. e.0) (λ e. e.0) (λ e. e.0) (λ e. e.0) y))
  cond_any (SqlCond-F.And parts) = and_case parts
  cond_any (SqlCond-F.Or parts) = or_case parts
  cond_any (SqlCond-F.Not part) = not_case part
  cond_any (SqlCond-F.Compare op a b) = compare_case op a b
  cond_any (SqlCond-F.Between negated a low high) = between_case negated a low high
  cond_any (SqlCond-F.OneOf negated a list) = member_case negated a list
  cond_any (SqlCond-F.IsNull negated a) = null_case negated a
  cond_any (SqlCond-F.Exists q) = exists_case q

  scalar_any : (y : SqlScalar-F C S O F I Q W T) → PS (roll-SqlScalar (map-SqlScalar C S O F I Q W T SqlCond SqlScalar SqlSource SqlFrom SqlItem SqlQuery SqlWhen SumTerm (λ e. e.0) (λ e. e.0) (λ e. e.0) (λ e. e.0) (λ e. e.0) (λ e. e.0) (λ e. e.0) (λ e. e.0) y))
  scalar_any (SqlScalar-F.Column place) = column_case place
  scalar_any (SqlScalar-F.Number n) = number_case n
  scalar_any (SqlScalar-F.Chars t) = chars_case t
  scalar_any (SqlScalar-F.Sum ts) = sum_case ts
  scalar_any (SqlScalar-F.Case ws last) = by_last last
    where
      by_last : (last : Option S) → PS (roll-SqlScalar (map-SqlScalar C S O F I Q W T SqlCond SqlScalar SqlSource SqlFrom SqlItem SqlQuery SqlWhen SumTerm (λ e. e.0) (λ e. e.0) (λ e. e.0) (λ e. e.0) (λ e. e.0) (λ e. e.0) (λ e. e.0) (λ e. e.0) (SqlScalar-F.Case ws last)))
      by_last None = choice_case ws None
      by_last (Some v) = choice_case ws (Some v)

  source_any : (y : SqlSource-F C S O F I Q W T) → PO (roll-SqlSource (map-SqlSource C S O F I Q W T SqlCond SqlScalar SqlSource SqlFrom SqlItem SqlQuery SqlWhen SumTerm (λ e. e.0) (λ e. e.0) (λ e. e.0) (λ e. e.0) (λ e. e.0) (λ e. e.0) (λ e. e.0) (λ e. e.0) y))
  source_any (SqlSource-F.Table t) = nests_as _ _ _ _ (depth-Table t) (source-Table t) (name_end 0 t.name)
  source_any (SqlSource-F.Derived q) = nests_as _ _ _ _ (depth-Derived q.0) (source-Derived q.0) (nests_parens (nesting q.0) ((query_pieces q.0).pieces []) (q.1 []))

  query_any : (y : SqlQuery-F C S O F I Q W T) → PQ (roll-SqlQuery (map-SqlQuery C S O F I Q W T SqlCond SqlScalar SqlSource SqlFrom SqlItem SqlQuery SqlWhen SumTerm (λ e. e.0) (λ e. e.0) (λ e. e.0) (λ e. e.0) (λ e. e.0) (λ e. e.0) (λ e. e.0) (λ e. e.0) y))
  query_any y = by_filter y.filter
    where
      by_filter : (c : Option C) → PQ (roll-SqlQuery (map-SqlQuery C S O F I Q W T SqlCond SqlScalar SqlSource SqlFrom SqlItem SqlQuery SqlWhen SumTerm (λ e. e.0) (λ e. e.0) (λ e. e.0) (λ e. e.0) (λ e. e.0) (λ e. e.0) (λ e. e.0) (λ e. e.0) (record { distinct = y.distinct; items = y.items; from = y.from; filter = c; order = y.order })))
      by_filter None = query_case y.distinct y.order None y.items y.from
      by_filter (Some c) = query_case y.distinct y.order (Some c) y.items y.from

  pub query_nests : (q : SqlQuery) → PQ q
  query_nests = ind-SqlQuery PC PS PO PF PI PQ PW PT
      (λ x y is. subst (λ z. PC (roll-SqlCond z)) is (cond_any y))
      (λ x y is. subst (λ z. PS (roll-SqlScalar z)) is (scalar_any y))
      (λ x y is. subst (λ z. PO (roll-SqlSource z)) is (source_any y))
      (λ x y is. subst (λ z. PF (roll-SqlFrom z)) is y.source.1)
      (λ x y is. subst (λ z. PI (roll-SqlItem z)) is y.value.1)
      (λ x y is. subst (λ z. PQ (roll-SqlQuery z)) is (query_any y))
      (λ x y is. subst (λ z. PW (roll-SqlWhen z)) is (record { cond = y.cond.1; value = y.value.1 }))
      (λ x y is. subst (λ z. PT (roll-SumTerm z)) is y.scalar.1)
