-- The texts of queries, one after the other, are a script with a statement for each of them, and this statement is the query.
use Rattle.std.proofs.Common.{◌≡◌, ℕ, ◌+◌, ◌≤◌, Bool, true, List, [], ◌∷◌, ◌++◌, length, refl, sym, ap, subst, suc, arith, None, append-nil}
use Rattle.std.specs.Str.{IsUtf8}
use Rattle.std.proofs.lemmas.List.{append_assoc}
use Rattle.grammar_forms.specs.Form.{many}
use Rattle.prefsql_lexer.specs.Bounds.{NestWithin}
use Rattle.prefsql_lexer.specs.Tokens.{Lexed, IsTokens, none}
use Rattle.prefsql_lexer.specs.declared.token.Token.{Token}
use Rattle.sql_tree.specs.declared.tree.SqlCond.{SqlCond}
use Rattle.sql_tree.specs.declared.tree.SqlScalar.{SqlScalar}
use Rattle.sql_tree.specs.declared.tree.SqlSource.{SqlSource}
use Rattle.sql_tree.specs.declared.tree.SqlTable.{SqlTable}
use Rattle.sql_tree.specs.declared.tree.SqlQuery.{SqlQuery, out-SqlQuery}
use Rattle.sql_text.specs.declared.named.NamedCond.{NamedCond}
use Rattle.sql_text.specs.declared.named.NamedScalar.{NamedScalar}
use Rattle.sql_text.specs.declared.named.NamedFrom.{NamedFrom}
use Rattle.sql_text.specs.declared.named.NamedQuery.{NamedQuery}
use Rattle.sql_text.specs.declared.named.NamedStatement.{NamedStatement}
use Rattle.sql_text.specs.Grammar.{ended, script}
use Rattle.sql_text.specs.Pieces.{bytes_of, tokens_from}
use Rattle.sql_text.specs.Scripts.{IsWhole, IsScript}
use Rattle.sql_text.specs.Text.{Names, query_pieces, statement_pieces}
use Rattle.sql_read_back.specs.Texts.{texts_of}
use Rattle.sql_read_back.proofs.Apart.{closes_line}
use Rattle.sql_read_back.proofs.Judged.{judged_query}
use Rattle.sql_read_back.proofs.Placed.{Each, deeper_left, deeper_right}
use Rattle.sql_read_back.proofs.QueriesWritten.{AreShort, IsKey, ended_written}
use Rattle.sql_read_back.proofs.Round.{Closed, query_round}
use Rattle.sql_read_back.proofs.Writable.{fine_query}
use Rattle.sql_read_back.proofs.WrittenForms.{Written}
use Rattle.sql_read_back.proofs.WrittenTokens.{after_blank, depth_behind, lexed_pieces, place_behind}

-- the tokens of the texts one after the other, where the first one begins at this place
abbrev pub tokens_of : ℕ → List SqlQuery → List Token
tokens_of at [] = []
tokens_of at (q ∷ queries) = tokens_from at (statement_pieces q) ++ tokens_of (place_behind at (statement_pieces q) + 1) queries

module _ (ok : SqlTable → Bool) (limit : ℕ) where
  -- a query that is well formed and can be written so deep
  pub record IsFine (q : SqlQuery) : Type 0 where
    pub well : (judged_query q []).well ≡ true
    pub fine : (fine_query ok q).fine [] ≡ true
    pub short : AreShort (out-SqlQuery q).order
    pub nest : (at : ℕ) → NestWithin limit 0 (tokens_from at (statement_pieces q))
    pub close : depth_behind 0 (statement_pieces q) ≡ 0

  abbrev pub AreFine : List SqlQuery → Type 0
  AreFine [] = Unit {0}
  AreFine (q ∷ queries) = IsFine q × AreFine queries

module _ (ok : SqlTable → Bool) (QC : Names → SqlCond → NamedCond → Type 0) (QS : Names → SqlScalar → NamedScalar → Type 0) (QF : List ℕ → SqlSource → NamedFrom → Type 0) (QQ : Names → SqlQuery → NamedQuery → Type 0) where
  -- a statement of the script is the query with its order
  pub record StatementIs (q : SqlQuery) (s : NamedStatement) : Type 0 where
    pub query : QQ [] q s.query
    pub order : Each IsKey (out-SqlQuery q).order s.order

  -- The texts of queries that can be written have these tokens, and these are a script of as many statements, which are the queries.
  pub record ReadsAsThese (limit : ℕ) (queries : List SqlQuery) : Type 0 where
    pub tokens : List Token
    pub statements : List NamedStatement
    pub are_tokens : IsTokens limit (texts_of queries) tokens
    pub is_script : IsScript tokens statements
    pub are : Each StatementIs queries statements

  module _ (closed : Closed ok QC QS QF QQ) where
    statement_round : (limit : ℕ) (q : SqlQuery) → IsFine ok limit q → Written ended (statement_pieces q) (StatementIs q)
    statement_round limit q is =
        ended_written ((query_pieces q).pieces []) (out-SqlQuery q).order (QQ [] q) (StatementIs q) (λ n os p each. record { query = p; order = each }) is.short ((query_round ok QC QS QF QQ closed q).written [] is.fine)

    lexed_texts : (limit at : ℕ) (queries : List SqlQuery) → AreFine ok limit queries → Lexed limit 0 at (texts_of queries) (tokens_of at queries) None
    lexed_texts limit at [] are = record { within = omega arith; gap = none []; whole = refl }
    lexed_texts limit at (q ∷ queries) are =
        let ps = statement_pieces q in
        let is = are.0 in
        let end = place_behind at ps in
        let rest = texts_of queries in
        let more = tokens_of (end + 1) queries in
        let line : Lexed limit 0 end (10 ∷ rest) more None = after_blank 10 limit 0 end rest more refl (lexed_texts limit (end + 1) queries are.1) in
        let behind : Lexed limit (depth_behind 0 ps) end (10 ∷ rest) more None = subst (λ d. Lexed limit d end (10 ∷ rest) more None) (sym is.close) line in
        let stands = (statement_round limit q is).apart (10 ∷ rest) closes_line in
        subst (λ text. Lexed limit 0 at text (tokens_of at (q ∷ queries)) None) (sym (append_assoc (bytes_of ps) (10 ∷ []) rest))
        (lexed_pieces limit 0 at ps (10 ∷ rest) more behind stands (is.nest at))

    -- the statements, each with its semicolon, wherever the first one begins
    pub record ReadFrom (at : ℕ) (queries : List SqlQuery) : Type 0 where
      pub depth : ℕ
      pub statements : List NamedStatement
      pub whole : IsWhole depth (many ended) (tokens_of at queries) statements
      pub each : Each StatementIs queries statements
      pub many_as : length statements ≡ length queries

    read_from : (limit at : ℕ) (queries : List SqlQuery) → AreFine ok limit queries → ReadFrom at queries
    read_from limit at [] are = record { depth = 0; statements = []; whole = refl; each = tt; many_as = refl }
    read_from limit at (q ∷ queries) are =
        let one = (statement_round limit q are.0).placed at in
        let ts = tokens_from at (statement_pieces q) in
        let next = place_behind at (statement_pieces q) + 1 in
        let more = read_from limit next queries are.1 in
        let us = tokens_of next queries in
        record {
          depth = one.0 + more.depth;
          statements = one.1 ∷ more.statements;
          whole = (ts, us, refl, deeper_right one.0 more.depth ended ts one.1 one.2, deeper_left one.0 more.depth (many ended) us more.statements more.whole);
          each = (one.3, more.each);
          many_as = ap suc more.many_as;
        }

    script_whole : (n : ℕ) (ts : List Token) (statements : List NamedStatement) → IsWhole n (many ended) ts statements → IsWhole n script ts statements
    unfolding script
    script_whole n ts statements whole = ((statements, None), (ts, [], sym (append-nil ts), whole, refl), refl)

    pub texts_round : (limit : ℕ) (queries : List SqlQuery) → length queries ≤ 64 → AreFine ok limit queries → IsUtf8 (texts_of queries) → ReadsAsThese limit queries
    texts_round limit queries few are utf8 =
        let read = read_from limit 0 queries are in
        let count = read.many_as in
        record {
          tokens = tokens_of 0 queries;
          statements = read.statements;
          are_tokens = (utf8, lexed_texts limit 0 queries are);
          is_script = (omega (arith, count, few), (read.depth, script_whole read.depth (tokens_of 0 queries) read.statements read.whole));
          are = read.each;
        }
