-- What a script that is read gives of its statements.
use Rattle.std.proofs.Common.{◌≡◌, List, [], ◌∷◌, map, All, refl, sym, subst, Option, Some, None, Result, Ok, Err}
use Rattle.std.specs.List.{flat_map}
use Rattle.std.proofs.lemmas.List.Elements.{All-nil, All-cons, All-head, All-tail}
use Rattle.prefsql_lexer.specs.declared.fault.Spot.{Spot}
use Rattle.prefsql_tables.specs.Table.{Tables}
use Rattle.sql_tree.specs.declared.tree.SqlQuery.{SqlQuery}
use Rattle.sql_text.specs.declared.named.NamedStatement.{NamedStatement}
use Rattle.sql_resolver.specs.Owed.{first_spot, either_spot}
use Rattle.sql_resolver.specs.Reading.{query_reading}
use Rattle.sql_resolver.specs.Statements.{KeyReading, key_reading, with_order, ok_unless, and_more, statement_reading, script_reading}
use Rattle.read_queries.proofs.FaultsNone.{first_none, either_first, either_second}

pub record NoSpot (spot : Option Spot) (query read : SqlQuery) : Type 0 where
  pub none : spot ≡ None
  pub same : query ≡ read

no_spot : (spot : Option Spot) (query read : SqlQuery) → ok_unless spot query ≡ Ok read → NoSpot spot query read
no_spot None query read e = record { none = refl; same = cc }
no_spot (Some spot) query read e = absurd (let h : Err spot ≡ Ok read = e in cc)

pub record Both (one : Result SqlQuery Spot) (more : Result (List SqlQuery) Spot) (queries : List SqlQuery) : Type 0 where
  pub query : SqlQuery
  pub others : List SqlQuery
  pub first : one ≡ Ok query
  pub rest : more ≡ Ok others
  pub are : queries ≡ query ∷ others

both_ok : (one : Result SqlQuery Spot) (more : Result (List SqlQuery) Spot) (queries : List SqlQuery) → and_more one more ≡ Ok queries → Both one more queries
both_ok (Err spot) more queries e = absurd (let h : Err spot ≡ Ok queries = e in cc)
both_ok (Ok q) (Err spot) queries e = absurd (let h : Err spot ≡ Ok queries = e in cc)
both_ok (Ok q) (Ok qs) queries e = record { query = q; others = qs; first = refl; rest = refl; are = let h : Ok (q ∷ qs) ≡ Ok queries = e in cc }

-- the query of a statement, without a fault in it or in its order
pub record Read (tables : Tables) (s : NamedStatement) (q : SqlQuery) : Type 0 where
  pub first : (query_reading tables s.query []).first ≡ None
  pub keys : flat_map (λ (key : KeyReading). key.faults) (map (key_reading (query_reading tables s.query []).columns) s.order) ≡ []
  pub is : with_order (map (λ (key : KeyReading). key.key) (map (key_reading (query_reading tables s.query []).columns) s.order)) (query_reading tables s.query []).tree ≡ q

pub read_of : (tables : Tables) (s : NamedStatement) (q : SqlQuery) → statement_reading tables s ≡ Ok q → Read tables s q
read_of tables s q e =
    let r = query_reading tables s.query [] in
    let keys = map (key_reading r.columns) s.order in
    let faults = flat_map (λ (key : KeyReading). key.faults) keys in
    let n = no_spot (either_spot r.first (first_spot faults)) (with_order (map (λ (key : KeyReading). key.key) keys) r.tree) q e in
    record { first = either_first r.first (first_spot faults) n.none; keys = first_none faults (either_second r.first (first_spot faults) n.none); is = n.same }

-- what the statements give holds of the queries that they read as
pub queries_hold : (tables : Tables) (P : NamedStatement → Type 0) (Q : SqlQuery → Type 0) → ((s : NamedStatement) (q : SqlQuery) → P s → Read tables s q → Q q) →
    (statements : List NamedStatement) (queries : List SqlQuery) → All P statements → script_reading tables statements ≡ Ok queries → All Q queries
queries_hold tables P Q to [] queries all e = let same : [] ≡ queries = cc in subst (All Q) same (All-nil Q)
queries_hold tables P Q to (s ∷ statements) queries all e =
    let b = both_ok (statement_reading tables s) (script_reading tables statements) queries e in
    let one = to s b.query (All-head P s statements all) (read_of tables s b.query b.first) in
    subst (All Q) (sym b.are) (All-cons Q b.query b.others one (queries_hold tables P Q to statements b.others (All-tail P s statements all) b.rest))
