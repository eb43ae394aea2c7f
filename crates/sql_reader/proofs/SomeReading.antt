-- A text reads as a list of queries, or has a first fault.
use Rattle.std.proofs.Common.{◌≡◌, ℕ, ◌⊎◌, inl, inr, List, length, refl, Result, Ok, Err}
use Rattle.prefsql_lexer.specs.declared.fault.Spot.{Spot}
use Rattle.prefsql_lexer.specs.declared.token.Token.{Token}
use Rattle.prefsql_lexer.specs.Tokens.{IsTokens}
use Rattle.prefsql_lexer.proofs.Bounded.{lexes_bounded}
use Rattle.prefsql_lexer.proofs.SomeAnswer.{tokens_or_first_fault}
use Rattle.prefsql_tables.specs.Table.{Tables}
use Rattle.sql_tree.specs.declared.tree.SqlQuery.{SqlQuery}
use Rattle.sql_text.specs.declared.named.NamedStatement.{NamedStatement}
use Rattle.sql_text.specs.Scripts.{IsScript}
use Rattle.sql_parser.specs.Faults.{max_nesting}
use Rattle.sql_resolver.specs.Statements.{script_reading}
use Rattle.sql_reader.specs.Reads.{ReadsAs, HasFirstFault}
use Rattle.sql_parser.proofs.OneFault.{script_or_some_fault}

pub reads_or_has_fault : (tables : Tables) (text : List ℕ) → ((queries : List SqlQuery) × ReadsAs tables text queries) ⊎ ((spot : Spot) × HasFirstFault tables text spot)
reads_or_has_fault tables text = elim (tokens_or_first_fault max_nesting text) [ inl t ↦ of_tokens t.0 t.1 | inr f ↦ inr (f.0, inl f.1) ]
  where
    of_script : (ts : List Token) → IsTokens max_nesting text ts → (statements : List NamedStatement) → IsScript ts statements → (r : Result (List SqlQuery) Spot) → script_reading tables statements ≡ r →
        ((queries : List SqlQuery) × ReadsAs tables text queries) ⊎ ((spot : Spot) × HasFirstFault tables text spot)
    of_script ts is statements script (Ok queries) e = inl (queries, (ts, statements, is, script, e))
    of_script ts is statements script (Err spot) e = inr (spot, inr (inr (ts, statements, is, script, e)))

    of_tokens : (ts : List Token) → IsTokens max_nesting text ts → ((queries : List SqlQuery) × ReadsAs tables text queries) ⊎ ((spot : Spot) × HasFirstFault tables text spot)
    of_tokens ts is =
        let bounded = lexes_bounded max_nesting text (Ok ts) is in
        elim (script_or_some_fault ts (length text) bounded.depth) [
          | inl s ↦ of_script ts is s.0 s.1 (script_reading tables s.0) refl
          | inr f ↦ inr (f.0, inr (inl (ts, is, f.1)))
        ]
