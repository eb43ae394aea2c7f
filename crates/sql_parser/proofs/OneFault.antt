-- Tokens are not both an SQL script and faulty, have at most one fault, and within the limit of nesting have one of the two.
use Rattle.std.proofs.Common.{◌≡◌, ℕ, ◌⊎◌, inl, inr, List}
use Rattle.prefsql_lexer.specs.Bounds.{NestWithin}
use Rattle.prefsql_lexer.specs.declared.fault.Spot.{Spot}
use Rattle.prefsql_lexer.specs.declared.token.Token.{Token}
use Rattle.script_forms.proofs.OneFault as generic
use Rattle.sql_text.specs.declared.named.NamedStatement.{NamedStatement}
use Rattle.sql_text.specs.Scripts.{IsScript}
use Rattle.sql_parser.specs.Faults.{IsFault, max_nesting}
use Rattle.sql_parser.proofs.Language.{language}
use Rattle.sql_parser.proofs.Accepted.{as_language, from_language}

pub script_or_fault : (ts : List Token) (end : ℕ) (statements : List NamedStatement) (spot : Spot) → IsScript ts statements → IsFault ts end spot → ⊥
script_or_fault ts end statements spot w f = f.0 statements (as_language ts statements w)

pub fault_one : (ts : List Token) (end : ℕ) (s t : Spot) → IsFault ts end s → IsFault ts end t → s ≡ t
fault_one = generic.fault_one language max_nesting

pub script_or_some_fault : (ts : List Token) (end : ℕ) → NestWithin max_nesting 0 ts → ((statements : List NamedStatement) × IsScript ts statements) ⊎ ((spot : Spot) × IsFault ts end spot)
script_or_some_fault ts end nest =
    elim (generic.script_or_some_fault language max_nesting ts end nest) [ inl s ↦ inl (s.0, from_language ts s.0 s.1) | inr f ↦ inr f ]
