-- What a column's name reads as, and a key of an order, by what the name means.
use Rattle.std.proofs.Common.{◌≡◌, ℕ, Some, None, Ok, Err, List, [], ◌∷◌, refl, ap, ◌∙◌, sym}
use Rattle.std.specs.Option.{option_map}
use Rattle.std.specs.Str.{bytes_eq}
use Rattle.query_tree.specs.declared.name.NameTree.{NameTree}
use Rattle.query_tree.specs.declared.query.OrderName.{OrderName}
use Rattle.query_tree.specs.declared.query.OrderName.TheVariants.{Name}
use Rattle.query_tree.specs.declared.query.OrderTree.{OrderTree}
use Rattle.sql_tree.specs.declared.tree.SqlPlace.{SqlPlace}
use Rattle.sql_tree.specs.declared.tree.SqlScalar.{Column}
use Rattle.sql_resolver.specs.Found.{capped, found_scalar}
use Rattle.sql_resolver.specs.Meant.{meaning}
use Rattle.sql_resolver.specs.NamesMeant.{column_part, positions_from}
use Rattle.sql_resolver.specs.Ordered.{found_key}
use Rattle.sql_resolver.specs.Owed.{fault}
use Rattle.sql_resolver.specs.Reading.{column_reading}
use Rattle.sql_resolver.specs.Scope.{ScopeColumn, Scopes, column_at}
use Rattle.sql_resolver.specs.Statements.{key_reading, named_key}
use Rattle.sql_resolver.specs.declared.found.FoundScalar.{FoundScalar}
use Rattle.sql_resolver.specs.declared.meaning.Meaning.TheVariants.{One, Several}

-- a column whose name has no single meaning
abbrev no_column : NameTree → List ℕ → ℕ → FoundScalar
no_column name part code = record {
  at = name.at;
  domain = None;
  bound = None;
  own_name = Some part;
  tree = Err (fault code name.at);
}

abbrev the_column : NameTree → List ℕ → Scopes → SqlPlace → FoundScalar
the_column name part scopes place = record {
  at = name.at;
  domain = (column_at scopes place).domain;
  bound = option_map capped (column_at scopes place).bound;
  own_name = Some part;
  tree = Ok (Column place);
}

pub unknown_column : (name : NameTree) (scopes : Scopes) (places : List SqlPlace) (part : List ℕ) → part ≡ column_part name.first name.second → None ≡ meaning places
    → no_column name part 303 ≡ found_scalar (column_reading name scopes places)
unknown_column name scopes [] part is none = ap (λ p. no_column name p 303) is
unknown_column name scopes (a ∷ []) part is none = absurd (cc)
unknown_column name scopes (a ∷ b ∷ more) part is none = absurd (cc)

same_one : {A : Type 0} (a b : A) → Some (One a) ≡ Some (One b) → a ≡ b
same_one a b e = cc

pub known_column : (name : NameTree) (scopes : Scopes) (places : List SqlPlace) (part : List ℕ) (place : SqlPlace) → part ≡ column_part name.first name.second → Some (One place) ≡ meaning places
    → the_column name part scopes place ≡ found_scalar (column_reading name scopes places)
known_column name scopes [] part place is one = absurd (cc)
known_column name scopes (a ∷ []) part place is one = (λ i. the_column name (is i) scopes (same_one place a one i))
known_column name scopes (a ∷ b ∷ more) part place is one = absurd (cc)

pub ambiguous_column : (name : NameTree) (scopes : Scopes) (places : List SqlPlace) (part : List ℕ) → part ≡ column_part name.first name.second → Some Several ≡ meaning places
    → no_column name part 304 ≡ found_scalar (column_reading name scopes places)
ambiguous_column name scopes [] part is several = absurd (cc)
ambiguous_column name scopes (a ∷ []) part is several = absurd (cc)
ambiguous_column name scopes (a ∷ b ∷ more) part is several = ap (λ p. no_column name p 304) is

pub unknown_key : (tree : OrderTree) (positions : List ℕ) → None ≡ meaning positions → Err (fault 314 tree.at) ≡ found_key (named_key tree positions)
unknown_key tree [] none = refl
unknown_key tree (a ∷ []) none = absurd (cc)
unknown_key tree (a ∷ b ∷ more) none = absurd (cc)

pub known_key : (tree : OrderTree) (positions : List ℕ) (column : ℕ) → Some (One column) ≡ meaning positions
    → Ok (record { column = column; descending = tree.descending }) ≡ found_key (named_key tree positions)
known_key tree [] column one = absurd (cc)
known_key tree (a ∷ []) column one = ap (λ n. Ok (record { column = n; descending = tree.descending })) (same_one column a one)
known_key tree (a ∷ b ∷ more) column one = absurd (cc)

pub ambiguous_key : (tree : OrderTree) (positions : List ℕ) → Some Several ≡ meaning positions → Err (fault 315 tree.at) ≡ found_key (named_key tree positions)
ambiguous_key tree [] several = absurd (cc)
ambiguous_key tree (a ∷ []) several = absurd (cc)
ambiguous_key tree (a ∷ b ∷ more) several = refl

pub key_named : (columns : List ScopeColumn) (tree : OrderTree) (name : List ℕ) → tree.key ≡ Name name
    → found_key (named_key tree (positions_from 0 (λ (column : ScopeColumn). bytes_eq name column.name) columns)) ≡ found_key (key_reading columns tree)
key_named columns tree name is =
    let named : OrderName → OrderTree = λ key. record { key = key; descending = tree.descending; at = tree.at } in
    (λ j. found_key (named_key (named (is j)) (positions_from 0 (λ (column : ScopeColumn). bytes_eq name column.name) columns)))
    ∙ (λ j. found_key (key_reading columns (named (sym is j))))
