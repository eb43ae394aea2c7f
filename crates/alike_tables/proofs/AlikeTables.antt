-- What two sets of tables have in common that have the same names in the same order and equal columns.
use Rattle.std.proofs.Common.{◌≡◌, ℕ, zero, suc, ◌+◌, cond, not, Option, Some, None, List, [], ◌∷◌, length, refl, ap, sym, ◌∙◌, arith}
use Rattle.std.specs.List.{position_or_len}
use Rattle.std.specs.Prelude.{nat_lt}
use Rattle.std.specs.Str.{bytes_eq}
use Rattle.std.proofs.lemmas.List.Elements.{All-weaker}
use Rattle.prefsql_tables.specs.Names.{table_place}
use Rattle.prefsql_tables.specs.Table.{Tables, columns_of, table_at}
use Rattle.prefsql_tables.specs.TableData.{NamedTable}
use Rattle.prefsql_tables.specs.Valid.{IsAlike}
use Rattle.prefsql_tables.specs.declared.schema.Column.{Column}
use Rattle.query_meaning.specs.BlockFits.{FitsTables, IsTableOf}
use Rattle.query_meaning.specs.declared.block.Block.{Block}
use Rattle.query_meaning.specs.declared.block.FromTable.{FromTable}

abbrev Heading : Type 0
Heading = List ℕ × List Column

abbrev first : List Heading → Heading
first [] = ([], [])
first (heading ∷ more) = heading

abbrev rest : List Heading → List Heading
rest [] = []
rest (heading ∷ more) = more

pub length_same : (tables others : Tables) → IsAlike tables others → length tables ≡ length others
length_same [] [] alike = refl
length_same [] (other ∷ others) alike = cc
length_same (table ∷ tables) [] alike = cc
length_same (table ∷ tables) (other ∷ others) alike = ap suc (length_same tables others (ap rest alike))

pub name_same : (tables others : Tables) → IsAlike tables others → (index : ℕ) → (table_at tables index).name ≡ (table_at others index).name
name_same [] [] alike index = refl
name_same [] (other ∷ others) alike index = cc
name_same (table ∷ tables) [] alike index = cc
name_same (table ∷ tables) (other ∷ others) alike zero = ap (λ hs. (first hs).0) alike
name_same (table ∷ tables) (other ∷ others) alike (suc index) = name_same tables others (ap rest alike) index

pub columns_same : (tables others : Tables) → IsAlike tables others → (index : ℕ) → columns_of tables index ≡ columns_of others index
columns_same [] [] alike index = refl
columns_same [] (other ∷ others) alike index = cc
columns_same (table ∷ tables) [] alike index = cc
columns_same (table ∷ tables) (other ∷ others) alike zero = ap (λ hs. (first hs).1) alike
columns_same (table ∷ tables) (other ∷ others) alike (suc index) = columns_same tables others (ap rest alike) index

-- how many tables stand before the first one of the name
abbrev before : List ℕ → Tables → ℕ
before name tables = position_or_len (λ (named : NamedTable). bytes_eq name named.name) tables

before_same : (name : List ℕ) (tables others : Tables) → IsAlike tables others → before name tables ≡ before name others
before_same name [] [] alike = refl
before_same name [] (other ∷ others) alike = cc
before_same name (table ∷ tables) [] alike = cc
before_same name (table ∷ tables) (other ∷ others) alike =
    let head : table.name ≡ other.name = ap (λ hs. (first hs).0) alike in
    ap (λ n. cond (not (bytes_eq name n)) (1 + before name tables) 0) head ∙ ap (λ n. cond (not (bytes_eq name other.name)) (1 + n) 0) (before_same name tables others (ap rest alike))

pub place_same : (tables others : Tables) → IsAlike tables others → (name : List ℕ) → table_place tables name ≡ table_place others name
place_same tables others alike name =
    let P : ℕ → ℕ → Option ℕ = λ n m. cond (nat_lt n m) (Some n) None in
    ap (λ n. P n (length tables)) (before_same name tables others alike) ∙ ap (P (before name others)) (length_same tables others alike)

-- a block that fits one of them fits the other
pub fits_other : (tables others : Tables) → IsAlike tables others → (block : Block) → FitsTables tables block → FitsTables others block
fits_other tables others alike block fits = All-weaker (IsTableOf tables) (IsTableOf others) each block.from fits
  where
    each : (table : FromTable) → IsTableOf tables table → IsTableOf others table
    each table is =
        let many = length_same tables others alike in
        record {
          there = (let low = is.there in omega (arith, many, low));
          name = sym (name_same tables others alike table.index) ∙ is.name;
          columns = sym (columns_same tables others alike table.index) ∙ is.columns;
        }
