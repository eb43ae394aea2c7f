-- What a scope keeps beside its items, so that a name is found without a search.
use Rattle.std.specs.Prelude.{◌≡◌, ℕ, Bool, ◌&&◌, List, [], map, Option, String, string_bytes}
use Rattle.std.specs.HashMap.{HashMap, get}
use Rattle.std.specs.HashSet.{HashSet, contains_text}
use Rattle.std.specs.List.{list_any}
use Rattle.std.specs.Option.{option_eq, option_map}
use Rattle.std.specs.Str.{bytes_eq}
use Rattle.std.specs.String.{string_eq}
use Rattle.std.specs.declared.alloc.Global.{Global}
use Rattle.sql_text.specs.Text.{ItemNames}
use Rattle.sql_tree.specs.declared.tree.SqlPlace.{SqlPlace}
use Rattle.sql_resolver.specs.Meant.{meaning}
use Rattle.sql_resolver.specs.NamesMeant.{column_part, is_asked, is_called, places_in}
use Rattle.sql_resolver.specs.Scope.{ScopeColumn, ScopeItem}
use Rattle.sql_resolver.specs.declared.index.NameKey.{NameKey}
use Rattle.sql_resolver.specs.declared.meaning.Meaning.{Meaning}

-- ---- names as keys

abbrev pub same_key : NameKey → NameKey → Bool
same_key a b = string_eq a.first b.first && option_eq string_eq a.second b.second

abbrev pub key_first : NameKey → List ℕ
key_first key = string_bytes key.first

abbrev pub key_second : NameKey → Option (List ℕ)
key_second key = option_map string_bytes key.second

-- the key of this name
pub record IsKeyOf (first : List ℕ) (second : Option (List ℕ)) (key : NameKey) : Type 0 where
  pub first_part : key_first key ≡ first
  pub second_part : key_second key ≡ second

-- ---- items by their names, and columns by the names that can mean them

abbrev pub column_names : List ScopeColumn → List (List ℕ)
column_names = map (λ (column : ScopeColumn). column.name)

abbrev pub item_names : ScopeItem → ItemNames
item_names item = record { name = item.name; columns = column_names item.columns }

-- whether the name can mean a column of this name in an item that is called so
abbrev pub can_mean : List ℕ → List ℕ → List ℕ → Option (List ℕ) → Bool
can_mean called column first second =
    is_asked first second (record { name = called; columns = [] })
    && bytes_eq (column_part first second) column

-- the map has what each name means, where it can mean these
abbrev pub Tells :
    {S : Type 0} → (List ℕ → Option (List ℕ) → List SqlPlace) →
    HashMap NameKey (Meaning SqlPlace) S → Type 0
Tells places columns =
    (key : NameKey) → get same_key columns key ≡ meaning (places (key_first key) (key_second key))

-- the map has, for each name, the column of these items that it means
abbrev pub IsIndexOf :
    {S : Type 0} → List ItemNames → HashMap NameKey (Meaning SqlPlace) S → Type 0
IsIndexOf items columns = Tells (λ first second. places_in first second 0 0 items) columns

-- the set has the names by which these items are called
abbrev pub AreCalled : {S : Type 0} → List ItemNames → HashSet (String Global) S → Type 0
AreCalled items called =
    (name : List ℕ) → contains_text called name ≡ list_any (is_called name) items

pub record IsIndexed {S T : Type 0} (items : List ItemNames) (called : HashSet (String Global) S)
    (columns : HashMap NameKey (Meaning SqlPlace) T) : Type 0 where
  pub by_item : AreCalled items called
  pub by_column : IsIndexOf items columns

-- a place, seen from so far within
abbrev pub seen_from : ℕ → SqlPlace → SqlPlace
seen_from up place = record { up = up; item = place.item; column = place.column }
