-- The tables of a set as its map holds them.
use Rattle.std.proofs.Common.{◌≡◌, ℕ, ◌+◌, List, [], ◌∷◌, ◌++◌, map, Bool, true, false, cond, ◌||◌, Decides, Option, None, Some, Contains, not, refl, sym, ap, ◌∙◌, String, is_some, position}
use Rattle.std.proofs.lemmas.List.{map-append, length-map}
use Rattle.std.specs.List.{list_any, prefix_len}
use Rattle.std.specs.Map.{lookup, keys_of}
use Rattle.std.specs.Str.{bytes_eq}
use Rattle.std.specs.String.{string_bytes, string_eq}
use Rattle.std.specs.HashMap.{HashMap, get}
use Rattle.std.specs.declared.alloc.Global.{Global}
use Rattle.prefsql_tables.specs.Names.{table_names, table_place}
use Rattle.prefsql_tables.specs.TableData.{TableData}
use Rattle.prefsql_tables.specs.TableSetView.{named, named_tables}
use Rattle.prefsql_tables.proofs.PlaceLemmas.{name_found}

abbrev pub Entries : Type 0
Entries = List (String Global × TableData)

test_any : (b : Bool) (value : TableData) (other : Option TableData) (more : Bool) → more ≡ is_some other → (b || more) ≡ is_some (cond b (Some value) other)
test_any true value other more h = refl
test_any false value other more h = h

any-lookup : (entries : Entries) (name : List ℕ)
    → list_any (bytes_eq name) (table_names (named_tables entries)) ≡ is_some (lookup (λ key. bytes_eq name (string_bytes key)) entries)
any-lookup [] name = refl
any-lookup (entry ∷ entries) name = test_any (bytes_eq name (string_bytes entry.0)) entry.1 _ _ (any-lookup entries name)

-- what a look-up of a text says of the name
pub lookup_tells : (entries : Entries) (name text : List ℕ) (found : Bool) → text ≡ name
    → found ≡ is_some (lookup (λ key. bytes_eq text (string_bytes key)) entries) → Decides found (Contains (table_names (named_tables entries)) name)
lookup_tells entries name text found same is = rw (is, same, ← any-lookup entries name) (name_found (table_names (named_tables entries)) name)

-- a new table goes last
pub named_tables-push : (entries after : Entries) (key : String Global) (table : TableData) (name : List ℕ)
    → after ≡ entries ++ (key, table) ∷ [] → string_bytes key ≡ name → named_tables after ≡ named_tables entries ++ record { name = name; table = table } ∷ []
named_tables-push entries after key table name is same = rw (is, map-append named entries ((key, table) ∷ []), ← same) refl

none_from : {T : Type 0} (o : Option T) → false ≡ is_some o → o ≡ None
none_from None is = refl
none_from (Some value) is = absurd (cc)

pub lacks_key : {S : Type 0} (m : HashMap (String Global) TableData S) (text : List ℕ) (key : String Global) → text ≡ string_bytes key
    → false ≡ is_some (lookup (λ k. bytes_eq text (string_bytes k)) m.entries) → get string_eq m key ≡ None
lacks_key m text key same is = none_from (get string_eq m key) (rw same at is)

prefix_len-map : {X Y : Type 0} (p : Y → Bool) (f : X → Y) (xs : List X) → prefix_len p (map f xs) ≡ prefix_len (λ x. p (f x)) xs
prefix_len-map p f [] = refl
prefix_len-map p f (x ∷ xs) = ap (λ n. cond (p (f x)) (1 + n) 0) (prefix_len-map p f xs)

position-map : {X Y : Type 0} (p : Y → Bool) (f : X → Y) (xs : List X) → position p (map f xs) ≡ position (λ x. p (f x)) xs
position-map p f xs = rw (prefix_len-map (λ y. not (p y)) f xs, length-map) refl

-- the place of a name is that of its key
pub table_place-keys : (entries : Entries) (name : List ℕ) → table_place (named_tables entries) name ≡ position (λ key. bytes_eq name (string_bytes key)) (keys_of entries)
table_place-keys entries name = position-map _ named entries ∙ sym (position-map _ (λ entry. entry.0) entries)
