-- The tables that a query fits are those that their names mean.
use Rattle.std.proofs.Common.{◌≡◌, ℕ, ◌<◌, ◌≤◌, Bool, true, false, cond, ◌&&◌, List, [], ◌∷◌, length, get_or, refl, sym, ap, ◌∙◌, arith, Some, None}
use Rattle.std.specs.Prelude.{nat_lt, All}
use Rattle.std.specs.List.{list_all, position_or_len}
use Rattle.std.proofs.lemmas.List.{get_or-map, length-map}
use Rattle.std.proofs.lemmas.List.Elements.{All-head, All-tail}
use Rattle.std.proofs.lemmas.List.Sums.{position_or_len_is}
use Rattle.std.specs.Str.{bytes_eq}
use Rattle.std.proofs.lemmas.Bool.{and_parts, and_from, lt-ltb, ltb-true, false≢true}
use Rattle.std.proofs.lemmas.Slice.Eq.{bytes_eq-Decides}
use Rattle.prefsql_values.specs.declared.value.Domain.{Domain}
use Rattle.prefsql_values.specs.declared.value.Domain.TheVariants.{Integer, Chars}
use Rattle.prefsql_tables.specs.declared.schema.Column.{Column}
use Rattle.prefsql_tables.specs.Names.{table_place, table_names}
use Rattle.prefsql_tables.specs.Table.{Tables, no_table, table_at, columns_of}
use Rattle.prefsql_tables.specs.TableData.{NamedTable}
use Rattle.prefsql_tables.specs.Valid.{IsTableSet}
use Rattle.sql_tree.specs.Fits.{IsTableOf}
use Rattle.sql_tree.specs.WellFormed.{domain_eq}
use Rattle.sql_tree.specs.declared.tree.SqlTable.{SqlTable}
use Rattle.sql_read_back.proofs.QueriesBack.{Meant}

same_bytes : (a b : List ℕ) → bytes_eq a b ≡ true → a ≡ b
same_bytes a b e = (bytes_eq-Decides a b).0 e

bytes_same : (a : List ℕ) → bytes_eq a a ≡ true
bytes_same a = (bytes_eq-Decides a a).1 refl

-- ---- whether a table stands there

abbrev pub bool_eq : Bool → Bool → Bool
bool_eq true true = true
bool_eq true false = false
bool_eq false true = false
bool_eq false false = true

abbrev pub column_eq : Column → Column → Bool
column_eq a b = bytes_eq a.name b.name && (domain_eq a.domain b.domain && bool_eq a.nullable b.nullable)

abbrev pub columns_eq : List Column → List Column → Bool
columns_eq [] [] = true
columns_eq [] (b ∷ bs) = false
columns_eq (a ∷ cs) [] = false
columns_eq (a ∷ cs) (b ∷ bs) = column_eq a b && columns_eq cs bs

-- the table stands at its position in the set, under its name and with its columns
abbrev pub stands : Tables → SqlTable → Bool
stands tables t = nat_lt t.index (length tables) && (bytes_eq (table_at tables t.index).name t.name && columns_eq (columns_of tables t.index) t.schema.columns)

bool_same : (a b : Bool) → bool_eq a b ≡ true → a ≡ b
bool_same true true e = refl
bool_same true false e = absurd (false≢true e)
bool_same false true e = absurd (false≢true e)
bool_same false false e = refl

bool_self : (a : Bool) → bool_eq a a ≡ true
bool_self true = refl
bool_self false = refl

domain_same : (a b : Domain) → domain_eq a b ≡ true → a ≡ b
domain_same Integer Integer e = refl
domain_same Integer Chars e = absurd (false≢true e)
domain_same Chars Integer e = absurd (false≢true e)
domain_same Chars Chars e = refl

domain_self : (a : Domain) → domain_eq a a ≡ true
domain_self Integer = refl
domain_self Chars = refl

column_same : (a b : Column) → column_eq a b ≡ true → a ≡ b
column_same a b e =
    let p = and_parts (bytes_eq a.name b.name) (domain_eq a.domain b.domain && bool_eq a.nullable b.nullable) e in
    let q = and_parts (domain_eq a.domain b.domain) (bool_eq a.nullable b.nullable) p.1 in
    let R : List ℕ → Domain → Bool → Column = λ n d u. record { name = n; domain = d; nullable = u } in
    ap (λ n. R n a.domain a.nullable) (same_bytes a.name b.name p.0)
    ∙ (ap (λ d. R b.name d a.nullable) (domain_same a.domain b.domain q.0) ∙ ap (λ u. R b.name b.domain u) (bool_same a.nullable b.nullable q.1))

columns_same : (cs bs : List Column) → columns_eq cs bs ≡ true → cs ≡ bs
columns_same [] [] e = refl
columns_same [] (b ∷ bs) e = absurd (false≢true e)
columns_same (a ∷ cs) [] e = absurd (false≢true e)
columns_same (a ∷ cs) (b ∷ bs) e =
    let p = and_parts (column_eq a b) (columns_eq cs bs) e in
    ap (λ c. c ∷ cs) (column_same a b p.0) ∙ ap (λ ds. b ∷ ds) (columns_same cs bs p.1)

columns_self : (cs : List Column) → columns_eq cs cs ≡ true
columns_self [] = refl
columns_self (a ∷ cs) =
    and_from (column_eq a a) (columns_eq cs cs)
    (and_from (bytes_eq a.name a.name) (domain_eq a.domain a.domain && bool_eq a.nullable a.nullable) (bytes_same a.name) (and_from (domain_eq a.domain a.domain) (bool_eq a.nullable a.nullable) (domain_self a.domain) (bool_self a.nullable)))
    (columns_self cs)

module _ (tables : Tables) where
  stands_of : (t : SqlTable) → stands tables t ≡ true → IsTableOf tables t
  stands_of t e =
      let p = and_parts (nat_lt t.index (length tables)) (bytes_eq (table_at tables t.index).name t.name && columns_eq (columns_of tables t.index) t.schema.columns) e in
      let q = and_parts (bytes_eq (table_at tables t.index).name t.name) (columns_eq (columns_of tables t.index) t.schema.columns) p.1 in
      record { there = ltb-true t.index (length tables) p.0; name = same_bytes (table_at tables t.index).name t.name q.0; columns = columns_same (columns_of tables t.index) t.schema.columns q.1 }

  pub of_stands : (t : SqlTable) → IsTableOf tables t → stands tables t ≡ true
  of_stands t is =
      let name = ap (λ n. bytes_eq n t.name) is.name ∙ bytes_same t.name in
      let columns = ap (λ cs. columns_eq cs t.schema.columns) is.columns ∙ columns_self t.schema.columns in
      and_from (nat_lt t.index (length tables)) (bytes_eq (table_at tables t.index).name t.name && columns_eq (columns_of tables t.index) t.schema.columns) (lt-ltb t.index (length tables) is.there)
      (and_from (bytes_eq (table_at tables t.index).name t.name) (columns_eq (columns_of tables t.index) t.schema.columns) name columns)

  pub all_stand : (ts : List SqlTable) → All (IsTableOf tables) ts → list_all (stands tables) ts ≡ true
  all_stand [] all = refl
  all_stand (t ∷ ts) all =
      and_from (stands tables t) (list_all (stands tables) ts) (of_stands t (All-head (IsTableOf tables) t ts all)) (all_stand ts (All-tail (IsTableOf tables) t ts all))

  name_at : (i : ℕ) → i < length tables → (name : List ℕ) → get_or (table_names tables) i name ≡ (table_at tables i).name
  name_at i lt name = get_or-map (λ (named : NamedTable). named.name) tables i no_table name lt

  not_true_false : (b : Bool) → (b ≡ true → ⊥) → b ≡ false
  not_true_false true n = absurd (n refl)
  not_true_false false n = refl

  place_of : IsTableSet tables → (t : SqlTable) → IsTableOf tables t → table_place tables t.name ≡ Some t.index
  place_of valid t is =
      let p : NamedTable → Bool = λ named. bytes_eq t.name named.name in
      let there = is.there in
      let long : length (table_names tables) ≡ length tables = length-map tables (λ (named : NamedTable). named.name) in
      let within : t.index ≤ length tables = omega (arith, there) in
      let here : t.index < length tables → p (get_or tables t.index no_table) ≡ true = λ lt. (bytes_eq-Decides t.name (table_at tables t.index).name).1 (sym is.name) in
      let before : (k : ℕ) → k < t.index → p (get_or tables k no_table) ≡ false = λ k lt. not_true_false (p (get_or tables k no_table)) (λ e.
      let low : k < length tables = omega (arith, there, lt) in
      let high : t.index < length (table_names tables) = omega (arith, there, long) in
      let same : (table_at tables k).name ≡ (table_at tables t.index).name = sym (same_bytes t.name (table_at tables k).name e) ∙ sym is.name in
      valid.differ k t.index t.name lt high (name_at k low t.name ∙ (same ∙ sym (name_at t.index there t.name)))) in
      let n : position_or_len p tables ≡ t.index = position_or_len_is p tables t.index no_table within before here in
      ap (λ m. cond (nat_lt m (length tables)) (Some m) None) n ∙ ap (λ b. cond b (Some t.index) None) (lt-ltb t.index (length tables) there)

  pub meant : IsTableSet tables → Meant (stands tables) tables
  meant valid t e = let is = stands_of t e in (place_of valid t is, is.columns)
