-- The output columns of a statement that keeps what it owes: their names, their places and their leaves.
use Rattle.std.proofs.Common.{◌≡◌, ℕ, suc, ◌+◌, ◌^◌, ◌<◌, ◌≤◌, true, Option, Some, None, List, [], ◌∷◌, ◌++◌, length, map, get_or, All, pos, codes, refl, ap, ◌∙◌, arith, length-append}
use Rattle.std.specs.Fmt.{decimal, signed_decimal}
use Rattle.std.specs.List.{flat_map}
use Rattle.std.specs.Prelude.{IfSome, unwrap_or}
use Rattle.std.specs.Str.{IsAscii}
use Rattle.std.proofs.lemmas.Fmt.{IsAscii-decimal, length-decimal-le}
use Rattle.std.proofs.lemmas.List.{length-map}
use Rattle.std.proofs.lemmas.List.Elements.{All-nil, All-cons, All-head, All-tail, All-append}
use Rattle.std.proofs.lemmas.Str.{IsAscii-append, chars-IsAscii}
use Rattle.std.proofs.lemmas.Str.Ascii.{IsAscii-cons, IsAscii-nil}
use Rattle.prefsql_values.specs.Limits.{IsName}
use Rattle.prefsql_tables.specs.Names.{names_of}
use Rattle.prefsql_tables.specs.Table.{Tables}
use Rattle.prefsql_tables.specs.Valid.{IsSchema}
use Rattle.prefsql_tables.specs.declared.schema.Column.{Column}
use Rattle.pref_terms.specs.declared.term.Leaf.{Leaf}
use Rattle.conditions.specs.declared.condition.Scalar.TheVariants as resolved
use Rattle.query_meaning.specs.BlockFits as fits
use Rattle.query_meaning.specs.BlockFits.{IsLeaf, columns_from}
use Rattle.query_meaning.specs.Valid.{IsOutput}
use Rattle.query_meaning.specs.declared.block.FromTable.{FromTable}
use Rattle.query_meaning.specs.declared.block.Output.{Output}
use Rattle.query_tree.specs.WellMade as made
use Rattle.query_tree.specs.WellMade.{IsItem, IsScalar, IsSelect}
use Rattle.query_tree.specs.declared.condition.ScalarTree.{ScalarTree}
use Rattle.query_tree.specs.declared.condition.ScalarTree.TheVariants as scalar
use Rattle.query_tree.specs.declared.preference.BaseTree.{BaseTree}
use Rattle.query_tree.specs.declared.query.FromTree.{FromTree}
use Rattle.query_tree.specs.declared.query.ItemTree.{ItemTree}
use Rattle.query_tree.specs.declared.query.SelectTree.{SelectTree}
use Rattle.query_tree.specs.declared.query.SelectTree.TheVariants as select
use Rattle.query_typing.specs.Columns.{item_columns}
use Rattle.query_typing.specs.Conditions.{scalar_obligations}
use Rattle.query_typing.specs.Leaves.{leaf_sites}
use Rattle.query_typing.specs.Obligations.{AllMet, Obligation}
use Rattle.query_typing.specs.Preferences.{bases_obligations}
use Rattle.query_typing.specs.Resolution.{AreLeavesOf, all_outputs, column_outputs, from_table, item_outputs, outputs, resolved_scalar}
use Rattle.query_typing.specs.Statements.{default_name, item_name, select_obligations}
use Rattle.query_typing.proofs.MadeLaws.{first_met, second_met}
use Rattle.query_typing.proofs.ValidScalars.{scalar_good}
use Rattle.query_typing.proofs.ValidSites.{columns_at}

-- ---- names

col_ascii : IsAscii (codes "COL")
col_ascii = IsAscii-cons 67 (79 ∷ 76 ∷ []) (omega arith) (IsAscii-cons 79 (76 ∷ []) (omega arith) (IsAscii-cons 76 [] (omega arith) IsAscii-nil))

-- COL and a position
numbered_name : (n : ℕ) → n < 2 ^ 33 → IsName (codes "COL" ++ signed_decimal (pos n))
numbered_name n small =
    let text = codes "COL" ++ decimal n in
    let whole = ap length (chars-IsAscii text (IsAscii-append (codes "COL") (decimal n) col_ascii (IsAscii-decimal n (omega (arith, small))))) in
    let count = length-append (codes "COL") (decimal n) in
    let digits = length-decimal-le 20 n (omega arith) (omega (arith, small)) (omega (arith, small)) in
    record { not_empty = omega (arith, whole, count); short = omega (arith, whole, count, digits) }

named_or : (name : Option (List ℕ)) (other : List ℕ) → IfSome name IsName → IsName other → IsName (unwrap_or name other)
named_or None other some is = is
named_or (Some name) other some is = some

default_named : (position : ℕ) (s : ScalarTree) → position < 2 ^ 33 → made.IsOutput s → IsName (default_name position s)
default_named position (scalar.Column name) small is = named_or name.second name.first is.second is.first
default_named position (scalar.Literal literal) small is = absurd is
default_named position (scalar.Level name word) small is = numbered_name position small
default_named position (scalar.Distance name word) small is = numbered_name position small

item_named : (position : ℕ) (item : ItemTree) → position < 2 ^ 33 → IsItem item → IsName (item_name position item)
item_named position item small is = named_or item.name (default_name position item.value) is.name (default_named position item.value small is.value)

-- ---- outputs

-- the output is valid and has a place
record IsGoodOutput (from : List FromTable) (leaves : List Leaf) (output : Output) : Type 0 where
  valid : IsOutput leaves output
  place : fits.IsScalar from output.scalar

columns_good : (from : List FromTable) (leaves : List Leaf) (table number : ℕ) (columns : List Column) → All IsName (names_of columns) → table < length from → number + length columns ≤ length (columns_from from table)
    → All (IsGoodOutput from leaves) (column_outputs table number columns)
columns_good from leaves table number [] names there small = All-nil (IsGoodOutput from leaves)
columns_good from leaves table number (column ∷ columns) names there small =
    All-cons (IsGoodOutput from leaves) (record { name = column.name; scalar = resolved.Column (record { table = table; column = number }) }) (column_outputs table (number + 1) columns)
    (record { valid = record { name = All-head IsName column.name (names_of columns) names; scalar = tt }; place = record { table = there; column = omega (arith, small) } })
    (columns_good from leaves table (number + 1) columns (All-tail IsName column.name (names_of columns) names) there (omega (arith, small)))

-- FROM items from a number on, which have these columns
all_good : (tables : Tables) (from : List FromTable) (leaves : List Leaf) (table : ℕ) (items : List FromTree) → All (λ (item : FromTree). IsSchema (item_columns tables item)) items → table + length items ≤ length from
    → ((i j : ℕ) → j ≡ table + i → i < length items → columns_from from j ≡ get_or (map (item_columns tables) items) i [])
    → All (IsGoodOutput from leaves) (all_outputs tables table items)
all_good tables from leaves table [] schemas small same = All-nil (IsGoodOutput from leaves)
all_good tables from leaves table (item ∷ items) schemas small same =
    let own = All-head (λ (item : FromTree). IsSchema (item_columns tables item)) item items schemas in
    let here : columns_from from table ≡ item_columns tables item = same 0 table (omega arith) (omega arith) in
    let count = ap length here in
    All-append (IsGoodOutput from leaves) (column_outputs table 0 (item_columns tables item)) (all_outputs tables (table + 1) items)
    (columns_good from leaves table 0 (item_columns tables item) own.names (omega (arith, small)) (omega (arith, count)))
    (all_good tables from leaves (table + 1) items (All-tail (λ (item : FromTree). IsSchema (item_columns tables item)) item items schemas) (omega (arith, small))
    (λ i j is inside. same (suc i) j (omega (arith, is)) (omega (arith, inside))))

an_output : (s : ScalarTree) → made.IsOutput s → IsScalar true s
an_output (scalar.Column name) is = is
an_output (scalar.Literal literal) is = absurd is
an_output (scalar.Level name word) is = (refl, is)
an_output (scalar.Distance name word) is = (refl, is)

column_count : (table number : ℕ) (columns : List Column) → length (column_outputs table number columns) ≡ length columns
column_count table number [] = refl
column_count table number (column ∷ columns) = let more = column_count table (number + 1) columns in omega (arith, more)

some_all : (tables : Tables) (items : List FromTree) → All (λ (item : FromTree). IsSchema (item_columns tables item)) items → 0 < length items → 0 < length (all_outputs tables 0 items)
some_all tables [] schemas some = absurd (omega (arith, some))
some_all tables (item ∷ items) schemas some =
    let own = (All-head (λ (item : FromTree). IsSchema (item_columns tables item)) item items schemas).not_empty in
    let count = column_count 0 0 (item_columns tables item) in
    let sum = length-append (column_outputs 0 0 (item_columns tables item)) (all_outputs tables 1 items) in
    omega (arith, own, count, sum)

-- a statement puts out some column
pub some_outputs : (tables : Tables) (from : List FromTree) (leaves : List Leaf) (s : SelectTree) → All (λ (item : FromTree). IsSchema (item_columns tables item)) from → 0 < length from → IsSelect s → 0 < length (outputs tables from leaves s)
some_outputs tables from leaves select.All schemas some is = some_all tables from schemas some
some_outputs tables from leaves (select.Items []) schemas some is = absurd (let count = is.0.0 in omega (arith, count))
some_outputs tables from leaves (select.Items (item ∷ items)) schemas some is = omega arith

module _ (tables : Tables) (from : List FromTree) (bases : List BaseTree) (leaves : List Leaf) (are : AreLeavesOf tables from 1 bases leaves) (all : AllMet (bases_obligations tables from 0 bases)) (good : All (IsLeaf (map (from_table tables) from)) leaves) where
  abbrev owed_by : ItemTree → List Obligation
  owed_by item = scalar_obligations tables from (leaf_sites tables from bases) item.value

  abbrev IsGoodHere : Output → Type 0
  IsGoodHere = IsGoodOutput (map (from_table tables) from) leaves

  items_good : (position : ℕ) (items : List ItemTree) → position + length items < 2 ^ 33 → All IsItem items → AllMet (flat_map (λ (item : ItemTree). scalar_obligations tables from (leaf_sites tables from bases) item.value) items) → All IsGoodHere (item_outputs tables from leaves position items)
  items_good position [] small is met = All-nil IsGoodHere
  items_good position (item ∷ items) small is met =
      let own = All-head IsItem item items is in
      let rest = flat_map owed_by items in
      let right = scalar_good tables from bases leaves are all good true item.value (an_output item.value own.value) (first_met (owed_by item) rest met) in
      All-cons IsGoodHere (record { name = item_name position item; scalar = resolved_scalar tables from leaves item.value }) (item_outputs tables from leaves (position + 1) items)
      (record { valid = record { name = item_named position item (omega (arith, small)) own; scalar = right.1 }; place = right.0 })
      (items_good (position + 1) items (omega (arith, small)) (All-tail IsItem item items is) (second_met (owed_by item) rest met))

  outputs_good : (s : SelectTree) → All (λ (item : FromTree). IsSchema (item_columns tables item)) from → IsSelect s → AllMet (select_obligations tables from (leaf_sites tables from bases) s) → All IsGoodHere (outputs tables from leaves s)
  outputs_good select.All schemas is met =
      let count = length-map from (from_table tables) in
      all_good tables (map (from_table tables) from) leaves 0 from schemas (omega (arith, count))
      (λ i j at inside. ap (columns_from (map (from_table tables) from)) (let same : j ≡ i = omega (arith, at) in same) ∙ columns_at tables from i)
  outputs_good (select.Items items) schemas is met = items_good 1 items (let few = is.0.1 in omega (arith, few)) is.1 met

  pub outputs_valid : (s : SelectTree) → All (λ (item : FromTree). IsSchema (item_columns tables item)) from → IsSelect s → AllMet (select_obligations tables from (leaf_sites tables from bases) s) → All (IsOutput leaves) (outputs tables from leaves s)
  outputs_valid s schemas is met = λ k d small. (outputs_good s schemas is met k d small).valid

  pub outputs_placed : (s : SelectTree) → All (λ (item : FromTree). IsSchema (item_columns tables item)) from → IsSelect s → AllMet (select_obligations tables from (leaf_sites tables from bases) s)
      → All (λ (output : Output). fits.IsScalar (map (from_table tables) from) output.scalar) (outputs tables from leaves s)
  outputs_placed s schemas is met = λ k d small. (outputs_good s schemas is met k d small).place
