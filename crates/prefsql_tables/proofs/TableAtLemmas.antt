-- The table of a name stands at one position of a set.
use Rattle.std.proofs.Common.{◌≡◌, ◌≢◌, ◌↔◌, ℕ, ◌<◌, Some, slice_get, List, get_or, length, Contains, ⊎_elim, sym, ◌∙◌, subst, arith}
use Rattle.std.specs.Prelude.{IsTrue}
use Rattle.std.proofs.lemmas.Bool.{cases_lt}
use Rattle.std.proofs.lemmas.List.{length-map, get_or-map}
use Rattle.std.proofs.lemmas.Option.{slice_get_within, get_or_from_slice_get}
use Rattle.prefsql_tables.specs.Names.{table_names}
use Rattle.prefsql_tables.specs.Table.{Tables, IsTableAt, no_table, table_at, columns_of}
use Rattle.prefsql_tables.specs.TableData.{NamedTable}
use Rattle.prefsql_tables.specs.Valid.{IsTableSet}
use Rattle.prefsql_tables.specs.declared.schema.Column.{Column}

module _ (tables : Tables) (name : List ℕ) where
  abbrev IsNamedAt : ℕ → Type 0
  IsNamedAt index = slice_get (table_names tables) index ≡ Some name

  within : (index : ℕ) → IsNamedAt index → index < length tables
  within index named =
      let small : index < length (table_names tables) = slice_get_within (table_names tables) index name named in
      omega (arith, small, length-map tables (λ (entry : NamedTable). entry.name))

  name_at : (index : ℕ) → index < length tables → get_or (table_names tables) index name ≡ (table_at tables index).name
  name_at index small = get_or-map (λ (entry : NamedTable). entry.name) tables index no_table name small

  named_there : (index : ℕ) → IsNamedAt index → (table_at tables index).name ≡ name
  named_there index named = sym (name_at index (within index named)) ∙ get_or_from_slice_get (table_names tables) index name name named

  -- the set has no two tables of one name
  not_before : IsTableSet tables → (i j : ℕ) → i < j → j < length tables → (table_at tables i).name ≡ (table_at tables j).name → ⊥
  not_before valid i j before small same =
      let names : j < length (table_names tables) = omega (arith, length-map tables (λ (entry : NamedTable). entry.name)) in
      valid.differ i j name before names (name_at i (omega arith) ∙ same ∙ sym (name_at j small))

  module _ (index : ℕ) (columns : List Column) where
    -- a table of the name stands at the position
    pub table_there : (place : ℕ) (same : _) → IsNamedAt place → place ≡ index → (IsTrue same ↔ (columns_of tables place ≡ columns)) → IsTrue same ↔ IsTableAt tables index name columns
    table_there place same named here told = (
      λ yes. record {
        there = subst (λ i. i < length tables) here (within place named);
        name = subst (λ i. (table_at tables i).name ≡ name) here (named_there place named);
        columns = subst (λ i. columns_of tables i ≡ columns) here (told.0 yes);
      },
      λ is. told.1 (subst (λ i. columns_of tables i ≡ columns) (sym here) is.columns),
    )

    -- it stands elsewhere
    pub table_elsewhere : IsTableSet tables → (place : ℕ) → IsNamedAt place → place ≢ index → IsTableAt tables index name columns → ⊥
    table_elsewhere valid place named other is =
        let same : (table_at tables place).name ≡ (table_at tables index).name = named_there place named ∙ sym is.name in
        ⊎_elim (λ before. not_before valid place index before is.there same)
        (λ after. not_before valid index place (let small : index < place = omega arith in small) (within place named) (sym same))
        (cases_lt place index)

    -- it stands nowhere
    pub table_nowhere : (Contains (table_names tables) name → ⊥) → IsTableAt tables index name columns → ⊥
    table_nowhere none is =
        let small : index < length (table_names tables) = (let there = is.there in omega (arith, there, length-map tables (λ (entry : NamedTable). entry.name))) in
        none (index, small, name_at index is.there ∙ is.name)
