-- A quality that fits a combination judges the value that the combination has in its column.
use Rattle.std.proofs.Common.{ℕ, false, List, [], slice_index_or}
use Rattle.std.specs.Prelude.{slice_index}
use Rattle.prefsql_values.specs.declared.value.Domain.TheVariants.{Integer}
use Rattle.prefsql_tables.specs.declared.schema.Column.{Column}
use Rattle.prefsql_tables.specs.Table.{Tables, columns_of}
use Rattle.prefsql_tables.specs.Valid.{IsTableSet}
use Rattle.prefsql_tables.specs.Sight.{sight}
use Rattle.prefsql_tables.proofs.ValidLemmas.{cell_at_valid, never_null, short_number}
use Rattle.base_prefs.specs.Kind.{IsJudged}
use Rattle.base_prefs.proofs.Judged.{short_bounded, value_judged}
use Rattle.conditions.specs.declared.condition.Quality.{Quality}
use Rattle.conditions.specs.Fits.{QualityFits}

pub quality_judged : (tables : Tables) (from : List ℕ) (first : ℕ) (rows : List ℕ) (quality : Quality) → IsTableSet tables → QualityFits tables from first rows quality → IsJudged quality.base (sight tables from first rows quality.place)
quality_judged tables from first rows quality valid fits =
    let t = slice_index from quality.place.table in
    let c : Column = record { name = []; domain = Integer; nullable = false } in
    let column = slice_index_or (columns_of tables t) quality.place.column c in
    let value = sight tables from first rows quality.place in
    let rankable = fits.rankable c in
    let cell = cell_at_valid tables t _ quality.place.column c valid fits.in_sight.cell in
    value_judged quality.base value
    (never_null column value cell rankable.no_null)
    (λ numbers. short_bounded value (short_number column value cell rankable.no_null (rankable.numbers numbers)))
