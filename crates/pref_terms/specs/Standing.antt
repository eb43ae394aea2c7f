-- How one combination stands to another by an order. This is this project's own.
use Rattle.std.specs.Prelude.{Bool, if◌then◌else◌}
use Rattle.prefsql_tables.specs.Sight.{Sight}
use Rattle.pref_terms.specs.declared.ranking.Standing.{Standing}
use Rattle.pref_terms.specs.declared.ranking.Standing.TheVariants.{Better, Same, Other}
use Rattle.pref_terms.specs.Terms.{Order}

-- better, else the same, else neither
abbrev pub standing_by : Bool → Bool → Standing
standing_by better same = if better then Better else (if same then Same else Other)

abbrev pub standing_of : Order → Sight → Sight → Standing
standing_of order y x = standing_by (order.better y x) (order.same y x)
