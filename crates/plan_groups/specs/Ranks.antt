-- The keys by which the rows of a list are ranked. This is this project's own.
use Rattle.std.specs.Prelude.{ℤ, neg_ℤ, Bool, if◌then◌else◌, List, map}
use Rattle.std.specs.List.{flat_map}
use Rattle.prefsql_tables.specs.declared.place.Combo.{Combo}
use Rattle.pref_terms.specs.Terms.{keys_of}
use Rattle.pref_terms.specs.declared.bound.BoundTerm.{BoundTerm}
use Rattle.plan_groups.specs.Groups.{seen_by}

-- keys, with their signs changed where what they are of is turned
abbrev pub turned_keys : Bool → List ℤ → List ℤ
turned_keys turned keys = if turned then map neg_ℤ keys else keys

-- the keys of all rows by all leaves, row by row
abbrev pub keys_of_rows : BoundTerm → List Combo → List ℤ
keys_of_rows bound combos = flat_map (λ combo. keys_of bound.term.now (seen_by bound combo)) combos
