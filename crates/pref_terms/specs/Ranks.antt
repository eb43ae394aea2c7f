-- The kind that ranks greater numbers first.
use Rattle.std.specs.Prelude.{Bool, true, false}
use Rattle.base_prefs.specs.declared.kind.Kind.{Kind}
use Rattle.base_prefs.specs.declared.kind.Kind.TheVariants.{Highest}

abbrev pub is_highest : Kind → Bool
is_highest Highest = true
is_highest kind = false
