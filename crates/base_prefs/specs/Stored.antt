-- Where a kind stands.
use Rattle.std.specs.Prelude.{◌≡◌, false, ⊤}
use Rattle.base_prefs.specs.declared.kind.Kind.{Kind}
use Rattle.base_prefs.specs.declared.kind.Stored.{Stored}
use Rattle.base_prefs.specs.declared.kind.Stored.TheVariants.{Alone, Shared}
use Rattle.base_prefs.specs.Kind.{has_level}

-- the kind that stands there
abbrev pub stored_kind : Stored → Kind
stored_kind (Alone kind) = kind
stored_kind (Shared owner) = owner.value

-- one that stands alone names no values
abbrev pub IsRightlyAlone : Stored → Type 0
IsRightlyAlone (Alone kind) = has_level kind ≡ false
IsRightlyAlone (Shared owner) = ⊤
