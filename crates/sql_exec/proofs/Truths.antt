-- Three-valued truth of lists, item by item.
use Rattle.std.proofs.Common.{◌≡◌, refl}
use Rattle.prefsql_values.specs.declared.truth.Truth.{Truth}
use Rattle.prefsql_values.specs.declared.truth.Truth.TheVariants.{False, Unknown, True}
use Rattle.prefsql_values.specs.Truth.{both_true, either_true}

pub both_grouped : (a b c : Truth) → both_true a (both_true b c) ≡ both_true (both_true a b) c
both_grouped False b c = refl
both_grouped True b c = refl
both_grouped Unknown False c = refl
both_grouped Unknown True c = refl
both_grouped Unknown Unknown False = refl
both_grouped Unknown Unknown Unknown = refl
both_grouped Unknown Unknown True = refl

pub both_at_end : (a : Truth) → both_true a True ≡ a
both_at_end False = refl
both_at_end Unknown = refl
both_at_end True = refl

pub either_grouped : (a b c : Truth) → either_true a (either_true b c) ≡ either_true (either_true a b) c
either_grouped True b c = refl
either_grouped False b c = refl
either_grouped Unknown True c = refl
either_grouped Unknown False c = refl
either_grouped Unknown Unknown True = refl
either_grouped Unknown Unknown Unknown = refl
either_grouped Unknown Unknown False = refl

pub either_at_end : (a : Truth) → either_true a False ≡ a
either_at_end True = refl
either_at_end Unknown = refl
either_at_end False = refl

pub ruleset truths = (both_grouped, both_at_end, either_grouped, either_at_end)
