-- What the writer keeps of the names in scope, and of where a condition stands.
use Rattle.std.specs.Prelude.{List, map}
use Rattle.prefsql_values.specs.Nesting as nesting
use Rattle.sql_text.specs.declared.level.Level.{Level}
use Rattle.sql_text.specs.declared.standing.Standing.{Standing}
use Rattle.sql_text.specs.declared.standing.Standing.TheVariants.{Alone, InAnd, InOr, AfterNot}
use Rattle.sql_text.specs.Text.{Names, from_pieces}

-- the names of the FROM items of each level
abbrev pub names_of : List Level → Names
names_of levels =
    map (λ (level : Level). map (λ item. (from_pieces item).names) level.from.now) levels

-- where the condition stands
abbrev pub standing_of : Standing → nesting.Standing
standing_of Alone = nesting.alone
standing_of InAnd = nesting.in_and
standing_of InOr = nesting.in_or
standing_of AfterNot = nesting.after_not
