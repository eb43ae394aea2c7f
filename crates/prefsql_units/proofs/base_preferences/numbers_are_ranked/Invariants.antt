use Rattle.prefsql_units.proofs.base_preferences.numbers_are_ranked.Given as goal

abbrev pub ghosts-ranked : goal.ghosts-ranked
ghosts-ranked g a = record { name = a.blank.name; parts = a.blank.parts }
