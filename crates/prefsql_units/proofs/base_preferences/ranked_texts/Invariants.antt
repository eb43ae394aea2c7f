use Rattle.prefsql_units.proofs.base_preferences.ranked_texts.Given as goal

abbrev pub ghosts-ranked : goal.ghosts-ranked
ghosts-ranked a = record { name = a.blank.name; parts = a.blank.parts }
