use Rattle.prefsql_rows.proofs.window.equal_items_are_all_kept.Given as goal

abbrev pub ghosts-lowest_of : goal.ghosts-lowest_of
ghosts-lowest_of g a = record { name = a.blank.name; parts = a.blank.parts }
