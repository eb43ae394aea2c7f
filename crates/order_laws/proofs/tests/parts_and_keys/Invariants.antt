use Rattle.order_laws.proofs.tests.parts_and_keys.Given as goal

abbrev pub ghosts-both_ways : goal.ghosts-both_ways
ghosts-both_ways g a = record { name = a.blank.name; parts = a.blank.parts }

abbrev pub ghosts-both_ways-2 : goal.ghosts-both_ways-2
ghosts-both_ways-2 g a = record { name = a.blank.name; parts = a.blank.parts }

abbrev pub ghosts-both_ways-3 : goal.ghosts-both_ways-3
ghosts-both_ways-3 g a = record { name = a.blank.name; parts = a.blank.parts }
