use Rattle.store_cases.proofs.reading.group_of_ids.Given as goal

abbrev pub ghosts-counted_ids : goal.ghosts-counted_ids
ghosts-counted_ids a = record { name = a.blank.name; parts = a.blank.parts }
