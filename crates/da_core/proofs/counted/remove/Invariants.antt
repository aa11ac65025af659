use Rattle.da_core.proofs.counted.remove.Given as goal

abbrev pub ghosts-remove_by : goal.ghosts-remove_by
ghosts-remove_by a = record { name = a.blank.name; parts = a.blank.parts }
