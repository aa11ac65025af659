use Rattle.da_core.proofs.counted.assign.Given as goal

abbrev pub ghosts-assign_by : goal.ghosts-assign_by
ghosts-assign_by a = record { name = a.blank.name; parts = a.blank.parts }
