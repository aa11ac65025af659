use Rattle.delta_rules.proofs.reading.all_rows.Given as goal

abbrev pub ghosts-counted_rows : goal.ghosts-counted_rows
ghosts-counted_rows a = record { name = a.blank.name; parts = a.blank.parts }
