use Rattle.delta_rules.proofs.answers.Answers.new.Given as goal

abbrev pub ghosts-first_rows : goal.ghosts-first_rows
ghosts-first_rows a = record { name = a.blank.name; parts = a.blank.parts }
