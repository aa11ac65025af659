use Rattle.da_infer.proofs.unknowns.+number_type.Given as goal

abbrev pub decreases-number_type : goal.decreases-number_type
decreases-number_type l = l.number
