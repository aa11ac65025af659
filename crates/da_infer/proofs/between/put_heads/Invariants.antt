use Rattle.da_infer.proofs.between.put_heads.Given as goal

abbrev pub decreases-heads : goal.decreases-heads
decreases-heads l = l.left
