use Rattle.da_scope.proofs.copying.+copy_body.Given as goal

abbrev pub decreases-copy_body : goal.decreases-copy_body
decreases-copy_body l = l.most
