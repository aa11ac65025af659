use Rattle.da_unparse.proofs.PrintLaws.{again_law, nesting_law}
use Rattle.da_unparse.proofs.SameText.{same_text}
use Rattle.da_unparse.proofs.programs.print_tree.Goals as goal

pub returns-clause-again : goal.returns-clause-again
returns-clause-again c = λ i spells. again_law _ _ i c.write_tree.ensures spells

pub returns-clause-nesting : goal.returns-clause-nesting
returns-clause-nesting c = λ most i spells. nesting_law most _ _ i c.write_tree.ensures spells

pub returns-clause-one_text : goal.returns-clause-one_text
returns-clause-one_text c = λ other same. same_text other _ same
