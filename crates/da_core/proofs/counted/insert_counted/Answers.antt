use Rattle.da_core.proofs.counted.insert_counted.Goals as goal

pub returns-clause-steps : goal.returns-clause-steps
returns-clause-steps g c d time keeps = c.insert_element.ensures.steps d time keeps c.requires.spared

pub returns-in_err-insert_element-clause-steps : goal.returns-in_err-insert_element-clause-steps
returns-in_err-insert_element-clause-steps g c d time keeps = c.insert_element.ensures.steps d time keeps c.requires.spared
