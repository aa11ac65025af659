use Rattle.da_core.proofs.counted.remove_counted.Goals as goal

pub returns-clause-steps : goal.returns-clause-steps
returns-clause-steps g c d keeps = c.remove_element.ensures.steps d keeps c.requires.spared

pub returns-in_err-remove_element-clause-steps : goal.returns-in_err-remove_element-clause-steps
returns-in_err-remove_element-clause-steps g c d keeps = c.remove_element.ensures.steps d keeps c.requires.spared
