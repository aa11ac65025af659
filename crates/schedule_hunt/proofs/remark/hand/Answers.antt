use Rattle.schedule_hunt.proofs.remark.hand.Goals as goal

pub returns : goal.returns
returns c = let (program, w, come) = c.requires in (program, _, (c.in_ok-hear.ensures program w come).come)
