use Rattle.place_blocks.proofs.edit.one_more.Goals as goal

pub returns-in-Some-clause-more : goal.returns-in-Some-clause-more
returns-in-Some-clause-more c = c.in-Some.ensures.1

pub returns-in-Some-clause-room : goal.returns-in-Some-clause-room
returns-in-Some-clause-room c = c.in-Some.ensures.0
