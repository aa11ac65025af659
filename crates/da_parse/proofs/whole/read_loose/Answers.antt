use Rattle.da_parse.proofs.LooseAnswers.{tree_answers, memory_line}
use Rattle.da_parse.proofs.whole.read_loose.Goals as goal

pub returns-clause-answer : goal.returns-clause-answer
returns-clause-answer c = tree_answers c.made_of.result _ _ c.in_ok-tree.ensures.answer c.made_of.ensures.made c.made_of.ensures.memory

pub returns-clause-line : goal.returns-clause-line
returns-clause-line c = memory_line c.args.tokens.now.text.now c.args.tokens.now.list c.made_of.result c.made_of.ensures.memory
