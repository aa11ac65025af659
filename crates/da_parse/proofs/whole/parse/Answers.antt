use Rattle.da_parse.proofs.ParseFirst.{first_law, told_law}
use Rattle.da_parse.proofs.ParseLaws.{spelled_law, only_law}
use Rattle.da_parse.proofs.Spelled.{toks-spelled}
use Rattle.da_parse.proofs.WholePrograms.{Spells_unique}
use Rattle.da_parse.proofs.whole.parse.Goals as goal

pub returns-clause-spelled : goal.returns-clause-spelled
returns-clause-spelled c = λ lexed. spelled_law _ _ _ c.read_tree.ensures.answer lexed

pub returns-clause-only : goal.returns-clause-only
returns-clause-only c = λ tree spells. only_law _ _ tree c.read_tree.ensures.answer spells

pub returns-clause-one : goal.returns-clause-one
returns-clause-one c = λ tree other spelled also. Spells_unique tree other _ spelled also

pub returns-clause-first : goal.returns-clause-first
returns-clause-first c = λ lexed. first_law _ _ c.read_tree.ensures.answer (toks-spelled _ _ lexed)

pub returns-clause-told : goal.returns-clause-told
returns-clause-told c = λ lexed why is_first. told_law _ _ why c.read_tree.ensures.answer (toks-spelled _ _ lexed) is_first
