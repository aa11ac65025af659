use Rattle.std.proofs.Common.{true}
use Rattle.da_parse.proofs.ParseFirst.{loose_first_law, loose_told_law}
use Rattle.da_parse.proofs.ParseLaws.{loose_spelled_law, loose_only_law}
use Rattle.da_parse.proofs.Spelled.{toks-spelled}
use Rattle.da_parse.proofs.WholePrograms.{SpellsBy_unique}
use Rattle.da_parse.proofs.WrittenTypes.{type_written}
use Rattle.da_parse.proofs.whole.parse_loose.Goals as goal

pub returns-clause-spelled : goal.returns-clause-spelled
returns-clause-spelled c = λ lexed. loose_spelled_law _ _ _ c.read_loose.ensures.answer lexed

pub returns-clause-only : goal.returns-clause-only
returns-clause-only c = λ tree spells. loose_only_law _ _ tree c.read_loose.ensures.answer spells

pub returns-clause-one : goal.returns-clause-one
returns-clause-one c = λ tree other spelled also. SpellsBy_unique true tree other _ spelled also

pub returns-clause-first : goal.returns-clause-first
returns-clause-first c = λ lexed. loose_first_law _ _ c.read_loose.ensures.answer (toks-spelled _ _ lexed)

pub returns-clause-told : goal.returns-clause-told
returns-clause-told c = λ lexed why is_first. loose_told_law _ _ why c.read_loose.ensures.answer (toks-spelled _ _ lexed) is_first

pub returns-clause-written : goal.returns-clause-written
returns-clause-written c = λ f d type_ here rest is. type_written (λ d t. Unit {0}) f d type_ here rest is
