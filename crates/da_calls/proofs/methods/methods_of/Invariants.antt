use Rattle.std.proofs.Common.{take, filter_map}
use Rattle.da_lang.specs.ClassParts.{body_in}
use Rattle.da_calls.specs.CallMethods.{Numbering, numbered}
use Rattle.da_calls.specs.CallNames.{number_in}
use Rattle.da_calls.proofs.methods.methods_of.Given as goal

abbrev pub invariant-loop-member : goal.invariant-loop-member
invariant-loop-member l = Numbering (filter_map body_in (take l.member-index l.member-items)) (numbered l.methods) (number_in l.methods.numbers)
