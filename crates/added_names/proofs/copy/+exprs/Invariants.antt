use Rattle.std.proofs.Common.{◌≡◌, take}
use Rattle.added_names.proofs.copy.+exprs.Given as goal

abbrev pub invariant-copy_exprs-loop-part : goal.invariant-copy_exprs-loop-part
invariant-copy_exprs-loop-part l = l.copy ≡ take l.part-index l.parts

abbrev pub invariant-copy_links-loop-other : goal.invariant-copy_links-loop-other
invariant-copy_links-loop-other l = l.copy ≡ take l.other-index l.others

abbrev pub invariant-copy_gens-loop-generator : goal.invariant-copy_gens-loop-generator
invariant-copy_gens-loop-generator l = l.copy ≡ take l.generator-index l.gens

abbrev pub invariant-copy_patterns-loop-part : goal.invariant-copy_patterns-loop-part
invariant-copy_patterns-loop-part l = l.copy ≡ take l.part-index l.parts
