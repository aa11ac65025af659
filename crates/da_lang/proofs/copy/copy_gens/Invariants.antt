use Rattle.std.proofs.Common.{◌≡◌, take}
use Rattle.da_lang.proofs.copy.copy_gens.Given as goal

abbrev pub invariant-loop-gen_ : goal.invariant-loop-gen_
invariant-loop-gen_ l = l.copy ≡ take l.gen_-index l.gens
