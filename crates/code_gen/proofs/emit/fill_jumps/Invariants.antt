use Rattle.std.proofs.Common.{◌≡◌, drop}
use Rattle.da_lang.specs.declared.code.Instr.TheVariants as op
use Rattle.code_gen.specs.Made.{filled}
use Rattle.code_gen.proofs.emit.fill_jumps.Given as goal

abbrev pub invariant-holes : goal.invariant-holes
invariant-holes l = filled l.code (drop l.hole-index l.holes) (op.Jump l.to) ≡ filled l.initial.code l.holes (op.Jump l.to)
