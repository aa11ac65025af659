use Rattle.std.proofs.Common.{◌≡◌, drop}
use Rattle.da_machine.specs.CodeFor.{jump_at}
use Rattle.code_gen.specs.Made.{filled}
use Rattle.code_gen.proofs.emit.fill_tests.Given as goal

abbrev pub invariant-holes : goal.invariant-holes
invariant-holes l = filled l.code (drop l.hole-index l.holes) (jump_at l.decides l.to) ≡ filled l.initial.code l.holes (jump_at l.decides l.to)
