use Rattle.std.proofs.Common.{◌≡◌}
use Rattle.da_lang.specs.Arithmetic.{numbers_from}
use Rattle.da_machine.proofs.arithmetic.numbers.Given as goal

abbrev pub invariant-numbers : goal.invariant-numbers
invariant-numbers l = l.set ≡ numbers_from l.fn.first l.i
