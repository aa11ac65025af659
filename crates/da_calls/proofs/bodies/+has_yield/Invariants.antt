use Rattle.std.proofs.Common.{◌≡◌, false, take, flat_map}
use Rattle.da_lang.specs.Deeds.{deeds_of, deeds_of_branch}
use Rattle.da_calls.specs.CallBodies.{some_yield}
use Rattle.da_calls.proofs.bodies.+has_yield.Given as goal

abbrev pub invariant-has_yield-loop-stmt : goal.invariant-has_yield-loop-stmt
invariant-has_yield-loop-stmt l = some_yield (flat_map deeds_of (take l.stmt-index l.stmts)) ≡ false

abbrev pub invariant-has_yield_of-loop-branch : goal.invariant-has_yield_of-loop-branch
invariant-has_yield_of-loop-branch l = some_yield (flat_map deeds_of_branch (take l.branch-index l.branches)) ≡ false
