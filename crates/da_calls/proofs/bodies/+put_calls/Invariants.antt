use Rattle.std.proofs.Common.{◌≡◌, ◌++◌, take, flat_map}
use Rattle.da_lang.specs.Deeds.{deeds_of, deeds_of_branch}
use Rattle.da_calls.specs.CallBodies.{calls_by}
use Rattle.da_calls.specs.CallNames.{number_in}
use Rattle.da_calls.proofs.bodies.+put_calls.Given as goal

abbrev pub invariant-put_calls-loop-stmt : goal.invariant-put_calls-loop-stmt
invariant-put_calls-loop-stmt l = l.out ≡ l.fn.out ++ calls_by (number_in l.numbers) (flat_map deeds_of (take l.stmt-index l.stmts))

abbrev pub invariant-put_calls_of-loop-branch : goal.invariant-put_calls_of-loop-branch
invariant-put_calls_of-loop-branch l = l.out ≡ l.fn.out ++ calls_by (number_in l.numbers) (flat_map deeds_of_branch (take l.branch-index l.branches))
