use Rattle.std.proofs.Common.{◌≡◌, ◌++◌, take, flat_map}
use Rattle.da_lang.specs.Deeds.{deeds_of, deeds_of_branch}
use Rattle.da_names.specs.DeedView.{deeds_in}
use Rattle.da_names.proofs.deeds.+deeds.Given as goal

abbrev pub invariant-put_body-loop-stmt : goal.invariant-put_body-loop-stmt
invariant-put_body-loop-stmt l = deeds_in l.out ≡ deeds_in l.initial.out ++ flat_map deeds_of (take l.stmt-index l.body)

abbrev pub invariant-put_branches-loop-branch : goal.invariant-put_branches-loop-branch
invariant-put_branches-loop-branch l = deeds_in l.out ≡ deeds_in l.initial.out ++ flat_map deeds_of_branch (take l.branch-index l.branches)
