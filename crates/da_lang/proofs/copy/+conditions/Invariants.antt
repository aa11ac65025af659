use Rattle.std.proofs.Common.{◌≡◌, take}
use Rattle.da_lang.proofs.copy.+conditions.Given as goal

abbrev pub invariant-copy_conds-loop-cond : goal.invariant-copy_conds-loop-cond
invariant-copy_conds-loop-cond l = l.copy ≡ take l.cond-index l.conds

abbrev pub invariant-copy_signed-loop-other : goal.invariant-copy_signed-loop-other
invariant-copy_signed-loop-other l = l.copy ≡ take l.other-index l.others
