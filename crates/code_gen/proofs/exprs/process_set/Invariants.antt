use Rattle.std.proofs.Common.{◌≡◌, ℕ, List, ◌++◌, length}
use Rattle.da_values.specs.declared.val.Val.{Val}
use Rattle.da_values.specs.declared.val.Val.TheVariants as val
use Rattle.da_values.specs.Order.{val_cmp}
use Rattle.da_values.specs.Sets.{set_image}
use Rattle.code_gen.proofs.exprs.process_set.Given as goal

pub record Taken (processes left : List ℕ) (set : List Val) : Type 0 where
  pub done : List ℕ
  pub whole : left ++ done ≡ processes
  pub is : set ≡ set_image val_cmp val.Proc done

abbrev pub invariant-processes : goal.invariant-processes
invariant-processes l = Taken l.processes l.left l.set

abbrev pub decreases-processes : goal.decreases-processes
decreases-processes l = length l.left
