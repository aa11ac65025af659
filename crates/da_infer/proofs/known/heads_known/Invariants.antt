use Rattle.std.proofs.Common.{◌≡◌, take, true}
use Rattle.std.specs.List.{list_all}
use Rattle.class_demands.specs.declared.demands.Head.{Head}
use Rattle.da_infer.specs.Known.{all_known}
use Rattle.da_infer.proofs.known.heads_known.Given as goal

abbrev pub invariant-loop-head : goal.invariant-loop-head
invariant-loop-head l = list_all (λ (h : Head). all_known l.count h.demands) (take l.head-index l.heads) ≡ true
