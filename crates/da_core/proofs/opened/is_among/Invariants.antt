use Rattle.std.proofs.Common.{◌≡◌, take, false}
use Rattle.std.specs.Prelude.{◌==◌}
use Rattle.std.specs.List.{list_any}
use Rattle.da_core.proofs.opened.is_among.Given as goal

abbrev pub invariant-loop-other : goal.invariant-loop-other
invariant-loop-other l = list_any (λ k. k == l.label) (take l.other-index l.at) ≡ false
