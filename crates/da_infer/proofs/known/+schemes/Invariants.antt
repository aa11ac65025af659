use Rattle.std.proofs.Common.{◌≡◌, take, true}
use Rattle.std.specs.List.{list_all}
use Rattle.da_infer.specs.Known.{is_known}
use Rattle.da_infer.proofs.known.+schemes.Given as goal

abbrev pub invariant-are_known-loop-scheme : goal.invariant-are_known-loop-scheme
invariant-are_known-loop-scheme l = list_all (is_known l.count) (take l.scheme-index l.schemes) ≡ true
