use Rattle.std.proofs.Common.{◌≡◌, take, false}
use Rattle.std.specs.List.{list_any}
use Rattle.da_names.specs.Early.{asks_early, link_asks_early}
use Rattle.da_names.proofs.early.+early.Given as goal

abbrev pub invariant-some_asks_early-loop-x : goal.invariant-some_asks_early-loop-x
invariant-some_asks_early-loop-x l = list_any (asks_early l.clock) (take l.x-index l.xs) ≡ false

abbrev pub invariant-some_link_asks_early-loop-link : goal.invariant-some_link_asks_early-loop-link
invariant-some_link_asks_early-loop-link l = list_any (link_asks_early l.clock) (take l.link-index l.links) ≡ false
