use Rattle.std.proofs.Common.{◌≡◌, take, map}
use Rattle.da_core.specs.Opened.{opened}
use Rattle.da_core.proofs.opened.opened_of.Given as goal

abbrev pub invariant-loop-handler : goal.invariant-loop-handler
invariant-loop-handler l = l.all ≡ map opened (take l.handler-index l.handlers)
