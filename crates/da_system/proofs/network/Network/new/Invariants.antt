use Rattle.std.proofs.Common.{map}
use Rattle.std.specs.List.{range_with_len}
use Rattle.da_lang.specs.World.{opening}
use Rattle.da_core.specs.Compiled.{program_of}
use Rattle.da_system.specs.Network.{StandFrom}
use Rattle.da_system.proofs.network.Network.new.Given as goal

abbrev pub invariant-loop-place : goal.invariant-loop-place
invariant-loop-place l = StandFrom (program_of l.compiled) 1 l.cores.items (map (opening (program_of l.compiled)) (range_with_len 1 l.place))
