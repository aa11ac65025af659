use Rattle.std.proofs.Common.{◌≡◌, drop}
use Rattle.da_outside.specs.Memory.{bytes_named}
use Rattle.da_outside.proofs.memory.find.Given as goal

abbrev pub invariant-loop-file : goal.invariant-loop-file
invariant-loop-file l = bytes_named l.files l.name ≡ bytes_named (drop l.file-index l.files) l.name
