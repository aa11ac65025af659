use Rattle.std.proofs.Common.{◌≡◌, take}
use Rattle.std.specs.Prelude.{map}
use Rattle.da_infer.specs.Fills.{place_of}
use Rattle.da_infer.proofs.places.places.Given as goal

abbrev pub invariant-loop-one : goal.invariant-loop-one
invariant-loop-one l = l.found ≡ map place_of (take l.one-index l.untyped)
