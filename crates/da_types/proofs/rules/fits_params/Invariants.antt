use Rattle.std.proofs.Common.{◌≡◌, true, take}
use Rattle.da_lang.specs.Typing.{fits_params}
use Rattle.da_types.proofs.rules.fits_params.Given as goal

abbrev pub invariant-loop-arg : goal.invariant-loop-arg
invariant-loop-arg l = fits_params l.known.messages.now l.queries l.known.slots.now (take l.arg-index l.args) ≡ true
