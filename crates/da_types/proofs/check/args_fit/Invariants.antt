use Rattle.std.proofs.Common.{◌≡◌, drop}
use Rattle.da_lang.specs.Typing.{args_fit}
use Rattle.da_types.proofs.check.args_fit.Given as goal

abbrev pub invariant-loop-param : goal.invariant-loop-param
invariant-loop-param l = args_fit l.messages l.class (drop l.param-index l.params) l.rest ≡ args_fit l.messages l.class l.params l.args
