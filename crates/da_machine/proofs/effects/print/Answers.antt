use Rattle.std.proofs.Common.{Some}
use Rattle.da_lang.specs.declared.code.Instr.TheVariants as op
use Rattle.da_machine.proofs.Prefixes.{nothing_new, on_err}
use Rattle.da_machine.proofs.effects.print.Goals as goal

pub returns-in_err-output-clause-began : goal.returns-in_err-output-clause-began
returns-in_err-output-clause-began g c = on_err _ _ (nothing_new (Some op.Output) c.args.m.now (g.S.Store.stands c.args.s.now) _ _ c.in_err-output.ensures.same)
