use Rattle.std.proofs.Common.{rules, Some}
use Rattle.da_machine.proofs.Stacks.{top_last, below_last}
use Rattle.da_lang.specs.declared.code.Instr.TheVariants as op
use Rattle.da_machine.specs.RunsTo.{Began}
use Rattle.da_machine.proofs.Prefixes.{prefix_as, on_err}
use Rattle.da_machine.proofs.effects.send.Goals as goal

pub returns-in_err-send_message-clause-began : goal.returns-in_err-send_message-clause-began
returns-in_err-send_message-clause-began g c =
    on_err _ (Began (Some op.Send) c.args.m.now (g.S.Store.stands c.args.s.now) (g.S.Store.actions c.args.s.now) (g.S.Store.actions c.send_message.new.s))
    (λ p class d is. prefix_as _ _ _ _ (search (rules, top_last, below_last)) (c.in_err-send_message.ensures.prefix p class d is))
