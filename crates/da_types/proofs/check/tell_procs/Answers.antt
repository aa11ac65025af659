use Rattle.std.specs.Prelude.{slice_get}
use Rattle.da_lang.specs.declared.program.ProcDecl.{ProcDecl}
use Rattle.da_lang.specs.Typing.{call_breaks}
use Rattle.da_types.proofs.TellingLaws.{told_done, told_more}
use Rattle.da_types.proofs.check.tell_procs.Goals as goal

pub loop-process-preserved : goal.loop-process-preserved
loop-process-preserved c =
    told_more (λ (d : ProcDecl). call_breaks c.args.messages.now (slice_get c.args.classes.now d.class) d.setup) c.args.procs.now c.loop-process.process-index c.process-item.result _ _ _
    c.loop-process-test.true c.process-item.is c.loop-process.invariant c.in_ok-tell_call.ensures

pub returns : goal.returns
returns c =
    told_done (λ (d : ProcDecl). call_breaks c.args.messages.now (slice_get c.args.classes.now d.class) d.setup) c.args.procs.now c.loop-process.process-index _ _ c.loop-process-test.false c.loop-process.invariant
