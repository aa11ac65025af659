use Rattle.std.proofs.Common.{Option, Some, subst, sym, arith}
use Rattle.std.proofs.lemmas.Option.{slice_get_within, slice_get_past}
use Rattle.da_machine.specs.declared.machine.Stop.{Stop}
use Rattle.da_machine.specs.RunsTo.{Acted}
use Rattle.da_machine.proofs.Prefixes.{on_err}
use Rattle.da_machine.proofs.Measure.{goes_less}
use Rattle.da_machine.proofs.Running.{may_act, running_on, run_ends, run_breaks, run_past}
use Rattle.da_machine.proofs.run.run_machine.Goals as goal

pub act-requires-clause-room : goal.act-requires-clause-room
act-requires-clause-room g c = omega arith

pub act-requires-clause-allowed : goal.act-requires-clause-allowed
act-requires-clause-allowed g c = may_act _ _ _ _ _ _ _ c.instrs.invariant _ (sym c.in-Some.ensures.value)

pub instrs-smaller : goal.instrs-smaller
instrs-smaller g c =
    let a = c.instrs.invariant.alive in
    let acted = subst (λ (answer : Option Stop). Acted (Some c.in-Some.instr.now) c.instrs.m c.act.new.m (g.S.Store.stands c.instrs.s) (g.S.Store.stands c.act.new.s) (g.S.Store.actions c.instrs.s) (g.S.Store.actions c.act.new.s) answer) c.in-None-stop.is c.in_ok-stop-in-Some.ensures.acted in
    goes_less _ a.1.queries c.instrs.m a.2 c.in-Some.instr.now c.act.new.m _ _ _ c.requires.forward (sym c.in-Some.ensures.value) (slice_get_within _ _ _ (sym c.in-Some.ensures.value)) (acted a.0 a.1 a.2 a.3)

pub instrs-preserved : goal.instrs-preserved
instrs-preserved g c =
    running_on _ _ _ _ _ _ _ c.instrs.invariant _ (sym c.in-Some.ensures.value) _ _ _
    (subst (λ (answer : Option Stop). Acted (Some c.in-Some.instr.now) c.instrs.m c.act.new.m (g.S.Store.stands c.instrs.s) (g.S.Store.stands c.act.new.s) (g.S.Store.actions c.instrs.s) (g.S.Store.actions c.act.new.s) answer) c.in-None-stop.is c.in_ok-stop-in-Some.ensures.acted)

pub returns-in-Some-stop-clause-runs : goal.returns-in-Some-stop-clause-runs
returns-in-Some-stop-clause-runs g c =
    run_ends _ _ _ _ _ _ _ c.instrs.invariant _ (sym c.in-Some.ensures.value) _ _ _ _
    (subst (λ (answer : Option Stop). Acted (Some c.in-Some.instr.now) c.instrs.m c.act.new.m (g.S.Store.stands c.instrs.s) (g.S.Store.stands c.act.new.s) (g.S.Store.actions c.instrs.s) (g.S.Store.actions c.act.new.s) answer) c.in-Some-stop.is c.in_ok-stop-in-Some.ensures.acted)

pub returns-clause-runs : goal.returns-clause-runs
returns-clause-runs g c = run_past _ _ _ _ _ _ _ c.instrs.invariant (slice_get_past c.args.code.now.instrs c.instrs.m.place (omega arith))

pub returns-in_err-stop-in-Some-clause-part : goal.returns-in_err-stop-in-Some-clause-part
returns-in_err-stop-in-Some-clause-part g c =
    on_err _ _ (run_breaks _ _ _ _ _ _ _ c.instrs.invariant _ (sym c.in-Some.ensures.value) _ c.in_err-stop-in-Some.ensures.began)
