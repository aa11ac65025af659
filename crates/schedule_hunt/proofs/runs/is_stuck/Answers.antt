use Rattle.std.proofs.Common.{◌∙◌, ap, length, sym}
use Rattle.da_lang.specs.declared.program.Program.{Program}
use Rattle.da_system.specs.State.{program_of}
use Rattle.schedule_hunt.proofs.StuckLaws.{not_stuck, stuck_as}
use Rattle.schedule_hunt.proofs.runs.is_stuck.Goals as goal

pub returns-then-not-has_unended : goal.returns-then-not-has_unended
returns-then-not-has_unended c =
    let same = c.len-count.ensures ∙ ap (λ (program : Program). length program.procs) (c.program.ensures ∙ sym c.requires.program) in
    λ s stands. not_stuck _ _ _ _ c.has_unended.ensures same c.if-not-has_unended.true (program_of c.args.system.now) s

pub returns : goal.returns
returns c =
    let same = c.len-count.ensures ∙ ap (λ (program : Program). length program.procs) (c.program.ensures ∙ sym c.requires.program) in
    stuck_as _ _ _ _ c.has_unended.ensures same c.args.system.now (program_of c.args.system.now) c.is_at_rest.result c.if-not-has_unended.false c.is_at_rest.ensures
