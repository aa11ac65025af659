use Rattle.std.proofs.Common.{ap, arith, length}
use Rattle.da_lang.specs.declared.program.Program.{Program}
use Rattle.da_core.specs.Compiled.{program_of}
use Rattle.da_system.specs.State.{program_of as system_program}
use Rattle.da_types.proofs.sound.AcceptedLaws.{is_sound}
use Rattle.schedule_walk.proofs.NextLemmas.{listed_as}
use Rattle.schedule_walk.proofs.following.list_allowed.Goals as goal

pub overflow_cast-processes : goal.overflow_cast-processes
overflow_cast-processes c = record { fits = omega (arith, c.len-processes.ensures, ap (λ (p : Program). length p.procs) c.program.ensures, (is_sound (program_of c.args.compiled.now) c.requires.compiled.accepted).few) }

pub returns : goal.returns
returns c = listed_as c.args.system.now (system_program c.args.system.now) _ _ c.answer_with.result c.in_ok-list.ensures c.as_slice-listed.ensures c.answer_with.ensures
