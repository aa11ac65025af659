use Rattle.std.proofs.Common.{ap, arith, length}
use Rattle.da_lang.specs.declared.program.Program.{Program}
use Rattle.da_core.specs.Compiled.{program_of}
use Rattle.da_types.proofs.sound.AcceptedLaws.{is_sound}
use Rattle.schedule_walk.proofs.RestLaws.{listed_rest, some_choice}
use Rattle.schedule_walk.proofs.resting.is_at_rest.Goals as goal

pub overflow_cast-processes : goal.overflow_cast-processes
overflow_cast-processes c = record { fits = omega (arith, c.len-processes.ensures, ap (λ (p : Program). length p.procs) c.program.ensures, (is_sound (program_of c.args.compiled.now) c.requires.compiled.accepted).few) }

pub returns-then-choices-gt0 : goal.returns-then-choices-gt0
returns-then-choices-gt0 c = λ s stands. some_choice _ s stands.runs.sound _ (c.choices-choices.ensures.number s stands) c.if-choices-gt0.true

pub returns : goal.returns
returns c = λ s stands. listed_rest _ s stands.runs.sound _ _ _ (c.in_ok-events.ensures s stands) c.as_slice.ensures c.none_goes_on.ensures
