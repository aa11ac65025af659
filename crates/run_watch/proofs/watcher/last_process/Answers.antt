use Rattle.std.proofs.Common.{ap, arith, length}
use Rattle.da_lang.specs.declared.program.Program.{Program}
use Rattle.da_core.specs.Compiled.{program_of}
use Rattle.da_types.proofs.sound.AcceptedLaws.{is_sound}
use Rattle.run_watch.proofs.watcher.last_process.Goals as goal

pub overflow_cast-count : goal.overflow_cast-count
overflow_cast-count c = record { fits = omega (arith, c.len-count.ensures, ap (λ (p : Program). length p.procs) c.program.ensures, (is_sound (program_of c.args.compiled.now) c.requires.accepted).few) }

pub returns : goal.returns
returns c = omega (arith, c.len-count.ensures, ap (λ (p : Program). length p.procs) c.program.ensures)
