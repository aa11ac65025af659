use Rattle.std.proofs.Common.{◌≡◌, ◌+◌, ap, arith, length}
use Rattle.da_lang.specs.declared.program.Program.{Program}
use Rattle.da_core.specs.Compiled.{program_of}
use Rattle.da_front.proofs.WatchLemmas.{accepts_beside, refused_beside}
use Rattle.da_front.proofs.watch.read_watch.Goals as goal

pub returns-in-Err-clause-refused : goal.returns-in-Err-clause-refused
returns-in-Err-clause-refused c = refused_beside c.args.text.now _ _ c.args.count c.in-Err.fault c.in_ok-beside.ensures.beside c.as_slice-other.ensures c.in-Err.ensures.refused

pub returns-clause-read : goal.returns-clause-read
returns-clause-read c =
    let more : length (program_of c.in-Ok.compiled).procs ≡ c.args.count + 1 = omega (arith, c.len-size.ensures, ap (λ (p : Program). length p.procs) c.program.ensures, c.from.ensures) in
    accepts_beside c.args.text.now _ _ c.args.count (program_of c.in-Ok.compiled) c.in_ok-beside.ensures.beside c.as_slice-other.ensures c.in-Ok.ensures.read more
