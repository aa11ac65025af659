use Rattle.std.proofs.Common.{◌≡◌, ◌∙◌, ap, arith, length}
use Rattle.da_lang.specs.declared.program.Program.{Program}
use Rattle.da_types.proofs.sound.AcceptedLaws.{is_sound}
use Rattle.da_core.specs.Compiled.{program_of}
use Rattle.da_system.specs.SystemStep.{start}
use Rattle.da_system.proofs.AcceptedStates.{sound_start}
use Rattle.da_system.proofs.SystemLemmas.{opened_counts}
use Rattle.da_system.proofs.system.System.new.Goals as goal

pub returns-in_err-network-clause-sound : goal.returns-in_err-network-clause-sound
returns-in_err-network-clause-sound c = sound_start (program_of c.args.compiled.now) c.requires.accepted

pub zeros-requires : goal.zeros-requires
zeros-requires c =
    let procs : c.len-count.result ≡ length (program_of c.args.compiled.now).procs = c.len-count.ensures ∙ ap (λ (p : Program). length p.procs) c.program.ensures in
    omega (arith, procs, (is_sound (program_of c.args.compiled.now) c.requires.accepted).few)

pub returns-in_err-counts-clause-sound : goal.returns-in_err-counts-clause-sound
returns-in_err-counts-clause-sound c = sound_start (program_of c.args.compiled.now) c.requires.accepted

pub returns-clause-ready : goal.returns-clause-ready
returns-clause-ready c =
    let procs : c.len-count.result ≡ length (program_of c.args.compiled.now).procs = c.len-count.ensures ∙ ap (λ (p : Program). length p.procs) c.program.ensures in
    λ unspent. (
      start (program_of c.args.compiled.now),
      record {
        runs = c.in_ok-network.ensures.start;
        counts = opened_counts c.in_ok-network.network (program_of c.args.compiled.now) c.len-count.result c.in_ok-counts.counts c.renew_all.new.counts procs c.in_ok-network.ensures.start
            c.in_ok-counts.ensures c.renew_all.ensures;
      },
    )

pub returns-clause-start : goal.returns-clause-start
returns-clause-start c =
    let procs : c.len-count.result ≡ length (program_of c.args.compiled.now).procs = c.len-count.ensures ∙ ap (λ (p : Program). length p.procs) c.program.ensures in
    record {
      runs = c.in_ok-network.ensures.start;
      counts = opened_counts c.in_ok-network.network (program_of c.args.compiled.now) c.len-count.result c.in_ok-counts.counts c.renew_all.new.counts procs c.in_ok-network.ensures.start
          c.in_ok-counts.ensures c.renew_all.ensures;
    }

pub returns-clause-sound : goal.returns-clause-sound
returns-clause-sound c = sound_start (program_of c.args.compiled.now) c.requires.accepted
