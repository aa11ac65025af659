use Rattle.std.proofs.Common.{◌≡◌, ap, ◌∙◌, length}
use Rattle.da_core.specs.Compiled.{program_of}
use Rattle.da_lang.specs.declared.program.Program.{Program}
use Rattle.da_commands.proofs.NodeLemmas.{binds_none, binds_then, bound_packets, carries_binding, carries_failed, served_bound, served_unbound}
use Rattle.da_commands.proofs.noding.run_over.Goals as goal

pub returns-in-Ok-clause-runs : goal.returns-in-Ok-clause-runs
returns-in-Ok-clause-runs g c = λ text accepts.
    let count : c.len-count.result ≡ length (program_of c.args.compiled.now).procs = c.len-count.ensures ∙ ap (λ (p : Program). length p.procs) c.program.ensures in
    served_bound (program_of c.args.compiled.now) text c.args.setting (record { accepts = accepts; there = c.requires.there }) _ _ _ _ _ _ c.run_bound.result count c.in-Ok.ensures.adds c.run_bound.ensures.runs

pub returns-in-Err-Failed-clause-runs : goal.returns-in-Err-Failed-clause-runs
returns-in-Err-Failed-clause-runs g c = λ text accepts.
    served_unbound (program_of c.args.compiled.now) text c.args.setting (record { accepts = accepts; there = c.requires.there }) _ _ _ c.in-Err-Failed.ensures.same

pub returns-in-Ok-clause-packets : goal.returns-in-Ok-clause-packets
returns-in-Ok-clause-packets g c = bound_packets _ _ _ _ _ _ _ c.in-Ok.ensures.adds c.run_bound.ensures.packets

pub returns-in-Ok-clause-binds : goal.returns-in-Ok-clause-binds
returns-in-Ok-clause-binds g c =
    let count : c.len-count.result ≡ length (program_of c.args.compiled.now).procs = c.len-count.ensures ∙ ap (λ (p : Program). length p.procs) c.program.ensures in
    binds_then (program_of c.args.compiled.now) c.args.setting _ count _ _ _ c.in-Ok.ensures.adds c.run_bound.ensures.binds

pub returns-in-Ok-clause-carries : goal.returns-in-Ok-clause-carries
returns-in-Ok-clause-carries g c =
    let count : c.len-count.result ≡ length (program_of c.args.compiled.now).procs = c.len-count.ensures ∙ ap (λ (p : Program). length p.procs) c.program.ensures in
    carries_binding (program_of c.args.compiled.now) c.args.setting _ count _ _ _ c.in-Ok.ensures.carries c.run_bound.ensures.carries

pub returns-in-Err-Failed-clause-binds : goal.returns-in-Err-Failed-clause-binds
returns-in-Err-Failed-clause-binds g c = binds_none (program_of c.args.compiled.now) c.args.setting _ _ c.in-Err-Failed.ensures.same

pub returns-in-Err-Memory-clause-binds : goal.returns-in-Err-Memory-clause-binds
returns-in-Err-Memory-clause-binds g c = binds_none (program_of c.args.compiled.now) c.args.setting _ _ c.in-Err-Memory.ensures.same

pub returns-in-Err-Failed-clause-carries : goal.returns-in-Err-Failed-clause-carries
returns-in-Err-Failed-clause-carries g c =
    let count : c.len-count.result ≡ length (program_of c.args.compiled.now).procs = c.len-count.ensures ∙ ap (λ (p : Program). length p.procs) c.program.ensures in
    carries_failed (program_of c.args.compiled.now) c.args.setting _ count _ _ c.in-Err-Failed.ensures.carries

pub returns-in-Err-Memory-clause-carries : goal.returns-in-Err-Memory-clause-carries
returns-in-Err-Memory-clause-carries g c =
    let count : c.len-count.result ≡ length (program_of c.args.compiled.now).procs = c.len-count.ensures ∙ ap (λ (p : Program). length p.procs) c.program.ensures in
    carries_failed (program_of c.args.compiled.now) c.args.setting _ count _ _ c.in-Err-Memory.ensures.carries
