use Rattle.std.proofs.Common.{◌<◌, length, rules}
use Rattle.da_core.specs.Compiled.{program_of}
use Rattle.da_front.specs.declared.refusal.RefusedKind.TheVariants.{Me}
use Rattle.da_commands.specs.NodeReplies.{by_number}
use Rattle.da_commands.proofs.NodeLemmas.{served_refused}
use Rattle.da_commands.proofs.noding.answer_program.Goals as goal

pub returns-then-from-len-clause-runs : goal.returns-then-from-len-clause-runs
returns-then-from-len-clause-runs g c = λ text accepts.
    let few : length (program_of c.args.compiled.now).procs < c.args.setting.me = (search rules) in
    served_refused Me 0 text c.args.setting _ _ _ c.refuse.result (by_number (program_of c.args.compiled.now) accepts few) c.refuse.ensures.said
