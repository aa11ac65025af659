use Rattle.std.proofs.Common.{◌≡◌, ap, ◌∙◌, length}
use Rattle.da_core.specs.Compiled.{program_of}
use Rattle.da_lang.specs.declared.program.Program.{Program}
use Rattle.da_commands.proofs.LaunchCallLemmas.{finish_no_link, finish_no_words, finish_unread, launch_ran}
use Rattle.da_commands.proofs.launching.answer_program.Goals as goal

pub returns-clause-runs : goal.returns-clause-runs
returns-clause-runs g c = λ text accepts.
    let count : c.len-count.result ≡ length (program_of c.args.compiled.now).procs = c.len-count.ensures ∙ ap (λ (p : Program). length p.procs) c.program.ensures in
    launch_ran (program_of c.args.compiled.now) text c.args.name.now c.args.setting _ c.run_children.result _ _ _ _ accepts count c.run_children.ensures.runs c.run_children.ensures.ends

pub returns-clause-words : goal.returns-clause-words
returns-clause-words g c = finish_no_words c.run_children.result c.run_children.ensures.ends

pub returns-clause-link : goal.returns-clause-link
returns-clause-link g c = finish_no_link c.run_children.result c.run_children.ensures.ends

pub returns-clause-read : goal.returns-clause-read
returns-clause-read g c = finish_unread c.run_children.result c.run_children.ensures.ends
