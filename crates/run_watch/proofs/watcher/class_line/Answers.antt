use Rattle.std.proofs.Common.{◌∙◌, ap}
use Rattle.da_lang.specs.declared.program.Program.{Program}
use Rattle.da_lang.specs.World.{class_of}
use Rattle.run_watch.specs.Watching.{class_line}
use Rattle.run_watch.proofs.watcher.class_line.Goals as goal

pub returns-in-Some : goal.returns-in-Some
returns-in-Some c = ap class_line (c.in-Some.ensures ∙ ap (λ (p : Program). class_of p c.args.me) c.program.ensures)

pub returns-in-None : goal.returns-in-None
returns-in-None c = ap class_line (c.in-None.ensures ∙ ap (λ (p : Program). class_of p c.args.me) c.program.ensures)
