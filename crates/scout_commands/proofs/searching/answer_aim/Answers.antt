use Rattle.std.proofs.Common.{ap, refl}
use Rattle.da_core.specs.Compiled.{program_of}
use Rattle.scout_commands.specs.Replies.{watch_of_aim}
use Rattle.scout_commands.proofs.ReplyLemmas.{shown_replied, watched_replied}
use Rattle.scout_commands.proofs.searching.answer_aim.Goals as goal

pub returns-in-Shown-clause-replies : goal.returns-in-Shown-clause-replies
returns-in-Shown-clause-replies g c = λ t accepts.
    shown_replied (g.F.Files.told c.args.files.now) t (program_of c.args.compiled.now) c.args.trials accepts c.answer_hunt.result (g.K.Sink.taken c.args.out.now) (g.K.Sink.taken c.answer_hunt.new.out)
    c.args.aim.now _ _ c.in-Shown.is c.answer_hunt.ensures.replies refl

pub returns-in-Watched-clause-replies : goal.returns-in-Watched-clause-replies
returns-in-Watched-clause-replies g c = λ t accepts.
    watched_replied (g.F.Files.told c.args.files.now) t (program_of c.args.compiled.now) c.args.trials accepts c.answer_watched.result (g.K.Sink.taken c.args.out.now) (g.K.Sink.taken c.answer_watched.new.out)
    c.args.aim.now _ c.in-Watched.is c.answer_watched.ensures.replies

pub returns-in-Watched-clause-read : goal.returns-in-Watched-clause-read
returns-in-Watched-clause-read g c = λ failed. (_, ap watch_of_aim c.in-Watched.is, c.answer_watched.ensures.read failed)

pub returns-in-Shown-clause-read : goal.returns-in-Shown-clause-read
returns-in-Shown-clause-read g c = λ failed. absurd (c.answer_hunt.ensures.read failed)
