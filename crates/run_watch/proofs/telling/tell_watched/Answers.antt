use Rattle.std.proofs.Common.{◌∙◌, subst, sym}
use Rattle.da_core.specs.Compiled.{program_of}
use Rattle.da_outside.proofs.OutsideLemmas.{prefix_none}
use Rattle.da_outside.specs.Outside.{Appends, AppendsPrefix}
use Rattle.da_system.specs.SourceRun.{src_run}
use Rattle.replay_run.specs.Replay.{HasEnded}
use Rattle.run_watch.proofs.TellLemmas.{ended_at}
use Rattle.run_watch.proofs.telling.tell_watched.Goals as goal

pub say-requires : goal.say-requires
say-requires g c = subst HasEnded (sym c.in-Ok.ensures.outcome_is) (ended_at (src_run (program_of c.args.compiled.now) c.args.events.now).stop)

pub returns-in-Ok-clause-told : goal.returns-in-Ok-clause-told
returns-in-Ok-clause-told g c = λ ended. subst (Appends (g.K.Sink.taken c.args.sink.now) (g.K.Sink.taken c.say.new.sink)) (c.as_slice.ensures ∙ c.in-Ok.ensures.text) (c.say.ensures.said ended)

pub returns-in-Ok-clause-stops : goal.returns-in-Ok-clause-stops
returns-in-Ok-clause-stops g c = λ ended. c.say.ensures.same ended ∙ c.in-Ok.ensures.outcome_is

pub returns-in-Ok-clause-prefix : goal.returns-in-Ok-clause-prefix
returns-in-Ok-clause-prefix g c = subst (AppendsPrefix (g.K.Sink.taken c.args.sink.now) (g.K.Sink.taken c.say.new.sink)) (c.as_slice.ensures ∙ c.in-Ok.ensures.text) c.say.ensures.prefix

pub returns-in-Err-clause-prefix : goal.returns-in-Err-clause-prefix
returns-in-Err-clause-prefix g c = prefix_none _ _
