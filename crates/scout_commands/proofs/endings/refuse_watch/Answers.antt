use Rattle.std.proofs.Common.{◌∙◌, subst}
use Rattle.scout_commands.specs.declared.status.Status.TheVariants.{WatchRefused}
use Rattle.scout_commands.specs.Told.{HasSaid}
use Rattle.scout_commands.proofs.endings.refuse_watch.Goals as goal

pub returns-clause-said : goal.returns-clause-said
returns-clause-said g c =
    subst (λ bytes. HasSaid (WatchRefused c.args.kind c.args.line) bytes c.say.result (g.K.Sink.taken c.args.out.now) (g.K.Sink.taken c.say.new.out)) (c.as_slice.ensures ∙ c.in-Ok.ensures) c.say.ensures.said
