use Rattle.std.proofs.Common.{refl}
use Rattle.schedule_walk.specs.Next.{begun, whole}
use Rattle.schedule_walk.proofs.following.say.Goals as goal

pub returns-in-Ok-clause-said : goal.returns-in-Ok-clause-said
returns-in-Ok-clause-said g c = whole c.requires c.args.lines.now (refl, refl) c.in-Ok.ensures.ok

pub returns-in-Err-Failed-clause-said : goal.returns-in-Err-Failed-clause-said
returns-in-Err-Failed-clause-said g c = begun (λ ended. ended) c.args.outcome c.args.lines.now (refl, refl) c.in-Err-Failed.ensures.prefix

pub returns-in-Err-Memory-clause-said : goal.returns-in-Err-Memory-clause-said
returns-in-Err-Memory-clause-said g c = begun (λ ended. ended) c.args.outcome c.args.lines.now (refl, refl) c.in-Err-Memory.ensures.prefix
