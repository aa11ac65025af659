use Rattle.std.proofs.Common.{refl}
use Rattle.scout_commands.specs.Told.{begun, whole}
use Rattle.scout_commands.proofs.endings.say.Goals as goal

pub returns-in-Ok-clause-said : goal.returns-in-Ok-clause-said
returns-in-Ok-clause-said g c = whole c.requires c.args.bytes.now (record { status_is = refl; bytes_are = refl }) c.in-Ok.ensures.ok

pub returns-in-Err-Failed-clause-said : goal.returns-in-Err-Failed-clause-said
returns-in-Err-Failed-clause-said g c = begun tt c.args.bytes.now (c.args.status, record { status_is = refl; bytes_are = refl }) c.in-Err-Failed.ensures.prefix

pub returns-in-Err-Memory-clause-said : goal.returns-in-Err-Memory-clause-said
returns-in-Err-Memory-clause-said g c = begun tt c.args.bytes.now (c.args.status, record { status_is = refl; bytes_are = refl }) c.in-Err-Memory.ensures.prefix
