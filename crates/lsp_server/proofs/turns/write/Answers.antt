use Rattle.std.proofs.Common.{refl}
use Rattle.lsp_server.specs.declared.status.Status.TheVariants.{Memory, WriteFault}
use Rattle.lsp_server.specs.Turns.{begun, whole}
use Rattle.lsp_server.proofs.turns.write.Goals as goal

pub returns-in-Ok-clause-replied : goal.returns-in-Ok-clause-replied
returns-in-Ok-clause-replied g c = whole c.args.bytes.now refl c.in-Ok.ensures.ok

pub returns-in-Err-Failed-clause-replied : goal.returns-in-Err-Failed-clause-replied
returns-in-Err-Failed-clause-replied g c = begun WriteFault c.args.bytes.now tt refl c.in-Err-Failed.ensures.prefix

pub returns-in-Err-Memory-clause-replied : goal.returns-in-Err-Memory-clause-replied
returns-in-Err-Memory-clause-replied g c = begun Memory c.args.bytes.now tt refl c.in-Err-Memory.ensures.prefix
