use Rattle.std.proofs.Common.{sym}
use Rattle.da_names.proofs.MainMaps.{put_first_class}
use Rattle.da_names.proofs.main_lines.put_class.Goals as goal

pub returns-in-Ok : goal.returns-in-Ok
returns-in-Ok c = put_first_class c.args.classes.now c.insert.new.self c.args.name.now c.args.class c.in-Ok.ensures.updates (sym c.if-contains_key.ensures)
