use Rattle.da_lang.specs.World.{at_number}
use Rattle.da_system.specs.Channels.{channel}
use Rattle.std.proofs.lemmas.Result.{on_ok_weaker}
use Rattle.run_page.proofs.FlightLemmas.{put_none, put_one}
use Rattle.run_page.proofs.cells.put_numbered.Goals as goal

pub returns-in-Some : goal.returns-in-Some
returns-in-Some c =
    on_ok_weaker c.put_message.result (λ told s stands. put_one (at_number (channel s.channels c.args.q c.args.p) c.args.i) _ c.args.out.now c.put_message.new.out (c.in-Some.ensures s stands) told) c.put_message.ensures

pub returns-in-None : goal.returns-in-None
returns-in-None c = λ s stands. put_none (at_number (channel s.channels c.args.q c.args.p) c.args.i) c.args.out.now (c.in-None.ensures s stands)
