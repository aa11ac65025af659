use Rattle.std.proofs.Common.{sym}
use Rattle.node_run.proofs.HeldLaws.{among_at}
use Rattle.node_run.proofs.holding.is_among.Goals as goal

pub returns-then-packet-sender : goal.returns-then-packet-sender
returns-then-packet-sender c = sym (among_at c.args.packets.now c.args.sender _ _ c.loop-packet-test.true c.packet-item.is c.if-packet-sender.true)
