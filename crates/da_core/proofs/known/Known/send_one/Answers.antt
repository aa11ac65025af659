use Rattle.std.proofs.Common.{subst}
use Rattle.da_values.specs.Value.{val_of}
use Rattle.da_lang.specs.Turns.{later, sent_at}
use Rattle.da_core.specs.Known.{Knows}
use Rattle.da_core.proofs.known.Known.send_one.Goals as goal

pub returns-clause-known : goal.returns-clause-known
returns-clause-known c = λ p class d knows.
    subst (λ m. Knows c.send_value.new.self p class (sent_at (val_of m) c.args.to (later d.clock) d)) c.in_ok-message.ensures (c.in_ok-send_value.ensures.known p class d knows)
