use Rattle.std.proofs.Common.{◌-◌, ◌∙◌, ap, drop, length, subst}
use Rattle.std.specs.List.{AllByRecursion}
use Rattle.std.proofs.lemmas.List.{length-drop}
use Rattle.da_system.specs.Counts.{CountsSent}
use Rattle.da_system.specs.Network.{program_of}
use Rattle.da_system.proofs.QueueLaws.{take_whole}
use Rattle.da_system.proofs.RenewLaws.{event_kept, keeps_then}
use Rattle.da_system.proofs.renewal.follow.Goals as goal

pub returns-clause-keeps : goal.returns-clause-keeps
returns-clause-keeps c = λ s stands.
    keeps_then (program_of c.args.network.now) s c.renew_event.new.counts c.renew_sent.new.counts (c.renew_sent.ensures.keeps s stands) c.args.counts.now (c.renew_event.ensures.keeps s stands)

pub returns-clause-made : goal.returns-clause-made
returns-clause-made c = λ s stands sizes.
    let program = program_of c.args.network.now in
    let sent = drop c.args.told c.as_slice.result.now in
    let some = length c.as_slice.result.now - c.args.told in
    record {
      event = event_kept program s c.renew_event.new.counts c.renew_sent.new.counts (c.renew_sent.ensures.keeps s stands) c.args.e.now (c.renew_event.ensures.made s stands sizes);
      sent = subst (AllByRecursion (CountsSent program s c.renew_sent.new.counts))
          (take_whole sent some (length-drop c.args.told c.as_slice.result.now) ∙ ap (drop c.args.told) c.as_slice.ensures)
          (c.renew_sent.ensures.made s stands ((c.renew_event.ensures.keeps s stands).sizes (length s.worlds) sizes));
    }
