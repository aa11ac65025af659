use Rattle.arq_link.proofs.HearLaws.{acknowledges}
use Rattle.arq_link.proofs.endpoint.Endpoint.hear_acknowledgement.Goals as goal

pub returns-clause-is : goal.returns-clause-is
returns-clause-is c = acknowledges c.args.self.now.idle c.args.sender c.args.number _ _ _ _ _ c.acknowledge.new.self c.requires.idle
    c.replace-session.ensures.value c.replace-session.ensures.put c.set.ensures
    c.acknowledge.ensures.peer
