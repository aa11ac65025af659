use Rattle.type_demands.proofs.TermsAgree.{message_agrees, pattern_agrees}
use Rattle.type_demands.proofs.laws.patterns_agree.Goals as goal

pub returns-clause-over : goal.returns-clause-over
returns-clause-over c = pattern_agrees

pub returns-clause-messages : goal.returns-clause-messages
returns-clause-messages c = message_agrees
