use Rattle.da_front.specs.Verdict.{overlong}
use Rattle.da_front.proofs.ProgramLemmas.{is_not_cut}
use Rattle.da_front.proofs.program.read_tokens.Goals as goal

pub returns-then-text-gt-PROGRAM_LIMIT-clause-refused : goal.returns-then-text-gt-PROGRAM_LIMIT-clause-refused
returns-then-text-gt-PROGRAM_LIMIT-clause-refused c = overlong c.if-text-gt-PROGRAM_LIMIT.true

pub returns-in-Err-Refused-clause-refused : goal.returns-in-Err-Refused-clause-refused
returns-in-Err-Refused-clause-refused c =
    is_not_cut _ _ c.in-Err-Refused.kind c.in-Err-Refused.line _ _ c.if-text-gt-PROGRAM_LIMIT.false c.in-Err-Refused.ensures.refused c.in-Err-Refused.field-0-is (cc) (cc)
