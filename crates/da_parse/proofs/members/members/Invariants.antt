use Rattle.std.proofs.Common.{◌≡◌, ◌-◌}
use Rattle.da_phrases.specs.Lists.{ended_from}
use Rattle.da_parse.specs.Members.{parts_at, member, members}
use Rattle.da_parse.proofs.members.members.Given as goal

abbrev pub invariant-loop-turn : goal.invariant-loop-turn
invariant-loop-turn l = members (parts_at l.loose l.depth) l.fn.tokens ≡ ended_from (member (parts_at l.loose l.depth)) (l._turn-end - l._turn) l.found l.tokens
