use Rattle.std.proofs.Common.{◌≡◌, take, ℕ, List, flat_map}
use Rattle.added_names.specs.Changes.{declares}
use Rattle.added_names.specs.Firsts.{is_seen, knows}
use Rattle.added_names.proofs.firsts.written_variables.Given as goal

abbrev pub invariant-loop-member : goal.invariant-loop-member
invariant-loop-member l = (q : List ℕ) → is_seen l.seen q ≡ knows (flat_map declares (take l.member-index l.members)) q
