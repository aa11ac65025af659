use Rattle.std.proofs.Common.{◌≡◌, take, ℕ, List, map}
use Rattle.added_names.specs.Firsts.{is_seen, knows}
use Rattle.added_names.proofs.firsts.written_tags.Given as goal

abbrev pub invariant-loop-message : goal.invariant-loop-message
invariant-loop-message l = (q : List ℕ) → is_seen l.seen q ≡ knows (map (λ m. m.tag) (take l.message-index l.messages)) q
