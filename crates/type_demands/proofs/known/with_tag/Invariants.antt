use Rattle.std.proofs.Common.{◌≡◌, drop}
use Rattle.std.specs.Prelude.{find, bytes_eq}
use Rattle.type_demands.proofs.known.with_tag.Given as goal

abbrev pub invariant-loop-message : goal.invariant-loop-message
invariant-loop-message l = find (λ m. bytes_eq m.tag l.tag) (drop l.message-index l.messages) ≡ find (λ m. bytes_eq m.tag l.tag) l.messages
