use Rattle.std.proofs.Common.{◌≡◌, ◌+◌, ◌≤◌, drop, map}
use Rattle.type_choice.specs.Looks.{cut_tokens, number_at, total}
use Rattle.type_choice.proofs.sizes.total_tokens.Given as goal

abbrev pub invariant-loop-part : goal.invariant-loop-part
invariant-loop-part l =
    (cut_tokens (l.count + total (map (number_at l.tokens) (drop l.part-index l.parts))) ≡ cut_tokens (total (map (number_at l.tokens) l.parts))) × (l.count ≤ 1025)
