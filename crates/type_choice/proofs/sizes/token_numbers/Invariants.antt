use Rattle.type_choice.specs.Looks.{few_tokens}
use Rattle.type_choice.proofs.SeenLaws.{SeenTo}
use Rattle.type_choice.proofs.sizes.token_numbers.Given as goal

abbrev pub invariant-loop-number : goal.invariant-loop-number
invariant-loop-number l = SeenTo few_tokens l.forms l.order l.number-index l.tokens
