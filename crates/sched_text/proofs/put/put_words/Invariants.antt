use Rattle.std.proofs.Common.{◌≡◌, ◌++◌, take}
use Rattle.std.specs.List.{flat_map}
use Rattle.std.specs.Prelude.{codes}
use Rattle.sched_text.proofs.put.put_words.Given as goal

abbrev pub invariant-loop-number : goal.invariant-loop-number
invariant-loop-number g l = l.out ≡ l.fn.out ++ l.word ++ flat_map (λ n. codes " " ++ g.N.Integer.text n) (take l.number-index l.numbers)
