use Rattle.std.proofs.Common.{◌≡◌, ◌++◌, replicate}
use Rattle.da_lex.proofs.levels.repeat.Given as goal

abbrev pub invariant-loop : goal.invariant-loop
invariant-loop l = l.tokens ≡ l.fn.tokens ++ replicate l.counter l.token
