use Rattle.std.proofs.Common.{◌≡◌, ◌-◌, ◌≤◌, ◌++◌, length, replicate, reverse}
use Rattle.da_values.specs.Tokens.{popped}
use Rattle.da_lex.proofs.levels.close.Given as goal

abbrev pub invariant-loop-dedent : goal.invariant-loop-dedent
invariant-loop-dedent l = record {
  levels : popped l.level (reverse l.levels) ≡ popped l.level (reverse l.fn.levels);
  fewer : length l.levels ≤ length l.fn.levels;
  tokens : l.tokens ≡ l.fn.tokens ++ replicate (length l.fn.levels - length l.levels) l.dedent;
}

abbrev pub decreases-loop-dedent : goal.decreases-loop-dedent
decreases-loop-dedent l = length l.levels
