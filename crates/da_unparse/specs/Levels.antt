-- How tightly each level of expressions holds together.
use Rattle.std.specs.Prelude.{ℕ}
use Rattle.da_unparse.specs.declared.levels.Level.{Level}
use Rattle.da_unparse.specs.declared.levels.Level.TheVariants as level
use Rattle.da_unparse.specs.Expressions.{quantified, either, both, negation, comparison, sum, product, signed}

abbrev pub rank : Level → ℕ
rank level.Quantified = quantified
rank level.Either = either
rank level.Both = both
rank level.Negation = negation
rank level.Comparison = comparison
rank level.Sum = sum
rank level.Product = product
rank level.Signed = signed
