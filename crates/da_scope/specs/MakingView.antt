-- How many processes lines of `main` make.
use Rattle.std.specs.Prelude.{ℕ, List, map, sum}
use Rattle.da_lang.specs.declared.tree.MainLine.{MainLine}
use Rattle.da_lang.specs.Resolution.{made_count}

abbrev pub made_by : List MainLine → ℕ
made_by lines = sum (map made_count lines)
