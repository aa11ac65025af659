-- What is written in expressions, as far as limits ask for it, in numbers up to 65,535.
use Rattle.std.specs.Prelude.{ℕ, ◌+◌, max, true, false, if◌then◌else◌, map}
use Rattle.da_lang.specs.Written.{Writing, greatest}
use Rattle.da_limits.specs.Capped.{capped}
use Rattle.da_limits.specs.declared.written.Written.{Written}

-- the most generators and the most variables of a largest query, all of them, and the widest tuple
unfoldable pub seen : Writing → Written
seen w = record {
  largest = record { gens = capped (greatest (map (λ s. s.gens) w.queries)); variables = capped (greatest (map (λ s. s.variables) w.queries)) };
  all = record { gens = capped w.size.gens; variables = capped w.size.variables };
  widest = capped w.widest;
  name = w.name;
}

unfoldable pub counted : ℕ → ℕ → Written
counted gens variables = record { largest = record { gens = 0; variables = 0 }; all = record { gens = gens; variables = variables }; widest = 0; name = false }

unfoldable pub nothing : Written
nothing = record { largest = record { gens = 0; variables = 0 }; all = record { gens = 0; variables = 0 }; widest = 0; name = false }

-- two parts of an expression
unfoldable pub beside : Written → Written → Written
beside x y = record {
  largest = record { gens = max x.largest.gens y.largest.gens; variables = max x.largest.variables y.largest.variables };
  all = record { gens = capped (x.all.gens + y.all.gens); variables = capped (x.all.variables + y.all.variables) };
  widest = max x.widest y.widest;
  name = false;
}

-- what is a query as a whole, and what is a tuple of so many parts
unfoldable pub as_query : Written → Written
as_query x = record { largest = x.all; all = x.all; widest = x.widest; name = false }

unfoldable pub as_tuple : ℕ → Written → Written
as_tuple parts x = record x { widest = max parts x.widest }

-- a name and no more
unfoldable pub named : Written → Written
named x = record x { name = true }

-- the argument of an aggregate
unfoldable pub ranged : Written → Written
ranged x = if x.name then counted 1 1 else x
