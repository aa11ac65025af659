-- Sums over lists that a loop goes through.
use Rattle.std.proofs.lemmas.List.Sums.{sum_by_more}
use Rattle.quant_norm.proofs.AsksAt.{part_asks-is, signed_asks-is}

pub ruleset summing = (sum_by_more, part_asks-is, signed_asks-is)
