-- Bytes at the front of a text.
use Rattle.std.proofs.lemmas.List.Folds.{length-prefix_len}
use Rattle.std.proofs.lemmas.List.Sums.{prefix_len-le-length}
use Rattle.da_values.proofs.ScanLemmas.{front-within}

pub ruleset prefixes = (length-prefix_len, prefix_len-le-length)

pub ruleset front_fits = (front-within)
