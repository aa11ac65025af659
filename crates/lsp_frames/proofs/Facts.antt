-- Digits at the front of a line, the name of a length, and parts of bytes as far as there are so many.
use Rattle.std.specs.Prelude.{◌≡◌, map, refl}
use Rattle.std.specs.Char.{to_ascii_lowercase}
use Rattle.std.proofs.lemmas.List.{drop_min, take_min}
use Rattle.std.proofs.lemmas.List.Folds.{length-prefix_len}
use Rattle.std.proofs.lemmas.List.Sums.{prefix_len-le-length}
use Rattle.lsp_frames.specs.Frames.{length_name}

pub ruleset prefixes = (length-prefix_len, prefix_len-le-length)

-- the name is in small letters
pub name_small : map to_ascii_lowercase length_name ≡ length_name
name_small = refl

pub ruleset parts = (drop_min, take_min)
