use Rattle.std.proofs.Common.{◌≡◌, map, drop}
use Rattle.da_lang.specs.Types.{all_same, same_type}
use Rattle.da_typing.proofs.types.+same.Given as goal

abbrev pub invariant-same_types-loop-x : goal.invariant-same_types-loop-x
invariant-same_types-loop-x l = all_same (map same_type (drop l.x-index l.first)) l.rest ≡ all_same (map same_type l.first) l.second
