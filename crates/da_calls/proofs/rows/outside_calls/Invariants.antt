use Rattle.std.proofs.Common.{◌≡◌, take, filter_map}
use Rattle.da_lang.specs.ClassParts.{body_in}
use Rattle.da_calls.specs.CallBodies.{calls_by}
use Rattle.da_calls.specs.CallNames.{number_in}
use Rattle.da_calls.specs.CallRows.{outside_deeds}
use Rattle.da_calls.proofs.rows.outside_calls.Given as goal

abbrev pub invariant-loop-member : goal.invariant-loop-member
invariant-loop-member l = l.calls ≡ calls_by (number_in l.numbers) (outside_deeds (filter_map body_in (take l.member-index l.member-items)))
