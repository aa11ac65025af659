use Rattle.std.proofs.Common.{◌≡◌}
use Rattle.added_names.specs.Filled.{message_lines, types_after_tags}
use Rattle.added_names.proofs.FillLaws.{Lining}
use Rattle.added_names.proofs.filled.put_message_lines.Given as goal

abbrev pub invariant-loop-one : goal.invariant-loop-one
invariant-loop-one l = record {
  lining : Lining message_lines types_after_tags l.tags l.initial.rest.types.now l.initial.out l.one-index l.out l.rest.types.now;
  places : l.rest.places.now ≡ l.initial.rest.places.now;
}
