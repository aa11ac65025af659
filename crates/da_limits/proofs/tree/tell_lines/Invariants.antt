use Rattle.std.proofs.Common.{◌≡◌, take, flat_map}
use Rattle.da_lang.specs.declared.refusal.LimitKind.TheVariants as limit
use Rattle.da_limits.proofs.LimitTreeAt.{line_of_class}
use Rattle.da_limits.specs.LimitLines.{told_at}
use Rattle.da_limits.proofs.tree.tell_lines.Given as goal

abbrev pub invariant-loop-class : goal.invariant-loop-class
invariant-loop-class l = l.least ≡ told_at limit.Classes l.initial.least (flat_map line_of_class (take l.class-index l.classes))
