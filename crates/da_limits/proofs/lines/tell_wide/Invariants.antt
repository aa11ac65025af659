use Rattle.std.proofs.Common.{◌≡◌, take, flat_map}
use Rattle.da_lang.specs.declared.refusal.LimitKind.TheVariants as limit
use Rattle.da_limits.specs.LimitLines.{told_at}
use Rattle.da_limits.proofs.LimitLinesAt.{wide_line}
use Rattle.da_limits.proofs.lines.tell_wide.Given as goal

abbrev pub invariant-loop-size : goal.invariant-loop-size
invariant-loop-size l = l.least ≡ told_at limit.Parts l.initial.least (flat_map wide_line (take l.size-index l.sizes))
