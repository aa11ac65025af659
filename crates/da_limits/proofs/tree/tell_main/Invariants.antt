use Rattle.std.proofs.Common.{◌≡◌, take, flat_map}
use Rattle.da_lang.specs.declared.refusal.LimitKind.TheVariants as limit
use Rattle.da_lang.specs.Limits.{parts_in_main}
use Rattle.da_limits.specs.LimitLines.{told_at}
use Rattle.da_limits.proofs.tree.tell_main.Given as goal

abbrev pub invariant-loop-line : goal.invariant-loop-line
invariant-loop-line l = l.least ≡ told_at limit.Parts l.initial.least (flat_map parts_in_main (take l.line-index l.main))
