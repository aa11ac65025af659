use Rattle.std.proofs.Common.{◌≡◌, ◌+◌, ◌≤◌, drop}
use Rattle.std.specs.List.{count_by}
use Rattle.da_limits.specs.Capped.{capped}
use Rattle.da_limits.specs.ClassMembers.{is_variable}
use Rattle.da_limits.proofs.classes.variable_count.Given as goal

abbrev pub invariant-loop-member : goal.invariant-loop-member
invariant-loop-member l = record {
  counted : capped (l.count + count_by is_variable (drop l.member-index l.members)) ≡ capped (count_by is_variable l.members);
  fits : l.count ≤ 65535;
}
