use Rattle.std.proofs.Common.{◌≡◌, filter_map, map, take, Some}
use Rattle.da_lang.specs.BodyMeaning.{named_slots, with_slots}
use Rattle.da_lang.specs.ClassParts.{variable_in}
use Rattle.da_scope.proofs.slots.declare_variables.Given as goal

abbrev pub invariant-loop-member : goal.invariant-loop-member
invariant-loop-member l = record {
  scope : l.scope ≡ named_slots (map (λ v. v.name) (filter_map variable_in (take l.member-index l.members))) l.initial.tables l.initial.scope;
  tables : l.tables ≡ with_slots (map (λ v. Some v.ty) (filter_map variable_in (take l.member-index l.members))) l.initial.tables;
}
