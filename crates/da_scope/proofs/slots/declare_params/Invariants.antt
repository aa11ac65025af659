use Rattle.std.proofs.Common.{◌≡◌, take}
use Rattle.da_lang.specs.BodyMeaning.{fresh, param_slots, with_params}
use Rattle.da_scope.proofs.slots.declare_params.Given as goal

abbrev pub invariant-loop-param : goal.invariant-loop-param
invariant-loop-param l = record {
  slots : l.slots ≡ fresh l.initial.tables l.param-index;
  scope : l.scope ≡ param_slots (take l.param-index l.params) l.initial.tables l.initial.scope;
  tables : l.tables ≡ with_params (take l.param-index l.params) l.initial.tables;
}
