use Rattle.std.proofs.Common.{◌≡◌, take}
use Rattle.da_lang.specs.BodyMeaning.{fresh, named_slots, untyped}
use Rattle.da_scope.specs.NamesView.{texts}
use Rattle.da_scope.proofs.slots.declare_names.Given as goal

abbrev pub invariant-loop-name : goal.invariant-loop-name
invariant-loop-name l = record {
  slots : l.slots ≡ fresh l.initial.tables l.name-index;
  scope : l.scope ≡ named_slots (texts (take l.name-index l.names)) l.initial.tables l.initial.scope;
  tables : l.tables ≡ untyped (texts (take l.name-index l.names)) l.initial.tables;
}
