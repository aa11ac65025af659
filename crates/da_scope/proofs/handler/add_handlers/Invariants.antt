use Rattle.std.proofs.Common.{◌≡◌, ◌++◌, take}
use Rattle.da_lang.specs.Resolution.{handlers}
use Rattle.da_scope.specs.ClassView.{handlers_in}
use Rattle.da_scope.proofs.handler.add_handlers.Given as goal

abbrev pub invariant-loop-member : goal.invariant-loop-member
invariant-loop-member l = record {
  found : l.found ≡ l.initial.found ++ (handlers l.home.class.now (handlers_in (take l.member-index l.member-items)) l.initial.tables).0;
  tables : l.tables ≡ (handlers l.home.class.now (handlers_in (take l.member-index l.member-items)) l.initial.tables).1;
}
