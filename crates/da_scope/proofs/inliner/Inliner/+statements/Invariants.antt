use Rattle.std.proofs.Common.{◌≡◌, map, take}
use Rattle.da_lang.specs.declared.tree.Branch.{Branch}
use Rattle.da_lang.specs.BodyMeaning.{Guarded, body_with, copies, each, guarding}
use Rattle.da_scope.proofs.StatementsAt.{Came}
use Rattle.da_scope.proofs.inliner.Inliner.+statements.Given as goal

abbrev pub invariant-block-loop-stmt : goal.invariant-block-loop-stmt
invariant-block-loop-stmt g l = record {
  items : l.items ≡ (body_with (copies l.self.most l.self.home.now.class.now) (take l.stmt-index l.stmts) l.scope l.initial.tables).0;
  came : Came (copies l.self.most l.self.home.now.class.now) (take l.stmt-index l.stmts) l.scope l.initial.tables l.label l.inner l.tables;
}

abbrev pub invariant-branches-loop-branch : goal.invariant-branches-loop-branch
invariant-branches-loop-branch g l = record {
  found : l.found ≡ (each (map (λ (b : Guarded). b.branch) (map (guarding (copies l.self.most l.self.home.now.class.now)) (take l.branch-index l.branches))) l.scope l.initial.tables).0;
  tables : l.tables ≡ (each (map (λ (b : Guarded). b.branch) (map (guarding (copies l.self.most l.self.home.now.class.now)) (take l.branch-index l.branches))) l.scope l.initial.tables).1;
}

abbrev pub invariant-alternatives-loop-alt : goal.invariant-alternatives-loop-alt
invariant-alternatives-loop-alt g l = record {
  found : l.found ≡ (each (map (λ (b : Guarded). b.alt) (map (guarding (copies l.self.most l.self.home.now.class.now)) (take l.alt-index l.alts))) l.scope l.initial.tables).0;
  tables : l.tables ≡ (each (map (λ (b : Guarded). b.alt) (map (guarding (copies l.self.most l.self.home.now.class.now)) (take l.alt-index l.alts))) l.scope l.initial.tables).1;
}
