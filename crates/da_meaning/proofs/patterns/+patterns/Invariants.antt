use Rattle.std.proofs.Common.{◌≡◌, flat_map, map, take}
use Rattle.da_lang.specs.ExprMeaning.{matching, patterns_in, with_row}
use Rattle.da_meaning.proofs.patterns.+patterns.Given as goal

abbrev pub invariant-patterns-loop-p : goal.invariant-patterns-loop-p
invariant-patterns-loop-p l = record {
  found : l.found ≡ patterns_in (map matching (take l.p-index l.ps)) l.initial.scope;
  scope : l.scope ≡ with_row (flat_map (λ m. m.binds) (map matching (take l.p-index l.ps))) l.initial.scope;
}
