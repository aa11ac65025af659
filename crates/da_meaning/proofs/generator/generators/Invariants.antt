use Rattle.std.proofs.Common.{◌≡◌, map, take}
use Rattle.da_lang.specs.ExprMeaning.{scope_after_gens, generator, gens_in}
use Rattle.da_meaning.proofs.generator.generators.Given as goal

abbrev pub invariant-loop-g : goal.invariant-loop-g
invariant-loop-g l = record {
  found : l.found ≡ gens_in (map generator (take l.g-index l.gens)) l.initial.scope;
  scope : l.scope ≡ scope_after_gens (map generator (take l.g-index l.gens)) l.initial.scope;
}
