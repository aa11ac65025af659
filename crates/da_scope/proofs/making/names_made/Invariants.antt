use Rattle.std.proofs.Common.{◌≡◌, ◌≤◌, ◌++◌, length}
use Rattle.da_lang.specs.Resolution.{made}
use Rattle.da_scope.specs.MakingView.{made_by}
use Rattle.da_scope.proofs.making.names_made.Given as goal

abbrev pub invariant-loop-line : goal.invariant-loop-line
invariant-loop-line l = record {
  scope : made 0 l.lines ≡ made 0 l.rest ++ l.scope;
  before : l.before ≡ made_by l.rest;
  few : made_by l.rest ≤ 64;
}

abbrev pub decreases-loop-line : goal.decreases-loop-line
decreases-loop-line l = length l.rest
