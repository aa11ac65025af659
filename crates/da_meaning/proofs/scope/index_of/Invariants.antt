use Rattle.std.proofs.Common.{◌≡◌, ℕ, List, take}
use Rattle.da_lang.specs.Scopes.{look}
use Rattle.da_meaning.specs.ScopeIndex.{meaning_in}
use Rattle.da_meaning.specs.SlotScope.{shown}
use Rattle.da_meaning.proofs.scope.index_of.Given as goal

abbrev pub invariant-loop-named : goal.invariant-loop-named
invariant-loop-named l = (q : List ℕ) → meaning_in l.index q ≡ look (shown (take l.named-index l.names)) q
