use Rattle.std.proofs.Common.{◌≡◌, take}
use Rattle.std.specs.Option.{option_map, option_or}
use Rattle.da_lang.specs.Scopes.{look}
use Rattle.da_meaning.specs.MeaningView.{meaning_of}
use Rattle.da_meaning.specs.SlotScope.{shown}
use Rattle.da_meaning.proofs.scope.look_through.Given as goal

abbrev pub invariant-loop-named : goal.invariant-loop-named
invariant-loop-named l = option_map meaning_of l.found ≡ option_or (look (shown (take l.named-index l.names)) l.name) (option_map meaning_of l.fn.outer)
