use Rattle.std.proofs.Common.{map, take}
use Rattle.da_lang.specs.declared.program.ItemKind.TheViews.{out-Alt}
use Rattle.code_gen.specs.Made.{Awaiting, MadeBlock, MadeBranches}
use Rattle.code_gen.proofs.items.+items.Given as goal

abbrev pub invariant-emit_block-statements : goal.invariant-emit_block-statements
invariant-emit_block-statements l = MadeBlock l.initial.code l.code (take l.item-index l.items)

abbrev pub invariant-emit_branches-parts : goal.invariant-emit_branches-parts
invariant-emit_branches-parts l = MadeBranches l.initial.code l.code (take l.branch-index l.branches) l.leaves

abbrev pub invariant-emit_alts-bodies : goal.invariant-emit_alts-bodies
invariant-emit_alts-bodies l = Awaiting l.fn.code l.code (map (λ a. (out-Alt a).body) (take l.alt-index l.alts)) l.begun
