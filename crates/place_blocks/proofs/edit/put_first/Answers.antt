use Rattle.std.specs.Prelude.{◌≡◌, ◌∷◌, ◌++◌, ℕ, List, [], insert, length}
use Rattle.std.proofs.Common.{ap, arith, refl, subst, sym, ◌∙◌}
use Rattle.place_blocks.specs.Blocks.{AreBlocks, in_blocks}
use Rattle.place_blocks.specs.declared.block.Block.{Block}
use Rattle.place_blocks.proofs.EditLaws.{at_err}
use Rattle.place_blocks.proofs.edit.put_first.Goals as goal

module _ (old new : List Block) (block : Block) (place : ℕ) (none : old ≡ []) (is : new ≡ insert old 0 block) (begins : block.before ≡ 0) (places : block.places ≡ place ∷ []) where
  one_block : new ≡ block ∷ []
  one_block = is ∙ ap (λ (blocks : List Block). insert blocks 0 block) none

  one_place : in_blocks new ≡ place ∷ []
  one_place = ap in_blocks one_block ∙ ap (λ zs. zs ++ []) places

  one_is : AreBlocks 0 new
  one_is = subst (AreBlocks 0) (sym one_block) (record { begins = begins; filled = let size = ap length places in omega (arith, size) }, tt)

pub returns-in_err-push-clause-err : goal.returns-in_err-push-clause-err
returns-in_err-push-clause-err c = at_err _ _ c.requires

pub returns-in_err-push-clause-blocks : goal.returns-in_err-push-clause-blocks
returns-in_err-push-clause-blocks c = subst (AreBlocks 0) (sym c.requires) tt

pub returns-in_err-put_block-clause-err : goal.returns-in_err-put_block-clause-err
returns-in_err-put_block-clause-err c = at_err _ _ (c.in_err-put_block.ensures.err ∙ c.requires)

pub returns-in_err-put_block-clause-blocks : goal.returns-in_err-put_block-clause-blocks
returns-in_err-put_block-clause-blocks c = subst (AreBlocks 0) (sym (c.in_err-put_block.ensures.err ∙ c.requires)) tt

pub returns-clause-ok : goal.returns-clause-ok
returns-clause-ok c =
    one_place c.args.blocks.now.items c.put_block.new.blocks.items _ c.args.place c.requires c.in_ok-put_block.ensures.ok refl
    (c.in_ok-push.ensures.ok ∙ ap (λ zs. zs ++ c.args.place ∷ []) c.new-places.ensures)

pub returns-clause-blocks : goal.returns-clause-blocks
returns-clause-blocks c =
    one_is c.args.blocks.now.items c.put_block.new.blocks.items _ c.args.place c.requires c.in_ok-put_block.ensures.ok refl
    (c.in_ok-push.ensures.ok ∙ ap (λ zs. zs ++ c.args.place ∷ []) c.new-places.ensures)
