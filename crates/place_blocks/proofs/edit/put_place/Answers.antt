use Rattle.std.specs.Prelude.{◌≡◌, ◌<◌, ◌∷◌, ℕ, zero, suc, List, [], insert}
use Rattle.std.proofs.Common.{ap, arith, refl, sym, ◌∙◌}
use Rattle.std.proofs.lemmas.List.{nil_from_length}
use Rattle.std.proofs.lemmas.Result.{on_err_weaker, on_ok_weaker}
use Rattle.place_blocks.specs.Blocks.{in_blocks}
use Rattle.place_blocks.specs.declared.block.Block.{Block}
use Rattle.place_blocks.proofs.edit.put_place.Goals as goal

above_none : (n : ℕ) → (n ≡ 0 → ⊥) → 0 < n
above_none zero some = absurd (some refl)
above_none (suc n) some = omega arith

-- with no blocks there is one place alone
first_put : (old new : List Block) (at place : ℕ) → old ≡ [] → in_blocks new ≡ place ∷ [] → in_blocks new ≡ insert (in_blocks old) at place
first_put old new at place none is = is ∙ one at ∙ ap (λ (blocks : List Block). insert (in_blocks blocks) at place) (sym none)
  where
    one : (at : ℕ) → place ∷ [] ≡ insert [] at place
    one zero = refl
    one (suc at) = refl

none_put : (old new : List Block) → old ≡ [] → new ≡ [] → in_blocks new ≡ in_blocks old
none_put old new none is = ap in_blocks (is ∙ sym none)

pub put_first-requires : goal.put_first-requires
put_first-requires c = nil_from_length c.args.blocks.now.items (omega (arith, c.if-len-eq0.true, c.len.ensures, c.args.blocks.now.ok.0))

pub put_among-requires-clause-some : goal.put_among-requires-clause-some
put_among-requires-clause-some c =
    let some : 0 < c.len.result = above_none c.len.result c.if-len-eq0.false in
    omega (arith, some, c.len.ensures, c.args.blocks.now.ok.0)

pub returns-then-len-eq0-clause-ok : goal.returns-then-len-eq0-clause-ok
returns-then-len-eq0-clause-ok c =
    on_ok_weaker c.put_first.result (first_put c.args.blocks.now.items c.put_first.new.blocks.items c.args.at c.args.place
    (nil_from_length c.args.blocks.now.items (omega (arith, c.if-len-eq0.true, c.len.ensures, c.args.blocks.now.ok.0)))) c.put_first.ensures.ok

pub returns-then-len-eq0-clause-err : goal.returns-then-len-eq0-clause-err
returns-then-len-eq0-clause-err c =
    on_err_weaker c.put_first.result (none_put c.args.blocks.now.items c.put_first.new.blocks.items
    (nil_from_length c.args.blocks.now.items (omega (arith, c.if-len-eq0.true, c.len.ensures, c.args.blocks.now.ok.0)))) c.put_first.ensures.err
