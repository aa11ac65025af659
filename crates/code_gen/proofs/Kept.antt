-- Code goes on standing for what it stood for, where nothing changes but holes.
use Rattle.std.proofs.Common.{◌≡◌, ℕ, Bool, true, false, List, [], ◌∷◌, Some, refl, ◌∙◌}
use Rattle.std.specs.Prelude.{slice_get}
use Rattle.std.proofs.lemmas.Option.{slice_get_within}
use Rattle.da_lang.specs.declared.code.Instr.{Instr}
use Rattle.da_lang.specs.declared.code.Instr.TheVariants as op
use Rattle.da_lang.specs.declared.program.Alt.{Alt}
use Rattle.da_lang.specs.declared.program.ChainPart.{ChainPart}
use Rattle.da_lang.specs.declared.program.Class.{Class}
use Rattle.da_lang.specs.declared.program.Item.{Item}
use Rattle.da_lang.specs.declared.program.ItemKind.{ItemKind}
use Rattle.da_lang.specs.declared.program.ItemKind.TheOpen.{ItemKind-F}
use Rattle.da_lang.specs.declared.program.RBranch.{RBranch}
use Rattle.da_lang.specs.declared.program.RExpr.{RExpr}
use Rattle.da_machine.specs.declared.code.Code.{Code}
use Rattle.da_machine.specs.declared.code.YieldPoint.{YieldPoint}
use Rattle.da_machine.specs.CodeFor.{Has, jump_at, ExprAt, ExprsAt, TestsAt, PartsAt, StoresAt, FoundAt, BlockAt, ItemAt, WorkAt, BranchesAt, BlocksAt, LoopAt, EnterAt}
use Rattle.code_gen.specs.Made.{Grown}

-- a place where an instruction is still to be written
abbrev pub is_hole : Instr → Bool
is_hole op.End = true
is_hole _ = false

-- a yield point that is still to be written
abbrev pub is_reserved : Bool → List ℕ → Bool
is_reserved false entries = false
is_reserved true [] = true
is_reserved true (entry ∷ entries) = false

pub record Keeps (old new : Code) : Type 0 where
  pub instrs : (at : ℕ) (i : Instr) → is_hole i ≡ false → Has old at i → Has new at i
  pub yields : (k : ℕ) (y : YieldPoint) → is_reserved y.label y.entries ≡ false → slice_get old.yields k ≡ Some y → slice_get new.yields k ≡ Some y

pub keeps_on : (a b c : Code) → Keeps a b → Keeps b c → Keeps a c
keeps_on a b c first second = record {
  instrs = λ at i real has. second.instrs at i real (first.instrs at i real has);
  yields = λ k y real has. second.yields k y real (first.yields k y real has);
}

pub grown_keeps : (a b : Code) (n : ℕ) → Grown a b n → Keeps a b
grown_keeps a b n grown = record {
  instrs = λ at i real has. grown.instrs.same at (slice_get_within a.instrs at i has) ∙ has;
  yields = λ k y real has. grown.yields k (slice_get_within a.yields k y has) ∙ has;
}

no_hole : (b : Bool) (to : ℕ) → is_hole (jump_at b to) ≡ false
no_hole true to = refl
no_hole false to = refl

module _ (c d : Code) (keeps : Keeps c d) where
  mutual
    pub kept_expr : {at : ℕ} {e : RExpr} {end : ℕ} → ExprAt c at e end → ExprAt d at e end
    kept_expr (ExprAt.constant h) = ExprAt.constant (keeps.instrs _ _ refl h)
    kept_expr (ExprAt.processes h is) = ExprAt.processes (keeps.instrs _ _ refl h) is
    kept_expr (ExprAt.itself h) = ExprAt.itself (keeps.instrs _ _ refl h)
    kept_expr (ExprAt.slot h) = ExprAt.slot (keeps.instrs _ _ refl h)
    kept_expr (ExprAt.clock h) = ExprAt.clock (keeps.instrs _ _ refl h)
    kept_expr (ExprAt.question h) = ExprAt.question (keeps.instrs _ _ refl h)
    kept_expr (ExprAt.range x y h) = ExprAt.range (kept_expr x) (kept_expr y) (keeps.instrs _ _ refl h)
    kept_expr (ExprAt.tuple x h) = ExprAt.tuple (kept_exprs x) (keeps.instrs _ _ refl h)
    kept_expr (ExprAt.set x h) = ExprAt.set (kept_exprs x) (keeps.instrs _ _ refl h)
    kept_expr (ExprAt.disjunction x h j g) = ExprAt.disjunction (kept_tests x) (keeps.instrs _ _ refl h) (keeps.instrs _ _ refl j) (keeps.instrs _ _ refl g)
    kept_expr (ExprAt.conjunction x h j g) = ExprAt.conjunction (kept_tests x) (keeps.instrs _ _ refl h) (keeps.instrs _ _ refl j) (keeps.instrs _ _ refl g)
    kept_expr (ExprAt.negation x h) = ExprAt.negation (kept_expr x) (keeps.instrs _ _ refl h)
    kept_expr (ExprAt.comparison x y h) = ExprAt.comparison (kept_expr x) (kept_expr y) (keeps.instrs _ _ refl h)
    kept_expr (ExprAt.membership x y h) = ExprAt.membership (kept_expr x) (kept_expr y) (keeps.instrs _ _ refl h)
    kept_expr (ExprAt.chain x y) = ExprAt.chain (kept_expr x) (kept_parts y)

    pub kept_exprs : {at : ℕ} {es : List RExpr} {end : ℕ} → ExprsAt c at es end → ExprsAt d at es end
    kept_exprs ExprsAt.none = ExprsAt.none
    kept_exprs (ExprsAt.one x xs) = ExprsAt.one (kept_expr x) (kept_exprs xs)

    pub kept_tests : {b : Bool} {decided at : ℕ} {es : List RExpr} {end : ℕ} → TestsAt c b decided at es end → TestsAt d b decided at es end
    kept_tests TestsAt.passed = TestsAt.passed
    kept_tests (TestsAt.test {decides} {decided} x j xs) = TestsAt.test (kept_expr x) (keeps.instrs _ _ (no_hole decides decided) j) (kept_tests xs)

    pub kept_parts : {at : ℕ} {parts : List ChainPart} {end : ℕ} → PartsAt c at parts end → PartsAt d at parts end
    kept_parts PartsAt.last = PartsAt.last
    kept_parts (PartsAt.part x h xs) = PartsAt.part (kept_expr x) (keeps.instrs _ _ refl h) (kept_parts xs)

  pub kept_stores : {at : ℕ} {slots : List ℕ} {end : ℕ} → StoresAt c at slots end → StoresAt d at slots end
  kept_stores StoresAt.stored = StoresAt.stored
  kept_stores (StoresAt.store x h) = StoresAt.store (kept_stores x) (keeps.instrs _ _ refl h)

  pub kept_found : {at : ℕ} {found : _} {slots : List ℕ} {end : ℕ} → FoundAt c at found slots end → FoundAt d at found slots end
  kept_found FoundAt.unbound = FoundAt.unbound
  kept_found (FoundAt.bound h) = FoundAt.bound (keeps.instrs _ _ refl h)

  module _ (class : Class) where
    mutual
      pub kept_block : {at : ℕ} {items : List Item} {end : ℕ} → BlockAt c class at items end → BlockAt d class at items end
      kept_block BlockAt.empty = BlockAt.empty
      kept_block (BlockAt.item x xs) = BlockAt.item (kept_item x) (kept_block xs)

      pub kept_item : {at : ℕ} {i : Item} {end : ℕ} → ItemAt c class at i end → ItemAt d class at i end
      kept_item (ItemAt.works h x) = ItemAt.works (keeps.instrs _ _ refl h) (kept_work x)
      kept_item (ItemAt.label is h y numbered) = ItemAt.label is (keeps.instrs _ _ refl h) (keeps.yields _ _ refl y) numbered
      kept_item (ItemAt.await is h y numbered x) = ItemAt.await is (keeps.instrs _ _ refl h) (keeps.yields _ _ refl y) numbered (kept_blocks x)

      pub kept_work : {at line : ℕ} {k : ItemKind-F ItemKind Alt Item RBranch} {end : ℕ} → WorkAt c class at line k end → WorkAt d class at line k end
      kept_work (WorkAt.assign x h) = WorkAt.assign (kept_expr x) (keeps.instrs _ _ refl h)
      kept_work (WorkAt.add x h) = WorkAt.add (kept_expr x) (keeps.instrs _ _ refl h)
      kept_work (WorkAt.del x h) = WorkAt.del (kept_expr x) (keeps.instrs _ _ refl h)
      kept_work (WorkAt.send x y h) = WorkAt.send (kept_expr x) (kept_expr y) (keeps.instrs _ _ refl h)
      kept_work (WorkAt.output x h) = WorkAt.output (kept_expr x) (keeps.instrs _ _ refl h)
      kept_work (WorkAt.choice x) = WorkAt.choice (kept_branches x)
      kept_work (WorkAt.while x h y j) = WorkAt.while (kept_expr x) (keeps.instrs _ _ refl h) (kept_block y) (keeps.instrs _ _ refl j)
      kept_work (WorkAt.for x h y) = WorkAt.for (kept_expr x) (keeps.instrs _ _ refl h) (kept_loop y)
      kept_work (WorkAt.call x) = WorkAt.call (kept_enter x)
      kept_work WorkAt.pass = WorkAt.pass

      pub kept_branches : {exit at : ℕ} {bs : List RBranch} {other : List Item} → BranchesAt c class exit at bs other → BranchesAt d class exit at bs other
      kept_branches (BranchesAt.otherwise x) = BranchesAt.otherwise (kept_block x)
      kept_branches (BranchesAt.branch x h f y j xs) = BranchesAt.branch (kept_expr x) (keeps.instrs _ _ refl h) (kept_found f) (kept_block y) (keeps.instrs _ _ refl j) (kept_branches xs)

      pub kept_blocks : {exit at : ℕ} {bodies : List (List Item)} {entries : List ℕ} → BlocksAt c class exit at bodies entries → BlocksAt d class exit at bodies entries
      kept_blocks BlocksAt.done = BlocksAt.done
      kept_blocks (BlocksAt.block x j xs) = BlocksAt.block (kept_block x) (keeps.instrs _ _ refl j) (kept_blocks xs)

      pub kept_loop : {at s : ℕ} {body : List Item} {line end : ℕ} → LoopAt c class at s body line end → LoopAt d class at s body line end
      kept_loop (LoopAt.loop h n x j) = LoopAt.loop (keeps.instrs _ _ refl h) (keeps.instrs _ _ refl n) (kept_block x) (keeps.instrs _ _ refl j)

      pub kept_enter : {at : ℕ} {args : List RExpr} {params : List ℕ} {body : List Item} {end : ℕ} → EnterAt c class at args params body end → EnterAt d class at args params body end
      kept_enter (EnterAt.enter x s y) = EnterAt.enter (kept_exprs x) (kept_stores s) (kept_block y)
