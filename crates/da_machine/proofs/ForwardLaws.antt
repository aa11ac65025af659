-- Code that stands for statements always comes to its next turn.
use Rattle.std.proofs.Common.{◌≡◌, ℕ, ◌+◌, ◌<◌, ◌≤◌, List, length, Option, Some, sym, ap, ◌∙◌, subst, arith, inl, inr, ⊎_elim}
use Rattle.std.specs.Prelude.{Bool, true, false, slice_get}
use Rattle.std.proofs.lemmas.Bool.{cases_lt}
use Rattle.std.proofs.lemmas.Option.{slice_get_within}
use Rattle.da_lang.specs.declared.code.Instr.{Instr}
use Rattle.da_lang.specs.declared.code.Instr.TheVariants as op
use Rattle.da_lang.specs.declared.program.Alt.{Alt}
use Rattle.da_lang.specs.declared.program.ChainPart.{ChainPart}
use Rattle.da_lang.specs.declared.program.Class.{Class}
use Rattle.da_lang.specs.declared.program.Item.{Item}
use Rattle.da_lang.specs.declared.program.ItemKind.{ItemKind}
use Rattle.da_lang.specs.declared.program.ItemKind.TheOpen.{ItemKind-F}
use Rattle.da_lang.specs.declared.program.RBranch.{RBranch}
use Rattle.da_lang.specs.declared.program.RExpr.{RExpr}
use Rattle.da_machine.specs.declared.code.Code.{Code}
use Rattle.da_machine.specs.CodeFor.{Has, jump_at, ExprAt, ExprsAt, TestsAt, PartsAt, StoresAt, FoundAt, BlockAt, ItemAt, WorkAt, BranchesAt, BlocksAt, LoopAt, EnterAt}
use Rattle.da_machine.specs.Forward.{IsForward, LeadsOn, is_turn}

-- every jump between the places leads on
pub record Onward (code : Code) (from to : ℕ) : Type 0 where
  pub upward : from ≤ to
  pub leads : (at : ℕ) → from ≤ at → at < to → (i : Instr) → slice_get code.instrs at ≡ Some i → LeadsOn code at i

module _ (code : Code) where
  pub nowhere : (at : ℕ) → Onward code at at
  nowhere at = record { upward = omega arith; leads = λ k from to i has. absurd (omega arith) }

  only : (at : ℕ) (i : Instr) → Has code at i → LeadsOn code at i → (k : ℕ) → at ≡ k → (j : Instr) → slice_get code.instrs k ≡ Some j → LeadsOn code k j
  only at i has leads k same j there =
      let both : Some i ≡ Some j = sym has ∙ ap (slice_get code.instrs) same ∙ there in
      let one : i ≡ j = cc in
      subst (LeadsOn code k) one (subst (λ n. LeadsOn code n i) same leads)

  pub at_one : (at : ℕ) (i : Instr) → Has code at i → LeadsOn code at i → Onward code at (at + 1)
  at_one at i has leads = record { upward = omega arith; leads = λ k from to j there. only at i has leads k (omega arith) j there }

  pub both_on : (from mid to : ℕ) → Onward code from mid → Onward code mid to → Onward code from to
  both_on from mid to first second = record {
    upward = omega (arith, first.upward, second.upward);
    leads = λ at low high i there. ⊎_elim (λ less. first.leads at low less i there) (λ more. second.leads at more high i there) (cases_lt at mid);
  }

  pub and_one : (from to : ℕ) (i : Instr) → Onward code from to → Has code to i → LeadsOn code to i → Onward code from (to + 1)
  and_one from to i first has leads = both_on from to (to + 1) first (at_one to i has leads)

  one_and : (from to : ℕ) (i : Instr) → Has code from i → LeadsOn code from i → Onward code (from + 1) to → Onward code from to
  one_and from to i has leads rest = both_on from (from + 1) to (at_one from i has leads) rest

  jump_on : (b : Bool) (at to : ℕ) → at < to → LeadsOn code at (jump_at b to)
  jump_on true at to ahead = ahead
  jump_on false at to ahead = ahead

  answered : (at end : ℕ) (i j : Instr) → Onward code at end → Has code end i → LeadsOn code end i → Has code (end + 1) (op.Jump (end + 3)) → Has code (end + 2) j → LeadsOn code (end + 2) j → Onward code at (end + 3)
  answered at end i j tests push leads jump push2 leads2 =
      let one : end + 1 + 1 ≡ end + 2 = omega arith in
      let two : end + 2 + 1 ≡ end + 3 = omega arith in
      let to_jump = subst (Onward code at) one (and_one at (end + 1) _ (and_one at end i tests push leads) jump (inl (omega arith))) in
      subst (Onward code at) two (and_one at (end + 2) j to_jump push2 leads2)

  mutual
    expr_on : (at : ℕ) (e : RExpr) (end : ℕ) → ExprAt code at e end → Onward code at end
    expr_on _ _ _ (ExprAt.constant {at} has) = at_one at _ has tt
    expr_on _ _ _ (ExprAt.processes {at} has is) = at_one at _ has tt
    expr_on _ _ _ (ExprAt.itself {at} has) = at_one at _ has tt
    expr_on _ _ _ (ExprAt.slot {at} has) = at_one at _ has tt
    expr_on _ _ _ (ExprAt.clock {at} has) = at_one at _ has tt
    expr_on _ _ _ (ExprAt.question {at} has) = at_one at _ has tt
    expr_on _ _ _ (ExprAt.range {at} {to} {end} {a} {b} x y has) = and_one at end _ (both_on at to end (expr_on at a to x) (expr_on to b end y)) has tt
    expr_on _ _ _ (ExprAt.tuple {at} {end} {es} x has) = and_one at end _ (exprs_on at es end x) has tt
    expr_on _ _ _ (ExprAt.set {at} {end} {es} x has) = and_one at end _ (exprs_on at es end x) has tt
    expr_on _ _ _ (ExprAt.disjunction {at} {end} {es} x push jump push2) = answered at end _ _ (tests_on true (end + 2) at es end x (omega arith)) push tt jump push2 tt
    expr_on _ _ _ (ExprAt.conjunction {at} {end} {es} x push jump push2) = answered at end _ _ (tests_on false (end + 2) at es end x (omega arith)) push tt jump push2 tt
    expr_on _ _ _ (ExprAt.negation {at} {end} {e} x has) = and_one at end _ (expr_on at e end x) has tt
    expr_on _ _ _ (ExprAt.comparison {at} {to} {end} {o} {a} {b} x y has) = and_one at end _ (both_on at to end (expr_on at a to x) (expr_on to b end y)) has tt
    expr_on _ _ _ (ExprAt.membership {at} {to} {end} {a} {b} x y has) = and_one at end _ (both_on at to end (expr_on at a to x) (expr_on to b end y)) has tt
    expr_on _ _ _ (ExprAt.chain {at} {to} {end} {a} {parts} x y) = both_on at to end (expr_on at a to x) (parts_on to parts end y)

    exprs_on : (at : ℕ) (es : List RExpr) (end : ℕ) → ExprsAt code at es end → Onward code at end
    exprs_on _ _ _ (ExprsAt.none {at}) = nowhere at
    exprs_on _ _ _ (ExprsAt.one {at} {to} {end} {e} {es} x xs) = both_on at to end (expr_on at e to x) (exprs_on to es end xs)

    tests_on : (b : Bool) (decided at : ℕ) (es : List RExpr) (end : ℕ) → TestsAt code b decided at es end → end ≤ decided → Onward code at end
    tests_on _ _ _ _ _ (TestsAt.passed {at = at}) inside = nowhere at
    tests_on _ _ _ _ _ (TestsAt.test {decides} {decided} {at} {to} {end} {e} {es} x jump xs) inside =
        let others = tests_on decides decided (to + 1) es end xs inside in
        both_on at (to + 1) end (and_one at to _ (expr_on at e to x) jump (jump_on decides to decided (omega (arith, others.upward, inside)))) others

    parts_on : (at : ℕ) (cs : List ChainPart) (end : ℕ) → PartsAt code at cs end → Onward code at end
    parts_on _ _ _ (PartsAt.last {at}) = nowhere at
    parts_on _ _ _ (PartsAt.part {at} {to} {end} {c} {cs} x has xs) = both_on at (to + 1) end (and_one at to _ (expr_on at _ to x) has tt) (parts_on (to + 1) cs end xs)

  stores_on : (at : ℕ) (ss : List ℕ) (end : ℕ) → StoresAt code at ss end → Onward code at end
  stores_on _ _ _ (StoresAt.stored {at}) = nowhere at
  stores_on _ _ _ (StoresAt.store {at} {end} {s} {ss} x has) = and_one at end _ (stores_on at ss end x) has tt

  found_on : (at : ℕ) (n : Option ℕ) (ss : List ℕ) (end : ℕ) → FoundAt code at n ss end → Onward code at end
  found_on _ _ _ _ (FoundAt.unbound {at}) = nowhere at
  found_on _ _ _ _ (FoundAt.bound {at} has) = at_one at _ has tt

  module _ (class : Class) where
    mutual
      pub block_on : (at : ℕ) (is : List Item) (end : ℕ) → BlockAt code class at is end → Onward code at end
      block_on _ _ _ (BlockAt.empty {at}) = nowhere at
      block_on _ _ _ (BlockAt.item {at} {to} {end} {i} {is} x xs) = both_on at to end (item_on at i to x) (block_on to is end xs)

      item_on : (at : ℕ) (i : Item) (end : ℕ) → ItemAt code class at i end → Onward code at end
      item_on _ _ _ (ItemAt.works {at} {end} has work) = one_and at end _ has tt (work_on at _ _ end work has)
      item_on _ _ _ (ItemAt.label {at} is has point numbered) = at_one at _ has tt
      item_on _ _ _ (ItemAt.await {at} {end} {entries = entries} is has point numbered blocks) = one_and at end _ has tt (blocks_on end (at + 1) _ entries blocks)

      work_on : (at line : ℕ) (k : ItemKind-F ItemKind Alt Item RBranch) (end : ℕ) → WorkAt code class at line k end → Has code at (op.Turn line) → Onward code (at + 1) end
      work_on _ _ _ _ (WorkAt.assign {at} {end = end} x has) turn = and_one (at + 1) end _ (expr_on (at + 1) _ end x) has tt
      work_on _ _ _ _ (WorkAt.add {at} {end = end} x has) turn = and_one (at + 1) end _ (expr_on (at + 1) _ end x) has tt
      work_on _ _ _ _ (WorkAt.del {at} {end = end} x has) turn = and_one (at + 1) end _ (expr_on (at + 1) _ end x) has tt
      work_on _ _ _ _ (WorkAt.send {at} {to = to} {end} x y has) turn = and_one (at + 1) end _ (both_on (at + 1) to end (expr_on (at + 1) _ to x) (expr_on to _ end y)) has tt
      work_on _ _ _ _ (WorkAt.output {at} {end = end} x has) turn = and_one (at + 1) end _ (expr_on (at + 1) _ end x) has tt
      work_on _ _ _ _ (WorkAt.choice {at} {end = end} {branches} {other} x) turn = branches_on end (at + 1) branches other x
      work_on _ _ _ _ (WorkAt.while {at} {to = to} {end} {body = body} x jump block back) turn =
          let inner = block_on (to + 1) body end block in
          and_one (at + 1) end _ (both_on (at + 1) (to + 1) end (and_one (at + 1) to _ (expr_on (at + 1) _ to x) jump (omega (arith, inner.upward))) inner) back (inr (ap is_turn turn))
      work_on _ _ _ _ (WorkAt.for {at} {to = to} {end} {s} {body = body} x has rest) turn =
          both_on (at + 1) (to + 1) end (and_one (at + 1) to _ (expr_on (at + 1) _ to x) has tt) (loop_on (to + 1) s body _ end rest)
      work_on _ _ _ _ (WorkAt.call {at} {end = end} x) turn = enter_on (at + 1) _ _ _ end x
      work_on _ _ _ _ (WorkAt.pass {at}) turn = nowhere (at + 1)

      branches_on : (exit at : ℕ) (bs : List RBranch) (other : List Item) → BranchesAt code class exit at bs other → Onward code at exit
      branches_on _ _ _ _ (BranchesAt.otherwise {exit} {at} {other} x) = block_on at other exit x
      branches_on _ _ _ _ (BranchesAt.branch {exit} {at} {test} {to} {end} {bs = bs} {other} x jump found block leave others) =
          let inner = both_on (test + 1) to end (found_on (test + 1) _ _ to found) (block_on to _ end block) in
          let rest = branches_on exit (end + 1) bs other others in
          let tested = and_one at test _ (expr_on at _ test x) jump (omega (arith, inner.upward)) in
          both_on at (end + 1) exit (and_one at end _ (both_on at (test + 1) end tested inner) leave (inl (omega (arith, rest.upward)))) rest

      blocks_on : (exit at : ℕ) (bodies : List (List Item)) (entries : List ℕ) → BlocksAt code class exit at bodies entries → Onward code at exit
      blocks_on _ _ _ _ (BlocksAt.done {exit}) = nowhere exit
      blocks_on _ _ _ _ (BlocksAt.block {exit} {at} {end} {bodies = bodies} {entries} block leave others) =
          let rest = blocks_on exit (end + 1) bodies entries others in
          both_on at (end + 1) exit (and_one at end _ (block_on at _ end block) leave (inl (omega (arith, rest.upward)))) rest

      pub loop_on : (at s : ℕ) (body : List Item) (line end : ℕ) → LoopAt code class at s body line end → Onward code at end
      loop_on _ _ _ _ _ (LoopAt.loop {at} {end} {body = body} has next block back) =
          let inner = block_on (at + 2) body end block in
          let place : at + 1 + 1 ≡ at + 2 = omega arith in
          let head = subst (Onward code at) place (and_one at (at + 1) _ (at_one at _ has tt) next (omega (arith, inner.upward))) in
          and_one at end _ (both_on at (at + 2) end head inner) back (inr (ap is_turn has))

      pub enter_on : (at : ℕ) (args : List RExpr) (params : List ℕ) (body : List Item) (end : ℕ) → EnterAt code class at args params body end → Onward code at end
      enter_on _ _ _ _ _ (EnterAt.enter {at} {to} {into} {end} {args} {params} {body} xs stores block) =
          both_on at into end (both_on at to into (exprs_on at args to xs) (stores_on to params into stores)) (block_on into body end block)

  -- code that is onward as a whole is forward
  pub whole_forward : Onward code 0 (length code.instrs) → IsForward code
  whole_forward whole = record { leads = λ at i there. whole.leads at (omega arith) (slice_get_within code.instrs at i there) i there }
