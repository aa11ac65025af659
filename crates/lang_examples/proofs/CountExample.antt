-- A program that takes exactly as many turns as one event may: `x = 499999`, then `while x > 0` with `x = x - 1`, on the
-- lines 4 to 6. With one more it is too long.
use Rattle.std.specs.Prelude.{◌≡◌, refl, ℕ, zero, suc, ◌+◌, ◌*◌, ◌<◌, ◌≤◌, ◌^◌, ◌-◌, pos, negsuc, ◌-ℤ◌, cond, ltb, true, List, [], ◌∷◌}
use Rattle.std.specs.Ordering.{int_cmp}
use Rattle.std.specs.declared.cmp.Ordering.TheVariants.{Less, Equal, Greater}
use Rattle.std.proofs.Common.{◌∙◌, ap, arith}
use Rattle.std.proofs.lemmas.Bool.{lt-ltb, le-ltb}
use Rattle.da_values.specs.declared.val.Val.TheVariants as val
use Rattle.da_values.specs.declared.value.Value.TheVariants as literal
use Rattle.da_values.specs.Narrow.{is_i64}
use Rattle.da_lang.specs.declared.event.FaultKind.TheVariants.{TooLong}
use Rattle.da_lang.specs.declared.program.ChainPart.{roll-ChainPart}
use Rattle.da_lang.specs.declared.program.Class.{Class}
use Rattle.da_lang.specs.declared.program.Item.{Item, roll-Item}
use Rattle.da_lang.specs.declared.program.ItemKind.TheVariants as it
use Rattle.da_lang.specs.declared.program.RExpr.{RExpr}
use Rattle.da_lang.specs.declared.program.RExpr.TheVariants as ex
use Rattle.da_lang.specs.declared.tree.ArithOp.TheVariants.{Minus}
use Rattle.da_lang.specs.declared.tree.CmpOp.TheVariants.{Gt}
use Rattle.da_lang.proofs.RunLaws.{run_goes, run_to_yield_end, run_to_yield_late}
use Rattle.da_lang.specs.Runs.{UsedUp, Faults, max_turns, run_to_yield, stopped}
use Rattle.da_lang.specs.Turns.{quiet, turn}
use Rattle.da_lang.specs.World.{Data, Task, Do}
use Rattle.da_lang.proofs.Computing.{turning}

abbrev int : ℕ → RExpr
int n = ex.Const (literal.Int (pos n))

abbrev pub begin : ℕ → Task
begin n = Do (roll-Item (record { line = 4; kind = it.Assign 1 (int n) }))

abbrev pub less : Item
less = roll-Item (record { line = 6; kind = it.Assign 1 (ex.Chain (ex.Slot 1) (roll-ChainPart (record { op = Minus; operand = int 1 }) ∷ [])) })

abbrev pub round_item : Item
round_item = roll-Item (record { line = 5; kind = it.While (ex.Cmp Gt (ex.Slot 1) (int 0)) (less ∷ []) })

abbrev pub round : Task
round = Do round_item

-- with x in its only slot
abbrev pub here : Data → ℕ → Data
here d x = record d { slots = val.Int (pos x) ∷ [] }

above_0 : (x : ℕ) → int_cmp (pos (suc x)) (pos 0) ≡ Greater
above_0 x =
    ap (λ b. cond b Less (cond (ltb 0 (suc x)) Greater Equal)) (le-ltb (suc x) 0 (omega arith))
    ∙ ap (λ b. cond b Greater Equal) (lt-ltb 0 (suc x) (omega arith))

minus_1 : (x : ℕ) → pos (suc x) -ℤ pos 1 ≡ pos x
minus_1 x = ap (λ b. cond b (negsuc (1 - suc (suc x))) (pos (suc x - 1))) (le-ltb (suc x) 1 (omega arith)) ∙ ap pos (omega arith)

fits : (x : ℕ) → x < 1000000 → is_i64 (pos x) ≡ true
fits x small = lt-ltb x (2 ^ 63) (omega (arith, small))

module _ (class : Class) (d : Data) where
  pub begins : (n : ℕ) (todo : List Task) → turn class (begin n) (here d 0) todo ≡ quiet (here d n) todo
  begins n todo = simp turning

  pub goes_round : (x : ℕ) → turn class round (here d (suc x)) [] ≡ quiet (here d (suc x)) (Do less ∷ round ∷ [])
  goes_round x = simp turning (rw (above_0 x) refl)

  pub leaves : turn class round (here d 0) [] ≡ quiet (here d 0) []
  leaves = simp turning

  one_less : (x : ℕ) (todo : List Task) → x < 1000000 → turn class (Do less) (here d (suc x)) todo ≡ quiet (here d x) todo
  one_less x todo small = simp turning (rw (minus_1 x, fits x small) refl)

  -- k times round
  pub rounds : (x k n : ℕ) → x + k < 1000000 → n + 2 * k ≤ max_turns → run_to_yield class n (here d (x + k)) (round ∷ []) ≡ run_to_yield class (n + 2 * k) (here d x) (round ∷ [])
  rounds x zero n small enough =
      let same : x + 0 ≡ x = omega arith in
      let none : n ≡ n + 2 * 0 = omega arith in
      ap (λ m. run_to_yield class n (here d m) (round ∷ [])) same ∙ ap (λ m. run_to_yield class m (here d x) (round ∷ [])) none
  rounds x (suc k) n small enough =
      let one_more : x + suc k ≡ suc (x + k) = omega arith in
      let two_turns : n + 1 + 1 + 2 * k ≡ n + 2 * suc k = omega arith in
      ap (λ m. run_to_yield class n (here d m) (round ∷ [])) one_more
      ∙ run_goes class n (here d (suc (x + k))) (here d (suc (x + k))) round [] (Do less ∷ round ∷ []) [] (omega (arith, enough)) (simp turning) (goes_round (x + k))
      ∙ run_goes class (n + 1) (here d (suc (x + k))) (here d (x + k)) (Do less) (round ∷ []) (round ∷ []) [] (omega (arith, enough)) (simp turning) (one_less (x + k) (round ∷ []) (omega (arith, small)))
      ∙ rounds x k (n + 1 + 1) (omega (arith, small)) (omega (arith, enough))
      ∙ ap (λ m. run_to_yield class m (here d x) (round ∷ [])) two_turns

  -- the assignment is one turn, 499999 times round are 999998, and the last test is one
  just_in_time : run_to_yield class 0 (here d 0) (begin 499999 ∷ round ∷ []) ≡ stopped (here d 0) [] 1000000 UsedUp
  unfolding max_turns
  just_in_time =
      run_goes class 0 (here d 0) (here d 499999) (begin 499999) (round ∷ []) (round ∷ []) [] (omega arith) (simp turning) (begins 499999 (round ∷ []))
      ∙ rounds 0 499999 1 (omega arith) (omega arith)
      ∙ run_goes class 999999 (here d 0) (here d 0) round [] [] [] (omega arith) (simp turning) leaves
      ∙ run_to_yield_end class 1000000 (here d 0)

  -- the turn that is one too many would be that of line 6
  too_late : run_to_yield class 0 (here d 0) (begin 500000 ∷ round ∷ []) ≡ stopped (here d 1) (Do less ∷ round ∷ []) 1000000 (Faults TooLong 6)
  unfolding max_turns
  too_late =
      run_goes class 0 (here d 0) (here d 500000) (begin 500000) (round ∷ []) (round ∷ []) [] (omega arith) (simp turning) (begins 500000 (round ∷ []))
      ∙ rounds 1 499999 1 (omega arith) (omega arith)
      ∙ run_goes class 999999 (here d 1) (here d 1) round [] (Do less ∷ round ∷ []) [] (omega arith) (simp turning) (goes_round 0)
      ∙ run_to_yield_late class 1000000 (here d 1) (Do less) (round ∷ []) (omega arith) (simp turning)
