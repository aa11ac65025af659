-- An operation on two numbers that lie on top of the stack.
use Rattle.std.specs.Prelude.{◌≡◌, Bool, ℤ, refl, List, [], Some, None, Ok, Err}
use Rattle.std.specs.Ordering.{int_cmp}
use Rattle.std.specs.declared.cmp.Ordering.{Ordering}
use Rattle.std.proofs.Common.{ap, sym, ◌∙◌, subst}
use mathlib.Core.List.{append-nil}
use Rattle.da_values.specs.declared.val.Val.{Val, out-Val}
use Rattle.da_values.specs.declared.val.Val.TheOpen as layer
use Rattle.da_values.specs.declared.val.Val.TheVariants as val
use Rattle.da_values.specs.Order.{val_cmp}
use Rattle.da_values.proofs.OrderAt.{val_cmp-Int}
use Rattle.da_lang.specs.declared.code.Instr.TheVariants as op
use Rattle.da_lang.specs.declared.event.Action.{Action}
use Rattle.da_lang.specs.declared.event.FaultKind.{FaultKind}
use Rattle.da_lang.specs.declared.tree.ArithOp.{ArithOp}
use Rattle.da_lang.specs.declared.tree.CmpOp.{CmpOp}
use Rattle.da_lang.specs.Arithmetic.{arithmetic, of_layers, of_numbers}
use Rattle.da_lang.specs.Queries.{compares}
use Rattle.da_machine.specs.declared.machine.Machine.{Machine}
use Rattle.da_machine.specs.declared.machine.Stop.TheVariants as stop
use Rattle.da_machine.specs.Acts.{Act, Goes, Halts, below, push_outcome, pushed, top}
use Rattle.da_machine.specs.Conditions.{Standing}
use Rattle.da_machine.specs.RunsTo.{Acted, IsAct}

-- the order of two numbers, and what an operation makes of them
cmp_numbers : (v w : Val) (a b : ℤ) → v ≡ val.Int a → w ≡ val.Int b → val_cmp v w ≡ int_cmp a b
cmp_numbers v w a b first second = ap (λ x. val_cmp x w) first ∙ ap (val_cmp (val.Int a)) second ∙ val_cmp-Int a b

arithmetic_at : (o : ArithOp) (v w : Val) (a b : ℤ) → v ≡ val.Int a → w ≡ val.Int b → arithmetic o v w ≡ of_numbers o a b
arithmetic_at o v w a b first second =
    ap (λ x. of_layers o x (out-Val w)) (ap out-Val first ∙ val.outs-Int a) ∙ ap (λ y. of_layers o (layer.Int a) y) (ap out-Val second ∙ val.outs-Int b)

module _ (m : Machine) (a b : ℤ) (first : top (below m.stack) ≡ val.Int a) (second : top m.stack ≡ val.Int b) (m1 : Machine) (stands : Standing) (old : List Action) where
  -- the comparison leaves its truth value
  pub compared : (o : CmpOp) (order : Ordering) (truth : Bool) → order ≡ int_cmp a b → truth ≡ compares o order → m1 ≡ pushed m (below (below m.stack)) (val.Bool truth) → Acted (Some (op.Cmp o)) m m1 stands stands old old None
  compared o order truth found holds is p class d there = (
    refl,
    is ∙ ap (λ t. pushed m (below (below m.stack)) (val.Bool t)) (holds ∙ ap (compares o) (found ∙ sym (cmp_numbers _ _ a b first second))),
    there,
    sym (append-nil old),
  )

  -- the operation leaves its value, or halts the machine
  pub computed : (o : ArithOp) (v : Val) → of_numbers o a b ≡ Ok v → m1 ≡ pushed m (below (below m.stack)) v → Acted (Some (op.Arith o)) m m1 stands stands old old None
  computed o v makes is p class d there =
      let goes : push_outcome m d (below (below m.stack)) (arithmetic o (top (below m.stack)) (top m.stack)) ≡ Goes (pushed m (below (below m.stack)) v) d []
      = ap (push_outcome m d (below (below m.stack))) (arithmetic_at o _ _ a b first second ∙ makes) in
      subst (λ (act : Act). IsAct act None m1 (stands p class) d old old) (sym goes) (refl, is, there, sym (append-nil old))

  pub faulted : (o : ArithOp) (kind : FaultKind) (m0 : Machine) → of_numbers o a b ≡ Err kind → m0 ≡ record m { stack = below m.stack } → m1 ≡ record m0 { stack = below m0.stack } → Acted (Some (op.Arith o)) m m1 stands stands old old (Some (stop.Fault kind m1.line))
  faulted o kind m0 makes one two p class d there =
      let halts : push_outcome m d (below (below m.stack)) (arithmetic o (top (below m.stack)) (top m.stack)) ≡ Halts (stop.Fault kind m.line) (record m { stack = below (below m.stack) })
      = ap (push_outcome m d (below (below m.stack))) (arithmetic_at o _ _ a b first second ∙ makes) in
      let is : m1 ≡ record m { stack = below (below m.stack) } = two ∙ ap (λ (x : Machine). record x { stack = below x.stack }) one in
      subst (λ (act : Act). IsAct act (Some (stop.Fault kind m1.line)) m1 (stands p class) d old old) (sym halts) (ap (λ (x : Machine). Some (stop.Fault kind x.line)) is, is, there, refl)
