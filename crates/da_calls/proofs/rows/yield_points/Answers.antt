use Rattle.std.proofs.Common.{◌≤◌, ◌+◌, List, ℕ, length, map, subst, ap, sym, ◌∙◌, arith}
use Rattle.std.proofs.lemmas.List.{length-map}
use Rattle.da_lang.specs.Deeds.{deeds}
use Rattle.da_calls.specs.CallBodies.{some_yield}
use Rattle.da_calls.specs.CallMethods.{body_of}
use Rattle.da_calls.proofs.CallRows.{YieldsBelow, yields_none, yields_here, yields_not, yields_all, method_read}
use Rattle.da_calls.proofs.rows.yield_points.Goals as goal
use Rattle.da_calls.proofs.rows.yield_points.Goals.{then-has_yield+in_ok-push, else-has_yield}

pub loop-number-init : goal.loop-number-init
loop-number-init c = yields_none _ _ c.new-points.ensures

pub loop-number-preserved : goal.loop-number-preserved
loop-number-preserved c =
    let to_next : List ℕ → Type 0 = λ points. YieldsBelow (c.loop-number.number + 1) (map body_of c.args.methods.now) points in
    elim c.if-has_yield.branch [
      | then-has_yield+in_ok-push w ↦ subst to_next (sym w.points-is)
          (yields_here _ _ _ _ (body_of c.index-methods-number.result) (method_read body_of _ _ _ c.loop-number-test.true c.index-methods-number.is)
          (ap (λ ss. some_yield (deeds ss)) (sym c.as_slice.ensures) ∙ sym w.if-has_yield.ensures) w.in_ok-push.ensures.ok c.loop-number.invariant)
      | else-has_yield w ↦ subst to_next (sym w.points-is)
          (yields_not _ _ _ (body_of c.index-methods-number.result) (method_read body_of _ _ _ c.loop-number-test.true c.index-methods-number.is)
          (ap (λ ss. some_yield (deeds ss)) (sym c.as_slice.ensures) ∙ sym w.if-has_yield.ensures) c.loop-number.invariant)
    ]

pub returns : goal.returns
returns c =
    let all : length (map body_of c.args.methods.now) ≤ c.loop-number.number = omega (arith, length-map c.args.methods.now body_of) in
    yields_all _ _ _ all c.loop-number.invariant
