use Rattle.std.proofs.Common.{◌≡◌, ◌+◌, ◌≤◌, ◌∙◌, List, ℕ, ap, arith, sym}
use Rattle.std.specs.Prelude.{slice_get}
use Rattle.da_system.proofs.CountLaws.{all_there, numbered_get}
use Rattle.da_system.proofs.counts.Row.get.Goals as goal

pub returns-in-Some-clause-value : goal.returns-in-Some-clause-value
returns-in-Some-clause-value c =
    let next : c.args.q ≡ c.in_ok-place.place + 1 = omega (arith, c.in_ok-place.ensures.0, c.in_ok-place.ensures.1) in
    c.in-Some.ensures.value ∙ ap (λ (row : List ℕ). slice_get row c.in_ok-place.place) c.self.view_is ∙ sym (numbered_get c.args.self.now c.args.q c.in_ok-place.place next)

pub returns-in-Some-clause-few : goal.returns-in-Some-clause-few
returns-in-Some-clause-few c = all_there (λ (n : ℕ). n ≤ 4) c.self.inside.counts c.in_ok-place.place c.in-Some.count.now c.self.invariant.few (sym c.in-Some.ensures.value)

pub returns-in-None-clause-value : goal.returns-in-None-clause-value
returns-in-None-clause-value c =
    let next : c.args.q ≡ c.in_ok-place.place + 1 = omega (arith, c.in_ok-place.ensures.0, c.in_ok-place.ensures.1) in
    c.in-None.ensures.value ∙ ap (λ (row : List ℕ). slice_get row c.in_ok-place.place) c.self.view_is ∙ sym (numbered_get c.args.self.now c.args.q c.in_ok-place.place next)
