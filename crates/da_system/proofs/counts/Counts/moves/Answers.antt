use Rattle.std.proofs.Common.{◌≡◌, ◌+◌, ◌∙◌, ap, arith, sym}
use Rattle.std.specs.Prelude.{slice_get}
use Rattle.da_system.specs.Counted.{Counted, IsFewMoves}
use Rattle.da_system.proofs.CountLaws.{all_there, numbered_get}
use Rattle.da_system.proofs.counts.Counts.moves.Goals as goal

pub returns-in-Some-clause-value : goal.returns-in-Some-clause-value
returns-in-Some-clause-value c =
    let next : c.args.p ≡ c.in_ok-place.place + 1 = omega (arith, c.in_ok-place.ensures.0, c.in_ok-place.ensures.1) in
    c.in-Some.ensures.value ∙ ap (λ (counts : Counted). slice_get counts.moves c.in_ok-place.place) c.self.view_is ∙ sym (numbered_get c.args.self.now.moves c.args.p c.in_ok-place.place next)

pub returns-in-Some-clause-few : goal.returns-in-Some-clause-few
returns-in-Some-clause-few c = all_there IsFewMoves c.self.inside.moves c.in_ok-place.place c.in-Some.count.now c.self.invariant (sym c.in-Some.ensures.value)

pub returns-in-None-clause-value : goal.returns-in-None-clause-value
returns-in-None-clause-value c =
    let next : c.args.p ≡ c.in_ok-place.place + 1 = omega (arith, c.in_ok-place.ensures.0, c.in_ok-place.ensures.1) in
    c.in-None.ensures.value ∙ ap (λ (counts : Counted). slice_get counts.moves c.in_ok-place.place) c.self.view_is ∙ sym (numbered_get c.args.self.now.moves c.args.p c.in_ok-place.place next)
