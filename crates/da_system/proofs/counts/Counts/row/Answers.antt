use Rattle.std.proofs.Common.{◌≡◌, ◌+◌, ◌∙◌, List, ℕ, ap, arith, sym}
use Rattle.std.specs.Prelude.{slice_get}
use Rattle.da_system.specs.Counted.{Counted}
use Rattle.da_system.proofs.CountLaws.{numbered_get}
use Rattle.da_system.proofs.PlaceLemmas.{lent_at}
use Rattle.da_system.proofs.counts.Counts.row.Goals as goal

pub returns : goal.returns
returns c =
    let next : c.args.p ≡ c.in_ok-place.place + 1 = omega (arith, c.in_ok-place.ensures.0, c.in_ok-place.ensures.1) in
    lent_at c.deref.result.now c.in_ok-place.place c.get.result c.get.ensures.lookup
    ∙ ap (λ (rows : List (List ℕ)). slice_get rows c.in_ok-place.place) c.deref.ensures.value
    ∙ ap (λ (counts : Counted). slice_get counts.deliveries c.in_ok-place.place) c.self.view_is
    ∙ sym (numbered_get c.args.self.now.deliveries c.args.p c.in_ok-place.place next)
