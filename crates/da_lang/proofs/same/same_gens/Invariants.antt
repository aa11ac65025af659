use Rattle.std.proofs.Common.{◌≡◌, ◌↔◌, length}
use Rattle.da_lang.proofs.same.same_gens.Given as goal

abbrev pub invariant-loop-x : goal.invariant-loop-x
invariant-loop-x l = (length l.x-iterator.a.rest.now ≡ length l.x-iterator.b.rest.now) × ((l.xs ≡ l.ys) ↔ (l.x-iterator.a.rest.now ≡ l.x-iterator.b.rest.now))
