use Rattle.std.proofs.Common.{◌≡◌, ◌↔◌, length}
use Rattle.da_lang.proofs.same.+terms.Given as goal

abbrev pub invariant-same_terms-loop-x : goal.invariant-same_terms-loop-x
invariant-same_terms-loop-x l = (length l.x-iterator.a.rest.now ≡ length l.x-iterator.b.rest.now) × ((l.xs ≡ l.ys) ↔ (l.x-iterator.a.rest.now ≡ l.x-iterator.b.rest.now))
