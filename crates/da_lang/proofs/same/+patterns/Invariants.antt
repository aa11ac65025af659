use Rattle.std.proofs.Common.{◌≡◌, ◌↔◌, length}
use Rattle.da_lang.proofs.same.+patterns.Given as goal

abbrev pub invariant-same_patterns-loop-x : goal.invariant-same_patterns-loop-x
invariant-same_patterns-loop-x l = (length l.x-iterator.a.rest.now ≡ length l.x-iterator.b.rest.now) × ((l.xs ≡ l.ys) ↔ (l.x-iterator.a.rest.now ≡ l.x-iterator.b.rest.now))
