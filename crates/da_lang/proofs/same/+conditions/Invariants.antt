use Rattle.std.proofs.Common.{◌≡◌, ◌↔◌, length}
use Rattle.da_lang.proofs.same.+conditions.Given as goal

abbrev pub invariant-same_conds-loop-x : goal.invariant-same_conds-loop-x
invariant-same_conds-loop-x l = (length l.x-iterator.a.rest.now ≡ length l.x-iterator.b.rest.now) × ((l.xs ≡ l.ys) ↔ (l.x-iterator.a.rest.now ≡ l.x-iterator.b.rest.now))

abbrev pub invariant-same_signs-loop-x : goal.invariant-same_signs-loop-x
invariant-same_signs-loop-x l = (length l.x-iterator.a.rest.now ≡ length l.x-iterator.b.rest.now) × ((l.xs ≡ l.ys) ↔ (l.x-iterator.a.rest.now ≡ l.x-iterator.b.rest.now))
