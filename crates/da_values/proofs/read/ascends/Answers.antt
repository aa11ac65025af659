use Rattle.std.specs.Prelude.{◌≡◌, true, false}
use Rattle.std.specs.Ordering.{is_lt}
use Rattle.std.specs.declared.cmp.Ordering.{Ordering}
use Rattle.std.specs.declared.cmp.Ordering.TheVariants.{Less, Equal, Greater}
use Rattle.std.proofs.Common.{◌∙◌, sym, arith, refl}
use Rattle.da_values.specs.Order.{val_cmp}
use Rattle.da_values.specs.Value.{val_of}
use Rattle.da_values.proofs.OrderLaws.{val_order, same_from_val_cmp}
use Rattle.da_values.proofs.PlaceLaws.{Ascends-from_adjacent, adjacent_more, not_ascending}
use Rattle.da_values.proofs.read.ascends.Goals as goal

less_from_test : (o : Ordering) → true ≡ is_lt o → o ≡ Less
less_from_test Less t = refl
less_from_test Equal t = absurd (cc)
less_from_test Greater t = absurd (cc)

not_less_from_test : (o : Ordering) → false ≡ is_lt o → o ≡ Less → ⊥
not_less_from_test Less t e = absurd (cc)
not_less_from_test Equal t e = absurd (cc)
not_less_from_test Greater t e = absurd (cc)

pub loop-at-preserved : goal.loop-at-preserved
loop-at-preserved c =
    adjacent_more val_cmp val_order same_from_val_cmp val_of c.args.values.now c.loop-at.at c.index-values-at.result c.index-values-at-in-loop-at.result (omega arith) (omega arith) c.index-values-at.is c.index-values-at-in-loop-at.is
    (sym c.cmp_values.ensures ∙ less_from_test c.cmp_values.result c.if-not-is_lt.ensures) c.loop-at.invariant

pub returns-then-not-is_lt : goal.returns-then-not-is_lt
returns-then-not-is_lt c up =
    not_ascending val_cmp val_order same_from_val_cmp val_of c.args.values.now c.loop-at.at c.index-values-at.result c.index-values-at-in-loop-at.result (omega arith) (omega arith) c.index-values-at.is c.index-values-at-in-loop-at.is
    (λ less. not_less_from_test c.cmp_values.result c.if-not-is_lt.ensures (c.cmp_values.ensures ∙ less)) up

pub returns : goal.returns
returns c = Ascends-from_adjacent val_cmp val_order same_from_val_cmp val_of c.args.values.now (λ k d inside. c.loop-at.invariant k d (omega (arith, inside)))
