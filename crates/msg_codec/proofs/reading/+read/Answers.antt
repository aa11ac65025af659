use Rattle.std.specs.Prelude.{◌≡◌, ◌+◌}
use Rattle.std.proofs.Common.{◌∙◌, ap, refl, rules, subst, sym}
use Rattle.std.proofs.lemmas.Result.{err_from_is_err_and}
use Rattle.da_values.specs.declared.value.Value.TheVariants as kept
use Rattle.da_values.specs.Order.{val_cmp}
use Rattle.da_values.specs.Sets.{Ascends}
use Rattle.da_values.specs.Value.{val_of, vals}
use Rattle.da_values.proofs.ItemLaws.{vals-push}
use Rattle.msg_codec.specs.declared.packet.CodecFault.TheVariants.{Memory}
use Rattle.msg_codec.proofs.PieceLaws.{no_bytes, value_only, value_there}
use Rattle.msg_codec.proofs.ReadLaws.{ReadSoFar, all_read, failed, nothing_read, only_these, read_more, set_only}
use Rattle.msg_codec.proofs.reading.+read.Goals as goal

pub set_at-returns-in_err-elements-clause-only : goal.set_at-returns-in_err-elements-clause-only
set_at-returns-in_err-elements-clause-only t c v rest there =
    let p = err_from_is_err_and c.from_residual.result c.from_residual.ensures.1 in
    let meant = set_only c.args.depth c.in-Some.count c.args.bytes.now c.in-Some.rest.now c.requires (search rules) c.in-Some.ensures v rest there in
    rw (p.1, p.2) (c.in_err-elements.ensures.only meant.0 rest meant.3)

pub set_at-returns-in-Some-from_ascending-clause-only : goal.set_at-returns-in-Some-from_ascending-clause-only
set_at-returns-in-Some-from_ascending-clause-only t c v rest there =
    let meant = set_only c.args.depth c.in-Some.count c.args.bytes.now c.in-Some.rest.now c.requires (search rules) c.in-Some.ensures v rest there in
    let found = c.in_ok-elements.ensures.only meant.0 rest meant.3 in
    (ap kept.Set (c.in-Some-from_ascending.ensures.set ∙ found.0) ∙ meant.1, found.1)

pub set_at-returns-in-None-clause-only : goal.set_at-returns-in-None-clause-only
set_at-returns-in-None-clause-only t c v rest there =
    let meant = set_only c.args.depth c.in-Some.count c.args.bytes.now c.in-Some.rest.now c.requires (search rules) c.in-Some.ensures v rest there in
    let found = c.in_ok-elements.ensures.only meant.0 rest meant.3 in
    absurd (c.in-None.ensures.none refl (subst (Ascends val_cmp) (sym found.0) meant.2))

pub value_at-returns-in-Some-clause-front : goal.value_at-returns-in-Some-clause-front
value_at-returns-in-Some-clause-front t c = value_there c.args.depth c.in-Some.letter c.args.bytes.now c.in-Some.rest.now c.behind.result c.in-Some.ensures c.behind.ensures.front

pub value_at-returns-in-Some-clause-only : goal.value_at-returns-in-Some-clause-only
value_at-returns-in-Some-clause-only t c = value_only c.args.depth c.in-Some.letter c.args.bytes.now c.in-Some.rest.now c.behind.result c.in-Some.ensures c.behind.ensures.only

pub value_at-returns-in-None-clause-only : goal.value_at-returns-in-None-clause-only
value_at-returns-in-None-clause-only t c x rest begins = absurd (no_bytes c.args.depth x c.args.bytes.now rest c.in-None.ensures begins)

pub values_at-loop-place-init : goal.values_at-loop-place-init
values_at-loop-place-init t c = subst (λ done. ReadSoFar c.args.depth c.args.count c.args.bytes.now (vals done) c.args.bytes.now 0) (sym c.new-values.ensures) (nothing_read c.args.depth c.args.count c.args.bytes.now c.requires)

pub values_at-value_at-requires : goal.values_at-value_at-requires
values_at-value_at-requires t c = (search rules, c.loop-place.invariant.small)

pub values_at-returns-in_err-value-clause-only : goal.values_at-returns-in_err-value-clause-only
values_at-returns-in_err-value-clause-only t c xs rest each =
    let p = err_from_is_err_and c.from_residual.result c.from_residual.ensures.1 in
    rw (p.1, p.2) (failed c.args.depth c.args.count c.args.bytes.now (vals c.loop-place.values) c.loop-place.left.now c.loop-place._place c.loop-place.invariant (c.in_err-value.field-0.0 ≡ Memory) (search rules) c.in_err-value.ensures.only xs rest each)

pub values_at-loop-place-preserved : goal.values_at-loop-place-preserved
values_at-loop-place-preserved t c =
    subst (λ done. ReadSoFar c.args.depth c.args.count c.args.bytes.now done c.in_ok-value.rest.now (c.loop-place._place + 1)) (sym (vals-push c.loop-place.values c.push.new.self c.in_ok-value.value c.in_ok-push.ensures.ok))
    (read_more c.args.depth c.args.count c.args.bytes.now (vals c.loop-place.values) c.loop-place.left.now c.loop-place._place c.loop-place.invariant (search rules) (val_of c.in_ok-value.value) c.in_ok-value.rest.now c.in_ok-value.ensures.front c.in_ok-value.ensures.only)

pub values_at-returns-clause-front : goal.values_at-returns-clause-front
values_at-returns-clause-front t c = all_read c.args.depth c.args.count c.args.bytes.now (vals c.loop-place.values) c.loop-place.left.now c.loop-place._place c.loop-place.invariant (search rules)

pub values_at-returns-clause-only : goal.values_at-returns-clause-only
values_at-returns-clause-only t c xs rest each = only_these c.args.depth c.args.count c.args.bytes.now (vals c.loop-place.values) c.loop-place.left.now c.loop-place._place c.loop-place.invariant (search rules) xs rest each
