use Rattle.std.proofs.Common.{subst}
use Rattle.type_table.specs.Fits.{Meaning, Fits}
use Rattle.type_table.specs.Values.{types_of}
use Rattle.type_choice.proofs.WholeLaws.{based, base_table, base_both, base_inside, base_fails, now_inside, adding_fails, receiving_fails, whole_fails, whole_chosen}
use Rattle.type_choice.proofs.choice.choose.Goals as goal

pub force_all-requires-clause-table : goal.force_all-requires-clause-table
force_all-requires-clause-table c =
    base_table c.args.forms.now c.push-2.new.self c.len-proc.result c.len-set.result c.args.adds.now c.args.receives.now c.requires.table c.requires.adds c.requires.receives
    (based c.args.forms.now c.push.new.self c.push-2.new.self c.len-proc.result c.len-set.result c.len-proc.ensures c.in_ok-push.ensures.ok c.len-set.ensures c.in_ok-push-2.ensures.ok)

pub force_all-requires-clause-both : goal.force_all-requires-clause-both
force_all-requires-clause-both c =
    base_both c.args.forms.now c.push-2.new.self c.len-proc.result c.len-set.result c.args.adds.now c.args.receives.now c.requires.table c.requires.adds c.requires.receives
    (based c.args.forms.now c.push.new.self c.push-2.new.self c.len-proc.result c.len-set.result c.len-proc.ensures c.in_ok-push.ensures.ok c.len-set.ensures c.in_ok-push-2.ensures.ok)

pub force_all-requires-clause-adds : goal.force_all-requires-clause-adds
force_all-requires-clause-adds c =
    base_inside c.args.forms.now c.push-2.new.self c.len-proc.result c.len-set.result c.args.adds.now c.args.receives.now c.requires.table c.requires.adds c.requires.receives
    (based c.args.forms.now c.push.new.self c.push-2.new.self c.len-proc.result c.len-set.result c.len-proc.ensures c.in_ok-push.ensures.ok c.len-set.ensures c.in_ok-push-2.ensures.ok) c.args.adds.now c.requires.adds

pub force_all-requires-clause-receives : goal.force_all-requires-clause-receives
force_all-requires-clause-receives c =
    base_inside c.args.forms.now c.push-2.new.self c.len-proc.result c.len-set.result c.args.adds.now c.args.receives.now c.requires.table c.requires.adds c.requires.receives
    (based c.args.forms.now c.push.new.self c.push-2.new.self c.len-proc.result c.len-set.result c.len-proc.ensures c.in_ok-push.ensures.ok c.len-set.ensures c.in_ok-push-2.ensures.ok) c.args.receives.now c.requires.receives

pub returns-then-not-branch-clause-none : goal.returns-then-not-branch-clause-none
returns-then-not-branch-clause-none c =
    λ can. base_fails c.args.forms.now c.push-2.new.self c.len-proc.result c.len-set.result c.args.adds.now c.args.receives.now c.requires.table c.requires.adds c.requires.receives
    (based c.args.forms.now c.push.new.self c.push-2.new.self c.len-proc.result c.len-set.result c.len-proc.ensures c.in_ok-push.ensures.ok c.len-set.ensures c.in_ok-push-2.ensures.ok) (c.in_ok-force_all.ensures.none c.if-not-branch.true)

pub all_add-requires-clause-numbers : goal.all_add-requires-clause-numbers
all_add-requires-clause-numbers c =
    now_inside c.args.forms.now c.push-2.new.self c.len-proc.result c.len-set.result c.args.adds.now c.args.receives.now c.requires.table c.requires.adds c.requires.receives
    (based c.args.forms.now c.push.new.self c.push-2.new.self c.len-proc.result c.len-set.result c.len-proc.ensures c.in_ok-push.ensures.ok c.len-set.ensures c.in_ok-push-2.ensures.ok) c.force_all.new.forms (c.in_ok-force_all.ensures.forced c.if-not-branch.false) c.args.adds.now c.requires.adds

pub all_receive-requires-clause-numbers : goal.all_receive-requires-clause-numbers
all_receive-requires-clause-numbers c =
    now_inside c.args.forms.now c.push-2.new.self c.len-proc.result c.len-set.result c.args.adds.now c.args.receives.now c.requires.table c.requires.adds c.requires.receives
    (based c.args.forms.now c.push.new.self c.push-2.new.self c.len-proc.result c.len-set.result c.len-proc.ensures c.in_ok-push.ensures.ok c.len-set.ensures c.in_ok-push-2.ensures.ok) c.force_all.new.forms (c.in_ok-force_all.ensures.forced c.if-not-branch.false) c.args.receives.now c.requires.receives

pub roots-requires-clause-numbers : goal.roots-requires-clause-numbers
roots-requires-clause-numbers c =
    now_inside c.args.forms.now c.push-2.new.self c.len-proc.result c.len-set.result c.args.adds.now c.args.receives.now c.requires.table c.requires.adds c.requires.receives
    (based c.args.forms.now c.push.new.self c.push-2.new.self c.len-proc.result c.len-set.result c.len-proc.ensures c.in_ok-push.ensures.ok c.len-set.ensures c.in_ok-push-2.ensures.ok) c.force_all.new.forms (c.in_ok-force_all.ensures.forced c.if-not-branch.false) c.args.receives.now c.requires.receives

pub returns-then-not-all_add-clause-none : goal.returns-then-not-all_add-clause-none
returns-then-not-all_add-clause-none c =
    λ can. adding_fails c.args.forms.now c.push-2.new.self c.len-proc.result c.len-set.result c.args.adds.now c.args.receives.now c.requires.table c.requires.adds c.requires.receives
    (based c.args.forms.now c.push.new.self c.push-2.new.self c.len-proc.result c.len-set.result c.len-proc.ensures c.in_ok-push.ensures.ok c.len-set.ensures c.in_ok-push-2.ensures.ok) c.force_all.new.forms (c.in_ok-force_all.ensures.forced c.if-not-branch.false) c.all_add.result c.all_add.ensures c.if-not-all_add.true

pub returns-then-not-all_receive-clause-none : goal.returns-then-not-all_receive-clause-none
returns-then-not-all_receive-clause-none c =
    λ can. receiving_fails c.args.forms.now c.push-2.new.self c.len-proc.result c.len-set.result c.args.adds.now c.args.receives.now c.requires.table c.requires.adds c.requires.receives
    (based c.args.forms.now c.push.new.self c.push-2.new.self c.len-proc.result c.len-set.result c.len-proc.ensures c.in_ok-push.ensures.ok c.len-set.ensures c.in_ok-push-2.ensures.ok) c.force_all.new.forms (c.in_ok-force_all.ensures.forced c.if-not-branch.false) c.all_receive.result c.all_receive.ensures c.if-not-all_receive.true

pub returns-clause-none : goal.returns-clause-none
returns-clause-none c =
    λ can. whole_fails c.args.forms.now c.push-2.new.self c.len-proc.result c.len-set.result c.args.adds.now c.args.receives.now c.requires.table c.requires.adds c.requires.receives
    (based c.args.forms.now c.push.new.self c.push-2.new.self c.len-proc.result c.len-set.result c.len-proc.ensures c.in_ok-push.ensures.ok c.len-set.ensures c.in_ok-push-2.ensures.ok) c.force_all.new.forms (c.in_ok-force_all.ensures.forced c.if-not-branch.false) c.in_ok-ends.ends c.as_slice.result.now c.in_ok-ends.ensures.is c.as_slice.ensures c.fill.new.forms c.fill.ensures (subst (λ z. (m : Meaning) → Fits m z → ⊥) c.as_slice-2.ensures (c.in_ok-can.ensures.circle can))

pub returns-clause-chosen : goal.returns-clause-chosen
returns-clause-chosen c =
    λ can. whole_chosen c.args.forms.now c.push-2.new.self c.len-proc.result c.len-set.result c.args.adds.now c.args.receives.now c.requires.table c.requires.adds c.requires.receives
    (based c.args.forms.now c.push.new.self c.push-2.new.self c.len-proc.result c.len-set.result c.len-proc.ensures c.in_ok-push.ensures.ok c.len-set.ensures c.in_ok-push-2.ensures.ok) c.force_all.new.forms (c.in_ok-force_all.ensures.forced c.if-not-branch.false) c.in_ok-ends.ends c.as_slice.result.now c.in_ok-ends.ensures.is c.as_slice.ensures c.fill.new.forms c.fill.ensures (c.in_ok-force_all.ensures.ready c.if-not-branch.false) c.all_add.result c.all_receive.result c.all_add.ensures c.if-not-all_add.false c.all_receive.ensures c.if-not-all_receive.false (subst (λ z. Fits (types_of z) z) c.as_slice-2.ensures (c.in_ok-can.ensures.fits can))

pub returns-clause-fits : goal.returns-clause-fits
returns-clause-fits c = λ can. subst (λ z. Fits (types_of z) z) c.as_slice-2.ensures (c.in_ok-can.ensures.fits can)
