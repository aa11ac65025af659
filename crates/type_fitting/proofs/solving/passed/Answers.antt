use Rattle.std.proofs.Common.{◌∙◌, sym}
use Rattle.type_table.specs.Values.{types_of}
use Rattle.type_fitting.proofs.SightLaws.{blocked_seen, blocked_short, blocked_narrow, all_passed}
use Rattle.type_fitting.proofs.solving.passed.Goals as goal

pub returns-then-not-are_seen : goal.returns-then-not-are_seen
returns-then-not-are_seen c = blocked_seen c.args.forms.now c.args.notes.now c.args.count c.in_ok-looks.looks c.in_ok-looks.ensures _ c.are_seen.ensures c.requires.notes c.if-not-are_seen.true

pub returns-then-not-are_short : goal.returns-then-not-are_short
returns-then-not-are_short c = blocked_short c.args.forms.now c.args.notes.now c.args.count c.in_ok-looks.looks c.in_ok-looks.ensures (λ forms are counts. c.are_short.ensures.some forms are counts c.if-not-are_short.true) c.requires.counts

pub returns-then-not-are_narrow : goal.returns-then-not-are_narrow
returns-then-not-are_narrow c = blocked_narrow c.args.count (types_of c.args.forms.now) c.args.notes.now c.in_ok-types.types c.as_slice.result.now c.as_slice.ensures c.in_ok-types.ensures _ c.are_narrow.ensures c.if-not-are_narrow.true

pub returns : goal.returns
returns c = all_passed c.args.count (types_of c.args.forms.now) c.args.notes.now c.in_ok-types.types c.as_slice.result.now c.as_slice.ensures c.in_ok-types.ensures _ c.are_narrow.ensures c.if-not-are_narrow.false (c.are_short.ensures.all c.args.forms.now c.in_ok-looks.ensures c.requires.counts c.if-not-are_short.false) (sym (c.are_seen.ensures c.args.forms.now c.in_ok-looks.ensures c.requires.notes) ∙ c.if-not-are_seen.false)
