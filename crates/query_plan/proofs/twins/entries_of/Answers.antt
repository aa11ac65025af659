use Rattle.std.proofs.Common.{◌≡◌, ◌+◌, ◌∙◌, ap, arith, length}
use Rattle.std.proofs.lemmas.List.{length_push}
use Rattle.query_plan.proofs.EntryLaws.{entries_more, no_entries}
use Rattle.query_plan.proofs.twins.entries_of.Goals as goal

pub loop-i-init : goal.loop-i-init
loop-i-init c = no_entries c.args.nodes.now _ c.new-entries.ensures

pub entry_at-requires : goal.entry_at-requires
entry_at-requires c = record {
  plan = c.requires.plan;
  root = c.requires.root;
  entries = c.loop-i.invariant.1;
  many = c.loop-i.invariant.0;
  within = c.loop-i-test.true;
  widths = c.as_slice.ensures ∙ c.in_ok-widths.ensures;
}

pub loop-i-preserved : goal.loop-i-preserved
loop-i-preserved c =
    let longer : length c.push.new.self ≡ length c.loop-i.entries + 1 = ap length c.in_ok-push.ensures.ok ∙ length_push c.loop-i.entries c.in_ok-entry.entry in (
      omega (arith, c.loop-i.invariant.0, longer),
      entries_more c.args.nodes.now c.loop-i.entries c.push.new.self c.loop-i.i c.in_ok-entry.entry c.loop-i.invariant.0 c.in_ok-push.ensures.ok c.in_ok-entry.ensures c.loop-i.invariant.1,
    )
