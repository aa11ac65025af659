use Rattle.std.proofs.Common.{◌≡◌, ◌∙◌, ap, length, subst, sym}
use Rattle.std.specs.Prelude.{Some, slice_get}
use Rattle.da_lang.specs.declared.query.Node.TheVariants as node
use Rattle.query_plan.specs.Nodes.{IsPlan}
use Rattle.query_plan.specs.Storing.{AreEntries}
use Rattle.query_plan.proofs.StoredLaws.{stored_made}
use Rattle.query_plan.proofs.storing.store.Goals as goal

pub entries_of-requires : goal.entries_of-requires
entries_of-requires c = record {
  plan = subst IsPlan (sym c.as_slice-nodes.ensures) c.requires.plan;
  root = subst (λ ns. slice_get ns 0 ≡ Some node.Root) (sym c.as_slice-nodes.ensures) c.requires.root;
}

pub choice-requires : goal.choice-requires
choice-requires c = record {
  plan = subst IsPlan (sym c.as_slice-nodes.ensures) c.requires.plan;
  entries = subst (AreEntries c.as_slice-nodes.result.now) (sym c.as_slice-told.ensures) c.in_ok-entries.ensures.entries;
  many = ap length c.as_slice-told.ensures ∙ c.in_ok-entries.ensures.many;
}

pub stored_nodes-requires : goal.stored_nodes-requires
stored_nodes-requires c = ap length c.as_slice-stays.ensures ∙ c.in_ok-kept.ensures.many

pub returns : goal.returns
returns c =
    stored_made c.args.plan.now.nodes c.as_slice-nodes.result.now c.in_ok-entries.entries c.as_slice-told.result.now c.in_ok-kept.kept c.as_slice-stays.result.now c.in_ok-numbers.numbers c.as_slice-renamed.result.now c.in_ok-stored.stored
    c.in_ok-seen.seen c.as_slice-nodes.ensures c.requires.plan c.requires.plain c.in_ok-entries.ensures.entries c.in_ok-entries.ensures.many c.as_slice-told.ensures c.in_ok-kept.ensures c.as_slice-stays.ensures c.in_ok-numbers.ensures
    c.as_slice-renamed.ensures c.in_ok-stored.ensures c.in_ok-seen.ensures
