use Rattle.std.proofs.Common.{◌∙◌, inl, inr}
use Rattle.da_lang.specs.declared.refusal.ScopeKind.TheVariants.{Yield}
use Rattle.da_lang.specs.Deeds.{Deed}
use Rattle.da_lang.specs.NameRules.{yields_by}
use Rattle.da_calls.specs.CallGraph.{class_in}
use Rattle.da_names.proofs.DeedLaws.{where_more, where_nil}
use Rattle.da_names.proofs.call_rules.tell_yields.Goals as goal
use Rattle.da_names.proofs.call_rules.tell_yields.Goals.{then-yields, else-yields}

pub loop-deed-init : goal.loop-deed-init
loop-deed-init c = where_nil Yield (λ (d : Deed). yields_by (class_in c.args.graph.now) d.does) c.args.least.now

pub loop-deed-preserved : goal.loop-deed-preserved
loop-deed-preserved c =
    let l = c.loop-deed in
    where_more Yield (λ (d : Deed). yields_by (class_in c.args.graph.now) d.does) c.args.least.now l.least c.if-yields.least c.args.deeds.now l.deed-index c.deed-item.result c.yields.result c.loop-deed-test.true c.deed-item.is l.invariant c.yields.ensures
    (elim c.if-yields.branch [
      | then-yields w ↦ inl (w.if-yields.true, w.least-is ∙ w.tell.ensures)
      | else-yields w ↦ inr (w.if-yields.false, w.least-is)
    ])
