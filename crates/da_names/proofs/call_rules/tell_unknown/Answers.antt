use Rattle.std.proofs.Common.{◌∙◌, inl, inr}
use Rattle.da_lang.specs.declared.refusal.ScopeKind.TheVariants.{Unknown}
use Rattle.da_lang.specs.Deeds.{Deed}
use Rattle.da_lang.specs.NameRules.{calls_none}
use Rattle.da_calls.specs.CallGraph.{class_in}
use Rattle.da_names.proofs.DeedLaws.{where_more, where_nil}
use Rattle.da_names.proofs.call_rules.tell_unknown.Goals as goal
use Rattle.da_names.proofs.call_rules.tell_unknown.Goals.{then-calls_none, else-calls_none}

pub loop-deed-init : goal.loop-deed-init
loop-deed-init c = where_nil Unknown (λ (d : Deed). calls_none (class_in c.args.graph.now) d.does) c.args.least.now

pub loop-deed-preserved : goal.loop-deed-preserved
loop-deed-preserved c =
    let l = c.loop-deed in
    where_more Unknown (λ (d : Deed). calls_none (class_in c.args.graph.now) d.does) c.args.least.now l.least c.if-calls_none.least c.args.deeds.now l.deed-index c.deed-item.result c.calls_none.result c.loop-deed-test.true c.deed-item.is l.invariant c.calls_none.ensures
    (elim c.if-calls_none.branch [
      | then-calls_none w ↦ inl (w.if-calls_none.true, w.least-is ∙ w.tell.ensures)
      | else-calls_none w ↦ inr (w.if-calls_none.false, w.least-is)
    ])
