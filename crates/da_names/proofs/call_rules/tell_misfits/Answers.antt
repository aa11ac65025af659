use Rattle.std.proofs.Common.{◌∙◌, inl, inr}
use Rattle.da_lang.specs.declared.refusal.ScopeKind.TheVariants.{Arity}
use Rattle.da_lang.specs.Deeds.{Deed}
use Rattle.da_lang.specs.NameRules.{misfits}
use Rattle.da_calls.specs.CallGraph.{class_in}
use Rattle.da_names.proofs.DeedLaws.{where_more, where_nil}
use Rattle.da_names.proofs.call_rules.tell_misfits.Goals as goal
use Rattle.da_names.proofs.call_rules.tell_misfits.Goals.{then-misfits, else-misfits}

pub loop-deed-init : goal.loop-deed-init
loop-deed-init c = where_nil Arity (λ (d : Deed). misfits (class_in c.args.graph.now) d d.does) c.args.least.now

pub loop-deed-preserved : goal.loop-deed-preserved
loop-deed-preserved c =
    let l = c.loop-deed in
    where_more Arity (λ (d : Deed). misfits (class_in c.args.graph.now) d d.does) c.args.least.now l.least c.if-misfits.least c.args.deeds.now l.deed-index c.deed-item.result c.misfits.result c.loop-deed-test.true c.deed-item.is l.invariant c.misfits.ensures
    (elim c.if-misfits.branch [
      | then-misfits w ↦ inl (w.if-misfits.true, w.least-is ∙ w.tell.ensures)
      | else-misfits w ↦ inr (w.if-misfits.false, w.least-is)
    ])
