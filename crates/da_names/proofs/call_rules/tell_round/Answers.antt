use Rattle.std.proofs.Common.{◌∙◌, ap, inl, inr}
use Rattle.std.proofs.lemmas.List.{take_all}
use Rattle.da_lang.specs.declared.refusal.ScopeKind.TheVariants.{Recursive}
use Rattle.da_lang.specs.Deeds.{Deed}
use Rattle.da_lang.specs.NameRules.{leads_back, lines_where}
use Rattle.da_lang.specs.Scopes.{at_lines}
use Rattle.da_calls.specs.CallGraph.{class_in}
use Rattle.da_names.specs.DeedView.{deeds_in}
use Rattle.da_bodies.specs.Telling.{telling}
use Rattle.da_names.proofs.DeedLaws.{where_more, where_nil}
use Rattle.da_names.proofs.RecursiveLaws.{round_told}
use Rattle.da_names.proofs.call_rules.tell_round.Goals as goal
use Rattle.da_names.proofs.call_rules.tell_round.Goals.{then-goes_round, else-goes_round}

pub loop-deed-init : goal.loop-deed-init
loop-deed-init c = where_nil Recursive (λ (d : Deed). leads_back (class_in c.args.graph.now) c.args.holder.now d.does) c.args.least.now

pub loop-deed-preserved : goal.loop-deed-preserved
loop-deed-preserved c =
    let l = c.loop-deed in
    where_more Recursive (λ (d : Deed). leads_back (class_in c.args.graph.now) c.args.holder.now d.does) c.args.least.now l.least c.if-goes_round.least c.args.deeds.now l.deed-index c.deed-item.result c.goes_round.result c.loop-deed-test.true c.deed-item.is l.invariant
    (c.goes_round.ensures ∙ round_told (class_in c.args.graph.now) c.args.holder.now c.args.deeds.now l.deed-index c.deed-item.result c.loop-deed-test.true c.deed-item.is c.requires.deeds)
    (elim c.if-goes_round.branch [
      | then-goes_round w ↦ inl (w.if-goes_round.true, w.least-is ∙ w.tell.ensures)
      | else-goes_round w ↦ inr (w.if-goes_round.false, w.least-is)
    ])

pub returns : goal.returns
returns c =
    let l = c.loop-deed in
    let lines = lines_where (λ (d : Deed). leads_back (class_in c.args.graph.now) c.args.holder.now d.does) in
    l.invariant
    ∙ ap (λ ds. telling c.args.least.now (at_lines Recursive (lines (deeds_in ds)))) (take_all l.deed-index c.args.deeds.now c.loop-deed-test.false)
    ∙ ap (λ ds. telling c.args.least.now (at_lines Recursive (lines ds))) c.requires.deeds
