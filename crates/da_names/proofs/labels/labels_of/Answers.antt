use Rattle.std.proofs.Common.{◌∙◌, ap, filter_map}
use Rattle.std.proofs.lemmas.List.{take_all}
use Rattle.da_lang.specs.Deeds as meaning
use Rattle.da_lang.specs.LabelNames.{labelled}
use Rattle.da_names.specs.declared.deeds.Deed.{Deed}
use Rattle.da_names.specs.DeedView.{deed_of, deeds_in, doing_of}
use Rattle.da_bodies.specs.Repeats.{declared_of}
use Rattle.da_names.proofs.ClassSteps.{kept_none, kept_some, filter_map-map}
use Rattle.da_names.proofs.labels.labels_of.Goals as goal
use Rattle.da_names.proofs.labels.labels_of.Goals.{in-Some+in_ok-push, in_default}

pub loop-deed-preserved : goal.loop-deed-preserved
loop-deed-preserved c =
    let l = c.loop-deed in
    elim c.match-label_in.branch [
      | in-Some+in_ok-push w ↦ kept_some declared_of (λ (d : Deed). labelled d.line (doing_of d.does)) l.list _ _ l.deed-index c.deed-item.result w.in-Some.label c.loop-deed-test.true c.deed-item.is l.invariant w.in-Some.ensures (w.list-is ∙ w.in_ok-push.ensures.ok)
      | in_default w ↦ kept_none declared_of (λ (d : Deed). labelled d.line (doing_of d.does)) l.list _ _ l.deed-index c.deed-item.result c.loop-deed-test.true c.deed-item.is l.invariant w.in_default.ensures w.list-is
    ]

pub returns : goal.returns
unfolding deeds_in
returns c =
    let l = c.loop-deed in
    l.invariant ∙ ap (filter_map (λ (d : Deed). labelled d.line (doing_of d.does))) (take_all l.deed-index c.args.deeds.now c.loop-deed-test.false) ∙ filter_map-map (λ (d : meaning.Deed). labelled d.line d.does) deed_of c.args.deeds.now
