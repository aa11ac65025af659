use Rattle.std.proofs.Common.{◌∙◌, ap, flat_map, inl, inr, sym}
use Rattle.std.specs.Prelude.{not}
use Rattle.std.proofs.lemmas.List.{take_all}
use Rattle.std.proofs.lemmas.List.Folds.{flat_map-map}
use Rattle.da_lang.specs.declared.refusal.ScopeKind.TheVariants.{Unknown}
use Rattle.da_lang.specs.ClassParts as parts
use Rattle.da_lang.specs.Scopes.{at_lines}
use Rattle.da_bodies.specs.BodyView.{body_view}
use Rattle.da_bodies.specs.Repeats.{is_seen}
use Rattle.da_bodies.specs.Telling.{telling}
use Rattle.da_bodies.specs.declared.bodies.Body.{Body}
use Rattle.da_bodies.proofs.AgainLaws.{told_if}
use Rattle.da_bodies.proofs.TellingLaws.{telling-nil}
use Rattle.da_names.specs.ClassRules.{bodies_in, missing_at}
use Rattle.da_names.proofs.ClassLaws.{flat_lines}
use Rattle.da_names.proofs.ClassSteps.{told_more}
use Rattle.da_names.proofs.LabelLaws.{missing_told}
use Rattle.da_names.proofs.labels.tell_missing.Goals as goal
use Rattle.da_names.proofs.labels.tell_missing.Goals.{then-not-has_labels, else-not-has_labels}

pub loop-body-init : goal.loop-body-init
loop-body-init c = sym (telling-nil c.args.least.now)

pub loop-body-preserved : goal.loop-body-preserved
loop-body-preserved c =
    let l = c.loop-body in
    let x = c.body-item.result in
    let test = is_seen c.args.seen.now in
    let last = c.if-not-has_labels.least in
    told_more (λ (b : Body). at_lines Unknown (missing_at test (body_view b))) c.args.least.now l.least last c.args.bodies.now l.body-index x c.loop-body-test.true c.body-item.is l.invariant
    (missing_told test (body_view x) l.least last c.has_labels.result c.has_labels.ensures
    (told_if Unknown x.line l.least last (not c.has_labels.result) (elim c.if-not-has_labels.branch [
      | then-not-has_labels w ↦ inl (ap not w.if-not-has_labels.true, w.least-is ∙ w.tell.ensures)
      | else-not-has_labels w ↦ inr (ap not w.if-not-has_labels.false, w.least-is)
    ])))

pub returns : goal.returns
unfolding bodies_in
returns c =
    let l = c.loop-body in
    let test = is_seen c.args.seen.now in
    let first = c.args.least.now in
    let lines = λ (b : parts.Body). at_lines Unknown (missing_at test b) in
    l.invariant
    ∙ ap (λ bs. telling first (flat_map (λ (b : Body). lines (body_view b)) bs)) (take_all l.body-index c.args.bodies.now c.loop-body-test.false)
    ∙ ap (telling first) (sym (flat_map-map lines body_view c.args.bodies.now) ∙ flat_lines Unknown (missing_at test) (bodies_in c.args.bodies.now))
