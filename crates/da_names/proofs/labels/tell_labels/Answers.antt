use Rattle.std.proofs.Common.{◌≡◌, ◌∙◌, ap}
use Rattle.da_lang.specs.declared.refusal.ScopeKind.TheVariants.{Twice}
use Rattle.da_lang.specs.NameRules.{again}
use Rattle.da_lang.specs.Scopes.{at_lines}
use Rattle.da_bodies.specs.Repeats.{declared_in, is_declared, is_seen}
use Rattle.da_bodies.specs.Telling.{telling}
use Rattle.da_names.specs.ClassRules.{bodies_in, label_names}
use Rattle.da_names.specs.DeedView.{deeds_in}
use Rattle.da_names.proofs.LabelLaws.{labels_told}
use Rattle.da_names.proofs.labels.tell_labels.Goals as goal

pub returns : goal.returns
returns c =
    let first = c.args.least.now in
    let labels : declared_in c.as_slice.result.now ≡ label_names (deeds_in c.args.deeds.now) = ap declared_in c.as_slice.ensures ∙ c.in_ok-labels.ensures in
    labels_told (label_names (deeds_in c.args.deeds.now)) (bodies_in c.args.bodies.now) (is_seen c.in_ok-seen.seen) first c.see_again.new.least _
    (c.in_ok-seen.ensures.told ∙ ap (λ ds. telling first (at_lines Twice (again ds))) labels)
    (λ name. c.in_ok-seen.ensures.seen name ∙ ap (λ ds. is_declared ds name) labels)
    c.tell_missing.ensures
