use Rattle.std.proofs.Common.{◌∙◌, ap, sym}
use Rattle.std.specs.Prelude.{◌||◌}
use Rattle.da_lang.specs.declared.refusal.ScopeKind.TheVariants.{Yield}
use Rattle.da_lang.specs.ClassParts.{is_setup}
use Rattle.da_bodies.specs.BodyView.{place_view}
use Rattle.da_names.proofs.ClassSteps.{told_nothing}
use Rattle.da_names.proofs.classes.tell_yields_in.Goals as goal

pub returns-else-is_setup : goal.returns-else-is_setup
returns-else-is_setup c =
    let place = place_view c.args.body.place in
    told_nothing Yield c.args.least.now _ _ (ap (λ b. b || is_setup place) (sym c.is_handler.ensures ∙ c.if-is_handler.false) ∙ sym c.is_setup.ensures ∙ c.if-is_setup.false)
