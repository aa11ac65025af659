use Rattle.std.proofs.Common.{◌≡◌, ◌∙◌, sym, ap, ◌-◌, length, drop, map}
use Rattle.da_lang.specs.declared.refusal.ScopeKind.TheVariants.{Shadow}
use Rattle.da_lang.specs.ClassParts as parts
use Rattle.da_lang.specs.ExprNames.{Local}
use Rattle.da_lang.specs.NameRules.{again}
use Rattle.da_lang.specs.Scopes.{at_lines}
use Rattle.da_bodies.specs.BodyView.{body_view, place_variables, told_params, told_place}
use Rattle.da_bodies.specs.Repeats.{declared_in}
use Rattle.da_bodies.specs.declared.repeats.Declared.{Declared}
use Rattle.da_bodies.specs.Telling.{telling}
use Rattle.da_bodies.specs.Told.{entered_each}
use Rattle.da_bodies.specs.ToldStmts.{told_block}
use Rattle.da_bodies.proofs.BodyLaws.{told_body-parts, place_names, left_body}
use Rattle.da_bodies.proofs.VariablesAt.{names_declared}
use Rattle.da_bodies.proofs.bodies.check_body.Goals as goal

pub returns-clause-told : goal.returns-clause-told
returns-clause-told c =
    let old = c.args.names.now in
    let first = c.args.least.now in
    let b = body_view c.args.body in
    let variables : declared_in c.as_slice.result.now ≡ place_variables b.line b.place = ap declared_in c.as_slice.ensures ∙ c.in_ok-variables.ensures in
    let variables-2 : declared_in c.as_slice-2.result.now ≡ place_variables b.line b.place = ap declared_in c.as_slice-2.ensures ∙ c.in_ok-variables.ensures in
    let doubled : c.tell_again.new.least ≡ telling (told_params b.line old first b.params) (at_lines Shadow (again (place_variables b.line b.place))) =
    c.in_ok-tell_again.ensures ∙ ap (λ f. telling f (at_lines Shadow (again (declared_in c.as_slice.result.now)))) c.check_params.ensures ∙ ap (λ ds. telling (told_params b.line old first b.params) (at_lines Shadow (again ds))) variables in
    let inside : c.enter_all.new.names ≡ entered_each Local (map (λ (d : parts.Declared). d.0) (place_variables b.line b.place)) (entered_each Local (map (λ p. p.name) b.params) old) =
    c.in_ok-enter_all.ensures ∙ ap (λ ns. entered_each Local ns c.enter_params.new.names) (names_declared c.as_slice-2.result.now ∙ ap (map (λ (d : parts.Declared). d.0)) variables-2)
    ∙ ap (entered_each Local (map (λ (d : parts.Declared). d.0) (place_variables b.line b.place))) (c.in_ok-enter_params.ensures ∙ ap (entered_each Local (map (λ p. p.name) b.params)) c.in_ok-check_place.ensures.same) in
    c.in_ok-check_block.ensures.told
    ∙ ap (λ s. told_block s c.check_place.new.least b.stmts) inside
    ∙ ap (λ f. told_block (entered_each Local (map (λ (d : parts.Declared). d.0) (place_variables b.line b.place)) (entered_each Local (map (λ p. p.name) b.params) old)) f b.stmts) (c.in_ok-check_place.ensures.told ∙ ap (λ f. told_place b.line old f b.place) doubled)
    ∙ ap (λ ns. told_block (entered_each Local ns (entered_each Local (map (λ p. p.name) b.params) old)) (told_place b.line old (telling (told_params b.line old first b.params) (at_lines Shadow (again (place_variables b.line b.place)))) b.place) b.stmts) (place_names b.line b.place)
    ∙ sym (told_body-parts old first b)

pub returns-clause-same : goal.returns-clause-same
returns-clause-same c =
    let outside = c.check_place.new.names in
    let b = body_view c.args.body in
    let inside : c.check_block.new.names ≡ entered_each Local (map (λ (d : Declared). d.name.now) c.as_slice-2.result.now) (entered_each Local (map (λ p. p.name) b.params) outside) =
    c.in_ok-check_block.ensures.same ∙ c.in_ok-enter_all.ensures ∙ ap (entered_each Local (map (λ (d : Declared). d.name.now) c.as_slice-2.result.now)) c.in_ok-enter_params.ensures in
    c.leave_to.ensures ∙ ap (λ n. drop (length c.check_block.new.names - n) c.check_block.new.names) c.len-outside.ensures
    ∙ ap (λ s. drop (length s - length outside) s) inside
    ∙ left_body outside (map (λ p. p.name) b.params) (map (λ (d : Declared). d.name.now) c.as_slice-2.result.now) ∙ c.in_ok-check_place.ensures.same
