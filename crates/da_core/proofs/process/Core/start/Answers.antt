use Rattle.std.proofs.Common.{Some, ap, map, refl, sym, ◌∙◌}
use Rattle.da_lang.specs.World.{first_value}
use Rattle.da_core.proofs.Starting.{has_a_class, has_a_code, has_a_plan, has_a_start, starts_with}
use Rattle.da_core.proofs.process.Core.start.Goals as goal

pub unreachable-requires : goal.unreachable-requires
unreachable-requires c = has_a_class c.args.compiled.now c.args.me c.requires.compiled c.requires.there c.in_default.ensures

pub unreachable-requires-in_default-code_of : goal.unreachable-requires-in_default-code_of
unreachable-requires-in_default-code_of c = has_a_code c.args.compiled.now c.args.me c.requires.compiled c.requires.there c.in_default-code_of.ensures

pub unreachable-requires-in_default-start_of : goal.unreachable-requires-in_default-start_of
unreachable-requires-in_default-start_of c = has_a_start c.args.compiled.now c.args.me c.requires.compiled c.requires.there c.in_default-start_of.ensures

pub new-requires-clause-plan : goal.new-requires-clause-plan
new-requires-clause-plan c = (has_a_plan c.args.compiled.now c.args.me c.requires.compiled c.requires.there c.in-Some-code_of.code.now (sym c.in-Some-code_of.ensures)).0

pub new-requires-clause-plain : goal.new-requires-clause-plain
new-requires-clause-plain c = (has_a_plan c.args.compiled.now c.args.me c.requires.compiled c.requires.there c.in-Some-code_of.code.now (sym c.in-Some-code_of.ensures)).1

pub returns-clause-stands : goal.returns-clause-stands
returns-clause-stands c =
    starts_with c.args.compiled.now c.args.me c.requires.compiled c.requires.there _ refl c.in-Some-code_of.code.now (sym c.in-Some-code_of.ensures) refl refl
    c.in-Some.class.now (sym c.in-Some.ensures) refl refl c.new-2.ensures refl
    (λ d mine slots sent received. c.in_ok-new.ensures.kept d mine (slots ∙ ap (map (first_value c.args.me)) (sym c.as_slice.ensures) ∙ sym c.in_ok-slots.ensures) sent received)
    c.in_ok-new.ensures.laid c.in_ok-new.ensures.held c.new-3.ensures.loops c.new-3.ensures.stack (sym c.in-Some-start_of.ensures ∙ ap Some (sym c.new-3.ensures.place))
