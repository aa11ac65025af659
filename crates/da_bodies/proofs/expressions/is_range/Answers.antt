use Rattle.std.proofs.Common.{◌∙◌, sym, ap}
use Rattle.da_lang.specs.ExprNames.{is_slot as slot_of}
use Rattle.da_lang.specs.Scopes.{look}
use Rattle.da_bodies.proofs.Ranges.{ranges-Name, ranges-Comp, ranges_others}
use Rattle.da_bodies.proofs.expressions.is_range.Goals as goal

pub returns-in-Name : goal.returns-in-Name
returns-in-Name c =
    c.is_slot.ensures ∙ ap slot_of c.look.ensures ∙ ap (λ name. slot_of (look c.args.names.now name)) c.as_slice.ensures
    ∙ sym (ranges-Name c.args.names.now c.args.x.now c.in-Name.name c.in-Name.is)

pub returns-in-Comp : goal.returns-in-Comp
returns-in-Comp c = sym (ranges-Comp c.args.names.now c.args.x.now c.in-Comp.term c.in-Comp.gens c.in-Comp.cond c.in-Comp.is)

pub returns-in_default : goal.returns-in_default
returns-in_default c = sym (ranges_others c.args.names.now c.args.x.now c.in_default.not-Name c.in_default.not-Comp)
