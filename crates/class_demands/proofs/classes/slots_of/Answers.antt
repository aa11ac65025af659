use Rattle.std.proofs.Common.{◌∙◌}
use Rattle.class_demands.specs.Walks.{class_slots}
use Rattle.class_demands.proofs.WalkForms.{flow_there, flow_within}
use Rattle.class_demands.proofs.classes.slots_of.Goals as goal

pub bounds-flows-place : goal.bounds-flows-place
bounds-flows-place c = flow_within (class_slots c.args.messages.now) c.args.classes.now c.args.flows.now c.args.place c.args.class.now c.requires.flows c.requires.there

pub returns : goal.returns
returns c =
    c.as_slice.ensures
    ∙ flow_there (class_slots c.args.messages.now) c.args.classes.now c.args.flows.now c.args.place c.args.class.now c.index-flows-place.result c.requires.flows c.requires.there c.index-flows-place.is
