use Rattle.da_limits.specs.Copied.{copied}
use Rattle.da_limits.proofs.ClassLimits.{class_made}
use Rattle.da_limits.proofs.walk.tell_class.Goals as goal

pub returns : goal.returns
returns c =
    class_made c.args.class.now c.in_ok-graph.graph.class.now (copied c.in_ok-copies.copies) _ _ _ _ _ c.in_ok-graph.ensures.class c.in_ok-copies.ensures.copied c.class_extent-extent.ensures c.in_ok-many.ensures.many c.in_ok-many.ensures.told c.tell_extent.ensures
