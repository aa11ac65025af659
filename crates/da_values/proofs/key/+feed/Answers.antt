use Rattle.std.proofs.Common.{rules, lives, arith, ap}
use Rattle.da_values.specs.Layer.{weight_at, weight_of}
use Rattle.da_values.specs.Value.{weights}
use Rattle.da_values.proofs.key.+feed.Goals as goal

pub feed_value-feed_values-requires : goal.feed_value-feed_values-requires
feed_value-feed_values-requires g t c κs within =
    (omega (arith, c.decreases, weight_of c.args.v.now, ap weight_at c.in-Tuple.is, ap weights c.as_slice.ensures), search (rules, lives, within))

pub feed_value-feed_values-requires-in-Set : goal.feed_value-feed_values-requires-in-Set
feed_value-feed_values-requires-in-Set g t c κs within =
    (omega (arith, c.decreases, weight_of c.args.v.now, ap weight_at c.in-Set.is, ap weights c.as_slice-in-Set.ensures.items), search (rules, lives, within))
