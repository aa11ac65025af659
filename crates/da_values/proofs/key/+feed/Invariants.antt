use Rattle.std.proofs.Common.{◌≡◌, ◌++◌, length, take, fold, flat_map}
use Rattle.std.specs.Hash as fed
use Rattle.da_values.specs.Keys.{val_writes}
use Rattle.da_values.specs.Value.{val_of, vals, weight, weights}
use Rattle.da_values.proofs.key.+feed.Given as goal

abbrev pub decreases-feed_value : goal.decreases-feed_value
decreases-feed_value g l = weight (val_of l.v.now)

abbrev pub decreases-feed_values : goal.decreases-feed_values
decreases-feed_values g l = weights (vals l.values.now)

abbrev pub invariant-feed_values-loop-value : goal.invariant-feed_values-loop-value
invariant-feed_values-loop-value g l = l.state ≡ fold g.H.Hasher.write l.fn.state (fed.usize (length l.values) ++ flat_map val_writes (vals (take l.value-index l.values)))
