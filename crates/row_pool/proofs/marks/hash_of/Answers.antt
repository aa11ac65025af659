use Rattle.std.proofs.Common.{FoldHasher, ap, ◌∙◌}
use Rattle.std.specs.Hash.FoldHasher.{finish, write}
use Rattle.std.specs.List.{fold}
use Rattle.da_values.specs.Keys.{val_writes}
use Rattle.da_values.specs.Value.{val_of}
use Rattle.row_pool.specs.Marks.{hashed}
use Rattle.row_pool.proofs.marks.hash_of.Goals as goal

pub returns : goal.returns
unfolding hashed
returns c = c.finish.ensures ∙ ap finish (c.hash.ensures ∙ ap (λ (s : FoldHasher). fold write s (val_writes (val_of c.args.v.now))) c.default-hasher.ensures)
