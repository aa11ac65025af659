use Rattle.row_pool.proofs.index.take_key.Goals as goal

pub take_last-requires : goal.take_last-requires
take_last-requires c = c.is_last.ensures c.if-is_last.true

pub returns-then-is_last : goal.returns-then-is_last
returns-then-is_last c = c.take_last.ensures c.args.key c.requires
