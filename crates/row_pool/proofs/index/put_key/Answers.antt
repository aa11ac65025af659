use Rattle.row_pool.proofs.index.put_key.Goals as goal

pub put_first-requires : goal.put_first-requires
put_first-requires c = c.is_free.ensures c.if-is_free.true
