use Rattle.row_pool.proofs.pool.Pool.take_out.Goals as goal

pub shrink-requires : goal.shrink-requires
shrink-requires c =
    let may = c.if-not-may_get.false in
    record {
      held = c.requires.held;
      place = c.requires.there;
      one = c.may_get.ensures.one may;
      free = c.may_get.ensures.free may;
      number = c.mark_without-mark.ensures c.args.at c.requires.there;
    }
