use Rattle.row_pool.proofs.pool.Pool.put_element.Goals as goal

pub grow-requires : goal.grow-requires
grow-requires c =
    let may = c.if-not-may_get.false in
    record {
      held = c.requires.held;
      between = c.requires.between;
      named = c.requires.named;
      one = c.may_get.ensures.one may;
      set = c.may_get.ensures.set may;
      free = c.may_get.ensures.free may;
      number = c.mark_with-mark.ensures (c.may_get.ensures.set may) c.args.at c.requires.between;
    }
