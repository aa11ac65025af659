use Rattle.std.specs.Prelude.{◌∷◌, []}
use Rattle.std.proofs.lemmas.Result.{IfOk-weaker}
use Rattle.row_pool.specs.Pool.{Trades}
use Rattle.da_values.specs.Value.{val_of}
use Rattle.row_pool.proofs.NewLaws.{still_absent}
use Rattle.row_pool.proofs.TradeLaws.{beside, then_trades, on_err}
use Rattle.row_pool.proofs.ChildLaws.{no_keys, tuple_keys, set_keys, one_more_key}
use Rattle.row_pool.proofs.pool.Pool.+intern.Goals as goal

pub intern_children-returns-in_default : goal.intern_children-returns-in_default
intern_children-returns-in_default t c = record { ok = no_keys _ c.args.v.now _ c.new.ensures c.in_default.not-Tuple c.in_default.not-Set; err = tt }

pub intern_children-returns-in-Tuple-clause-ok : goal.intern_children-returns-in-Tuple-clause-ok
intern_children-returns-in-Tuple-clause-ok t c = tuple_keys _ _ _ c.args.v.now _ c.in-Tuple.parts c.in-Tuple.is c.as_slice.ensures c.intern_each.ensures.ok

pub intern_children-returns-in-Set-clause-ok : goal.intern_children-returns-in-Set-clause-ok
intern_children-returns-in-Set-clause-ok t c = set_keys _ _ _ c.args.v.now _ c.in-Set.elements c.in-Set.is c.as_slice-in-Set.ensures.items c.intern_each-in-Set.ensures.ok

pub intern_each-loop-value-preserved : goal.intern_each-loop-value-preserved
intern_each-loop-value-preserved t c = one_more_key _ _ _ _ _ _ _ _ c.loop-value.invariant c.in-Ok.ensures.ok c.loop-value-test.true c.value-item.is

pub intern_each-returns-in-Err-clause-err : goal.intern_each-returns-in-Err-clause-err
intern_each-returns-in-Err-clause-err t c =
    let between = beside _ _ c.loop-value.keys c.in-Err.ensures.err in
    then_trades _ _ _ _ c.loop-value.keys _ (then_trades _ _ _ _ c.loop-value.keys _ c.loop-value.invariant.trades between) (rw (← c.in-Err.ensures.keys, ← c.as_slice.ensures) c.give_back_each.ensures)

pub intern_next-returns-in-Err-clause-err : goal.intern_next-returns-in-Err-clause-err
intern_next-returns-in-Err-clause-err t c = then_trades _ _ _ _ _ _ c.in_ok-id.ensures.ok c.give_back.ensures

pub intern_value-add-requires-clause-absent : goal.intern_value-add-requires-clause-absent
intern_value-add-requires-clause-absent t c =
    let same = rw c.in-None.is at c.in_ok-found.ensures.none in
    let absent = rw c.in-None.is at c.in_ok-found.ensures.absent in
    still_absent c.self.invariant.find c.self-in-None.invariant.find _ _ _ _ c.self.view_is c.self-in-None.view_is c.self.invariant.pool c.self-in-None.invariant.pool (val_of c.args.v.now) c.in_ok-parts-in-None.parts c.in_ok-parts-in-None.ensures.ok (rw same absent)

pub intern_value-returns-in_ok-parts-in-None-clause-ok : goal.intern_value-returns-in_ok-parts-in-None-clause-ok
intern_value-returns-in_ok-parts-in-None-clause-ok t c =
    let same = rw c.in-None.is at c.in_ok-found.ensures.none in
    IfOk-weaker c.add.result _ (λ id. Trades c.args.self.now [] c.add.new.self (id ∷ [])) (λ id trades. then_trades _ _ _ _ _ _ (rw (← same) c.in_ok-parts-in-None.ensures.ok.trades) trades) c.add.ensures.ok

pub intern_value-returns-in_ok-parts-in-None-clause-err : goal.intern_value-returns-in_ok-parts-in-None-clause-err
intern_value-returns-in_ok-parts-in-None-clause-err t c =
    let same = rw c.in-None.is at c.in_ok-found.ensures.none in
    on_err c.add.result _ (Trades c.args.self.now [] c.add.new.self []) (λ trades. then_trades _ _ _ _ _ _ (rw (← same) c.in_ok-parts-in-None.ensures.ok.trades) trades) c.add.ensures.err
