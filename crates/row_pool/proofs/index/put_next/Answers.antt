use Rattle.std.specs.Prelude.{is_some}
use Rattle.std.specs.Option.{option_copied_mut}
use Rattle.std.proofs.Common.{sym, ap, ◌∙◌}
use Rattle.std.proofs.lemmas.Result.{on_err_weaker, on_ok_weaker}
use Rattle.row_pool.specs.Index.{or_none}
use Rattle.row_pool.proofs.NumberLaws.{next_comes, none_comes, same_map}
use Rattle.row_pool.proofs.index.put_next.Goals as goal

pub returns-in-Some-clause-ok : goal.returns-in-Some-clause-ok
returns-in-Some-clause-ok c =
    let there = sym c.get_mut.ensures.value ∙ ap option_copied_mut c.in-Some.is in
    on_ok_weaker c.push.result
    (next_comes c.args.index.now (c.get_mut.follows.lender c.push.new.self) c.args.mark c.args.key c.in-Some.keys.now c.push.new.self (ap or_none there) ((c.get_mut.follows.holds c.push.new.self).3 (ap is_some there)))
    c.push.ensures.ok

pub returns-in-Some-clause-err : goal.returns-in-Some-clause-err
returns-in-Some-clause-err c =
    let there = sym c.get_mut.ensures.value ∙ ap option_copied_mut c.in-Some.is in
    on_err_weaker c.push.result
    (none_comes c.args.index.now (c.get_mut.follows.lender c.push.new.self) c.args.mark c.in-Some.keys.now c.push.new.self (ap or_none there) ((c.get_mut.follows.holds c.push.new.self).3 (ap is_some there)))
    c.push.ensures.err

pub returns-in-None-clause-err : goal.returns-in-None-clause-err
returns-in-None-clause-err c = same_map c.args.index.now _ c.get_mut.follows.holds-at-none
