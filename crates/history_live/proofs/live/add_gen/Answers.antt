use Rattle.std.proofs.Common.{◌∙◌, sym}
use Rattle.std.proofs.lemmas.Result.{on_ok_weaker}
use Rattle.history_live.proofs.OnceAt.{new_by, seen_by}
use Rattle.history_live.proofs.live.add_gen.Goals as goal

pub returns-then-is_among : goal.returns-then-is_among
returns-then-is_among c =
    seen_by c.args.patterns.now c.as_slice.result.now c.in_ok-live.live c.args.gen_.now c.is_among.result c.as_slice.ensures c.in_ok-live.ensures c.is_among.ensures c.if-is_among.true (sym c.is_history.ensures ∙ c.if-not-is_history.false)

pub returns : goal.returns
returns c =
    on_ok_weaker _ (new_by c.args.patterns.now c.as_slice.result.now c.push.new.self c.in_ok-live.live c.args.gen_.now c.is_among.result c.as_slice.ensures c.in_ok-live.ensures c.is_among.ensures c.if-is_among.false (sym c.is_history.ensures ∙ c.if-not-is_history.false)) c.push.ensures.ok
