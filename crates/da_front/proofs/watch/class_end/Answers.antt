use Rattle.std.proofs.Common.{refl}
use Rattle.da_front.proofs.WatchLemmas.{class_here, class_later, no_class}
use Rattle.da_front.proofs.watch.class_end.Goals as goal

pub pieces-preserved : goal.pieces-preserved
pieces-preserved c = class_later c.args.text.now c.pieces.rest.now c.args.tokens.now _ _ c.is_new.result c.in-len1-up.len_at_least refl c.is_new.ensures c.if-is_new.false c.pieces.invariant

pub returns-then-is_new : goal.returns-then-is_new
returns-then-is_new c = class_here c.args.text.now c.pieces.rest.now c.args.tokens.now _ _ c.is_new.result c.second_end.result c.in-len1-up.len_at_least refl c.is_new.ensures c.if-is_new.true c.second_end.ensures c.pieces.invariant

pub returns : goal.returns
returns c = no_class c.args.text.now c.pieces.rest.now c.args.tokens.now c.in_default.len_below c.pieces.invariant
