use Rattle.std.proofs.Common.{[], ◌∷◌, ◌++◌, ap, ◌∙◌}
use Rattle.std.proofs.lemmas.Result.{on_ok_weaker}
use Rattle.code_gen.proofs.PointCode.{made_label}
use Rattle.code_gen.proofs.items.emit_label.Goals as goal

pub returns : goal.returns
returns c =
    on_ok_weaker _ (made_label _ _ _ _ _ _ c.next_number-number.ensures c.in_ok-put.ensures c.here.ensures (c.in_ok-push.ensures.ok ∙ ap (λ l. l ++ c.here.result ∷ []) c.new-entries.ensures)) c.add_point.ensures
