use Rattle.std.proofs.Common.{refl, sym, ◌∙◌}
use Rattle.da_machine.proofs.Prefixes.{on_err}
use Rattle.da_core.proofs.Arriving.{TriedPart, not_tried}
use Rattle.da_machine.proofs.Prefixes.{same_prefix}
use Rattle.da_core.proofs.deliveries.try_handler.Goals as goal

pub returns-in_err-row-clause-part : goal.returns-in_err-row-clause-part
returns-in_err-row-clause-part c =
    on_err _ (TriedPart c.args.delivery.now c.args.handler.now c.args.turns c.args.known.now c.args.known.now.actions) (λ p d may go. same_prefix _ _ _ refl)

pub returns-in-None-clause-tried : goal.returns-in-None-clause-tried
returns-in-None-clause-tried c =
    not_tried c.args.delivery.now c.args.handler.now c.args.turns c.args.known.now (λ p class d knows. sym c.in-None.is ∙ c.in_ok-row.ensures p class d knows)

pub run_handler-requires-clause-matches : goal.run_handler-requires-clause-matches
run_handler-requires-clause-matches c = λ p class d knows. sym (c.in_ok-row.ensures p class d knows) ∙ c.in-Some.is
