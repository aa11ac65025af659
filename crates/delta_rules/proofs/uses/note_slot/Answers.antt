use Rattle.std.proofs.Common.{sym, ◌∙◌, ap}
use Rattle.std.proofs.lemmas.Result.{on_ok_weaker}
use Rattle.delta_rules.specs.SlotUse.{is_listed}
use Rattle.delta_rules.proofs.UseLaws.{slot_comes, slot_there}
use Rattle.delta_rules.proofs.uses.note_slot.Goals as goal

pub returns-then-is_listed : goal.returns-then-is_listed
returns-then-is_listed c = slot_there c.args.slots.now c.args.slot (sym (c.is_listed.ensures ∙ ap (is_listed c.args.slot) c.as_slice.ensures) ∙ c.if-is_listed.true)

pub returns : goal.returns
returns c = on_ok_weaker c.push.result (slot_comes c.args.slots.now c.push.new.self c.args.slot) c.push.ensures.ok
