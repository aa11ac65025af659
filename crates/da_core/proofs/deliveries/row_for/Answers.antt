use Rattle.std.specs.Prelude.{[]}
use Rattle.std.proofs.Common.{◌≡◌, sym, ◌∙◌}
use Rattle.std.proofs.lemmas.Result.{IfOk-weaker}
use Rattle.da_values.specs.Value.{val_of}
use Rattle.da_lang.specs.Matching.{matched_entry}
use Rattle.da_lang.specs.World.{Data}
use Rattle.da_core.specs.Known.{Each}
use Rattle.da_core.proofs.deliveries.row_for.Goals as goal

pub returns : goal.returns
returns c =
    IfOk-weaker c.matched_row.result
    (λ row. (d : Data) → d.me ≡ c.args.known.now.answers.me → d.slots ≡ c.slot_values.result.now → row ≡ matched_entry d c.args.handler.now.message c.args.handler.now.from (val_of c.args.m.now) c.args.from [])
    (λ row. Each c.args.known.now (λ p class d. row ≡ matched_entry d c.args.handler.now.message c.args.handler.now.from (val_of c.args.m.now) c.args.from []))
    (λ row told p class d knows. told d (sym knows.keeps.me) (sym knows.keeps.values ∙ sym c.slot_values.ensures)) c.matched_row.ensures
