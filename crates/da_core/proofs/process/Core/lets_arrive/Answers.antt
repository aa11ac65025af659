use Rattle.std.proofs.Common.{rules, ◌≡◌, ◌∙◌, Some, ap, false, refl, sym}
use Rattle.da_values.specs.Value.{val_of}
use Rattle.std.proofs.lemmas.Bool.{false≢true}
use Rattle.da_core.proofs.Delivering.{lets_in_so, none_arrives}
use Rattle.da_core.proofs.Telling.{labelled_so}
use Rattle.da_core.proofs.process.Core.lets_arrive.Goals as goal

pub returns-then-not-is_waiting : goal.returns-then-not-is_waiting
returns-then-not-is_waiting c = λ w s time.
    let idle : c.is_waiting.result ≡ false = search rules in
    none_arrives c.args.self.now w s (val_of c.args.m.now) c.args.from time (λ waits. false≢true (sym idle ∙ (c.is_waiting.ensures w s).1 waits)) false refl

pub returns : goal.returns
returns c = λ w s time.
    let core = c.args.self.now in
    let x = c.delivery_of-delivery.result in
    let made = c.delivery_of-delivery.ensures in
    let labelled = labelled_so x c.in-Some-Some.code.now core.machine.place c.label_at-label.result made.code made.label c.label_at-label.ensures in
    lets_in_so core w s x (ap Some made.class ∙ c.in-Some-Some.ensures) (ap Some made.code ∙ c.in-Some-Some.ensures') labelled c.args.m.now c.args.from made.message made.from
    ((c.is_waiting.ensures w s).0 (search rules)) c.is_taken.result core.known.answers.me refl c.is_taken.ensures time
