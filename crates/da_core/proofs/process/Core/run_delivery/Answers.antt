use Rattle.std.proofs.Common.{rules, ◌≡◌, ◌∙◌, Some, ap, length}
use Rattle.std.specs.Prelude.{slice_set}
use Rattle.da_lang.specs.declared.event.Action.TheVariants as action
use Rattle.da_machine.proofs.Prefixes.{on_err}
use Rattle.da_core.specs.StandsFor.{program_of}
use Rattle.da_core.proofs.Telling.{ArrivedPart, labelled_so, may_take, took, took_part}
use Rattle.da_core.proofs.process.Core.run_delivery.Goals as goal

pub take_in-run-requires : goal.take_in-run-requires
take_in-run-requires c =
    let (w, s) = c.requires.ready c.requires.unspent in
    let x = c.delivery_of-delivery.result in
    let made = c.delivery_of-delivery.ensures in
    let labelled = labelled_so x c.in-Some-Some.code.now c.args.self.now.machine.place c.label_at-label.result made.code made.label c.label_at-label.ensures in
    (_, _, _, may_take c.args.self.now w s x c.args.time c.args.m c.args.from (ap Some made.class ∙ c.in-Some-Some.ensures) (ap Some made.code ∙ c.in-Some-Some.ensures') labelled made.message made.from c.requires.arrives (c.requires.taken w s) c.replace.result)

pub returns-in_err-place-clause-prefix : goal.returns-in_err-place-clause-prefix
returns-in_err-place-clause-prefix c =
    let x = c.delivery_of-delivery.result in
    let made = c.delivery_of-delivery.ensures in
    let labelled = labelled_so x c.in-Some-Some.code.now c.args.self.now.machine.place c.label_at-label.result made.code made.label c.label_at-label.ensures in
    let classed = ap Some made.class ∙ c.in-Some-Some.ensures in
    let coded = ap Some made.code ∙ c.in-Some-Some.ensures' in
    let got = action.Got c.args.self.now.known.answers.me c.args.from c.args.time c.args.m in
    let back : c.put_in.new.out ≡ slice_set c.take_in-run.new.known.actions (length c.replace.result) got = search rules in
    on_err _ (ArrivedPart c.args.self.now c.args.m c.args.from c.args.time c.args.out.now c.put_in.new.out) (λ w s.
    (let some = c.requires.taken w s in
    let may = may_take c.args.self.now w s x c.args.time c.args.m c.args.from classed coded labelled made.message made.from c.requires.arrives some c.replace.result in
    took_part c.args.self.now w s x c.args.time c.args.m c.args.from classed coded labelled made.message made.from c.requires.arrives some c.replace.result
    c.take_in-run.new.known.actions c.args.out.now c.put_in.new.out c.replace.ensures.value back (c.in_err-place.ensures.part (program_of c.args.self.now) w.data' w.todo may)))

pub returns-clause-delivers : goal.returns-clause-delivers
returns-clause-delivers c = λ w s.
    let x = c.delivery_of-delivery.result in
    let made = c.delivery_of-delivery.ensures in
    let labelled = labelled_so x c.in-Some-Some.code.now c.args.self.now.machine.place c.label_at-label.result made.code made.label c.label_at-label.ensures in
    let classed = ap Some made.class ∙ c.in-Some-Some.ensures in
    let coded = ap Some made.code ∙ c.in-Some-Some.ensures' in
    let some = c.requires.taken w s in
    let may = may_take c.args.self.now w s x c.args.time c.args.m c.args.from classed coded labelled made.message made.from c.requires.arrives some c.replace.result in
    let got = action.Got c.args.self.now.known.answers.me c.args.from c.args.time c.args.m in
    let back : c.put_in.new.out ≡ slice_set c.take_in-run.new.known.actions (length c.replace.result) got = search rules in
    took c.args.self.now w s x c.args.time c.args.m c.args.from classed coded labelled made.message made.from c.requires.arrives some c.replace.result
    c.take_in-run.new.known c.in_ok-place.place (c.in_ok-place.ensures.taken (program_of c.args.self.now) w.data' w.todo may)
    c.replace-2.new.dest (c.replace-2.ensures.after ∙ c.new-2.ensures) c.settle.new.self c.settle.ensures.settled
    c.args.out.now c.put_in.new.out c.replace.ensures.value back c.settle.result c.settle.ensures.stopped

pub returns-clause-ready : goal.returns-clause-ready
returns-clause-ready c = λ unspent.
    let (w, s) = c.requires.ready c.requires.unspent in
    let x = c.delivery_of-delivery.result in
    let made = c.delivery_of-delivery.ensures in
    let labelled = labelled_so x c.in-Some-Some.code.now c.args.self.now.machine.place c.label_at-label.result made.code made.label c.label_at-label.ensures in
    let classed = ap Some made.class ∙ c.in-Some-Some.ensures in
    let coded = ap Some made.code ∙ c.in-Some-Some.ensures' in
    let some = c.requires.taken w s in
    let may = may_take c.args.self.now w s x c.args.time c.args.m c.args.from classed coded labelled made.message made.from c.requires.arrives some c.replace.result in
    let got = action.Got c.args.self.now.known.answers.me c.args.from c.args.time c.args.m in
    let back : c.put_in.new.out ≡ slice_set c.take_in-run.new.known.actions (length c.replace.result) got = search rules in
    let all = took c.args.self.now w s x c.args.time c.args.m c.args.from classed coded labelled made.message made.from c.requires.arrives some c.replace.result
    c.take_in-run.new.known c.in_ok-place.place (c.in_ok-place.ensures.taken (program_of c.args.self.now) w.data' w.todo may)
    c.replace-2.new.dest (c.replace-2.ensures.after ∙ c.new-2.ensures) c.settle.new.self c.settle.ensures.settled
    c.args.out.now c.put_in.new.out c.replace.ensures.value back c.settle.result c.settle.ensures.stopped in
    (all.after.world, all.stands)
