use Rattle.std.proofs.Common.{◌∙◌}
use Rattle.da_core.specs.StandsFor.{program_of}
use Rattle.da_machine.proofs.Prefixes.{on_err}
use Rattle.da_core.proofs.Moving.{MovedPart, has_begun, has_made, may_with, stands_after}
use Rattle.da_core.proofs.process.Core.run_move.Goals as goal

pub run_from-run-requires : goal.run_from-run-requires
run_from-run-requires c =
    let core = c.args.self.now in
    let (w, step, s, can) = c.requires in
    (program_of core, can.class, can.d, can.todo, may_with (program_of core) can.class c.args.code.now core.known core.machine c.args.k c.args.begin can.d can.todo c.replace.result can.may)

pub returns-in_err-place-clause-prefix : goal.returns-in_err-place-clause-prefix
returns-in_err-place-clause-prefix c =
    let core = c.args.self.now in
    let code = c.args.code.now in
    let begin = c.args.begin in
    on_err _ (MovedPart core c.args.k code begin c.args.out.now c.replace-2.result) (λ w s step can.
    (let may = may_with (program_of core) can.class code core.known core.machine c.args.k begin can.d can.todo c.replace.result can.may in
    has_begun core w s step c.args.k code begin can c.replace.result c.args.out.now c.replace-2.result c.run_from-run.new.known.actions c.replace.ensures.value c.replace-2.ensures.value
    (c.in_err-place.ensures.part (program_of core) can.class can.d can.todo may)))

pub returns-clause-ready : goal.returns-clause-ready
returns-clause-ready c = λ unspent.
    let core = c.args.self.now in
    let (w, step, s, can) = c.requires in
    let code = c.args.code.now in
    let begin = c.args.begin in
    let may = may_with (program_of core) can.class code core.known core.machine c.args.k begin can.d can.todo c.replace.result can.may in
    let run = c.in_ok-place.ensures.runs (program_of core) can.class can.d can.todo may in
    (_, stands_after core w s step c.args.k code begin can c.replace.result c.run_from-run.new.known c.run_from-run.new.machine c.in_ok-place.place run c.replace-2.new.dest (c.replace-2.ensures.after ∙ c.new-2.ensures) c.settle.new.self c.settle.ensures.settled)

pub returns-clause-moves : goal.returns-clause-moves
returns-clause-moves c = λ w s step can.
    let core = c.args.self.now in
    let code = c.args.code.now in
    let begin = c.args.begin in
    let may = may_with (program_of core) can.class code core.known core.machine c.args.k begin can.d can.todo c.replace.result can.may in
    let run = c.in_ok-place.ensures.runs (program_of core) can.class can.d can.todo may in
    has_made core w s step c.args.k code begin can c.replace.result c.run_from-run.new.known c.run_from-run.new.machine c.in_ok-place.place run c.replace-2.new.dest (c.replace-2.ensures.after ∙ c.new-2.ensures) c.settle.new.self c.settle.ensures.settled
    c.args.out.now c.replace-2.result c.replace.ensures.value c.replace-2.ensures.value c.settle.result c.settle.ensures.stopped
