use Rattle.std.proofs.Common.{◌<◌, ◌≤◌, length, refl, arith}
use Rattle.da_machine.proofs.Prefixes.{on_err}
use Rattle.da_core.proofs.Asking.{AnswersPart, all_answered, answers_prefix, none_answered, one_answered}
use Rattle.da_core.proofs.answers.tell_answers.Goals as goal

pub loop-place-init : goal.loop-place-init
loop-place-init c = none_answered c.args.known.now c.args.out.now

pub loop-place-preserved : goal.loop-place-preserved
loop-place-preserved c =
    let within : c.loop-place.place < length c.args.known.now.plan.now.queries = omega (arith, c.loop-place-test.true, c.len-count.ensures) in
    one_answered c.args.known.now c.args.out.now c.loop-place.out c.push.new.self c.loop-place.place c.in_ok-n.n c.in_ok-rows.rows within c.in_ok-n.ensures c.in_ok-rows.ensures c.in_ok-push.ensures.ok c.loop-place.invariant

pub returns-clause-told : goal.returns-clause-told
returns-clause-told c =
    let past : length c.args.known.now.plan.now.queries ≤ c.loop-place.place = omega (arith, c.loop-place-test.false, c.len-count.ensures) in
    all_answered c.args.known.now c.args.out.now c.loop-place.out c.loop-place.place past c.loop-place.invariant

pub returns-in_err-n-clause-prefix : goal.returns-in_err-n-clause-prefix
returns-in_err-n-clause-prefix c =
    on_err _ (AnswersPart c.args.known.now c.args.out.now c.loop-place.out)
    (answers_prefix c.args.known.now c.args.out.now c.loop-place.out c.loop-place.out c.loop-place.place refl c.loop-place.invariant)

pub returns-in_err-rows-clause-prefix : goal.returns-in_err-rows-clause-prefix
returns-in_err-rows-clause-prefix c =
    on_err _ (AnswersPart c.args.known.now c.args.out.now c.loop-place.out)
    (answers_prefix c.args.known.now c.args.out.now c.loop-place.out c.loop-place.out c.loop-place.place refl c.loop-place.invariant)

pub returns-in_err-push-clause-prefix : goal.returns-in_err-push-clause-prefix
returns-in_err-push-clause-prefix c =
    on_err _ (AnswersPart c.args.known.now c.args.out.now c.push.new.self)
    (answers_prefix c.args.known.now c.args.out.now c.loop-place.out c.push.new.self c.loop-place.place c.in_err-push.ensures.err c.loop-place.invariant)
