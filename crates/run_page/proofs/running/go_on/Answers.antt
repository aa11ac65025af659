use Rattle.std.proofs.Common.{refl}
use Rattle.std.proofs.lemmas.Result.{IfOk-weaker}
use Rattle.da_system.specs.State.{Stands}
use Rattle.da_system.specs.SystemStep.{SystemState}
use Rattle.run_page.specs.Running.{HasAdded, HasGone}
use Rattle.run_page.specs.declared.running.Running.{Running}
use Rattle.run_page.proofs.RunLemmas.{gone_on, way_on}
use Rattle.run_page.proofs.running.go_on.Goals as goal

pub step-requires : goal.step-requires
step-requires c = λ unspent. (c.requires.state, c.requires.stands)

pub add_row-requires : goal.add_row-requires
add_row-requires c =
    let old = c.args.running.now in
    let mid : Running = record old { system = c.step.new.system } in
    way_on c.args.number c.args.event.now c.requires.state old mid old refl refl refl c.in_ok-done.done c.requires.program c.in_ok-done.ensures.program (c.in_ok-done.ensures.stepped c.requires.state c.requires.stands)

pub returns : goal.returns
returns c =
    let old = c.args.running.now in
    let mid : Running = record old { system = c.step.new.system } in
    IfOk-weaker c.add_row.result (λ allowed. HasAdded c.args.number c.args.event.now c.in_ok-done.done mid allowed c.add_row.new.running)
    (λ allowed. (s : SystemState) → Stands old.system s → HasGone c.args.number c.args.event.now s old allowed c.add_row.new.running)
    (λ allowed added s stands.
    gone_on c.args.number c.args.event.now s old mid c.add_row.new.running refl refl refl c.in_ok-done.done allowed c.requires.program c.in_ok-done.ensures.program (c.in_ok-done.ensures.stepped s stands) added) c.add_row.ensures
