use Rattle.std.proofs.Common.{◌∙◌, ap, subst, sym}
use Rattle.da_system.specs.SystemStep.{start}
use Rattle.replay_run.specs.Replay.{outcome_of, run_on}
use Rattle.run_page.specs.RunRows.{AreRunRows, names_at}
use Rattle.run_page.specs.Running.{IsOpened, program_in}
use Rattle.run_page.specs.declared.running.Asked.{Asked}
use Rattle.run_page.proofs.running.run_rows.Goals as goal

pub run_events-requires : goal.run_events-requires
run_events-requires c = subst (λ (asked : Asked). IsOpened asked c.in_ok-running.running) (sym c.in_ok-running.ensures.asked_is) c.in_ok-running.ensures

pub returns-clause-outcome : goal.returns-clause-outcome
returns-clause-outcome c =
    c.in_ok-outcome.ensures.outcome ∙ ap (λ (asked : Asked). outcome_of (run_on (program_in asked) (start (program_in asked)) c.args.events.now).stop) c.in_ok-running.ensures.asked_is

pub returns-clause-rows : goal.returns-clause-rows
returns-clause-rows c =
    subst (λ (asked : Asked). AreRunRows (program_in asked) (names_at asked.names.now) asked.marked.now c.args.events.now c.run_events.new.running.rows) c.in_ok-running.ensures.asked_is c.in_ok-outcome.ensures.rows
