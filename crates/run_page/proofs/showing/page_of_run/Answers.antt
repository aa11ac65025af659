use Rattle.std.proofs.Common.{◌≡◌, ◌∙◌}
use Rattle.std.proofs.lemmas.Result.{IfOk-weaker}
use Rattle.da_core.specs.Compiled.{program_of}
use Rattle.da_system.specs.SystemStep.{start}
use Rattle.replay_run.specs.Replay.{outcome_of, run_on}
use Rattle.trace_page.specs.PageText.{page_text}
use Rattle.run_page.specs.RunRows.{IsRunPage, page_of_rows}
use Rattle.run_page.specs.declared.showing.Shown.{Shown}
use Rattle.run_page.proofs.ShownLemmas.{page_is}
use Rattle.run_page.proofs.showing.page_of_run.Goals as goal

pub returns-clause-outcome : goal.returns-clause-outcome
returns-clause-outcome c =
    let program = program_of c.args.compiled.now in
    IfOk-weaker c.page_with.result (λ (shown : Shown). shown.outcome ≡ c.in_ok-ran.ran.outcome) (λ (shown : Shown). shown.outcome ≡ outcome_of (run_on program (start program) c.args.events.now).stop)
    (λ shown is. is ∙ c.in_ok-ran.ensures.outcome) c.page_with.ensures.outcome

pub returns-clause-page : goal.returns-clause-page
returns-clause-page c =
    let program = program_of c.args.compiled.now in
    IfOk-weaker c.page_with.result (λ (shown : Shown). shown.page ≡ page_text (page_of_rows c.program-typed.result.now c.in_ok-remarks.remarks c.in_ok-ran.ran.rows) c.args.text.now)
    (λ (shown : Shown). IsRunPage program c.args.tree.now c.args.text.now c.args.schedule.now c.args.events.now shown.page)
    (λ shown is.
    page_is program c.program-typed.result.now c.args.tree.now c.args.text.now c.args.schedule.now c.args.events.now c.in_ok-names.names c.as_slice.result.now c.in_ok-remarks.remarks c.as_slice-2.result.now c.in_ok-ran.ran.rows shown.page
    c.program-typed.ensures c.in_ok-names.ensures c.as_slice.ensures c.in_ok-remarks.ensures c.as_slice-2.ensures c.in_ok-ran.ensures.rows is) c.page_with.ensures.page
