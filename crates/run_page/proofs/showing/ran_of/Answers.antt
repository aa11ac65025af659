use Rattle.std.proofs.Common.{◌∙◌, subst}
use Rattle.std.proofs.lemmas.Result.{IfOk-weaker}
use Rattle.std.specs.List.{flat_map}
use Rattle.da_core.specs.Compiled.{program_of}
use Rattle.run_page.specs.Remarks.{events_named}
use Rattle.run_page.specs.RunRows.{AreRunRows, names_at}
use Rattle.run_page.specs.declared.running.Ran.{Ran}
use Rattle.run_page.proofs.showing.ran_of.Goals as goal

pub returns-clause-outcome : goal.returns-clause-outcome
returns-clause-outcome c = c.run_rows.ensures.outcome

pub returns-clause-rows : goal.returns-clause-rows
returns-clause-rows c =
    let program = program_of c.args.compiled.now in
    IfOk-weaker c.run_rows.result (λ (ran : Ran). AreRunRows program (names_at c.args.names.now) c.as_slice.result.now c.args.events.now ran.rows)
    (λ (ran : Ran). AreRunRows program (names_at c.args.names.now) (flat_map events_named c.args.remarks.now) c.args.events.now ran.rows)
    (λ ran are. subst (λ marked. AreRunRows program (names_at c.args.names.now) marked c.args.events.now ran.rows) (c.as_slice.ensures ∙ c.in_ok-marked.ensures) are) c.run_rows.ensures.rows
