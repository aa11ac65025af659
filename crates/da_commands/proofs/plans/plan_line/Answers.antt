use Rattle.std.proofs.Common.{◌++◌, ap, codes, ◌∙◌}
use Rattle.da_core.specs.Compiled.{program_of}
use Rattle.da_commands.proofs.PlanLemmas.{printed_text}
use Rattle.da_commands.proofs.plans.plan_line.Goals as goal

pub returns : goal.returns
returns c =
    c.in_ok-append.ensures.ok ∙ ap (λ line. line ++ codes "\n") (c.in_ok-line.ensures ∙ c.as_bytes.ensures.value)
    ∙ printed_text (program_of c.args.compiled.now) _ _ c.in_ok-value.ensures c.in-Ok.ensures.text
