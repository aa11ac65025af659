use Rattle.std.proofs.Common.{◌≡◌, ◌∙◌}
use Rattle.da_commands.specs.declared.status.Status.TheVariants.{ChildFault, Memory, ReadFault}
use Rattle.da_commands.specs.LaunchReplies.{HasLaunchEnd}
use Rattle.da_front.specs.Verdict.{program_limit}
use Rattle.da_commands.proofs.LaunchCallLemmas.{none_launched}
use Rattle.da_commands.proofs.LaunchLemmas.{memory_unwritten, no_child_cause, unread_unwritten}
use Rattle.da_commands.proofs.ToldLemmas.{of_read}
use Rattle.da_commands.proofs.launching.launch.Goals as goal

pub returns-in-Ok-clause-launched : goal.returns-in-Ok-clause-launched
returns-in-Ok-clause-launched g c =
    of_read (g.F.Files.told c.args.files.now c.args.program.now)
    (λ t. HasLaunchEnd t c.args.program.now c.args.setting c.answer_text.result (g.S.Spawner.told c.args.children.now) (g.S.Spawner.told c.answer_text.new.children) (g.K.Sink.taken c.args.out.now) (g.K.Sink.taken c.answer_text.new.out))
    program_limit c.in-Ok.text c.in-Ok.ensures.whole (λ t is. c.answer_text.ensures.launched t (c.as_slice.ensures ∙ is))

pub returns-in-Err-Failed-clause-launched : goal.returns-in-Err-Failed-clause-launched
returns-in-Err-Failed-clause-launched g c = none_launched _ _ _ ReadFault _ _ unread_unwritten

pub returns-in-Err-Failed-clause-children : goal.returns-in-Err-Failed-clause-children
returns-in-Err-Failed-clause-children g c = no_child_cause _ ReadFault (λ is. (let clash : ReadFault ≡ ChildFault = is in cc))

pub returns-in-Err-Memory-clause-launched : goal.returns-in-Err-Memory-clause-launched
returns-in-Err-Memory-clause-launched g c = none_launched _ _ _ Memory _ _ memory_unwritten

pub returns-in-Err-Memory-clause-children : goal.returns-in-Err-Memory-clause-children
returns-in-Err-Memory-clause-children g c = no_child_cause _ Memory (λ is. (let clash : Memory ≡ ChildFault = is in cc))
