use Rattle.std.proofs.Common.{◌≤◌, ◌<◌, ◌∙◌, [], ap, length, subst}
use Rattle.sched_text.specs.ScheduleText.{schedule_limit}
use Rattle.schedule_walk.proofs.SpelledLaws.{too_long}
use Rattle.schedule_hunt.proofs.ToldLaws.{found_spells}
use Rattle.schedule_hunt.proofs.told.bare_text.Goals as goal

pub returns-then-len-gt-SCHEDULE_LIMIT : goal.returns-then-len-gt-SCHEDULE_LIMIT
returns-then-len-gt-SCHEDULE_LIMIT c = too_long _ _ (subst (λ n. schedule_limit < n) (c.len.ensures ∙ ap length c.in_ok-text.ensures) c.if-len-gt-SCHEDULE_LIMIT.true)

pub returns : goal.returns
returns c = ([], c.in_ok-text.ensures, found_spells _ [] _ c.in_ok-text.ensures c.requires (subst (λ n. n ≤ schedule_limit) c.len.ensures c.if-len-gt-SCHEDULE_LIMIT.false))
