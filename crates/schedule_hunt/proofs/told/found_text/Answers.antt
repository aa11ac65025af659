use Rattle.std.proofs.Common.{◌≤◌, ◌∙◌, subst, sym}
use Rattle.std.proofs.lemmas.Bool.{false≢true}
use Rattle.sched_text.specs.ScheduleText.{schedule_limit}
use Rattle.schedule_walk.proofs.SpelledLaws.{unnamed}
use Rattle.schedule_hunt.proofs.ToldLaws.{found_spells}
use Rattle.schedule_hunt.proofs.told.found_text.Goals as goal

pub returns-then-not-all_named : goal.returns-then-not-all_named
returns-then-not-all_named c = unnamed _ _ (λ all. false≢true (sym c.if-not-all_named.true ∙ c.all_named.ensures.1 all))

pub returns-then-len-le-SCHEDULE_LIMIT : goal.returns-then-len-le-SCHEDULE_LIMIT
returns-then-len-le-SCHEDULE_LIMIT c = (
  c.as_slice.result.now,
  c.in_ok-text.ensures,
  found_spells _ c.as_slice.result.now _ c.in_ok-text.ensures (c.all_named.ensures.0 c.if-not-all_named.false) (subst (λ n. n ≤ schedule_limit) c.len.ensures c.if-len-le-SCHEDULE_LIMIT.true),
)

pub bare_text-requires : goal.bare_text-requires
bare_text-requires c = c.all_named.ensures.0 c.if-not-all_named.false
