use Rattle.schedule_hunt.proofs.ToldLaws.{short_told}
use Rattle.schedule_hunt.proofs.hunting.short_text.Goals as goal

pub returns : goal.returns
returns g c = short_told _ _ _ _ _ c.found_text.result c.in_ok-shorten.ensures.part c.in_ok-shorten.ensures.short c.as_slice-left.ensures c.found_text.ensures
