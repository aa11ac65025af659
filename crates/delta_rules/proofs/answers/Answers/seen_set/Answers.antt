use Rattle.std.proofs.Common.{◌≡◌, List, [], subst, sym}
use Rattle.std.specs.Option.{MatchOption}
use Rattle.da_lang.specs.Matching.{Row}
use Rattle.answer_index.specs.Answers.{rows_of}
use Rattle.delta_rules.specs.Told.{stored_rows}
use Rattle.delta_rules.proofs.SeenLaws.{by_entry, not_there}
use Rattle.delta_rules.proofs.answers.Answers.seen_set.Goals as goal

pub returns-in-Some : goal.returns-in-Some
returns-in-Some c pool =
    subst (λ (rows : List Row). MatchOption c.entry_set.result (rows ≡ []) (λ set. rows ≡ rows_of set.now pool))
    (sym (by_entry (stored_rows c.args.self.now pool) c.args.stored.now.seen c.args.node c.in-Some.entry.now c.in-Some.ensures.value)) (c.entry_set.ensures pool)

pub returns-in-None : goal.returns-in-None
returns-in-None c pool = not_there (stored_rows c.args.self.now pool) c.args.stored.now.seen c.args.node c.in-None.ensures.value
