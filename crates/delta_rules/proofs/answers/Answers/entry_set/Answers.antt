use Rattle.std.proofs.Common.{◌≡◌, ◌∙◌, List, [], subst, sym}
use Rattle.std.specs.Option.{MatchOption}
use Rattle.da_lang.specs.Matching.{Row}
use Rattle.answer_index.specs.Answers.{rows_of}
use Rattle.delta_rules.specs.Told.{stored_rows}
use Rattle.delta_rules.proofs.SeenLaws.{where_met, where_not}
use Rattle.delta_rules.proofs.answers.Answers.entry_set.Goals as goal

pub returns-then-not-are_met : goal.returns-then-not-are_met
returns-then-not-are_met c pool =
    where_not (stored_rows c.args.self.now pool) c.args.entry.now c.as_slice.result.now c.as_slice.ensures (sym c.if-not-are_met.true ∙ c.are_met.ensures pool)

pub returns : goal.returns
returns c pool =
    subst (λ (rows : List Row). MatchOption c.stored_set.result (rows ≡ []) (λ set. rows ≡ rows_of set.now pool))
    (sym (where_met (stored_rows c.args.self.now pool) c.args.entry.now c.as_slice.result.now c.as_slice.ensures (sym c.if-not-are_met.false ∙ c.are_met.ensures pool))) (c.stored_set.ensures pool)
