use Rattle.std.specs.Option.{option_copied}
use Rattle.std.proofs.Common.{sym, ap, ◌∙◌}
use Rattle.row_pool.specs.Index.{or_none}
use Rattle.row_pool.proofs.index.is_free.Goals as goal

pub returns-in-None : goal.returns-in-None
returns-in-None c = λ _. ap or_none (sym c.get.ensures.value ∙ ap option_copied c.in-None.is)
