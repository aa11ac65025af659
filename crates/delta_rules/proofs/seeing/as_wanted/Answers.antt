use Rattle.std.proofs.Common.{ap, sym}
use Rattle.std.specs.Prelude.{if◌then◌else◌, not}
use Rattle.delta_rules.proofs.seeing.as_wanted.Goals as goal

pub returns-then-filled : goal.returns-then-filled
returns-then-filled c = ap (λ b. if b then c.args.there else not c.args.there) (sym c.if-filled.true)

pub returns-else-filled : goal.returns-else-filled
returns-else-filled c = ap (λ b. if b then c.args.there else not c.args.there) (sym c.if-filled.false)
