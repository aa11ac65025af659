use Rattle.std.proofs.Common.{◌∷◌, map, sym, subst}
use Rattle.std.specs.String.{string_bytes}
use Rattle.scout_commands.specs.declared.options.Kind.TheVariants.{By}
use Rattle.scout_commands.specs.Options.{Finds, name_of_way}
use Rattle.scout_commands.proofs.OptionLemmas.{none_from, other_way, plain_taken, taken_before}
use Rattle.scout_commands.proofs.options.take_way.Goals as goal

pub returns-then-is_some : goal.returns-then-is_some
returns-then-is_some c = taken_before c.args.options (name_of_way c.args.way ∷ map string_bytes c.args.others.now) c.is_some.result c.is_some.ensures c.if-is_some.true

pub returns-in-Some : goal.returns-in-Some
returns-in-Some c =
    plain_taken c.args.options c.args.way c.in-Some.strategy c.with_strategy.result c.args.others.now c.in-Some.ensures (none_from c.args.options.strategy c.is_some.result c.is_some.ensures c.if-is_some.false) c.with_strategy.ensures.options
    c.with_strategy.ensures.others

pub take_priorities-requires : goal.take_priorities-requires
take_priorities-requires c = none_from c.args.options.strategy c.is_some.result c.is_some.ensures c.if-is_some.false

pub returns-in-None : goal.returns-in-None
returns-in-None c = subst (λ way. Finds By c.args.options (name_of_way way ∷ map string_bytes c.args.others.now) c.take_priorities.result) (sym (other_way c.args.way c.in-None.ensures)) c.take_priorities.ensures
