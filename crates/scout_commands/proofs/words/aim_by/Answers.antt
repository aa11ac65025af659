use Rattle.std.proofs.Common.{◌∷◌, map, sym, subst}
use Rattle.std.specs.Prelude.{IfOk}
use Rattle.std.specs.String.{string_bytes}
use Rattle.scout_commands.specs.Words.{FindsAim}
use Rattle.scout_commands.proofs.WordLemmas.{no_sort}
use Rattle.scout_commands.proofs.words.aim_by.Goals as goal

pub returns-in-Some : goal.returns-in-Some
returns-in-Some c = subst (λ word. IfOk c.aim_of_sort.result (FindsAim (word ∷ map string_bytes c.args.others.now))) (sym c.in-Some.ensures) c.aim_of_sort.ensures

pub returns-in-None : goal.returns-in-None
returns-in-None c = no_sort c.args.word.now (map string_bytes c.args.others.now) c.in-None.ensures
