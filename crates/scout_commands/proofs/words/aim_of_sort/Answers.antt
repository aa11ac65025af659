use Rattle.std.proofs.Common.{◌∷◌, ap, map, sym, subst}
use Rattle.std.specs.Prelude.{IfOk}
use Rattle.std.specs.String.{string_bytes}
use Rattle.scout_commands.specs.Words.{FindsAim, name_of_sort}
use Rattle.scout_commands.proofs.words.aim_of_sort.Goals as goal

pub returns-in-Fault : goal.returns-in-Fault
returns-in-Fault c = ap (λ sort. name_of_sort sort ∷ map string_bytes c.args.others.now) c.in-Fault.is

pub returns-in-Stuck : goal.returns-in-Stuck
returns-in-Stuck c = ap (λ sort. name_of_sort sort ∷ map string_bytes c.args.others.now) c.in-Stuck.is

pub returns-in-Differ : goal.returns-in-Differ
returns-in-Differ c = ap (λ sort. name_of_sort sort ∷ map string_bytes c.args.others.now) c.in-Differ.is

pub returns-in-Overlap : goal.returns-in-Overlap
returns-in-Overlap c = subst (λ sort. IfOk c.overlap_of.result (FindsAim (name_of_sort sort ∷ map string_bytes c.args.others.now))) (sym c.in-Overlap.is) c.overlap_of.ensures

pub returns-in-More : goal.returns-in-More
returns-in-More c = subst (λ sort. FindsAim (name_of_sort sort ∷ map string_bytes c.args.others.now) c.more_of.result) (sym c.in-More.is) c.more_of.ensures

pub returns-in-Watch : goal.returns-in-Watch
returns-in-Watch c = subst (λ sort. FindsAim (name_of_sort sort ∷ map string_bytes c.args.others.now) c.watched_of.result) (sym c.in-Watch.is) c.watched_of.ensures
