use Rattle.std.specs.Option.{option_copied}
use Rattle.std.proofs.Common.{List, Option, sym, ap, ◌∙◌, subst}
use Rattle.da_values.specs.Order.{val_cmp}
use Rattle.da_values.specs.Places.{IsBetween}
use Rattle.da_values.specs.Sets.{Ascends}
use Rattle.da_values.specs.Value.{val_of}
use Rattle.da_values.specs.Views.{elements_of}
use Rattle.da_values.specs.declared.val.Val.{Val}
use Rattle.row_pool.specs.declared.cell.Cell.{Cell}
use Rattle.row_pool.specs.Cells.{value_in}
use Rattle.row_pool.specs.Pool.{or_no_value, val_at}
use Rattle.row_pool.proofs.KindLaws.{no_elements, place_of_none, placed_as}
use Rattle.row_pool.proofs.sets.place_at.Goals as goal

pub returns-in-Some-clause-found : goal.returns-in-Some-clause-found
returns-in-Some-clause-found c =
    placed_as (elements_of (val_of c.in-Some.cell.now.value)) (elements_of (val_at c.args.cells.now.slots c.args.key)) (val_of c.args.v.now) c.place_in.result
    (sym (ap (λ (o : Option Cell). elements_of (or_no_value (value_in o))) (sym c.get.ensures ∙ ap option_copied c.in-Some.is))) c.place_in.ensures.found

pub returns-in-None-clause-found : goal.returns-in-None-clause-found
returns-in-None-clause-found c =
    subst (λ (xs : List Val). IsBetween val_cmp xs (val_of c.args.v.now) 0)
    (sym (ap (λ (o : Option Cell). elements_of (or_no_value (value_in o))) (sym c.get.ensures ∙ ap option_copied c.in-None.is) ∙ no_elements)) (place_of_none (val_of c.args.v.now))

pub returns-in-Some-clause-ascends : goal.returns-in-Some-clause-ascends
returns-in-Some-clause-ascends c =
    subst (λ (xs : List Val). Ascends val_cmp xs) (sym (ap (λ (o : Option Cell). elements_of (or_no_value (value_in o))) (sym c.get.ensures ∙ ap option_copied c.in-Some.is))) c.place_in.ensures.ascends

pub returns-in-None-clause-ascends : goal.returns-in-None-clause-ascends
returns-in-None-clause-ascends c =
    subst (λ (xs : List Val). Ascends val_cmp xs) (sym (ap (λ (o : Option Cell). elements_of (or_no_value (value_in o))) (sym c.get.ensures ∙ ap option_copied c.in-None.is) ∙ no_elements)) tt
